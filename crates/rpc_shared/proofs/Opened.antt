-- What the passes tell of the table that comes back.
use Rattle.std.proofs.Common.{◌≡◌, ℕ, ◌<◌, List, [], ◌∷◌, length, Some, refl, sym, ◌∙◌, ap, subst, arith}
use mathlib.Core.Option.{some}
use lib.ListN.{get_elem?}
use Rattle.turn_cell.specs.Passes.{AllFit, AreAll, FitsValue, IsIdle, LockView, PassView}
use Rattle.rpc_journal.specs.declared.entry.Entry.{Entry}
use Rattle.rpc_journal.specs.declared.setting.Setting.{Setting}
use Rattle.rpc_journal.specs.Laws.{seat_of}
use Rattle.rpc_journal.specs.CallTable.{Table}
use Rattle.rpc_shared.specs.Steps.{base_of, log_of}

same_some : (a b : Setting) → Some a ≡ Some b → a ≡ b
same_some a b e = cc

-- what is fixed with the table is what the lock was made with
pub same_setting :
    (r : LockView Setting) (ps : List (PassView Entry Setting)) (t : Table) → 0 < length ps → AreAll r (IsIdle r) ps → AllFit log_of seat_of base_of ps t →
    t.setting ≡ r.base
same_setting r [] t many all fit = absurd (omega arith)
same_setting r (p ∷ ps) t many all fit =
    let fits : FitsValue log_of seat_of base_of 0 p t = fit.each 0 p refl in
    let idle = all.each 0 p refl in
    same_some t.setting r.base (sym fits.based ∙ idle.pass.base)
