use Rattle.std.proofs.Common.{◌≡◌, refl, sym, subst}
use Rattle.rpc_journal.specs.Calls.{call_count}
use Rattle.rpc_journal.specs.Entries.{arrive_row}
use Rattle.rpc_journal.specs.History.{history}
use Rattle.rpc_journal.specs.table.Moves.{row_of}
use Rattle.rpc_journal.specs.CallTable.{past}
use Rattle.rpc_calls.specs.Arrivals.{IsLiveMove}
use Rattle.rpc_calls.proofs.MoveLemmas.{live_move}
use Rattle.rpc_calls.proofs.calls.Calls.move_of.Goals as goal

pub returns-clause-row : goal.returns-clause-row
returns-clause-row g c =
    let agrees = c.self.invariant.stands.agrees in
    subst (λ t. arrive_row t.setting (past t) c.args.p.now ≡ row_of c.move_of.result c.args.p.now (call_count (past t))) c.self.view_is
    (c.move_of.ensures.row c.self.inside.setting (history c.self.inside.setting c.self.inside.journal.entries) refl refl
    (sym (c.is_in-is_in.ensures c.self.inside.setting _ refl agrees)) (sym (c.live-live.ensures.call _ agrees)) (c.is_completed-completed.ensures _ agrees))

pub returns-clause-live : goal.returns-clause-live
returns-clause-live g c =
    subst (λ t. IsLiveMove (past t) c.move_of.result) c.self.view_is
    (live_move _ _ _ c.self.invariant.stands.agrees.calls c.self.invariant.room.few (c.move_of.ensures.call c.self.inside.calls.states.calls.items c.live-live.ensures.there))
