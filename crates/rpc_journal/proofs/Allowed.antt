-- What it means that an entry is allowed: it breaks none of the rules.
use Rattle.std.proofs.Common.{◌≡◌, Bool, true, false, ◌&&◌, List, Option, Some, None, refl, if◌then◌else◌}
use Rattle.rpc_journal.specs.declared.entry.Entry.{Entry}
use Rattle.rpc_journal.specs.declared.setting.Setting.{Setting}
use Rattle.rpc_journal.specs.Effect.{Deed}
use Rattle.rpc_journal.specs.Calls.{call_count}
use Rattle.rpc_journal.specs.Items.{input_ended}
use Rattle.rpc_journal.specs.Lawful.{broken, is_wrong_seat, is_input, is_unknown, call_named, starts_unready, finishes_unrun, is_refused, flushes_nothing}

pub record Allowed (set : Setting) (ds : List Deed) (e : Entry) : Type 0 where
  pub seat : is_wrong_seat e.seat e.kind ≡ false
  pub input : (is_input e.kind && input_ended ds) ≡ false
  pub known : is_unknown (call_count ds) (call_named e.kind) ≡ false
  pub started : starts_unready ds e.kind ≡ false
  pub finished : finishes_unrun ds e.seat e.kind ≡ false
  pub accepted : is_refused set ds e.kind ≡ false
  pub something : flushes_nothing ds e.kind ≡ false

none_of : {A : Type 0} (b : Bool) (x : A) (rest : Option A) → (if b then Some x else rest) ≡ None → (b ≡ false) × (rest ≡ None)
none_of true x rest h = absurd cc
none_of false x rest h = (refl, h)

pub allowed : (set : Setting) (ds : List Deed) (e : Entry) → broken set ds e ≡ None → Allowed set ds e
unfolding broken
allowed set ds e h =
    let a = none_of _ _ _ h in
    let b = none_of _ _ _ a.1 in
    let c = none_of _ _ _ b.1 in
    let d = none_of _ _ _ c.1 in
    let f = none_of _ _ _ d.1 in
    let g = none_of _ _ _ f.1 in
    let i = none_of _ _ _ g.1 in
    record { seat = a.0; input = b.0; known = c.0; started = d.0; finished = f.0; accepted = g.0; something = i.0 }

-- an entry that breaks no rule is allowed
pub allow : (set : Setting) (ds : List Deed) (e : Entry) → Allowed set ds e → broken set ds e ≡ None
unfolding broken
allow set ds e a = rw (a.seat, a.input, a.known, a.started, a.finished, a.accepted, a.something) refl
