-- What a step leaves of the input, and which runs it begins.
use Rattle.std.proofs.Common.{◌≡◌, ◌≢◌, ℕ, Bool, true, false, List, ◌∷◌, ◌++◌, [], Option, Some, None, IfOk, IfSome, Result, Ok, Err, refl, sym, ◌∙◌, ap, subst}
use Rattle.turn_cell.specs.Passes.{LockView, PassView}
use Rattle.rpc_packet.specs.declared.owned.Packet.{Packet}
use Rattle.rpc_handlers.specs.HandlerRule.{HandlerRule}
use Rattle.rpc_journal.specs.Ran.{Ran, run_in}
use Rattle.rpc_journal.specs.declared.answers.Arrived.{Arrived}
use Rattle.rpc_journal.specs.declared.answers.ArriveRefused.{ArriveRefused}
use Rattle.rpc_journal.specs.declared.answers.StartRefused.{StartRefused}
use Rattle.rpc_journal.specs.declared.answers.StartOfRefused.{StartOfRefused}
use Rattle.rpc_journal.specs.declared.entry.Entry.{Entry}
use Rattle.rpc_journal.specs.declared.setting.Setting.{Setting}
use Rattle.rpc_journal.specs.Changes.{ArriveDid, StartDid, StartOfDid}
use Rattle.rpc_journal.specs.Conditions.{IsInputOpen}
use Rattle.rpc_journal.specs.History.{history}
use Rattle.rpc_journal.specs.Items.{input_ended}
use Rattle.rpc_journal.specs.Runs.{Begins}
use Rattle.rpc_journal.specs.Lawful.{IsLawful}
use Rattle.rpc_journal.specs.Laws.{seat_of}
use Rattle.rpc_journal.proofs.ChangeLemmas.{begun_runs, input_stays_open}
use Rattle.rpc_journal.proofs.Push.{history-push}
use Rattle.rpc_shared.specs.OwnRuns.{Runs}
use Rattle.rpc_shared.specs.Steps.{Steps}
use Rattle.rpc_shared.proofs.Passing.{behind_step}
use Rattle.std.specs.List.{AllByRecursion}

open_after : (set : Setting) (seat : ℕ) (p : Packet) (result : Result Arrived ArriveRefused) (before after : List Entry) → ArriveDid set seat p result before after → input_ended (history set before) ≡ false → input_ended (history set after) ≡ false
open_after set seat p (Ok arrived) before after did is = ap (λ h. input_ended (history set h)) did.adds ∙ ap input_ended (history-push set before _) ∙ is
open_after set seat p (Err refused) before after did is = ap (λ h. input_ended (history set h)) did.kept ∙ is

begin_run : (rule : HandlerRule) (set : Setting) (q : PassView Entry Setting) (x : Ran) (seat : ℕ) (before : List Entry) → seat ≡ q.view.known.number → x.answer ≡ None → Begins rule set seat x.run before q.view.known.seen → Runs rule set q x
begin_run rule set q x seat before number unasked begins = record {
  on = begun_runs rule set seat x.run before q.view.known.seen begins;
  seat = begins.own_seat ∙ number;
  unasked = unasked;
}

pub runs_started :
    (rule : HandlerRule) (r : LockView Setting) (p q : PassView Entry Setting) (result : Result (Option Ran) StartRefused) →
    Steps rule r p q (λ set seat. StartDid rule run_in set seat result) → IfOk result (λ o. IfSome o (λ x. x.answer ≡ None)) → IfOk result (λ o. IfSome o (Runs rule r.base q))
runs_started rule r p q (Ok (Some x)) steps unasked = begin_run rule r.base q x p.view.known.number steps.before (sym steps.same.number) unasked steps.did.begins
runs_started rule r p q (Ok None) steps unasked = tt
runs_started rule r p q (Err refused) steps unasked = tt

pub runs_started_of :
    (rule : HandlerRule) (r : LockView Setting) (p q : PassView Entry Setting) (c : ℕ) (result : Result Ran StartOfRefused) →
    Steps rule r p q (λ set seat. StartOfDid rule run_in set seat c result) → IfOk result (λ x. x.answer ≡ None) → IfOk result (Runs rule r.base q)
runs_started_of rule r p q c (Ok x) steps unasked = begin_run rule r.base q x p.view.known.number steps.before (sym steps.same.number) unasked steps.did.begins
runs_started_of rule r p q c (Err refused) steps unasked = tt

-- an arrival leaves the input open
pub open_still :
    (rule : HandlerRule) (r : LockView Setting) (p q : PassView Entry Setting) (packet : Packet) (result : Result Arrived ArriveRefused) →
    IsInputOpen r.base p.view.known.seen p.view.known.number → Steps rule r p q (λ set by. ArriveDid set by packet result) →
    IsInputOpen r.base q.view.known.seen q.view.known.number
open_still rule r p q packet result input steps =
    let parts = behind_step rule r p q _ steps in
    let before : IsInputOpen r.base steps.before p.view.known.number =
    subst (λ h. IsInputOpen r.base h p.view.known.number) parts.whole_is
    (input_stays_open r.base p.view.known.seen parts.rest p.view.known.number (subst (IsLawful r.base) (sym parts.whole_is) steps.legal.lawful)
    (subst (λ n. AllByRecursion (λ e. seat_of e ≢ n) parts.rest) input.feeder parts.others) input) in
    record {
      feeder = steps.same.number ∙ input.feeder;
      not_ended = open_after r.base p.view.known.number packet result steps.before q.view.known.seen steps.did before.not_ended;
    }
