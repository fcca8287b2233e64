-- The table that is measured, over the calls of the measurement.
use Rattle.std.proofs.Common.{◌≡◌, ℕ, false, [], Option, Some, None, Result, Ok, Err, IfOk, IfSome, refl, ap, sym, ◌∙◌, subst}
use Rattle.rpc_handlers.specs.declared.answer.Answer.{Answer}
use Rattle.rpc_handlers.specs.HandlerRule.{HandlerRule}
use Rattle.rpc_ids.specs.declared.method.Role.TheVariants.{Server}
use Rattle.rpc_packet.specs.declared.owned.Packet.{Packet}
use Rattle.rpc_journal.specs.declared.answers.Arrived.{Arrived}
use Rattle.rpc_journal.specs.declared.answers.ArriveRefused.{ArriveRefused}
use Rattle.rpc_journal.specs.declared.answers.StartRefused.{StartRefused}
use Rattle.rpc_journal.specs.declared.entry.EntryKind.{EntryKind}
use Rattle.rpc_journal.specs.declared.entry.EntryKind.TheVariants.{Arrive, Start, Finish, Flush}
use Rattle.rpc_journal.specs.declared.item.Item.{Item}
use Rattle.rpc_journal.specs.Changes.{ArriveDid, StartDid, FinishDid, FlushDid}
use Rattle.rpc_journal.specs.History.{history, deeds_with, entry_by, adding}
use Rattle.rpc_journal.specs.Items.{input_ended, is_end_in}
use Rattle.rpc_journal.specs.Runs.{Run, IsRunning}
use Rattle.rpc_journal.specs.CallTable.{Table}
use Rattle.rpc_journal.proofs.ChangeLemmas.{begun_runs}
use Rattle.rpc_journal.proofs.Push.{history-push}
use Rattle.speed.specs.Fed.{IsFed, bare_seed}

fed_same : (t u : Table) → u.setting ≡ t.setting → u.entries ≡ t.entries → IsFed t → IsFed u
fed_same t u same none fed = record {
  role = ap (λ s. s.role) same ∙ fed.role;
  seeded = fed.seeded ∙ ap (λ s. s.seed) (sym same);
  input = record {
    feeder = refl;
    not_ended = subst (λ ds. input_ended ds ≡ false) (sym (ap (λ s. history s u.entries) same ∙ ap (history t.setting) none)) fed.input.not_ended;
  };
}

fed_after : (t u : Table) (seat : ℕ) (kind : EntryKind) → u.setting ≡ t.setting → u.entries ≡ adding t.entries seat kind
    → is_end_in kind ≡ false → IsFed t → IsFed u
fed_after t u seat kind same adds goes_on fed =
    let later : history u.setting u.entries ≡ deeds_with t.setting (history t.setting t.entries) (entry_by seat kind) =
    ap (λ s. history s u.entries) same ∙ ap (history t.setting) adds ∙ history-push t.setting t.entries (entry_by seat kind) in
    record {
      role = ap (λ s. s.role) same ∙ fed.role;
      seeded = fed.seeded ∙ ap (λ s. s.seed) (sym same);
      input = record { feeder = refl; not_ended = subst (λ ds. input_ended ds ≡ false) (sym later) (rw goes_on fed.input.not_ended) };
    }

pub fed_arrived : (t u : Table) (p : Packet) (result : Result Arrived ArriveRefused) → u.setting ≡ t.setting
    → ArriveDid t.setting 0 p result t.entries u.entries → IsFed t → IsFed u
fed_arrived t u p (Ok answer) same did fed = fed_after t u 0 (Arrive p) same did.adds refl fed
fed_arrived t u p (Err e) same did fed = fed_same t u same did.kept fed

module _ {R : Type 0} (run_of : R → Run) (rule : HandlerRule) where
  pub fed_started : (t u : Table) (seat : ℕ) (result : Result (Option R) StartRefused) → u.setting ≡ t.setting
      → StartDid rule run_of t.setting seat result t.entries u.entries → IsFed t → IsFed u
  fed_started t u seat (Ok (Some r)) same did fed = fed_after t u seat (Start (run_of r).call) same did.begins.adds refl fed
  fed_started t u seat (Ok None) same did fed = fed_same t u same did.idle fed
  fed_started t u seat (Err e) same did fed = fed_same t u same did.kept fed

  pub run_started : (t u : Table) (seat : ℕ) (result : Result (Option R) StartRefused) → u.setting ≡ t.setting
      → StartDid rule run_of t.setting seat result t.entries u.entries
      → IfOk result (λ o. IfSome o (λ r. IsRunning rule u.setting u.entries (run_of r)))
  run_started t u seat (Ok (Some r)) same did =
      subst (λ s. IsRunning rule s u.entries (run_of r)) (sym same) (begun_runs rule t.setting seat (run_of r) t.entries u.entries did.begins)
  run_started t u seat (Ok None) same did = tt
  run_started t u seat (Err e) same did = tt

pub fed_finished : {H : Type 0} (t u : Table) (run : Run) (a : Answer) (handler : H) (result : Option H) → u.setting ≡ t.setting
    → FinishDid t.setting run a handler result t.entries u.entries → IsFed t → IsFed u
fed_finished t u run a handler result same did fed = fed_after t u run.seat (Finish run.call a) same did.adds refl fed

pub fed_flushed : (t u : Table) (seat : ℕ) (result : Option Item) → u.setting ≡ t.setting
    → FlushDid t.setting seat result t.entries u.entries → IsFed t → IsFed u
fed_flushed t u seat (Some item) same did fed = fed_after t u seat Flush same did.adds refl fed
fed_flushed t u seat None same did fed = fed_same t u same did.kept fed

-- a table without entries
pub fed_new : (t : Table) → t.setting.role ≡ Server → bare_seed ≡ t.setting.seed → t.entries ≡ [] → IsFed t
fed_new t role seed none = record {
  role = role;
  seeded = seed;
  input = record { feeder = refl; not_ended = ap (λ h. input_ended (history t.setting h)) none };
}
