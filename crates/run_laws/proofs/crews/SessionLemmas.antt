-- The journal of a session without a halt is a server's own, and over a calm stream it reports what one thread does.
use Rattle.std.proofs.Common.{◌≡◌, ℕ, true, false, List, [], ◌∷◌, reverse, is_some, refl, ap, sym, ◌∙◌, subst}
use Rattle.std.proofs.lemmas.Bool.{true≢false, false≢true}
use Rattle.std.proofs.lemmas.List.{append-nil}
use Rattle.std.specs.List.{AllByRecursion}
use Rattle.link_io.specs.declared.why.Why.{Why}
use Rattle.rpc_ids.specs.declared.method.Role.TheVariants.{Server}
use Rattle.rpc_packet.specs.declared.owned.Packet.{Packet}
use Rattle.rpc_frames.specs.Heard.{counts_of, heard_packets}
use Rattle.rpc_handlers.specs.HandlerRule.{HandlerRule}
use Rattle.rpc_journal.specs.declared.entry.Entry.{Entry}
use Rattle.rpc_journal.specs.declared.entry.EntryKind.{EntryKind}
use Rattle.rpc_journal.specs.declared.entry.EntryKind.TheVariants.{Arrive, Start, Finish, Tick, Flush, EndIn, Halt}
use Rattle.rpc_journal.specs.declared.setting.Setting.{Setting}
use Rattle.rpc_journal.specs.History.{deeds_of}
use Rattle.rpc_journal.specs.Items.{arrivals, halt_reason, reason_of}
use Rattle.rpc_journal.specs.Kinds.{or_else}
use Rattle.rpc_journal.proofs.Push.{all-reverse, all-unreverse}
use Rattle.rpc_schedule.specs.OneThread.{IsOneThreadHistory}
use Rattle.rpc_schedule.proofs.ThereLemmas.{history_is_there}
use Rattle.rpc_shared.specs.session.Sessions.{IsSessionHistory, is_entry_of, is_halting}
use Rattle.run_laws.specs.calm.Calm.{AreCalm}
use Rattle.run_laws.specs.calm.Taken.{IsServed, is_servers_own}
use Rattle.run_laws.proofs.calm.ReportLemmas.{reports_alike}
use Rattle.run_laws.specs.crews.CalmSessions.{NoWorkersMatter, SessionsReportAlike, report_of, table_of}

-- Of entries that stand the newest first: a session's own, where none is a Halt, are a server's own.
not_halted : (set : Setting) (workers : ℕ) (g : List Entry) → AllByRecursion (λ e. is_entry_of workers e.seat e.kind ≡ true) g
    → is_some (halt_reason (deeds_of set g)) ≡ false → AllByRecursion (λ e. is_servers_own e.kind ≡ true) g
not_halted set workers [] own none = tt
not_halted set workers (e ∷ g) own none = at e.kind own.0 none (not_halted set workers g own.1)
  where
    at : (kind : EntryKind) → is_entry_of workers e.seat kind ≡ true → is_some (or_else (reason_of kind) (halt_reason (deeds_of set g))) ≡ false
        → (is_some (halt_reason (deeds_of set g)) ≡ false → AllByRecursion (λ e. is_servers_own e.kind ≡ true) g)
        → (is_servers_own kind ≡ true) × AllByRecursion (λ e. is_servers_own e.kind ≡ true) g
    at (Arrive p) is none rest = (refl, rest none)
    at (Start c) is none rest = (refl, rest none)
    at (Finish c a) is none rest = (refl, rest none)
    at (Tick now) is none rest = (refl, rest none)
    at Flush is none rest = (refl, rest none)
    at EndIn is none rest = (refl, rest none)
    at (Halt why) is none rest = absurd (true≢false none)
    at _ is none rest = absurd (false≢true is)

-- the journal of a session without a halt in which all packets arrived
served : (rule : HandlerRule) (set : Setting) (workers : ℕ) (why : Why) (h : List Entry) (packets : List Packet) → IsSessionHistory rule set workers why h → is_halting why ≡ false
    → arrivals h ≡ packets → IsServed rule set packets h
served rule set workers why h packets session unhalted all = record {
  legal = session.legal;
  kinds = all-unreverse _ h (not_halted set workers (reverse h) (all-reverse _ h session.kinds) (sym session.halts ∙ unhalted));
  heard = ([], append-nil (arrivals h) ∙ all);
  whole = λ ended. all;
}

pub sessions_report_alike : SessionsReportAlike
sessions_report_alike rule set workers why h one counts left_old left_new written_old written_new held_old held_new read done role ruled session unhalted told calm history_one =
    ap (λ x. report_of set h x why) told.counts_are
    ∙ reports_alike rule (table_of set h) (table_of set one) (heard_packets Server told.bytes) (counts_of Server told.bytes) why role ruled calm
    (served rule set workers why h (heard_packets Server told.bytes) session unhalted told.arrived) told.settled refl history_one

pub no_workers_matter : NoWorkersMatter
no_workers_matter rule set workers others why h other counts other_counts left_old left_new written_old written_new left_before left_after written_before written_after held_old held_new held_before
    held_after read done other_read other_done role ruled session other_session unhalted told told_other same calm =
    let one = history_is_there rule set (heard_packets Server told.bytes) in
    let other_calm : AreCalm rule set (heard_packets Server told_other.bytes) = subst (λ bytes. AreCalm rule set (heard_packets Server bytes)) (sym same) calm in
    let other_one : IsOneThreadHistory rule set (heard_packets Server told_other.bytes) one.0 =
    subst (λ bytes. IsOneThreadHistory rule set (heard_packets Server bytes) one.0) (sym same) one.1 in
    sessions_report_alike rule set workers why h one.0 counts left_old left_new written_old written_new held_old held_new read done role ruled session unhalted told calm one.1
    ∙ (ap (λ bytes. report_of set one.0 (counts_of Server bytes) why) (sym same)
    ∙ sym (sessions_report_alike rule set others why other one.0 other_counts left_before left_after written_before written_after held_before held_after other_read other_done role ruled
    other_session unhalted told_other other_calm other_one))
