-- What was done for a client, from what each step did.
use Rattle.std.proofs.Common.{◌≡◌, ◌≢◌, ℕ, ◌<◌, ◌≤◌, ◌⊎◌, true, false, List, length, Option, Some, is_some, refl, sym, ◌∙◌, subst, inl, inr}
use Rattle.std.specs.Io.KnownBytes.{IsAtEnd}
use Rattle.link_io.specs.declared.why.Why.{Why}
use Rattle.link_io.specs.declared.why.Why.TheVariants as reason
use Rattle.link_io.specs.Causes.{Rose}
use Rattle.link_io.specs.Links.{HandsOut, Links, TakesBack}
use Rattle.link_io.specs.Stored.{Stored}
use Rattle.rpc_ids.specs.declared.status.Status.{Status}
use Rattle.rpc_ids.specs.declared.status.Status.TheVariants.{Okay}
use Rattle.rpc_journal.specs.declared.entry.TheConstants.{MAX_ENTRIES}
use Rattle.rpc_schedule.specs.declared.stream.TheConstants.{INPUT_LIMIT}
use Rattle.rpc_shared.specs.session.Sessions.{is_halted}
use Rattle.live_client.specs.declared.ask.Live.{Live}
use Rattle.live_client.specs.declared.ask.LiveAsk.{LiveAsk}
use Rattle.live_client.specs.Ask.{live_setting, method_asked}
use Rattle.live_client.specs.Live.{AskRan, Begins, Explains, IsLiveHistory}
use Rattle.pw_run.specs.declared.client_text.Reported.{Reported}
use Rattle.pw_run.specs.declared.outcome.Outcome.{Outcome}
use Rattle.pw_run.specs.declared.outcome.Outcome.TheVariants.{NoMemory, SinkFault}
use Rattle.pw_run.specs.Client.{AsksOverLink, DoesAsked, WritesClient, client_outcome, ended_outcome, text_of}
use Rattle.pw_run.specs.Devices.{LinkDevices, devices}
use Rattle.pw_run.specs.Writes.{WritesOrFails}

-- ---- what is written

ended_loud : (ended : Option Status) → ended_outcome ended ≢ NoMemory
ended_loud (Some Okay) is = cc
ended_loud _ is = cc

-- a client that didn't want memory has another outcome
loud : (why : Why) (ended : Option Status) → why ≢ reason.Memory → client_outcome why ended ≢ NoMemory
loud reason.Settled ended other is = ended_loud ended is
loud reason.Source ended other is = cc
loud reason.Sink ended other is = cc
loud reason.Store ended other is = cc
loud reason.InputLimit ended other is = cc
loud reason.JournalLimit ended other is = cc
loud reason.Memory ended other is = other refl

-- the text of a client was written, where it didn't want memory
pub client_wrote : (reported : Reported) (l : Live) (old new : Option (List ℕ)) (failed_old failed_new : ℕ) (outcome : Outcome) → l.why ≢ reason.Memory
    → WritesOrFails old new failed_old failed_new (text_of reported l) (client_outcome l.why l.ended) outcome → WritesClient reported l old new failed_old failed_new outcome
client_wrote reported l old new failed_old failed_new NoMemory some (inl written) = absurd (loud l.why l.ended some (sym written.0))
client_wrote reported l old new failed_old failed_new NoMemory some (inr failed) = absurd (not_sink failed.0)
  where
    not_sink : NoMemory ≡ SinkFault → ⊥
    not_sink is = cc
client_wrote reported l old new failed_old failed_new _ some writes = (some, writes)

-- ---- what is done

-- what a client did, by what its call promises
pub does_asked : (asks : LiveAsk) (before after : LinkDevices) (l : Live) → IsLiveHistory asks l.why l.journal.entries
    → Begins (method_asked asks) before.left after.left before.sent after.sent before.held after.held l.read l.journal.entries
    → (is_halted (live_setting (method_asked asks)) l.journal.entries ≡ false → Explains (method_asked asks) before.left after.left before.sent after.sent before.held after.held l.read l.journal.entries)
    → AskRan asks before.moment after.moment l → (is_halted (live_setting (method_asked asks)) l.journal.entries ≡ false → is_some l.ended ≡ true)
    → (l.why ≡ reason.Settled → IsAtEnd after.left) → (l.why ≡ reason.InputLimit → l.read ≡ INPUT_LIMIT)
    → ((l.why ≡ reason.Settled) ⊎ (l.why ≡ reason.Source) → l.read < INPUT_LIMIT) → (l.why ≡ reason.JournalLimit → MAX_ENTRIES ≤ length l.journal.entries)
    → DoesAsked asks before after l
does_asked asks before after l history begins explains ran ended at_end at_limit below full = record {
  journal = history;
  begins = begins;
  explains = λ calm. explains (sym history.halts ∙ calm);
  ended = λ calm. ended (sym history.halts ∙ calm);
  ran = ran;
  at_end = at_end;
  at_limit = at_limit;
  below = below;
  full = full;
}

-- a link was made, lent to a client and given back
pub client_ran : (reported : Reported) (asks : LiveAsk) (left written_old written_new : Option (List ℕ)) (failed_old failed_new : ℕ) (held_old held_new : Option Stored)
    (links_old between links_new : Links) (moment_old moment_new : ℕ) (left_old sent_old left_new sent_new : Option (List ℕ))
    (in_before in_faults out_before out_faults : ℕ) (l : Live) (outcome : Outcome)
    → HandsOut links_old between left_old sent_old → links_old.faults ≤ between.faults → TakesBack between links_new left_new sent_new in_faults out_faults
    → in_before ≡ 0 → out_before ≡ 0
    → DoesAsked asks (record { left = left_old; sent = sent_old; held = held_old; moment = moment_old })
    (record { left = left_new; sent = sent_new; held = held_new; moment = moment_new }) l
    → (l.why ≡ reason.Source → Rose in_before in_faults) → (l.why ≡ reason.Sink → Rose out_before out_faults)
    → WritesClient reported l written_old written_new failed_old failed_new outcome
    → AsksOverLink reported asks (devices left written_old failed_old held_old links_old moment_old) (devices left written_new failed_new held_new links_new moment_new) outcome
client_ran reported asks left written_old written_new failed_old failed_new held_old held_new links_old between links_new moment_old moment_new left_old sent_old left_new sent_new
    in_before in_faults out_before out_faults l outcome handed later taken no_in no_out does source sink writes =
    inl (record {
      left_old = left_old;
      sent_old = sent_old;
      left_new = left_new;
      sent_new = sent_new;
      in_faults = in_faults;
      out_faults = out_faults;
      lent = record { between = between; handed = handed; later = later; taken = taken };
      did = l;
      does = does;
      source = λ is. subst (λ (n : ℕ). Rose n in_faults) no_in (source is);
      sink = λ is. subst (λ (n : ℕ). Rose n out_faults) no_out (sink is);
      unread = refl;
      writes = writes;
    })
