-- Closed histories of one thread, computed from the definitions.
use Rattle.std.proofs.Common.{◌≡◌, ℕ, ◌<◌, true, List, [], ◌∷◌, ◌++◌, Some, None, refl, subst, inr, arith}
use Rattle.rpc_ids.specs.declared.status.Status.TheVariants.{Okay}
use Rattle.rpc_packet.specs.declared.owned.Packet.{Packet}
use Rattle.rpc_packet.specs.declared.packet_type.PacketType.TheVariants.{Request}
use Rattle.rpc_handlers.specs.declared.answer.Answer.{Answer}
use Rattle.rpc_handlers.specs.declared.event.Event.{Event}
use Rattle.rpc_handlers.specs.declared.event.Event.TheVariants as event
use Rattle.rpc_handlers.specs.HandlerRule.{HandlerRule, empty_memo}
use Rattle.rpc_journal.specs.declared.entry.Entry.{Entry}
use Rattle.rpc_journal.specs.declared.entry.EntryKind.TheVariants.{Start, Finish, Flush, EndIn}
use Rattle.rpc_journal.specs.Choice.{GoesBefore, IsFirstReady}
use Rattle.rpc_journal.specs.Entries.{arrive_row}
use Rattle.rpc_journal.specs.History.{history, entry_by}
use Rattle.rpc_journal.proofs.DemoTable.{server, echo, packet, arrives}
use Rattle.rpc_journal.proofs.KnownLemmas.{ready_known}
use Rattle.rpc_schedule.specs.OneThread.{IsOneThreadHistory}
use Rattle.rpc_schedule.specs.Schedule.{Settles}
use Rattle.rpc_schedule.specs.Schedule.Stage.{running, flushing}
use Rattle.rpc_schedule.proofs.EntryLemmas.{none_ready}

-- a request is answered with its payload
abbrev echoed : Event → Answer
echoed (event.Request payload) = record { items = []; end = Some (record { status = Okay; payload = payload }) }
echoed _ = record { items = []; end = None }

abbrev echoing : HandlerRule
echoing = record { ruled = true; answer = λ state event. echoed event; next = λ state event. state; first = λ seed method. empty_memo }

-- no packet comes: the input ends

abbrev ended : Entry
ended = entry_by 0 EndIn

nothing_heard : IsOneThreadHistory echoing server [] (ended ∷ [])
nothing_heard = record {
  before = [];
  handled = refl;
  settled = record {
    reaches = (1, (flushing (ended ∷ []), (λ c. refl, refl), refl));
    over = record { none_ready = λ c. refl; none_waits = refl };
  };
}

-- Echo is requested: its call runs once, its answer goes out, and the input ends

abbrev request : Packet
request = packet Request echo (97 ∷ 98 ∷ 99 ∷ [])

abbrev requested : List Entry
requested = arrives request ∷ []

abbrev started : List Entry
started = requested ++ entry_by 2 (Start 0) ∷ []

abbrev answered : List Entry
answered = started ++ entry_by 2 (Finish 0 (echoed (event.Request (97 ∷ 98 ∷ 99 ∷ [])))) ∷ []

abbrev flushed : List Entry
flushed = answered ++ entry_by 1 Flush ∷ []

abbrev all : List Entry
all = flushed ++ ended ∷ []

first_call : IsFirstReady (history server requested) 0
unfolding arrive_row
first_call = record { ready = refl; first = λ k ready. at k (ready_known server requested k ready) }
  where
    at : (k : ℕ) → k < 1 → GoesBefore (history server (arrives request ∷ [])) 0 k
    at k below = subst (GoesBefore (history server (arrives request ∷ [])) 0) (same k below) (inr (refl, omega arith))
      where
        same : (k : ℕ) → k < 1 → 0 ≡ k
        same k below = omega (arith, below)

echo_settles : Settles echoing server requested flushed
unfolding arrive_row
echo_settles = record {
  reaches = (
    3,
    (
      running answered,
      record { call = 0; answer = echoed (event.Request (97 ∷ 98 ∷ 99 ∷ [])); first = first_call; by_rule = λ ruled. refl; adds = refl },
      (
        flushing answered,
        (none_ready server answered refl, refl),
        (flushing flushed, record { item = _; waits = refl; adds = refl }, refl),
      ),
    ),
  );
  over = record { none_ready = none_ready server flushed refl; none_waits = refl };
}

echo_heard : IsOneThreadHistory echoing server (request ∷ []) all
unfolding arrive_row
echo_heard = record {
  before = flushed;
  handled = ([], refl, echo_settles);
  settled = record {
    reaches = (1, (flushing all, (none_ready server all refl, refl), refl));
    over = record { none_ready = none_ready server all refl; none_waits = refl };
  };
}
