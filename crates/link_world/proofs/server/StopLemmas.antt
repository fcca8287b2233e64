-- A server stops at a packet that it hears.
use Rattle.std.proofs.Common.{◌≡◌, ℕ, List, [], ◌∷◌, ◌++◌, take, drop, None, is_some, refl, Result, Ok, Err, IfErr, IsErr, IsErrAnd, ap, sym, ◌∙◌, subst, inl, inr, append_assoc}
use Rattle.std.proofs.lemmas.List.{take-append-drop}
use Rattle.rpc_ids.specs.declared.method.Role.TheVariants.{Server}
use Rattle.rpc_packet.specs.declared.owned.Packet.{Packet}
use Rattle.rpc_frames.specs.Heard.{heard_packets}
use Rattle.rpc_handlers.specs.HandlerRule.{HandlerRule}
use Rattle.rpc_journal.specs.declared.answers.StartRefused.{StartRefused}
use Rattle.rpc_journal.specs.declared.answers.StartRefused.TheVariants.{JournalFull, Memory}
use Rattle.rpc_journal.specs.declared.entry.Entry.{Entry}
use Rattle.rpc_journal.specs.declared.entry.EntryKind.TheVariants.{Arrive}
use Rattle.rpc_journal.specs.declared.setting.Setting.{Setting}
use Rattle.rpc_journal.specs.Choice.{SomeReady}
use Rattle.rpc_journal.specs.History.{entry_by, history}
use Rattle.rpc_journal.specs.Items.{arrivals}
use Rattle.rpc_schedule.specs.Schedule.{input_seat}
use Rattle.rpc_schedule.specs.Serving.{Feeds, HasHeard, Serving, with_entry}
use Rattle.rpc_schedule.specs.Settling.{StopsFull}
use Rattle.rpc_schedule.proofs.EntryLemmas.{arrivals-push}
use Rattle.rpc_schedule.proofs.ScheduleLemmas.{none_run_on}
use Rattle.link_laws.specs.world.Stops.{ServerStops, ServerStopsWith, ServerTakingStops}
use Rattle.link_laws.specs.world.Hearing.{ServerTakes}
use Rattle.link_world.specs.declared.server.stopped.Stopped.TheVariants.{Journal}
use Rattle.link_world.specs.server.Stops.{stopped_by}
use Rattle.link_world.specs.server.Resting.{IsResting, StopsWithin, ServerTakesMore}
use Rattle.link_world.specs.server.ServerSide.{ServerStopsHearing}
use Rattle.link_world.proofs.server.HeardLemmas.{heard_further}

-- an error that is handed on as this one
pub if_err_by : {T E : Type 0} (r : Result T E) (x : E) (P : E → Type 0) → IsErr r × IsErrAnd r (λ e. e ≡ x) → P x → IfErr r P
if_err_by (Ok value) x P is holds = tt
if_err_by (Err e) x P is holds = subst P (sym is.1) holds

-- it stops so where its table has no room
pub stopped_full : (why : StartRefused) → stopped_by why ≡ Journal → why ≡ JournalFull
stopped_full JournalFull is = refl
stopped_full Memory is = absurd cc

-- more packets were heard first
pub stops_behind : (rule : HandlerRule) (set : Setting) (packets more : List Packet) (a b : List Entry) → ServerTakes rule set packets a b
    → ServerTakingStops rule set more b → ServerTakingStops rule set (packets ++ more) a
stops_behind rule set [] more a b same stops = subst (ServerTakingStops rule set more) same stops
stops_behind rule set (p ∷ packets) more a b takes stops = inr (takes.0, takes.1, stops_behind rule set packets more takes.0 b takes.2 stops)

-- more are heard then
pub stops_before : (rule : HandlerRule) (set : Setting) (packets more : List Packet) (a : List Entry) → ServerTakingStops rule set packets a
    → ServerTakingStops rule set (packets ++ more) a
stops_before rule set [] more a stops = absurd stops
stops_before rule set (p ∷ packets) more a (inl stops) = inl stops
stops_before rule set (p ∷ packets) more a (inr further) = inr (further.0, further.1, stops_before rule set packets more further.0 further.2)

-- the settling comes to a run without room
pub settling_stops : (rule : HandlerRule) (s new : Serving) → StopsFull rule s new → ServerStops rule s.table.setting s.table.entries
settling_stops rule s new stops = record {
  h = new.table.entries;
  reaches = stops.leads;
  stops = record {
    some_ready = subst (λ set. SomeReady (history set new.table.entries)) stops.stays.setting stops.some_ready;
    full = stops.full;
  };
}

module _ (rule : HandlerRule) (heard : List ℕ → List Packet) (first now : Serving) (fed piece : List ℕ) (count : ℕ)
    (before : HasHeard (heard fed) first) (accepts : first.refused ≡ None) (takes : ServerTakesMore rule first now) where
  -- behind the packets that were taken it stops at the next one
  stops_at : (p : Packet) → heard (fed ++ take count piece) ≡ arrivals now.table.entries ++ p ∷ []
      → ServerStopsWith rule now.table.setting now.table.entries input_seat (Arrive p) → StopsWithin rule heard first fed piece
  stops_at p is stops = record {
    count = count;
    packets = takes.packets ++ p ∷ [];
    are_heard = is ∙ (ap (λ ps. ps ++ p ∷ []) (takes.arrived ∙ ap (λ ps. ps ++ takes.packets) (sym (before.all accepts)))
        ∙ append_assoc (heard fed) takes.packets (p ∷ []));
    stops = stops_behind rule first.table.setting takes.packets (p ∷ []) first.table.entries now.table.entries takes.takes
        (inl (subst (λ set. ServerStopsWith rule set now.table.entries input_seat (Arrive p)) takes.setting stops));
  }

  -- THE PACKET HAS NO ROOM
  pub refused_within : (new : Serving) → Feeds now (Err JournalFull) new → HasHeard (heard (fed ++ take count piece)) new → StopsWithin rule heard first fed piece
  refused_within new (full, refuses) after =
      let last = after.but_one (ap (λ s. is_some s.refused) refuses) in
      stops_at last.0 (last.1 ∙ ap (λ s. arrivals s.table.entries ++ last.0 ∷ []) refuses) (inl full)

  -- THE SETTLING BEHIND IT HAS NONE
  pub unsettled_within : (mid new : Serving) (n : ℕ) → IsResting now → Feeds now (Ok n) mid → StopsFull rule mid new
      → HasHeard (heard (fed ++ take count piece)) mid → StopsWithin rule heard first fed piece
  unsettled_within mid new n rest (none, inl same) stops after =
      let stopped : StopsFull rule now new = subst (λ s. StopsFull rule s new) same stops in
      absurd (none_run_on rule now.table.setting stopped.leads.0 now.table.entries new.table.entries rest.over stopped.leads.1
      (subst (λ set. SomeReady (history set new.table.entries)) stopped.stays.setting stopped.some_ready))
  unsettled_within mid new n rest (none, inr came) stops after =
      let p = came.packet in
      stops_at p
      (after.all (ap (λ s. s.refused) came.adds ∙ rest.accepts)
      ∙ (ap (λ s. arrivals s.table.entries) came.adds ∙ arrivals-push now.table.entries (entry_by input_seat (Arrive p))))
      (inr (settling_stops rule (with_entry now input_seat (Arrive p)) new (subst (λ s. StopsFull rule s new) came.adds stops)))

-- WHERE IT STOPS WITHIN A FRAME, IT STOPS AT A PACKET OF THE FRAME
pub hearing_stops : (rule : HandlerRule) (s : Serving) (fed frame : List ℕ) → StopsWithin rule (heard_packets Server) s fed frame → ServerStopsHearing rule s fed frame
hearing_stops rule s fed frame within =
    let further = heard_further Server fed (take within.count frame) (drop within.count frame) within.packets within.are_heard in
    record {
      packets = within.packets ++ further.0;
      heard = ap (λ bytes. heard_packets Server (fed ++ bytes)) (sym (take-append-drop within.count frame)) ∙ further.1;
      holds = stops_before rule s.table.setting within.packets further.0 s.table.entries within.stops;
    }
