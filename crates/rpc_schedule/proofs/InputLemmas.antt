-- A packet arrives, or the input ends, and the server settles.
use Rattle.std.proofs.Common.{◌≡◌, ℕ, ◌<◌, ◌≤◌, Bool, true, false, ◌||◌, ◌==◌, List, [], ◌∷◌, ◌++◌, length, reverse, length-append, Some, None, is_none, is_some, Ok, Err, refl, ap, sym, ◌∙◌, subst, inl, inr, arith}
use Rattle.std.proofs.lemmas.Bool.{and_parts}
use Rattle.std.proofs.lemmas.List.{append-nil, reverse-append}
use Rattle.rpc_packet.specs.declared.owned.Packet.{Packet}
use Rattle.rpc_handlers.specs.HandlerRule.{HandlerRule}
use Rattle.rpc_journal.specs.declared.answers.StartRefused.{StartRefused}
use Rattle.rpc_journal.specs.declared.answers.StartRefused.TheVariants.{JournalFull}
use Rattle.rpc_journal.specs.declared.entry.Entry.{Entry}
use Rattle.rpc_journal.specs.declared.entry.EntryKind.{EntryKind}
use Rattle.rpc_journal.specs.declared.entry.EntryKind.TheVariants.{Arrive, EndIn}
use Rattle.rpc_journal.specs.declared.item.Item.{Item}
use Rattle.rpc_journal.specs.declared.setting.Setting.{Setting}
use Rattle.rpc_journal.specs.Calls.{call_count, is_cancelled, runner_of}
use Rattle.rpc_journal.specs.Choice.{SomeReady}
use Rattle.rpc_journal.specs.Effect.{Deed}
use Rattle.rpc_journal.specs.History.{history, adding, entry_by}
use Rattle.rpc_journal.specs.Items.{arrivals, flush_count, input_ended, items_flushed, items_sent}
use Rattle.rpc_journal.specs.Kinds.{is_empty}
use Rattle.rpc_journal.specs.Queues.{waiting_of}
use Rattle.rpc_journal.specs.Quiet.{all_below, is_still}
use Rattle.rpc_journal.proofs.PlaceLemmas.{get_none}
use Rattle.rpc_journal.proofs.Push.{history-push}
use Rattle.rpc_journal.proofs.VerdictLemmas.{take_all}
use Rattle.rpc_schedule.specs.OneThread.{Handled, IsFullBeginning, IsStoreStop, OpensLast}
use Rattle.rpc_schedule.specs.Schedule.{IsOver, NoneWaits, Reaches, Settles, input_seat, next_item}
use Rattle.rpc_schedule.specs.Schedule.Stage.{running, flushing}
use Rattle.rpc_schedule.specs.Serving.{EndsInput, Feeds, HasHeard, Serving, TakesPacket, deeds, none_waiting, refusing, with_entry}
use Rattle.rpc_schedule.specs.Settling.{IsCalm, IsDone, IsFullFor, IsOrderly, IsStoreStopFor, SettlesAll, Stays, StopsAtStore, StopsFull}
use Rattle.rpc_schedule.proofs.EntryLemmas.{all_below_same, arrivals-push}
use Rattle.rpc_schedule.proofs.ScheduleLemmas.{none_run_on, over_stays, waits_and_not}
use Rattle.rpc_schedule.proofs.ServingLemmas.{StepsInput, below_full, input_steps}

same_number : (n : ℕ) → (n == n) ≡ true
same_number n = grind arith

-- a packet arrived
take_steps : (old mid : Serving) → IsOrderly old → TakesPacket old mid → IsOrderly mid × (items_flushed (deeds mid) ≡ items_flushed (deeds old))
take_steps old mid orderly takes =
    subst (λ s. IsOrderly s × (items_flushed (deeds s) ≡ items_flushed (deeds old))) (sym takes.adds)
    (let steps : StepsInput (Arrive takes.packet) old (with_entry old input_seat (Arrive takes.packet)) =
    input_steps old (Arrive takes.packet) orderly (λ k. refl) (λ k. refl) refl (λ room. below_full old.table.entries takes.room) in (steps.orderly, steps.same_items))

pub feed_steps : (old mid : Serving) (n : ℕ) → IsOrderly old → Feeds old (Ok n) mid → IsOrderly mid × (items_flushed (deeds mid) ≡ items_flushed (deeds old))
feed_steps old mid n orderly (accepts, inl same) =
    subst (λ s. IsOrderly s × (items_flushed (deeds s) ≡ items_flushed (deeds old))) (sym same) (orderly, refl)
feed_steps old mid n orderly (accepts, inr takes) = take_steps old mid orderly takes

-- a settled server is calm where its packets were handled
calm_after : (rule : HandlerRule) (mid new : Serving) → SettlesAll rule mid new → mid.refused ≡ None → input_ended (deeds mid) ≡ false
    → Handled rule mid.table.setting (reverse (arrivals mid.table.entries)) new.table.entries → IsCalm rule new
calm_after rule mid new settles accepts unended handled =
    let same = sym settles.stays.setting in
    record {
      orderly = settles.orderly;
      accepts = settles.stays.refused ∙ accepts;
      idle = settles.idle;
      unended = settles.stays.input ∙ unended;
      over = subst (λ set. IsOver set new.table.entries) same settles.settles.over;
      handled = subst (λ ps. Handled rule new.table.setting (reverse ps) new.table.entries) (sym settles.stays.arrived)
          (subst (λ set. Handled rule set (reverse (arrivals mid.table.entries)) new.table.entries) same handled);
    }

calm_same : (rule : HandlerRule) (old new : Serving) → IsCalm rule old → SettlesAll rule old new → IsCalm rule new
calm_same rule old new calm settles =
    calm_after rule old new settles calm.accepts calm.unended
    (subst (Handled rule old.table.setting (reverse (arrivals old.table.entries)))
    (over_stays rule old.table.setting settles.settles.reaches.0 old.table.entries new.table.entries calm.over settles.settles.reaches.1) calm.handled)

arrive_handled : (rule : HandlerRule) (old : Serving) (p : Packet) (now : List Entry) → IsCalm rule old
    → Settles rule old.table.setting (adding old.table.entries input_seat (Arrive p)) now
    → Handled rule old.table.setting (reverse (arrivals (adding old.table.entries input_seat (Arrive p)))) now
arrive_handled rule old p now calm settles =
    let h = old.table.entries in
    let one_more : reverse (arrivals (adding h input_seat (Arrive p))) ≡ p ∷ reverse (arrivals h) =
    ap reverse (arrivals-push h (entry_by input_seat (Arrive p))) ∙ reverse-append (arrivals h) (p ∷ []) in
    subst (λ ps. Handled rule old.table.setting ps now) (sym one_more) (h, calm.handled, settles)

arrive_unended : (set : Setting) (h : List Entry) (p : Packet) → input_ended (history set h) ≡ false → input_ended (history set (adding h input_seat (Arrive p))) ≡ false
arrive_unended set h p unended = ap input_ended (history-push set h (entry_by input_seat (Arrive p))) ∙ unended

pub calm_fed : (rule : HandlerRule) (old mid new : Serving) (n : ℕ) → IsCalm rule old → Feeds old (Ok n) mid → SettlesAll rule mid new → IsCalm rule new
calm_fed rule old mid new n calm (accepts, inl same) settles = calm_same rule old new calm (subst (λ s. SettlesAll rule s new) same settles)
calm_fed rule old mid new n calm (accepts, inr takes) settles =
    let p = takes.packet in
    let after = with_entry old input_seat (Arrive p) in
    let settled : SettlesAll rule after new = subst (λ s. SettlesAll rule s new) takes.adds settles in
    calm_after rule after new settled calm.accepts (arrive_unended old.table.setting old.table.entries p calm.unended)
    (arrive_handled rule old p new.table.entries calm settled.settles)

-- a packet was refused, since the journal is full
pub feed_full : (rule : HandlerRule) (old new : Serving) → IsCalm rule old → Feeds old (Err JournalFull) new
    → IsFullFor rule new × (items_flushed (deeds new) ≡ items_flushed (deeds old))
feed_full rule old new calm feeds =
    subst (λ s. IsFullFor rule s × (items_flushed (deeds s) ≡ items_flushed (deeds old))) (sym feeds.1) (
      λ packets heard.
          let last = heard.but_one refl in
          record {
            full = feeds.0;
            room = calm.orderly.room;
            next = inl (record { earlier = arrivals old.table.entries; last = last.0; packets_are = last.1; handled = calm.handled });
          },
      refl,
    )

-- the journal is full while a server settles behind this opening
opening_full : (rule : HandlerRule) (old mid new : Serving) (kind : EntryKind) (packets : List Packet) → mid ≡ with_entry old input_seat kind → StopsFull rule mid new
    → OpensLast rule old.table.setting packets old.table.entries kind → IsFullBeginning rule new.table.setting packets new.table.entries
opening_full rule old mid new kind packets same stops opens =
    let stopped : StopsFull rule (with_entry old input_seat kind) new = subst (λ s. StopsFull rule s new) same stops in
    record {
      full = stopped.full;
      room = stopped.orderly.room;
      next = inr (record {
        underway = record {
          before = old.table.entries;
          opening = kind;
          opens = subst (λ set. OpensLast rule set packets old.table.entries kind) (sym stopped.stays.setting) opens;
          reaches = subst (λ set. Reaches rule set (running (adding old.table.entries input_seat kind)) (running new.table.entries)) (sym stopped.stays.setting) stopped.leads;
        };
        some_ready = stopped.some_ready;
      });
    }

-- a store action isn't made while a server settles behind this opening
opening_store : (rule : HandlerRule) (old mid new : Serving) (kind : EntryKind) (packets : List Packet) (items : List Item) → mid ≡ with_entry old input_seat kind
    → StopsAtStore rule mid (running mid.table.entries) new items → OpensLast rule old.table.setting packets old.table.entries kind
    → IsStoreStop rule new.table.setting packets new.table.entries items
opening_store rule old mid new kind packets items same stops opens =
    let after = with_entry old input_seat kind in
    let s : StopsAtStore rule after (running after.table.entries) new items = subst (λ x. StopsAtStore rule x (running x.table.entries) new items) same stops in
    let h = s.before.table.entries in
    let setting : old.table.setting ≡ new.table.setting = sym s.stays.setting in
    record {
      room = s.orderly.room;
      before = h;
      failed = s.failed;
      underway = record {
        before = old.table.entries;
        opening = kind;
        opens = subst (λ set. OpensLast rule set packets old.table.entries kind) setting opens;
        reaches = subst (λ set. Reaches rule set (running (adding old.table.entries input_seat kind)) (flushing h)) setting s.leads;
      };
      waits = subst (λ set. next_item (history set h) ≡ Some s.failed) (s.same ∙ setting) s.gives.0;
      action = s.action;
      adds = ap (λ x. x.table.entries) s.gives.1;
      items_are = s.items_are ∙ ap (λ set. items_flushed (history set h)) (s.same ∙ setting);
    }

-- a server that had nothing left to do doesn't stop, unless a packet came
pub full_came : (rule : HandlerRule) (old mid new : Serving) (n : ℕ) → IsCalm rule old → Feeds old (Ok n) mid → StopsFull rule mid new → TakesPacket old mid
full_came rule old mid new n calm (accepts, inl same) stops =
    let stopped : StopsFull rule old new = subst (λ s. StopsFull rule s new) same stops in
    absurd (none_run_on rule old.table.setting stopped.leads.0 old.table.entries new.table.entries calm.over stopped.leads.1
    (subst (λ set. SomeReady (history set new.table.entries)) stopped.stays.setting stopped.some_ready))
full_came rule old mid new n calm (accepts, inr takes) stops = takes

pub store_came : (rule : HandlerRule) (old mid new : Serving) (n : ℕ) (items : List Item) → IsCalm rule old → Feeds old (Ok n) mid
    → StopsAtStore rule mid (running mid.table.entries) new items → TakesPacket old mid
store_came rule old mid new n items calm (accepts, inl same) stops =
    let s : StopsAtStore rule old (running old.table.entries) new items = subst (λ x. StopsAtStore rule x (running x.table.entries) new items) same stops in
    let h = s.before.table.entries in
    let there : old.table.entries ≡ h = over_stays rule old.table.setting s.leads.0 old.table.entries h calm.over s.leads.1 in
    let waits : next_item (history old.table.setting old.table.entries) ≡ Some s.failed =
    subst (λ x. next_item (history old.table.setting x) ≡ Some s.failed) (sym there) (subst (λ set. next_item (history set h) ≡ Some s.failed) s.same s.gives.0) in
    absurd (waits_and_not (next_item (history old.table.setting old.table.entries)) s.failed waits calm.over.none_waits)
store_came rule old mid new n items calm (accepts, inr takes) stops = takes

-- the packets heard, where one more came
came_all : (old mid new : Serving) (packets : List Packet) → old.refused ≡ None → (takes : TakesPacket old mid) → Stays mid new → HasHeard packets new
    → packets ≡ arrivals old.table.entries ++ takes.packet ∷ []
came_all old mid new packets accepts takes stays heard =
    let open_to : new.refused ≡ None = stays.refused ∙ (ap (λ s. s.refused) takes.adds ∙ accepts) in
    heard.all open_to ∙ (stays.arrived ∙ (ap (λ s. arrivals s.table.entries) takes.adds ∙ arrivals-push old.table.entries (entry_by input_seat (Arrive takes.packet))))

pub came_more : (old mid new : Serving) (before now : List Packet) → old.refused ≡ None → TakesPacket old mid → Stays mid new
    → HasHeard before old → HasHeard now new → length before < length now
came_more old mid new before now accepts takes stays earlier heard =
    omega (arith, ap length (earlier.all accepts), ap length (came_all old mid new now accepts takes stays heard), length-append (arrivals old.table.entries) (takes.packet ∷ []))

pub settle_full : (rule : HandlerRule) (old mid new : Serving) → IsCalm rule old → TakesPacket old mid → StopsFull rule mid new → IsFullFor rule new
settle_full rule old mid new calm takes stops packets heard =
    opening_full rule old mid new (Arrive takes.packet) packets takes.adds stops
    (arrivals old.table.entries, came_all old mid new packets calm.accepts takes stops.stays heard, calm.handled)

pub settle_store : (rule : HandlerRule) (old mid new : Serving) (items : List Item) → IsCalm rule old → TakesPacket old mid
    → StopsAtStore rule mid (running mid.table.entries) new items → IsStoreStopFor rule new items
settle_store rule old mid new items calm takes stops packets heard =
    opening_store rule old mid new (Arrive takes.packet) packets items takes.adds stops
    (arrivals old.table.entries, came_all old mid new packets calm.accepts takes stops.stays heard, calm.handled)

-- a packet was refused, so one more was heard
pub refused_more : (old new : Serving) (before now : List Packet) (why : StartRefused) → old.refused ≡ None → new ≡ refusing old why
    → HasHeard before old → HasHeard now new → length before < length now
refused_more old new before now why accepts refuses earlier heard =
    let last = heard.but_one (ap (λ s. is_some s.refused) refuses) in
    let same : arrivals new.table.entries ≡ arrivals old.table.entries = ap (λ s. arrivals s.table.entries) refuses in
    omega (arith, ap length (earlier.all accepts), ap length last.1, ap length same, length-append (arrivals new.table.entries) (last.0 ∷ []))

-- the input is open still
pub open_after : (old mid new : Serving) → input_ended (deeds old) ≡ false → TakesPacket old mid → Stays mid new → input_ended (deeds new) ≡ false
open_after old mid new unended takes stays =
    stays.input ∙ (ap (λ s. input_ended (deeds s)) takes.adds ∙ arrive_unended old.table.setting old.table.entries takes.packet unended)

-- the input ended
pub end_steps : (rule : HandlerRule) (old mid : Serving) → IsCalm rule old → EndsInput old mid → IsOrderly mid × (items_flushed (deeds mid) ≡ items_flushed (deeds old))
end_steps rule old mid calm ends =
    subst (λ s. IsOrderly s × (items_flushed (deeds s) ≡ items_flushed (deeds old))) (sym ends)
    (let steps : StepsInput EndIn old (with_entry old input_seat EndIn) =
    input_steps old EndIn calm.orderly (λ k. refl) (λ k. refl) refl (λ room. absurd (false_true room)) in (steps.orderly, steps.same_items))
  where
    false_true : false ≡ true → ⊥
    false_true is = cc

end_arrivals : (old mid : Serving) → EndsInput old mid → arrivals mid.table.entries ≡ arrivals old.table.entries
end_arrivals old mid ends =
    ap (λ s. arrivals s.table.entries) ends ∙ (arrivals-push old.table.entries (entry_by input_seat EndIn) ∙ append-nil (arrivals old.table.entries))

pub end_full : (rule : HandlerRule) (old mid new : Serving) → IsCalm rule old → EndsInput old mid → StopsFull rule mid new → IsFullFor rule new
end_full rule old mid new calm ends stops packets heard =
    let open_to : new.refused ≡ None = stops.stays.refused ∙ (ap (λ s. s.refused) ends ∙ calm.accepts) in
    let are : packets ≡ arrivals old.table.entries = heard.all open_to ∙ (stops.stays.arrived ∙ end_arrivals old mid ends) in
    opening_full rule old mid new EndIn packets ends stops
    (subst (λ ps. Handled rule old.table.setting (reverse ps) old.table.entries) (sym are) calm.handled)

pub end_store : (rule : HandlerRule) (old mid new : Serving) (items : List Item) → IsCalm rule old → EndsInput old mid
    → StopsAtStore rule mid (running mid.table.entries) new items → IsStoreStopFor rule new items
end_store rule old mid new items calm ends stops packets heard =
    let open_to : new.refused ≡ None = stops.stays.refused ∙ (ap (λ s. s.refused) ends ∙ calm.accepts) in
    let are : packets ≡ arrivals old.table.entries = heard.all open_to ∙ (stops.stays.arrived ∙ end_arrivals old mid ends) in
    opening_store rule old mid new EndIn packets items ends stops
    (subst (λ ps. Handled rule old.table.setting (reverse ps) old.table.entries) (sym are) calm.handled)

-- the input has ended for good
pub ended_after : (old mid new : Serving) → EndsInput old mid → Stays mid new → input_ended (deeds new) ≡ true
ended_after old mid new ends stays =
    stays.input ∙ (ap (λ s. input_ended (deeds s)) ends ∙ ap input_ended (history-push old.table.setting old.table.entries (entry_by input_seat EndIn)))

-- all items were flushed where none waits
pub all_flushed : (ds : List Deed) → flush_count ds ≤ length (items_sent ds) → NoneWaits ds
    → (items_flushed ds ≡ items_sent ds) × (flush_count ds ≡ length (items_sent ds))
all_flushed ds within none =
    let past = get_none (items_sent ds) (flush_count ds) none in
    (take_all (items_sent ds) (flush_count ds) past, omega (arith, within, past))

still_where : (ds : List Deed) → ((c : ℕ) → runner_of ds c ≡ None) → none_waiting ds ≡ true → all_below (call_count ds) (is_still ds) ≡ true
still_where ds none_runs none = all_below_same (call_count ds) (λ c. is_empty (waiting_of ds c)) (is_still ds) (λ c empty. at c empty) none
  where
    or_true : (b : Bool) → (b || true) ≡ true
    or_true true = refl
    or_true false = refl

    at : (c : ℕ) → is_empty (waiting_of ds c) ≡ true → is_still ds c ≡ true
    at c empty = rw (none_runs c, empty) (or_true (is_cancelled ds c))

pub done_after : (rule : HandlerRule) (old mid new : Serving) → IsCalm rule old → EndsInput old mid → SettlesAll rule mid new → IsDone rule new
done_after rule old mid new calm ends settles =
    let after = with_entry old input_seat EndIn in
    let settled : SettlesAll rule after new = subst (λ s. SettlesAll rule s new) ends settles in
    let same = sym settled.stays.setting in
    let ds : List Deed = deeds new in
    let ended : input_ended ds ≡ true = ended_after old mid new ends settles.stays in
    let quiet : none_waiting ds ≡ true = (and_parts (is_none new.kept) (none_waiting ds) settled.idle).1 in
    let waits : NoneWaits ds = subst (λ set. NoneWaits (history set new.table.entries)) same settled.settles.over.none_waits in
    let all = all_flushed ds settled.orderly.within waits in
    record {
      accepts = settled.stays.refused ∙ calm.accepts;
      history = record {
        before = old.table.entries;
        handled = subst (λ ps. Handled rule new.table.setting (reverse ps) old.table.entries) (sym (settles.stays.arrived ∙ end_arrivals old mid ends))
            (subst (λ set. Handled rule set (reverse (arrivals old.table.entries)) old.table.entries) same calm.handled);
        settled = subst (λ set. Settles rule set (adding old.table.entries input_seat EndIn) new.table.entries) same settled.settles;
      };
      room = settled.orderly.room;
      settled = rw (ended, still_where ds settled.orderly.none_runs quiet, all.1) (same_number (length (items_sent ds)));
    }

pub done_items : (rule : HandlerRule) (mid new : Serving) → SettlesAll rule mid new → items_flushed (deeds new) ≡ items_sent (deeds new)
done_items rule mid new settles =
    (all_flushed (deeds new) settles.orderly.within
    (subst (λ set. NoneWaits (history set new.table.entries)) (sym settles.stays.setting) settles.settles.over.none_waits)).0
