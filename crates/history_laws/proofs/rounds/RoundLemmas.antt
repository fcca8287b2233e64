-- A packet that puts an event to a call of a table at rest, and what follows from it.
use Rattle.std.proofs.Common.{◌≡◌, ℕ, ◌+◌, List, ◌∷◌, ◌++◌, length, flat_map, Option, Some, None, IsTrue, true, false, ◌&&◌, option_and_then, option_map, refl, ap, sym, ◌∙◌, subst}
use Rattle.std.proofs.lemmas.Bool.{ne_eqb}
use Rattle.std.proofs.lemmas.List.{append-nil}
use Rattle.std.specs.List.{list_any}
use Rattle.rpc_ids.specs.declared.method.MethodRef.{MethodRef}
use Rattle.rpc_packet.specs.declared.owned.Packet.{Packet}
use Rattle.rpc_handlers.specs.declared.answer.Answer.{Answer}
use Rattle.rpc_handlers.specs.declared.event.Event.{Event}
use Rattle.rpc_handlers.specs.declared.event.Event.TheVariants.{Message, Request as Asked}
use Rattle.rpc_handlers.specs.declared.event.Memo.{Memo}
use Rattle.rpc_handlers.specs.HandlerRule.{HandlerRule}
use Rattle.rpc_journal.specs.declared.entry.Entry.{Entry}
use Rattle.rpc_journal.specs.declared.entry.EntryKind.TheVariants.{Arrive, Start, Finish}
use Rattle.rpc_journal.specs.declared.item.Item.{Item}
use Rattle.rpc_journal.specs.declared.setting.Setting.{Setting}
use Rattle.rpc_journal.specs.declared.waiting.Waiting.{Waiting}
use Rattle.rpc_journal.specs.Calls.{call_count}
use Rattle.rpc_journal.specs.Choice.{IsFirstReady, NoneReady}
use Rattle.rpc_journal.specs.Effect.{Deed, Opening}
use Rattle.rpc_journal.specs.Entries.{answer_item, messages_go}
use Rattle.rpc_journal.specs.History.{adding, deeds_with, entry_by, history}
use Rattle.rpc_journal.specs.Items.{flush_count, is_for, items_sent, sends_completion}
use Rattle.rpc_journal.specs.Queues.{is_ended, taken_event}
use Rattle.rpc_journal.specs.Rows.{no_effect}
use Rattle.rpc_journal.proofs.Push.{history-push}
use Rattle.rpc_schedule.specs.Schedule.{Ran, Settles, answer_by_rule, input_seat, run_seat}
use Rattle.rpc_schedule.specs.Schedule.Stage.{running, flushing}
use Rattle.rpc_schedule.proofs.ScheduleLemmas.{reaches_itself, reaches_then, reaches_turn, settles_same}
use Rattle.history_laws.specs.rounds.Rounds.{ComesToOpen, ComesToStream, IsRound, MessagesSettle, RequestsSettle, RoundsAreThere, opened_by, with_round}
use Rattle.history_laws.specs.rounds.Streams.{HasStream, IsAtRest, items_of}
use Rattle.history_laws.proofs.rounds.Flushing.{flushed_history, flushes_reach, rest_is_over}
use Rattle.history_laws.proofs.rounds.PutLemmas.{asked_other, asked_stream, message_puts, message_stream, put_alone, put_deed, request_opens}
use Rattle.history_laws.proofs.rounds.RunLemmas.{WaitsAlone, after_flushes, alone_first, before_run, ended_idle, ended_other, ended_ready, ended_sent, ended_stream, ended_taken, ended_waiting, finish_deed, finish_says, flushes_rest, flushes_sent, flushes_stream, start_deed, took}

-- the packet puts this event to c, which has a stream then
pub record Puts (rule : HandlerRule) (set : Setting) (h : List Entry) (p : Packet) (c : ℕ) (o : Opening) (m : Memo) (event : Event) : Type 0 where
  pub opens : Option Opening
  pub deeds : history set (adding h input_seat (Arrive p)) ≡ put_deed p opens c event ∷ history set h
  pub rest : IsAtRest (history set h)
  pub stream : HasStream rule set (put_deed p opens c event ∷ history set h) c o m
  pub others : (k : ℕ) (other : Opening) (state : Memo) → HasStream rule set (history set h) k other state
      → HasStream rule set (put_deed p opens c event ∷ history set h) k other state
  pub going : is_ended event ≡ false
  pub endless : (rule.answer m event).end ≡ None

module _ (rule : HandlerRule) (set : Setting) (h : List Entry) (p : Packet) (c : ℕ) (o : Opening) (m : Memo) (event : Event) (puts : Puts rule set h p c o m event) where
  abbrev ds : List Deed
  ds = history set h

  abbrev pub put : List Deed
  put = put_deed p puts.opens c event ∷ ds

  abbrev pub waiting : Waiting
  waiting = record { at = length ds; event = event }

  abbrev a : Answer
  a = rule.answer m event

  abbrev says : List Item
  says = items_of set ds c o a

  abbrev pub arrived : List Entry
  arrived = adding h input_seat (Arrive p)

  abbrev begun : List Entry
  begun = adding arrived run_seat (Start c)

  abbrev pub ran : List Entry
  ran = adding begun run_seat (Finish c a)

  abbrev pub round_of : List Entry
  round_of = with_round h p c a (length says)

  pub alone : WaitsAlone put c waiting
  alone = put_alone ds puts.rest p puts.opens c event

  items_same : items_of set put c o a ≡ says
  items_same =
      ap (λ (items : List Item). flat_map (answer_item set.role c o.name (messages_go set.role o.method.kind true (list_any (λ item. is_for c item.call && sends_completion item.act) items))) a.items)
      (append-nil (items_sent ds))

  begun_deeds : history set begun ≡ start_deed c ∷ put
  begun_deeds =
      history-push set arrived (entry_by run_seat (Start c))
      ∙ ap (λ x. deeds_with set x (entry_by run_seat (Start c))) puts.deeds

  pub ran_deeds : history set ran ≡ finish_deed c a says ∷ start_deed c ∷ put
  ran_deeds =
      history-push set begun (entry_by run_seat (Finish c a))
      ∙ (ap (λ x. deeds_with set x (entry_by run_seat (Finish c a))) begun_deeds
      ∙ ap (λ e. record { entry = entry_by run_seat (Finish c a); does = e } ∷ start_deed c ∷ put)
      (finish_says rule set put c waiting alone o m puts.stream puts.going a puts.endless ∙ ap (λ items. record no_effect { says = items }) items_same))

  round_deeds : history set round_of ≡ after_flushes (length says) (finish_deed c a says ∷ start_deed c ∷ put)
  round_deeds = flushed_history set (length says) ran ∙ ap (after_flushes (length says)) ran_deeds

  answers : answer_by_rule rule set (start_deed c ∷ put) c ≡ Some a
  answers =
      ap (option_and_then (λ state. option_map (rule.answer state) (taken_event (start_deed c ∷ put) c))) (before_run rule set put c waiting alone o m puts.stream)
      ∙ ap (option_map (rule.answer m)) (took rule set put c waiting alone o m puts.stream)

  pub runs : Ran rule set arrived ran
  runs = record {
    call = c;
    answer = a;
    first = subst (λ x. IsFirstReady x c) (sym puts.deeds) (alone_first put c waiting alone puts.stream.uncancelled);
    by_rule = λ ruled. subst (λ x. answer_by_rule rule set x c ≡ Some a) (sym begun_deeds) answers;
    adds = refl;
  }

  at_rest : IsAtRest (history set round_of)
  at_rest =
      subst IsAtRest (sym round_deeds)
      (flushes_rest (length says) (finish_deed c a says ∷ start_deed c ∷ put) (ended_taken put c waiting alone a says) (ended_idle put c waiting alone a says)
      (ended_waiting put c waiting alone a says) puts.rest.unhalted)

  pub settles : Settles rule set arrived round_of
  settles = record {
    reaches =
        reaches_then rule set (running arrived) (flushing ran) (flushing round_of)
        (reaches_turn rule set (running arrived) (running ran) (flushing ran)
        (reaches_turn rule set (running arrived) (running arrived) (running ran) (reaches_itself rule set (running arrived)) runs)
        (subst NoneReady (sym ran_deeds) (ended_ready put c waiting alone a says), refl))
        (flushes_reach rule set (length says) ran
        (subst (λ x. flush_count x + length says ≡ length (items_sent x)) (sym ran_deeds) (ended_waiting put c waiting alone a says)));
    over = rest_is_over set round_of at_rest;
  }

  -- what is told of a stream behind the run is told of it behind the round
  still : (k : ℕ) (other : Opening) (state : Memo) → HasStream rule set (finish_deed c a says ∷ start_deed c ∷ put) k other state
      → HasStream rule set (history set round_of) k other state
  still k other state there =
      subst (λ x. HasStream rule set x k other state) (sym round_deeds) (flushes_stream rule set (length says) (finish_deed c a says ∷ start_deed c ∷ put) k other state there)

  pub round : IsRound rule set h p c o m event round_of
  round = record {
    entries = refl;
    said = ap items_sent round_deeds
        ∙ (flushes_sent (length says) (finish_deed c a says ∷ start_deed c ∷ put)
        ∙ (ended_sent put c waiting alone a says ∙ ap (λ items. items ++ says) (append-nil (items_sent ds))));
    rest = at_rest;
    stream = still c o (rule.next m event) (ended_stream rule set put c waiting alone a says o m puts.stream);
    others = λ k other state apart there. still k other state
        (ended_other rule set put c waiting alone a says k other state (ne_eqb c k (λ same. apart (sym same))) (puts.others k other state there));
  }

  pub settles_so : (after : List Entry) → IsTrue rule.ruled → Settles rule set arrived after → IsRound rule set h p c o m event after
  settles_so after ruled there = subst (IsRound rule set h p c o m event) (settles_same rule set ruled arrived arrived round_of after refl settles there) round

pub message_is_put : (rule : HandlerRule) (set : Setting) (h : List Entry) (c : ℕ) (o : Opening) (m : Memo) (p : Packet) → ComesToStream rule set h c o m p
    → Puts rule set h p c o m (Message p.payload)
message_is_put rule set h c o m p comes = record {
  opens = None;
  deeds = history-push set h (entry_by input_seat (Arrive p))
      ∙ ap (λ e. record { entry = entry_by input_seat (Arrive p); does = e } ∷ history set h) (message_puts rule set (history set h) c o m p comes.stream comes.named comes.type);
  rest = comes.rest;
  stream = message_stream rule set (history set h) p c c o m comes.stream;
  others = message_stream rule set (history set h) p c;
  going = refl;
  endless = comes.endless;
}

pub request_is_put : (rule : HandlerRule) (set : Setting) (h : List Entry) (method : MethodRef) (p : Packet) → ComesToOpen rule set h method p
    → Puts rule set h p (call_count (history set h)) (opened_by p method) (rule.first set.seed method) (Asked p.payload)
request_is_put rule set h method p comes = record {
  opens = Some (opened_by p method);
  deeds = history-push set h (entry_by input_seat (Arrive p))
      ∙ ap (λ e. record { entry = entry_by input_seat (Arrive p); does = e } ∷ history set h) (request_opens rule set h method p comes);
  rest = comes.rest;
  stream = asked_stream rule set h method p comes;
  others = asked_other rule set h method p comes;
  going = refl;
  endless = comes.endless;
}

pub messages_settle : MessagesSettle
messages_settle rule set h after c o m p ruled comes there =
    settles_so rule set h p c o m (Message p.payload) (message_is_put rule set h c o m p comes) after ruled there

pub requests_settle : RequestsSettle
requests_settle rule set h after method p ruled comes there =
    settles_so rule set h p (call_count (history set h)) (opened_by p method) (rule.first set.seed method) (Asked p.payload) (request_is_put rule set h method p comes) after ruled there

pub rounds_are_there : RoundsAreThere
rounds_are_there = record {
  messages = λ rule set h c o m p comes.
      let puts = message_is_put rule set h c o m p comes in
      (round_of rule set h p c o m (Message p.payload) puts, settles rule set h p c o m (Message p.payload) puts, round rule set h p c o m (Message p.payload) puts);
  requests = λ rule set h method p comes.
      let c : ℕ = call_count (history set h) in
      let puts = request_is_put rule set h method p comes in (
        round_of rule set h p c (opened_by p method) (rule.first set.seed method) (Asked p.payload) puts,
        settles rule set h p c (opened_by p method) (rule.first set.seed method) (Asked p.payload) puts,
        round rule set h p c (opened_by p method) (rule.first set.seed method) (Asked p.payload) puts,
      );
}
