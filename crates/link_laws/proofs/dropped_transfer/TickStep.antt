-- A Tick at the server of a transfer, whose other sessions have settled.
use Rattle.std.proofs.Common.{◌≡◌, ◌≢◌, inl, inr, ℕ, ◌+◌, ◌*◌, ◌≤◌, ◌==◌, ◌&&◌, not, Bool, true, false, List, [], ◌++◌, length, map, slice_get, Option, Some, IsTrue, unwrap_or, if◌then◌else◌, refl, ap, sym, ◌∙◌, subst, arith, length-append}
use Rattle.std.proofs.lemmas.Bool.{and_parts, eqb-true, eqb-false}
use Rattle.std.proofs.lemmas.Grind.{flat_map-append}
use Rattle.std.specs.List.{AllByRecursion}
use Rattle.rpc_ids.specs.declared.status.Status.{Status}
use Rattle.rpc_handlers.specs.declared.answer.Answer.{Answer}
use Rattle.rpc_handlers.specs.declared.answer.Out.{Out}
use Rattle.rpc_handlers.specs.declared.event.Event.TheVariants.{Tick as Ticked}
use Rattle.rpc_handlers.specs.declared.event.Memo.{Memo}
use Rattle.rpc_handlers.specs.HandlerRule.{HandlerRule}
use Rattle.rpc_journal.specs.declared.entry.Entry.{Entry}
use Rattle.rpc_journal.specs.declared.entry.EntryKind.TheVariants.{Tick}
use Rattle.rpc_journal.specs.declared.item.Item.{Item}
use Rattle.rpc_journal.specs.Calls.{call_at, calls, has_end}
use Rattle.rpc_journal.specs.Effect.{Deed, Opening}
use Rattle.rpc_journal.specs.Entries.{answer_item, messages_go}
use Rattle.rpc_journal.specs.History.{adding, history}
use Rattle.rpc_journal.specs.Items.{is_done}
use Rattle.rpc_journal.specs.Kinds.{is_empty}
use Rattle.rpc_journal.specs.States.{opened_state}
use Rattle.rpc_journal.proofs.PlaceLemmas.{some_same}
use Rattle.rpc_schedule.specs.Schedule.{Settles, flush_seat}
use Rattle.history_laws.specs.rounds.Streams.{HasStream, items_of}
use Rattle.transfer_words.specs.Saying.{Stepped, outs_of}
use Rattle.transfer_words.specs.Word.{Word}
use Rattle.transfer_resume.specs.declared.stage.Stage.{Stage}
use Rattle.transfer_resume.specs.Session.{Row}
use Rattle.demo_services.specs.DemoRule.{demo_rule}
use Rattle.demo_services.specs.Transfer.{giving, transfer_memo}
use Rattle.transfer_laws.specs.pairs.Pair.{words_of}
use Rattle.transfer_laws.specs.losses.Drops.{session_ticks}
use Rattle.history_laws.specs.ticks.Ticks.{IsTicked, TicksAtRest, all_tick_items, is_ticking, tick_answer, tick_items, ticked_state}
use Rattle.history_laws.proofs.ticks.TickLemmas.{ticks_settle}
use Rattle.link_laws.specs.declared.world.limits.TheConstants.{TURN_OF_TIME}
use Rattle.link_laws.specs.world.World.{Setup, flushed_since}
use Rattle.link_laws.proofs.rounds.Carrying.{gone_out}
use Rattle.link_laws.specs.lossless_transfer.Shows.{AtServer, Places}
use Rattle.link_laws.proofs.lossless_transfer.Flushing.{answer_words}
use Rattle.link_laws.specs.dropped_transfer.Passing.{IsFromOlder, Passing, own_words, passing_packet}
use Rattle.link_laws.specs.dropped_transfer.Sessions.{AreBeside, IsBesideAtServer, IsSetForDrops, at_turn, book_with, ticked_rows}
use Rattle.link_laws.proofs.dropped_transfer.Books.{beside_answers, older_later, serves_so, still_beside, tick_answers, tick_memo}
use Rattle.link_laws.proofs.dropped_transfer.Ends.{places_later}
use Rattle.link_laws.proofs.dropped_transfer.Few.{items_few, outs_at, outs_few, outs_many, session_little}
use Rattle.link_laws.proofs.dropped_transfer.Mixes.{IsIn, IsMix, all_mixed, both_mixed, call_mixed, two_few, words_mixed}

module _ (k : Setup) (x : Places) (older : List Row) (set : IsSetForDrops k x older) (before after : List Entry) (stage : Option Stage) (t times : ℕ) (late : t ≤ TURN_OF_TIME * times)
    (at : AtServer k x before stage) (sessions : at.memo ≡ transfer_memo (book_with x older stage)) (settles : Settles k.rule k.server (adding before flush_seat (Tick t)) after) where
  abbrev ds : List Deed
  ds = history k.server before

  abbrev step : Stepped (Option Stage)
  step = session_ticks x.service.side t stage

  abbrev later : Places
  later = at_turn x t times after

  abbrev later_older : List Row
  later_older = ticked_rows x.service.side t older

  by_demo : (m : Memo) → k.rule.answer m (Ticked t) ≡ demo_rule.answer m (Ticked t)
  by_demo m = ap (λ (r : HandlerRule). r.answer m (Ticked t)) set.only.rule

  -- what stands of a ticking call, and what it answers: words of the transfer, and ends of older sessions
  record Answers (c : ℕ) (o : Opening) (words : List Word) : Type 0 where
    memo : Memo
    stream : HasStream k.rule k.server ds c o memo
    outs : List Out
    answer : k.rule.answer memo (Ticked t) ≡ giving outs
    few : length outs ≤ 258
    mixed : IsMix k x (items_of k.server ds c o (giving outs)) words

  abbrev own_outs : List Out
  own_outs = outs_of x.session step.sayings

  own_mixed : IsMix k x (items_of k.server ds x.at_server x.server_opening (giving (outs_at x.service.side t older ++ own_outs))) (words_of step.sayings)
  own_mixed =
      subst (λ (items : List Item). IsMix k x items (words_of step.sayings))
      (sym (flat_map-append (answer_item k.server.role x.at_server x.server_opening.name (messages_go k.server.role x.server_opening.method.kind true (is_done ds x.at_server))) (outs_at x.service.side t older) own_outs))
      (both_mixed k x (items_of k.server ds x.at_server x.server_opening (giving (outs_at x.service.side t older))) (items_of k.server ds x.at_server x.server_opening (giving own_outs)) [] (words_of step.sayings)
      (call_mixed k x k.server ds x.at_server x.server_opening x.service.side t older set.only.server (inl (sym set.places.named)) set.older_are.settled set.older_are.before)
      (words_mixed k x (items_of k.server ds x.at_server x.server_opening (giving own_outs)) (words_of step.sayings)
      (answer_words k.server ds x.at_server x.session x.server_opening step.sayings (giving own_outs) set.only.server set.places.down refl)))

  own_answers : Answers x.at_server x.server_opening (words_of step.sayings)
  own_answers = record {
    memo = at.memo;
    stream = at.stream;
    outs = outs_at x.service.side t older ++ own_outs;
    answer = by_demo at.memo ∙ tick_answers x older at.memo stage t sessions;
    few =
        omega (
          arith,
          length-append (outs_at x.service.side t older) own_outs,
          outs_few x.service.side t older set.older_are.settled,
          set.older_are.many,
          set.places.room,
          outs_many x.session step.sayings,
          (session_little x.service.side t stage).few,
        );
    mixed = own_mixed;
  }

  beside : (c : ℕ) (o : Opening) → c ≢ x.at_server → call_at ds c ≡ Some o → o.method.ticks ≡ true
      → (m : Memo) × HasStream k.rule k.server (history k.server x.server) c o m × IsBesideAtServer k x o m
  beside c o apart there ticks = set.beside.each c o apart (ap (λ os. slice_get os c) (sym at.calls_are) ∙ there) ticks

  other_answers : (c : ℕ) (o : Opening) → c ≢ x.at_server → call_at ds c ≡ Some o → o.method.ticks ≡ true → Answers c o []
  other_answers c o apart there ticks =
      let call = beside c o apart there ticks in
      let b : IsBesideAtServer k x o call.0 = call.2 in
      record {
        memo = call.0;
        stream = at.others c o call.0 apart call.1;
        outs = outs_at b.book.service.side t b.book.rows;
        answer = by_demo call.0 ∙ beside_answers k x o call.0 t b;
        few = omega (arith, outs_few b.book.service.side t b.book.rows b.settled, b.room);
        mixed = call_mixed k x k.server ds c o b.book.service.side t b.book.rows set.only.server (inr b.at_client) b.settled b.before;
      }

  does_tick : (c : ℕ) (o : Opening) → is_ticking ds c o ≡ true → o.method.ticks ≡ true
  does_tick c o is = (and_parts o.method.ticks (not (has_end ds c)) is).0

  answers : (c : ℕ) (o : Opening) → call_at ds c ≡ Some o → is_ticking ds c o ≡ true → (words : List Word) × Answers c o words
  answers c o there is = by (c == x.at_server) refl
    where
      same_opening : c ≡ x.at_server → x.server_opening ≡ o
      same_opening same = some_same x.server_opening o (sym at.stream.opened ∙ (ap (call_at ds) (sym same) ∙ there))

      by : (b : Bool) → (c == x.at_server) ≡ b → (words : List Word) × Answers c o words
      by true same =
          let here : c ≡ x.at_server = eqb-true c x.at_server same in
          (words_of step.sayings, subst (λ j. Answers j o (words_of step.sayings)) (sym here) (subst (λ p. Answers x.at_server p (words_of step.sayings)) (same_opening here) own_answers))
      by false apart = ([], other_answers c o (eqb-false c x.at_server apart) there (does_tick c o is))

  answer_is : (c : ℕ) (o : Opening) (words : List Word) (a : Answers c o words) → tick_answer k.rule k.server ds t (c, o) ≡ giving a.outs
  answer_is c o words a =
      ap (λ (state : Option Memo). k.rule.answer (unwrap_or state (opened_state k.rule k.server o)) (Ticked t)) a.stream.state ∙ a.answer

  own_ticks : is_ticking ds x.at_server x.server_opening ≡ true
  own_ticks = ap (λ b. b && not (has_end ds x.at_server)) set.ticks ∙ ap (λ (es : List Status). not (not (is_empty es))) at.stream.unended

  -- what is said in each call
  says_mix : (c : ℕ) (o : Opening) (words : List Word) → Answers c o words → IsMix k x (tick_items k.rule k.server ds t (c, o)) words
  says_mix c o words a = subst (λ (answer : Answer). IsMix k x (items_of k.server ds c o answer) words) (sym (answer_is c o words a)) a.mixed

  says_few : (c : ℕ) (o : Opening) (words : List Word) → Answers c o words → length (tick_items k.rule k.server ds t (c, o)) ≤ 258
  says_few c o words a =
      omega (
        arith,
        items_few k.server.role c o.name (messages_go k.server.role o.method.kind true (is_done ds c)) (tick_answer k.rule k.server ds t (c, o)).items,
        ap (λ (answer : Answer). length answer.items) (answer_is c o words a),
        a.few,
      )

  -- the ticking calls
  abbrev IsTold : ℕ → Opening → Type 0
  IsTold = IsIn (is_ticking ds) (tick_items k.rule k.server ds t) 0 (calls ds)

  call_there : (c : ℕ) (o : Opening) → IsTold c o → call_at ds c ≡ Some o
  call_there c o is = ap (call_at ds) (omega (arith, is.number)) ∙ is.there

  -- and in all of them
  says_all : IsMix k x (all_tick_items k.rule k.server ds t) (words_of step.sayings)
  says_all =
      all_mixed (is_ticking ds) (tick_items k.rule k.server ds t) k x (words_of step.sayings) 0 (calls ds) x.at_server x.server_opening
      (record { place = x.at_server; there = at.stream.opened; number = omega arith; passes = own_ticks }) (says_mix x.at_server x.server_opening (words_of step.sayings) own_answers)
      (λ c o apart is. says_mix c o [] (other_answers c o apart (call_there c o is) (does_tick c o is.passes)))

  all_few : length (all_tick_items k.rule k.server ds t) ≤ 258 + 258
  all_few =
      two_few (is_ticking ds) (tick_items k.rule k.server ds t) 258 0 x.at_server (calls ds)
      (λ c o is. let a = answers c o (call_there c o is) is.passes in says_few c o a.0 a.1)
      (λ c d o p apart away first second.
      set.beside.one c d o p apart away (ap (λ os. slice_get os c) (sym at.calls_are) ∙ call_there c o first) (ap (λ os. slice_get os d) (sym at.calls_are) ∙ call_there d p second)
      (does_tick c o first.passes) (does_tick d p second.passes))

  ticks_at_rest : TicksAtRest k.rule k.server before t
  ticks_at_rest = record {
    role = set.only.server;
    rest = at.rest;
    uncut = λ c o there is. (answers c o there is).1.stream.uncancelled;
    endless = λ c o there is. let a = answers c o there is in ap (λ (answer : Answer). answer.end) (answer_is c o a.0 a.1);
    few = omega (arith, all_few);
  }

  ruled : IsTrue k.rule.ruled
  ruled = subst (λ (r : HandlerRule). IsTrue r.ruled) (sym set.only.rule) refl

  ticked : IsTicked k.rule k.server before t after
  ticked = ticks_settle k.rule k.server before after t ruled ticks_at_rest settles

  moved : ticked_state k.rule t x.server_opening at.memo ≡ k.rule.next at.memo (Ticked t)
  moved = ap (λ b. if b then k.rule.next at.memo (Ticked t) else at.memo) set.ticks

  own_memo : k.rule.next at.memo (Ticked t) ≡ transfer_memo (book_with later later_older step.after)
  own_memo = ap (λ (r : HandlerRule). r.next at.memo (Ticked t)) set.only.rule ∙ tick_memo x older at.memo stage t times after sessions

  later_server : AtServer k later after step.after
  later_server = record {
    rest = ticked.rest;
    memo = k.rule.next at.memo (Ticked t);
    stream = subst (HasStream k.rule k.server (history k.server after) x.at_server x.server_opening) moved (ticked.streams x.at_server x.server_opening at.memo at.stream);
    serves = serves_so later later_older (places_later x t times after set.places) (older_later x t times after older set.older_are) (k.rule.next at.memo (Ticked t)) step.after own_memo;
    others = λ other o m apart there. there;
    calls_are = ticked.calls_stay ∙ at.calls_are;
  }

  -- the calls beside it are such calls still
  each_later : (c : ℕ) (o : Opening) → c ≢ x.at_server → slice_get x.server_calls c ≡ Some o → o.method.ticks ≡ true
      → (m : Memo) × HasStream k.rule k.server (history k.server after) c o m × IsBesideAtServer k later o m
  each_later c o apart there ticks =
      let call = set.beside.each c o apart there ticks in
      let state : ticked_state k.rule t o call.0 ≡ demo_rule.next call.0 (Ticked t) =
      ap (λ b. if b then k.rule.next call.0 (Ticked t) else call.0) ticks ∙ ap (λ (r : HandlerRule). r.next call.0 (Ticked t)) set.only.rule in (
        demo_rule.next call.0 (Ticked t),
        subst (HasStream k.rule k.server (history k.server after) c o) state (ticked.streams c o call.0 (at.others c o call.0 apart call.1)),
        still_beside k x t times after o call.0 late call.2,
      )

  beside_still : AreBeside k later
  beside_still = record { each = each_later; one = set.beside.one }

  -- WHAT A TICK LEADS TO AT THE SERVER
  pub record ServerTicked : Type 0 where
    pub server : AtServer k later after step.after
    pub memo : server.memo ≡ transfer_memo (book_with later later_older step.after)
    -- what goes out, in order
    pub mix : List Passing
    pub gone : flushed_since k.server before after ≡ map (passing_packet x) mix
    pub own : own_words mix ≡ words_of step.sayings
    pub may : AllByRecursion (IsFromOlder k x) mix
    pub still : IsSetForDrops k later later_older

  pub server_ticked : ServerTicked
  unfolding later_server
  server_ticked = record {
    server = later_server;
    memo = own_memo;
    mix = says_all.mix;
    gone = gone_out k.server before after (all_tick_items k.rule k.server ds t) at.rest ticked.rest ticked.said ∙ says_all.packets;
    own = says_all.own;
    may = says_all.may;
    still = record {
      only = set.only;
      places = places_later x t times after set.places;
      service_is = set.service_is;
      window = set.window;
      chunk = set.chunk;
      ticks = set.ticks;
      older_are = older_later x t times after older set.older_are;
      beside = beside_still;
    };
  }
