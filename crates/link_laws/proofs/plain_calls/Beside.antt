-- What entries that concern only calls with such names leave of all other calls.
use Rattle.std.proofs.Common.{◌≡◌, ◌⊎◌, ℕ, zero, suc, ◌<◌, ◌≤◌, Bool, true, false, not, ◌&&◌, ◌||◌, ◌==◌, List, [], ◌∷◌, ◌++◌, drop, filter, length, slice_get, Option, option_to_list, Some, None, option_and_then, is_some, if◌then◌else◌, refl, ap, sym, ◌∙◌, subst, inl, inr, arith, append_assoc, length-append}
use Rattle.std.proofs.lemmas.Bool.{and_left, and_right, false≢true, ne_eqb, or_from}
use Rattle.std.proofs.lemmas.List.{append-nil}
use Rattle.std.proofs.lemmas.List.Folds.{list_any-append}
use Rattle.std.proofs.lemmas.Option.{slice_get_within}
use Rattle.std.specs.List.{AllByRecursion, list_any}
use Rattle.rpc_channel.specs.Rising.{has_id}
use Rattle.rpc_ids.specs.declared.status.Status.{Status}
use Rattle.rpc_packet.specs.declared.call_name.CallName.{CallName}
use Rattle.rpc_handlers.specs.declared.event.Memo.{Memo}
use Rattle.rpc_handlers.specs.HandlerRule.{HandlerRule}
use Rattle.rpc_journal.specs.declared.entry.Entry.{Entry}
use Rattle.rpc_journal.specs.declared.entry.EntryKind.{EntryKind}
use Rattle.rpc_journal.specs.declared.entry.EntryKind.TheVariants.{Arrive, Invoke, Say, Done, Start, Finish, Replace, Cancel, Tick, Flush, EndIn, Halt, Close}
use Rattle.rpc_journal.specs.declared.item.Item.{Item}
use Rattle.rpc_journal.specs.declared.setting.Setting.{Setting}
use Rattle.rpc_journal.specs.Calls.{call_at, call_count, calls, ends_of, has_end, is_cancel_of, is_cancelled, is_finish_of, is_replace_of, is_start_of, last_call, live_call, of_call, opens_named, same_name}
use Rattle.rpc_journal.specs.Effect.{Deed, Effect, Opening}
use Rattle.rpc_journal.specs.Entries.{effect_of}
use Rattle.rpc_journal.specs.History.{adding, deeds_with, entry_by, history}
use Rattle.rpc_journal.specs.Items.{is_done, is_for, is_ready, items_sent, sends_completion}
use Rattle.rpc_journal.specs.Kinds.{is_empty}
use Rattle.rpc_journal.specs.Queues.{is_completed, is_completion, puts_since, starts_since, waiting_of}
use Rattle.rpc_journal.specs.Rows.{channel_closed, channels_in, is_closed}
use Rattle.rpc_journal.specs.States.{state_of}
use Rattle.rpc_journal.proofs.PlaceLemmas.{below_or_not, get_front, get_last, some_same}
use Rattle.rpc_journal.proofs.Push.{history-push}
use Rattle.rpc_schedule.specs.Schedule.{Flushed, Ran, Settles, Stage, Turn, Turns, flush_seat, run_seat}
use Rattle.rpc_schedule.specs.Schedule.Stage.{running, flushing}
use Rattle.rpc_schedule.proofs.ScheduleLemmas.{entries_of}
use Rattle.rpc_schedule.proofs.ServingLemmas.{run_history}
use Rattle.history_laws.proofs.messages.Members.{all_join, all_weaken}
use Rattle.history_laws.proofs.messages.OfCalls.{stays_at}
use Rattle.history_laws.proofs.rounds.AsideLemmas.{IsAside}
use Rattle.history_laws.proofs.rounds.PutLemmas.{named_so}
use Rattle.history_laws.proofs.rounds.RunLemmas.{none_ready}
use Rattle.link_laws.proofs.plain_calls.Concerns.{Concerns, IsOfSuch, IsSuch, MayBeSuch, OpensSuch, SaysSuch, SendsSuch, entry_concerns}

module _ (such : CallName → Bool) where
  -- a call with another name
  pub record IsOther (ds : List Deed) (k : ℕ) : Type 0 where
    pub opening : Opening
    pub there : call_at ds k ≡ Some opening
    pub other : such opening.name ≡ false

  module _ (ds : List Deed) (k : ℕ) (x : IsOther ds k) where
    apart : (c : ℕ) → IsSuch such ds c → (c == k) ≡ false
    apart c is = ne_eqb c k (λ same. false≢true (sym x.other ∙ is x.opening (ap (call_at ds) same ∙ x.there)))

    none_of : {A : Type 0} (xs : List (ℕ × A)) → AllByRecursion (λ (x : ℕ × A). IsSuch such ds x.0) xs → of_call k xs ≡ []
    none_of [] all = refl
    none_of (x ∷ xs) all = rw (apart x.0 all.0) (none_of xs all.1)

    none_dropped : (cs : List ℕ) → AllByRecursion (IsSuch such ds) cs → list_any (λ c. c == k) cs ≡ false
    none_dropped [] all = refl
    none_dropped (c ∷ cs) all = rw (apart c all.0) (none_dropped cs all.1)

    none_completed : (items : List Item) → AllByRecursion (SaysSuch such ds) items → list_any (λ item. is_for k item.call && sends_completion item.act) items ≡ false
    none_completed [] all = refl
    none_completed (item ∷ items) all = or_from (is_for k item.call && sends_completion item.act) _ (at item.call all.0.0) (none_completed items all.1)
      where
        at : (o : Option ℕ) → MayBeSuch such ds o → (is_for k o && sends_completion item.act) ≡ false
        at None is = refl
        at (Some c) is = and_left (c == k) (sends_completion item.act) (apart c is)

    within : k < call_count ds
    within = slice_get_within (calls ds) k x.opening x.there

    -- what the entry of such a call is to it
    record IsApart (kind : EntryKind) : Type 0 where
      starts : is_start_of k kind ≡ false
      finishes : is_finish_of k kind ≡ false
      cancels : is_cancel_of k kind ≡ false
      replaces : is_replace_of k kind ≡ false
      closes : channel_closed kind ≡ None

    kind_apart : (kind : EntryKind) → IsOfSuch such ds kind → IsApart kind
    kind_apart (Arrive p) is = record { starts = refl; finishes = refl; cancels = refl; replaces = refl; closes = refl }
    kind_apart (Invoke p m) is = record { starts = refl; finishes = refl; cancels = refl; replaces = refl; closes = refl }
    kind_apart (Say c out) is = record { starts = refl; finishes = refl; cancels = refl; replaces = refl; closes = refl }
    kind_apart (Done c) is = record { starts = refl; finishes = refl; cancels = refl; replaces = refl; closes = refl }
    kind_apart (Start c) is = record { starts = apart c is; finishes = refl; cancels = refl; replaces = refl; closes = refl }
    kind_apart (Finish c a) is = record { starts = refl; finishes = apart c is; cancels = refl; replaces = refl; closes = refl }
    kind_apart (Cancel c) is = record { starts = refl; finishes = refl; cancels = apart c is; replaces = refl; closes = refl }
    kind_apart Flush is = record { starts = refl; finishes = refl; cancels = refl; replaces = refl; closes = refl }
    kind_apart (Replace c m) is = absurd is
    kind_apart (Tick t) is = absurd is
    kind_apart EndIn is = absurd is
    kind_apart (Halt why) is = absurd is
    kind_apart (Close channel) is = absurd is

    -- behind such an entry
    module _ (e : Entry) (does : Effect) (concerns : Concerns such ds does) (kind : IsOfSuch such ds e.kind) where
      abbrev behind : List Deed
      behind = record { entry = e; does = does } ∷ ds

      still_there : call_at behind k ≡ Some x.opening
      still_there = stays_at (record { entry = e; does = does }) ds k x.opening x.there

      same_ends : ends_of behind k ≡ ends_of ds k
      same_ends = ap (λ es. ends_of ds k ++ es) (none_of does.ends concerns.ends) ∙ append-nil (ends_of ds k)

      same_done : is_done behind k ≡ is_done ds k
      same_done = list_any-append (λ item. is_for k item.call && sends_completion item.act) (items_sent ds) does.says
          ∙ (ap (λ b. is_done ds k || b) (none_completed does.says concerns.says) ∙ or_false (is_done ds k))
        where
          or_false : (b : Bool) → (b || false) ≡ b
          or_false true = refl
          or_false false = refl

      none_waits : waiting_of ds k ≡ [] → waiting_of behind k ≡ []
      none_waits none =
          rw (none_dropped does.drops concerns.drops, none_of does.puts concerns.puts, (kind_apart e.kind kind).starts)
          (ap (drop (starts_since ds k)) (append-nil (puts_since ds k)) ∙ none)

      same_live : live_call ds x.opening.name ≡ Some k → live_call behind x.opening.name ≡ Some k
      same_live live =
          ap (λ b. option_and_then (λ c. if has_end behind c then None else Some c) (if b then Some (call_count ds) else last_call ds x.opening.name)) (other_name does.opens concerns.opens)
          ∙ at (last_call ds x.opening.name) live
        where
          other_name : (o : Option Opening) → OpensSuch such o → opens_named x.opening.name o ≡ false
          other_name None is = refl
          other_name (Some o) is = by_name (same_name o.name x.opening.name) refl
            where
              by_name : (b : Bool) → same_name o.name x.opening.name ≡ b → same_name o.name x.opening.name ≡ false
              by_name false e = e
              by_name true e = absurd (false≢true (sym x.other ∙ (ap such (sym (named_so o.name x.opening.name e)) ∙ is)))

          at : (o : Option ℕ) → option_and_then (λ c. if has_end ds c then None else Some c) o ≡ Some k
              → option_and_then (λ c. if has_end behind c then None else Some c) o ≡ Some k
          at None e = absurd cc
          at (Some c) e = by_end (has_end ds c) refl e
            where
              by_end : (b : Bool) → has_end ds c ≡ b → (if b then None else Some c) ≡ Some k → (if has_end behind c then None else Some c) ≡ Some k
              by_end true has is = absurd cc
              by_end false has is =
                  let same : c ≡ k = some_same c k is in
                  ap (λ j. if has_end behind j then None else Some j) same
                  ∙ (ap (λ (es : List Status). if not (is_empty es) then None else Some k) same_ends
                  ∙ (ap (λ j. if has_end ds j then None else Some k) (sym same) ∙ ap (λ b. if b then None else Some k) has))

      same_channels : (set : Setting) → channels_in set behind ≡ channels_in set ds
      same_channels set = ap (λ x. filter (λ channel. not (is_for channel x || is_closed ds channel)) set.channels) (kind_apart e.kind kind).closes

      same_state : (rule : HandlerRule) (set : Setting) → state_of rule set behind k ≡ state_of rule set ds k
      same_state rule set =
          rw ((kind_apart e.kind kind).replaces, (kind_apart e.kind kind).finishes, and_right (is_some does.opens) (call_count ds == k) (ne_eqb (call_count ds) k (λ same. omega (arith, same, within)))) refl

      stays_aside : (rule : HandlerRule) (set : Setting) (m : Memo) → IsAside rule set ds k x.opening m → IsAside rule set behind k x.opening m
      stays_aside rule set m a = record {
        waits = none_waits a.waits;
        stream = record {
          opened = still_there;
          live = same_live a.stream.live;
          known = a.stream.known;
          channel = ap (λ ids. has_id ids x.opening.name.channel) (same_channels set) ∙ a.stream.channel;
          hears = a.stream.hears;
          unended = same_ends ∙ a.stream.unended;
          uncancelled = ap (λ b. b || is_cancelled ds k) (kind_apart e.kind kind).cancels ∙ a.stream.uncancelled;
          uncompleted = ap (λ es. list_any is_completion es || is_completed ds k) (none_of does.puts concerns.puts) ∙ a.stream.uncompleted;
          state = same_state rule set ∙ a.stream.state;
        };
      }

  -- no channel is closed
  closes_none : (ds : List Deed) (kind : EntryKind) → IsOfSuch such ds kind → channel_closed kind ≡ None
  closes_none ds (Arrive p) is = refl
  closes_none ds (Invoke p m) is = refl
  closes_none ds (Say c out) is = refl
  closes_none ds (Done c) is = refl
  closes_none ds (Start c) is = refl
  closes_none ds (Finish c a) is = refl
  closes_none ds (Cancel c) is = refl
  closes_none ds Flush is = refl
  closes_none ds (Replace c m) is = absurd is
  closes_none ds (Tick t) is = absurd is
  closes_none ds EndIn is = absurd is
  closes_none ds (Halt why) is = absurd is
  closes_none ds (Close channel) is = absurd is

  -- nothing waits for another call
  abbrev pub NoneWaitsBeside : List Deed → Type 0
  NoneWaitsBeside ds = (k : ℕ) → IsOther ds k → waiting_of ds k ≡ []

  -- another call that is there then was there before
  older : (ds : List Deed) (d : Deed) (k : ℕ) → OpensSuch such d.does.opens → IsOther (d ∷ ds) k → IsOther ds k
  older ds d k opens x = record { opening = x.opening; there = at d.does.opens opens x.there; other = x.other }
    where
      at : (o : Option Opening) → OpensSuch such o → slice_get (calls ds ++ option_to_list o) k ≡ Some x.opening → call_at ds k ≡ Some x.opening
      at None is there = ap (λ os. slice_get os k) (sym (append-nil (calls ds))) ∙ there
      at (Some o) is there = by_place (below_or_not k (length (calls ds)))
        where
          by_place : (k < length (calls ds)) ⊎ (length (calls ds) ≤ k) → call_at ds k ≡ Some x.opening
          by_place (inl below) = sym (get_front (calls ds) (o ∷ []) k below) ∙ there
          by_place (inr past) =
              let last : k ≡ length (calls ds) = omega (arith, past, slice_get_within (calls ds ++ o ∷ []) k x.opening there, length-append (calls ds) (o ∷ [])) in
              let same : o ≡ x.opening = some_same o x.opening (sym (get_last (calls ds) o) ∙ (ap (slice_get (calls ds ++ o ∷ [])) (sym last) ∙ there)) in
              absurd (false≢true (sym x.other ∙ (ap (λ (y : Opening). such y.name) (sym same) ∙ is)))

  module _ (rule : HandlerRule) (set : Setting) where
    -- What lies between two histories concerns only calls with such names: each other call is as it was, and nothing was
    -- opened and sent but with such names.
    pub record IsBeside (ds now : List Deed) : Type 0 where
      pub streams : (k : ℕ) (o : Opening) (m : Memo) → such o.name ≡ false → IsAside rule set ds k o m → IsAside rule set now k o m
      pub ends : (k : ℕ) → IsOther ds k → ends_of now k ≡ ends_of ds k
      pub done : (k : ℕ) → IsOther ds k → is_done now k ≡ is_done ds k
      pub opened : List Opening
      pub calls_are : calls now ≡ calls ds ++ opened
      pub opened_such : AllByRecursion (λ o. such o.name ≡ true) opened
      pub sent : List Item
      pub items_are : items_sent now ≡ items_sent ds ++ sent
      pub sent_such : AllByRecursion (λ item. SendsSuch such item.act) sent
      pub waits : NoneWaitsBeside ds → NoneWaitsBeside now
      pub channels : channels_in set now ≡ channels_in set ds

    pub beside_itself : (ds : List Deed) → IsBeside ds ds
    beside_itself ds = record {
      streams = λ k o m other a. a;
      ends = λ k x. refl;
      done = λ k x. refl;
      opened = [];
      calls_are = sym (append-nil (calls ds));
      opened_such = tt;
      sent = [];
      items_are = sym (append-nil (items_sent ds));
      sent_such = tt;
      waits = λ none. none;
      channels = refl;
    }

    pub still_other : (ds now : List Deed) (k : ℕ) → IsBeside ds now → IsOther ds k → IsOther now k
    still_other ds now k b x = record {
      opening = x.opening;
      there = ap (λ os. slice_get os k) b.calls_are ∙ (get_front (calls ds) b.opened k (slice_get_within (calls ds) k x.opening x.there) ∙ x.there);
      other = x.other;
    }

    pub beside_then : (a b c : List Deed) → IsBeside a b → IsBeside b c → IsBeside a c
    beside_then a b c first next = record {
      streams = λ k o m other x. next.streams k o m other (first.streams k o m other x);
      ends = λ k x. next.ends k (still_other a b k first x) ∙ first.ends k x;
      done = λ k x. next.done k (still_other a b k first x) ∙ first.done k x;
      opened = first.opened ++ next.opened;
      calls_are = next.calls_are ∙ (ap (λ os. os ++ next.opened) first.calls_are ∙ append_assoc (calls a) first.opened next.opened);
      opened_such = all_join (λ (o : Opening). such o.name ≡ true) first.opened next.opened first.opened_such next.opened_such;
      sent = first.sent ++ next.sent;
      items_are = next.items_are ∙ (ap (λ items. items ++ next.sent) first.items_are ∙ append_assoc (items_sent a) first.sent next.sent);
      sent_such = all_join (λ (item : Item). SendsSuch such item.act) first.sent next.sent first.sent_such next.sent_such;
      waits = λ none. next.waits (first.waits none);
      channels = next.channels ∙ first.channels;
    }

    -- an entry that concerns only such calls
    pub entry_beside : (ds : List Deed) (e : Entry) → IsOfSuch such ds e.kind → IsBeside ds (deeds_with set ds e)
    entry_beside ds e kind = record {
      streams = λ k o m other a. stays_aside ds k (record { opening = o; there = a.stream.opened; other = other }) e does concerns kind rule set m a;
      ends = λ k x. same_ends ds k x e does concerns kind;
      done = λ k x. same_done ds k x e does concerns kind;
      opened = option_to_list does.opens;
      calls_are = refl;
      opened_such = opens does.opens concerns.opens;
      sent = does.says;
      items_are = refl;
      sent_such = all_weaken (SaysSuch such ds) (λ (item : Item). SendsSuch such item.act) does.says (λ item is. is.1) concerns.says;
      waits = λ none k x.
          let before = older ds (record { entry = e; does = does }) k concerns.opens x in
          none_waits ds k before e does concerns kind (none k before);
      channels = ap (λ x. filter (λ channel. not (is_for channel x || is_closed ds channel)) set.channels) (closes_none ds e.kind kind);
    }
      where
        does : Effect
        does = effect_of set ds e.kind

        concerns : Concerns such ds does
        concerns = entry_concerns such set ds e.kind kind

        opens : (o : Option Opening) → OpensSuch such o → AllByRecursion (λ o. such o.name ≡ true) (option_to_list o)
        opens None is = tt
        opens (Some o) is = (is, tt)

    pub adding_beside : (h : List Entry) (seat : ℕ) (kind : EntryKind) → IsOfSuch such (history set h) kind → IsBeside (history set h) (history set (adding h seat kind))
    adding_beside h seat kind is = subst (IsBeside (history set h)) (sym (history-push set h (entry_by seat kind))) (entry_beside (history set h) (entry_by seat kind) is)

    -- a call that is ready has such a name, where nothing waits for others
    ready_such : (ds : List Deed) (c : ℕ) → NoneWaitsBeside ds → is_ready ds c ≡ true → IsSuch such ds c
    ready_such ds c none ready o there = at (such o.name) refl
      where
        at : (b : Bool) → such o.name ≡ b → such o.name ≡ true
        at true e = e
        at false e = absurd (false≢true (sym (none_ready ds c (none c (record { opening = o; there = there; other = e }))) ∙ ready))

    pub ran_beside : (h after : List Entry) → Ran rule set h after → NoneWaitsBeside (history set h) → IsBeside (history set h) (history set after)
    ran_beside h after ran none =
        let ds : List Deed = history set h in
        let begun : List Deed = deeds_with set ds (entry_by run_seat (Start ran.call)) in
        let is : IsSuch such ds ran.call = ready_such ds ran.call none ran.first.ready in
        let first : IsBeside ds begun = entry_beside ds (entry_by run_seat (Start ran.call)) is in
        let still : IsSuch such begun ran.call = λ o there. is o (ap (λ os. slice_get os ran.call) (sym (append-nil (calls ds))) ∙ there) in
        subst (λ x. IsBeside ds (history set x)) (sym ran.adds)
        (subst (IsBeside ds) (sym (run_history set h ran.call ran.answer))
        (beside_then ds begun (deeds_with set begun (entry_by run_seat (Finish ran.call ran.answer))) first (entry_beside begun (entry_by run_seat (Finish ran.call ran.answer)) still)))

    pub flushed_beside : (h after : List Entry) → Flushed set h after → IsBeside (history set h) (history set after)
    flushed_beside h after flushed = subst (λ x. IsBeside (history set h) (history set x)) (sym flushed.adds) (adding_beside h flush_seat Flush tt)

    turn_beside : (a b : Stage) → Turn rule set a b → NoneWaitsBeside (history set (entries_of a)) → IsBeside (history set (entries_of a)) (history set (entries_of b))
    turn_beside (running h) (running now) ran none = ran_beside h now ran none
    turn_beside (running h) (flushing now) turn none = subst (λ x. IsBeside (history set h) (history set x)) (sym turn.1) (beside_itself (history set h))
    turn_beside (flushing h) (flushing now) flushed none = flushed_beside h now flushed
    turn_beside (flushing h) (running now) turn none = subst (λ x. IsBeside (history set h) (history set x)) (sym turn.2) (beside_itself (history set h))

    turns_beside : (n : ℕ) (a b : Stage) → Turns rule set n a b → NoneWaitsBeside (history set (entries_of a)) → IsBeside (history set (entries_of a)) (history set (entries_of b))
    turns_beside zero a b same none = subst (λ s. IsBeside (history set (entries_of a)) (history set (entries_of s))) same (beside_itself (history set (entries_of a)))
    turns_beside (suc n) a b turns none =
        let first = turn_beside a turns.0 turns.1 none in
        beside_then (history set (entries_of a)) (history set (entries_of turns.0)) (history set (entries_of b)) first (turns_beside n turns.0 b turns.2 (first.waits none))

    pub settles_beside : (before after : List Entry) → Settles rule set before after → NoneWaitsBeside (history set before) → IsBeside (history set before) (history set after)
    settles_beside before after settles none = turns_beside settles.reaches.0 (running before) (flushing after) settles.reaches.1 none
