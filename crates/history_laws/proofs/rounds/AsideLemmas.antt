-- A settling leaves each stream whose call it doesn't run.
use Rattle.std.proofs.Common.{◌≡◌, ℕ, zero, suc, Bool, true, false, not, ◌||◌, ◌==◌, List, [], ◌∷◌, ◌++◌, drop, flat_map, slice_get, Option, Some, None, option_and_then, if◌then◌else◌, refl, ap, sym, ◌∙◌, subst}
use Rattle.std.proofs.lemmas.Bool.{true≢false, eqb-true}
use Rattle.std.proofs.lemmas.List.{append-nil}
use Rattle.std.specs.List.{list_any}
use Rattle.rpc_ids.specs.declared.status.Status.{Status}
use Rattle.rpc_ids.specs.declared.method.Kind.{Kind}
use Rattle.rpc_ids.specs.declared.method.Role.{Role}
use Rattle.rpc_ids.specs.declared.method.Role.TheVariants.{Server, Client}
use Rattle.rpc_ids.specs.declared.status.Status.TheVariants.{Okay}
use Rattle.rpc_ids.specs.Status.{status_number}
use Rattle.rpc_packet.specs.declared.packet_type.PacketType.TheVariants.{ClientError, Completion, Response}
use Rattle.rpc_packet.specs.declared.call_name.CallName.{CallName}
use Rattle.rpc_handlers.specs.declared.answer.Answer.{Answer}
use Rattle.rpc_handlers.specs.declared.answer.End.{End}
use Rattle.rpc_handlers.specs.declared.event.Memo.{Memo}
use Rattle.rpc_handlers.specs.HandlerRule.{HandlerRule}
use Rattle.rpc_journal.specs.declared.entry.Entry.{Entry}
use Rattle.rpc_journal.specs.declared.entry.EntryKind.TheVariants.{Finish, Flush, Start}
use Rattle.rpc_journal.specs.declared.item.Item.{Item}
use Rattle.rpc_journal.specs.declared.setting.Setting.{Setting}
use Rattle.rpc_journal.specs.Calls.{call_at, calls, ends_of, has_end, is_cancelled, last_call, live_call, of_call}
use Rattle.rpc_journal.specs.Effect.{Deed, Effect, Opening}
use Rattle.rpc_journal.specs.Entries.{answer_item, answered, end_effect, finish_effect, is_heard, leave_item, messages_go}
use Rattle.rpc_journal.specs.History.{entry_by, history}
use Rattle.rpc_journal.specs.Items.{is_done, is_ready}
use Rattle.rpc_journal.specs.Kinds.{is_empty, is_okay, is_unary}
use Rattle.rpc_journal.specs.Queues.{puts_since, starts_since, waiting_of}
use Rattle.rpc_journal.specs.Rows.{both_effects, no_effect, packet_item, says_item, status_packet}
use Rattle.rpc_journal.proofs.Push.{history-push}
use Rattle.rpc_schedule.specs.Schedule.{Flushed, Ran, Stage, Turn, Turns, flush_seat, run_seat}
use Rattle.rpc_schedule.specs.Schedule.Stage.{running, flushing}
use Rattle.rpc_schedule.proofs.ScheduleLemmas.{entries_of}
use Rattle.rpc_schedule.proofs.ServingLemmas.{run_history}
use Rattle.history_laws.specs.rounds.Rest.{SettlingLeavesStreams}
use Rattle.history_laws.specs.rounds.Streams.{HasStream}
use Rattle.history_laws.proofs.rounds.RunLemmas.{flush_deed, none_ready, start_deed}
use Rattle.history_laws.proofs.rounds.StreamLemmas.{plain-call_at, plain_stream}

-- what the end of c's run does: all that it ends and drops is of c
record IsFinish (c : ℕ) (e : Effect) : Type 0 where
  ends : List (ℕ × Status)
  drops : List ℕ
  says : List Item
  is : e ≡ record { opens = None; ends = ends; drops = drops; puts = []; says = says }
  ends_of_c : (k : ℕ) → (c == k) ≡ false → of_call k ends ≡ []
  drops_of_c : (k : ℕ) → (c == k) ≡ false → list_any (λ x. x == k) drops ≡ false

says_only : (c : ℕ) (e : Effect) (says : List Item) → e ≡ record no_effect { says = says } → IsFinish c e
says_only c e says is = record { ends = []; drops = []; says = says; is = is; ends_of_c = λ k apart. refl; drops_of_c = λ k apart. refl }

ends_too : (c : ℕ) (e : Effect) (s : Status) (says : List Item) → e ≡ record no_effect { ends = (c, s) ∷ []; drops = c ∷ []; says = says } → IsFinish c e
ends_too c e s says is = record {
  ends = (c, s) ∷ [];
  drops = c ∷ [];
  says = says;
  is = is;
  ends_of_c = λ k apart. rw apart refl;
  drops_of_c = λ k apart. rw apart refl;
}

module _ (c : ℕ) (says : List Item) where
  client_by : (s : Status) (first second : Item) (okay none : Bool)
      → IsFinish c (both_effects (record no_effect { says = says }) (if okay then (if none then no_effect else says_item first) else record no_effect { ends = (c, s) ∷ []; drops = c ∷ []; says = second ∷ [] }))
  client_by s first second true true = says_only c _ (says ++ []) refl
  client_by s first second true false = says_only c _ (says ++ first ∷ []) refl
  client_by s first second false none = ends_too c _ s (says ++ second ∷ []) refl

  finished : (role : Role) (name : CallName) (kind : Kind) (heard done : Bool) (end : Option End)
      → IsFinish c (both_effects (record no_effect { says = says }) (if heard then end_effect role c name kind done end else no_effect))
  finished role name kind false done end = says_only c _ (says ++ []) refl
  finished Server name kind true done None = says_only c _ (says ++ []) refl
  finished Client name kind true done None = says_only c _ (says ++ []) refl
  finished Server name kind true done (Some end) =
      ends_too c _ end.status (says ++ packet_item c (record { ptype = Response; name = name; payload = end.payload; status = status_number end.status }) ∷ []) refl
  finished Client name kind true done (Some end) =
      client_by end.status (packet_item c (status_packet Completion name Okay)) (packet_item c (status_packet ClientError name end.status)) (is_okay end.status) (is_unary kind || done)

finish_of : (set : Setting) (ds : List Deed) (c : ℕ) (a : Answer) (there : Option Opening) → IsFinish c (finish_effect set ds c a there)
finish_of set ds c a None = says_only c _ [] refl
finish_of set ds c a (Some o) = at (is_cancelled ds c) (is_heard ds c) (is_done ds c)
  where
    at : (cut heard done : Bool) → IsFinish c (if cut then says_item (leave_item c) else answered set.role c o heard done a)
    at true heard done = says_only c _ (leave_item c ∷ []) refl
    at false heard done = finished c (flat_map (answer_item set.role c o.name (messages_go set.role o.method.kind heard done)) a.items) set.role o.name o.method.kind heard done a.end

-- a stream for which no event waits
pub record IsAside (rule : HandlerRule) (set : Setting) (ds : List Deed) (k : ℕ) (o : Opening) (m : Memo) : Type 0 where
  pub waits : waiting_of ds k ≡ []
  pub stream : HasStream rule set ds k o m

live_last : (ds : List Deed) (k : ℕ) (last : Option ℕ) → option_and_then (λ c. if has_end ds c then None else Some c) last ≡ Some k → last ≡ Some k
live_last ds k None is = absurd cc
live_last ds k (Some j) is = at (has_end ds j) is
  where
    at : (b : Bool) → (if b then None else Some j) ≡ Some k → Some j ≡ Some k
    at true none = absurd cc
    at false same = same

module _ (rule : HandlerRule) (set : Setting) (k : ℕ) (o : Opening) (m : Memo) where
  abbrev pub Aside : List Deed → Type 0
  Aside ds = IsAside rule set ds k o m

  start_aside : (ds : List Deed) (c : ℕ) → (c == k) ≡ false → Aside ds → Aside (start_deed c ∷ ds)
  start_aside ds c apart x = record {
    waits = rw apart (ap (drop (starts_since ds k)) (append-nil (puts_since ds k)) ∙ x.waits);
    stream = plain_stream ds (entry_by run_seat (Start c)) None [] [] rule set k o m m x.stream (plain-call_at ds (entry_by run_seat (Start c)) [] [] k) refl refl refl refl x.stream.state;
  }

  flush_aside : (ds : List Deed) → Aside ds → Aside (flush_deed ∷ ds)
  flush_aside ds x = record {
    waits = ap (drop (starts_since ds k)) (append-nil (puts_since ds k)) ∙ x.waits;
    stream = plain_stream ds (entry_by flush_seat Flush) None [] [] rule set k o m m x.stream (plain-call_at ds (entry_by flush_seat Flush) [] [] k) refl refl refl refl x.stream.state;
  }

  module _ (ds : List Deed) (c : ℕ) (a : Answer) (ends : List (ℕ × Status)) (drops : List ℕ) (says : List Item) (apart : (c == k) ≡ false) (no_ends : of_call k ends ≡ []) (no_drops : list_any (λ x. x == k) drops ≡ false) (x : IsAside rule set ds k o m) where
    abbrev done : List Deed
    done = record { entry = entry_by run_seat (Finish c a); does = record { opens = None; ends = ends; drops = drops; puts = []; says = says } } ∷ ds

    ends_now : ends_of done k ≡ []
    ends_now = ap (λ es. ends_of ds k ++ es) no_ends ∙ (append-nil (ends_of ds k) ∙ x.stream.unended)

    live_now : live_call done o.name ≡ Some k
    live_now =
        ap (option_and_then (λ j. if has_end done j then None else Some j)) (live_last ds k (last_call ds o.name) x.stream.live)
        ∙ ap (λ (es : List Status). if not (is_empty es) then None else Some k) ends_now

    finish_aside : Aside done
    finish_aside = record {
      waits = rw no_drops (ap (drop (starts_since ds k)) (append-nil (puts_since ds k)) ∙ x.waits);
      stream = record {
        opened = ap (λ os. slice_get os k) (append-nil (calls ds)) ∙ x.stream.opened;
        live = live_now;
        known = x.stream.known;
        channel = x.stream.channel;
        hears = x.stream.hears;
        unended = ends_now;
        uncancelled = x.stream.uncancelled;
        uncompleted = x.stream.uncompleted;
        state = rw apart x.stream.state;
      };
    }

  -- no run is of a call for which no event waits
  other_call : (ds : List Deed) (c : ℕ) → is_ready ds c ≡ true → waiting_of ds k ≡ [] → (c == k) ≡ false
  other_call ds c ready waits = at (c == k) refl
    where
      at : (b : Bool) → (c == k) ≡ b → (c == k) ≡ false
      at false is = is
      at true is = absurd (true≢false (sym ready ∙ (ap (is_ready ds) (eqb-true c k is) ∙ none_ready ds k waits)))

  pub run_aside : (h after : List Entry) → Ran rule set h after → Aside (history set h) → Aside (history set after)
  run_aside h after ran x =
      let c = ran.call in
      let apart = other_call (history set h) c ran.first.ready x.waits in
      let begun : List Deed = start_deed c ∷ history set h in
      let f = finish_of set begun c ran.answer (call_at begun c) in
      let deeds : history set after ≡ record { entry = entry_by run_seat (Finish c ran.answer); does = record { opens = None; ends = f.ends; drops = f.drops; puts = []; says = f.says } } ∷ begun
      = ap (history set) ran.adds ∙ (run_history set h c ran.answer ∙ ap (λ e. record { entry = entry_by run_seat (Finish c ran.answer); does = e } ∷ begun) f.is) in
      subst Aside (sym deeds) (finish_aside begun c ran.answer f.ends f.drops f.says apart (f.ends_of_c k apart) (f.drops_of_c k apart) (start_aside (history set h) c apart x))

  pub flushed_aside : (h after : List Entry) → Flushed set h after → Aside (history set h) → Aside (history set after)
  flushed_aside h after flushed x =
      subst Aside (sym (ap (history set) flushed.adds ∙ history-push set h (entry_by flush_seat Flush))) (flush_aside (history set h) x)

  turn_aside : (s t : Stage) → Turn rule set s t → Aside (history set (entries_of s)) → Aside (history set (entries_of t))
  turn_aside (running h) (running now) ran x = run_aside h now ran x
  turn_aside (running h) (flushing now) turn x = subst (λ l. Aside (history set l)) (sym turn.1) x
  turn_aside (flushing h) (flushing now) flushed x = flushed_aside h now flushed x
  turn_aside (flushing h) (running now) turn x = subst (λ l. Aside (history set l)) (sym turn.2) x

  turns_aside : (n : ℕ) (s t : Stage) → Turns rule set n s t → Aside (history set (entries_of s)) → Aside (history set (entries_of t))
  turns_aside zero s t same x = subst (λ l. Aside (history set (entries_of l))) same x
  turns_aside (suc n) s t turns x = turns_aside n turns.0 t turns.2 (turn_aside s turns.0 turns.1 x)

pub settling_leaves_streams : SettlingLeavesStreams
settling_leaves_streams rule set before after k o m waits stream settles =
    let x = turns_aside rule set k o m settles.reaches.0 (running before) (flushing after) settles.reaches.1 (record { waits = waits; stream = stream }) in
    x.stream
