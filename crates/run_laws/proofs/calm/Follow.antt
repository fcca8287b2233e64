-- A server's history over calm packets follows what the packets alone put to each call, entry by entry.
use Rattle.std.proofs.Common.{◌≡◌, ℕ, zero, suc, nat_le, ◌+◌, ◌<◌, ◌≤◌, Bool, true, false, not, ◌&&◌, ◌||◌, ◌==◌, List, [], ◌∷◌, ◌++◌, length, map, filter, fold, drop, slice_get, Option, Some, None, is_some, is_none, option_map, option_to_list, if◌then◌else◌, refl, ap, sym, ◌∙◌, subst, arith, append_assoc, length-append}
use Rattle.std.proofs.lemmas.Bool.{true≢false, false≢true, eqb-true, eq-eqb, eqb-false, ne_eqb, leb-true, leb-false}
use Rattle.std.proofs.lemmas.List.{append-nil}
use Rattle.std.proofs.lemmas.Option.{slice_get_within}
use Rattle.std.specs.List.{list_any}
use mathlib.Core.List.{IsPrefix}
use Rattle.entry_lists.proofs.Prefixes.{prefix_append}
use Rattle.rpc_ids.specs.declared.method.Role.TheVariants.{Server}
use Rattle.rpc_ids.specs.declared.status.Status.{Status}
use Rattle.rpc_ids.specs.declared.status.Status.TheVariants.{Unavailable}
use Rattle.rpc_packet.specs.declared.call_name.CallName.{CallName}
use Rattle.rpc_packet.specs.declared.owned.Packet.{Packet}
use Rattle.rpc_handlers.specs.declared.answer.Answer.{Answer}
use Rattle.rpc_handlers.specs.declared.event.Event.{Event}
use Rattle.rpc_handlers.specs.declared.event.Event.TheVariants.{Ended, Request, Tick as Ticked}
use Rattle.rpc_handlers.specs.declared.event.Memo.{Memo}
use Rattle.rpc_handlers.specs.HandlerRule.{HandlerRule}
use Rattle.rpc_journal.specs.declared.entry.EntryKind.{EntryKind}
use Rattle.rpc_journal.specs.declared.entry.EntryKind.TheVariants.{Arrive, Start, Finish, Tick, Flush, EndIn}
use Rattle.rpc_journal.specs.declared.setting.Setting.{Setting}
use Rattle.rpc_journal.specs.declared.waiting.Waiting.{Waiting}
use Rattle.rpc_journal.specs.Calls.{call_at, call_count, calls, ends_of, has_end, is_cancel_of, is_cancelled, is_start_of, last_call, of_call, opens_named, runner_of, same_name}
use Rattle.rpc_journal.specs.Effect.{Deed, Effect, Opening}
use Rattle.rpc_journal.specs.Entries.{arrive_row, effect_of, each_from, is_live, wants_tick}
use Rattle.rpc_journal.specs.History.{deed_by}
use Rattle.rpc_journal.specs.Items.{arrival_of, halt_reason, input_ended, is_for, is_ready, reason_of}
use Rattle.rpc_journal.specs.Kinds.{is_empty}
use Rattle.rpc_journal.specs.Lawful.{is_request}
use Rattle.rpc_journal.specs.Queues.{drops_of, is_completed, is_completion, is_ended, taken_event, waiting_of}
use Rattle.rpc_journal.specs.Rows.{channel_closed, channels_in, is_closed, method_named, opens_served, puts_event}
use Rattle.rpc_journal.specs.States.{finished_since, opened_state, opens_call, state_before_run, state_set}
use Rattle.rpc_journal.proofs.EachLemmas.{none_past, one_put}
use Rattle.rpc_journal.proofs.EndedLemmas.{some_in}
use Rattle.rpc_journal.proofs.EndLemmas.{last_known}
use Rattle.rpc_journal.proofs.PacketLemmas.{apart, fresh, has_end-more}
use Rattle.rpc_journal.proofs.PlaceLemmas.{get_some, some_same}
use Rattle.rpc_journal.proofs.RunLemmas.{ready_idle}
use Rattle.rpc_schedule.proofs.PendingLemmas.{some_waits}
use Rattle.run_laws.specs.calm.Alone.{arrived, leaves_open, puts_to, stays_open}
use Rattle.run_laws.specs.calm.Calm.{HasNoRequest, is_client_error, is_ticking}
use Rattle.run_laws.specs.calm.Taken.{events_taken, front_event}
use Rattle.run_laws.proofs.calm.Given.{finish_given, given, given_leaves, given_opens, given_puts, given_shuts, stays-push}
use Rattle.run_laws.proofs.calm.Phases.{Absent, Busy, Closed, Idle, Phase, Puts, Standing, phase_opens, phase_stays, puts_nothing}
use Rattle.run_laws.proofs.calm.Phases.Phase.{is_there, not_there}
use Rattle.run_laws.proofs.calm.Phases.Standing.{at_end, at_rest, at_work}
use Rattle.run_laws.proofs.calm.Rows.{Meets, rows_meet, says_all}
use Rattle.run_laws.proofs.calm.Rows.Meets.{both_open, both_put, both_say, late}
use Rattle.run_laws.proofs.calm.Words.{IsEven, Passes, ended_same, even_step, waits, waits_fewer, waits_more, waits_none}

-- What a packet does to each call, in a history and where nothing but packets came.

pub record IsNew (p : Packet) (o : Opening) : Type 0 where
  pub request : is_request p.ptype ≡ true
  pub named : o.name ≡ p.name
  pub no_tick : o.method.ticks ≡ false

pub record Agrees (ds : List Deed) (p : Packet) (mine other : Effect) : Type 0 where
  pub same_opens : mine.opens ≡ other.opens
  pub no_end : mine.ends ≡ []
  pub other_end : other.ends ≡ []
  pub no_drop : mine.drops ≡ []
  pub new : (o : Opening) → mine.opens ≡ Some o → IsNew p o
  pub live : (k : ℕ) → has_end ds k ≡ false → of_call k mine.puts ≡ of_call k other.puts
  pub ended : (k : ℕ) → k < call_count ds → has_end ds k ≡ true → of_call k mine.puts ≡ []
  pub past : (k : ℕ) → call_count ds + length (option_to_list mine.opens) ≤ k → of_call k other.puts ≡ []

opens_none : (p : Packet) (o : Opening) → None ≡ Some o → IsNew p o
opens_none p o is = absurd cc

one_other : (c k : ℕ) (event : Event) → (c == k) ≡ false → of_call k ((c, event) ∷ []) ≡ []
one_other c k event other = rw other refl

below_apart : (c k : ℕ) → c < k → (c == k) ≡ false
below_apart c k below = ne_eqb c k (λ same. omega (arith, same, below))

pub agrees : (ds : List Deed) (p : Packet) (mine other : Effect) → Meets ds p mine other → Agrees ds p mine other
agrees ds p mine other (both_say items none a b) = rw (a, b) here
  where
    here : Agrees ds p (says_all items) (says_all items)
    here = record {
      same_opens = refl;
      no_end = refl;
      other_end = refl;
      no_drop = refl;
      new = λ o is. opens_none p o is;
      live = λ k unended. refl;
      ended = λ k below e. refl;
      past = λ k beyond. refl;
    }
agrees ds p mine other (both_open m no_tick request a b) = rw (a, b) here
  where
    here : Agrees ds p (opens_served p m (call_count ds)) (opens_served p m (call_count ds))
    here = record {
      same_opens = refl;
      no_end = refl;
      other_end = refl;
      no_drop = refl;
      new = λ o is. at o is;
      live = λ k unended. refl;
      ended = λ k below e. one_other (call_count ds) k (Request p.payload) (fresh ds k below);
      past = λ k beyond. one_other (call_count ds) k (Request p.payload) (below_apart (call_count ds) k (omega (arith, beyond)));
    }
      where
        at : (o : Opening) → Some (record { name = p.name; method = m; given = None }) ≡ Some o → IsNew p o
        at o is =
            subst (IsNew p) (some_same (record { name = p.name; method = m; given = None }) o is)
            (record { request = request; named = refl; no_tick = no_tick })
agrees ds p mine other (both_put c event unended below a b) = rw (a, b) here
  where
    here : Agrees ds p (puts_event c event) (puts_event c event)
    here = record {
      same_opens = refl;
      no_end = refl;
      other_end = refl;
      no_drop = refl;
      new = λ o is. opens_none p o is;
      live = λ k unended. refl;
      ended = λ k there e. one_other c k event (apart ds k c e unended);
      past = λ k beyond. one_other c k event (below_apart c k (omega (arith, beyond, below)));
    }
agrees ds p mine other (late c items last ended below none a at_most) = rw a here
  where
    here : Agrees ds p (says_all items) other
    here = record {
      same_opens = sym at_most.opens;
      no_end = refl;
      other_end = at_most.ends;
      no_drop = refl;
      new = λ o is. opens_none p o is;
      live = λ k unended. sym (at_most.others k (turned k (apart ds c k ended unended)));
      ended = λ k there e. refl;
      past = λ k beyond. at_most.others k (below_apart c k (omega (arith, beyond, below)));
    }
      where
        turned : (k : ℕ) → (k == c) ≡ false → (c == k) ≡ false
        turned k apart = ne_eqb c k (λ same. eqb-false k c apart (sym same))

-- the newest packet is no CLIENT_ERROR; a REQUEST is the first of its name, and its method doesn't tick
pub record Comes (set : Setting) (earlier : List Packet) (p : Packet) : Type 0 where
  pub no_error : is_client_error p.ptype ≡ false
  pub new_name : is_request p.ptype ≡ true → HasNoRequest p.name earlier
  pub no_tick : is_request p.ptype ≡ true → is_ticking (method_named set p.name) ≡ false

-- what is known where nothing but packets came
pub record Alone (set : Setting) (qs : List Packet) : Type 0 where
  pub none_ended : (c : ℕ) → ends_of (arrived set qs) c ≡ []
  pub fresh_names : (name : CallName) → HasNoRequest name qs → last_call (arrived set qs) name ≡ None
  pub no_ticks : (c : ℕ) (o : Opening) → call_at (arrived set qs) c ≡ Some o → o.method.ticks ≡ false
  pub unput : (c : ℕ) → call_count (arrived set qs) ≤ c → puts_to (arrived set qs) c ≡ []

abbrev pub last_word : List Deed → List Event
last_word ds = if input_ended ds then Ended Unavailable ∷ [] else []

-- all that can be put to c, with the end of the input where it has come
abbrev pub reach : Setting → List Packet → List Deed → ℕ → List Event
reach set qs ds c = puts_to (arrived set qs) c ++ last_word ds

pub record Follows (rule : HandlerRule) (set : Setting) (ds : List Deed) (qs : List Packet) : Type 0 where
  pub same_calls : calls ds ≡ calls (arrived set qs)
  pub same_last : (name : CallName) → last_call ds name ≡ last_call (arrived set qs) name
  pub same_channels : channels_in set ds ≡ channels_in set (arrived set qs)
  pub same_completed : (c : ℕ) → has_end ds c ≡ false → is_completed ds c ≡ is_completed (arrived set qs) c
  pub uncancelled : (c : ℕ) → is_cancelled ds c ≡ false
  pub unhalted : halt_reason ds ≡ None
  pub even : (c : ℕ) → IsEven ds c
  pub each : (c : ℕ) → Phase rule set ds c (reach set qs ds c)
  pub alone : Alone set qs

-- what holds of each of these and of one more
each_more : {A : Type 0} (P : A → Type 0) (xs : List A) (y : A) → ((k : ℕ) (x : A) → slice_get xs k ≡ Some x → P x) → P y
    → (k : ℕ) (x : A) → slice_get (xs ++ y ∷ []) k ≡ Some x → P x
each_more P [] y all last zero x is = let same : y ≡ x = cc in subst P same last
each_more P [] y all last (suc k) x is = absurd cc
each_more P (z ∷ xs) y all last zero x is = all zero x is
each_more P (z ∷ xs) y all last (suc k) x is = each_more P xs y (λ j w there. all (suc j) w there) last k x is

unended_before : (ds : List Deed) (d : Deed) (c : ℕ) → has_end (d ∷ ds) c ≡ false → has_end ds c ≡ false
unended_before ds d c is = at (has_end ds c) refl
  where
    at : (b : Bool) → has_end ds c ≡ b → has_end ds c ≡ false
    at true e = absurd (true≢false (sym (has_end-more ds d c e) ∙ is))
    at false e = e

no_end_at : (xs : List Status) → xs ≡ [] → not (is_empty xs) ≡ false
no_end_at xs none = rw none refl

abbrev pub deed_of : Setting → List Deed → ℕ → EntryKind → Deed
deed_of set ds seat kind = deed_by seat kind (effect_of set ds kind)

-- no call of these has an end
open_at : (ds : List Deed) (c : ℕ) → ends_of ds c ≡ [] → has_end ds c ≡ false
open_at ds c none = rw none refl

past_all : (n : ℕ) (o : Option Opening) (k : ℕ) → n + length (option_to_list o) ≤ k → n ≤ k
past_all n o k beyond = omega (arith, beyond)

-- Where nothing but packets came.
module _ (set : Setting) (role : set.role ≡ Server) (qs : List Packet) (p : Packet) (alone : Alone set qs) (comes : Comes set qs p) where
  agrees_alone : Agrees (arrived set qs) p (arrive_row set (arrived set qs) p).does (arrive_row set (arrived set qs) p).does
  agrees_alone =
      agrees (arrived set qs) p _ _
      (rows_meet set (arrived set qs) (arrived set qs) p
      (record {
        same_count = refl;
        same_channels = refl;
        same_last = refl;
        unended = λ c. open_at (arrived set qs) c (alone.none_ended c);
        completed = λ c unended. refl;
        there = last_known (arrived set qs) p.name;
        no_error = comes.no_error;
        fresh = λ is. alone.fresh_names p.name (comes.new_name is);
        no_tick = comes.no_tick;
      }) role)

  fresh_more : (name : CallName) → (is_request p.ptype && same_name p.name name) ≡ false → (o : Option Opening) → ((x : Opening) → o ≡ Some x → IsNew p x)
      → opens_named name o ≡ false
  fresh_more name other None new = refl
  fresh_more name other (Some x) new =
      let is = new x refl in
      ap (λ n. same_name n name) is.named ∙ (ap (λ b. b && same_name p.name name) (sym is.request) ∙ other)

  ticks_more : (o : Option Opening) → ((x : Opening) → o ≡ Some x → IsNew p x)
      → (c : ℕ) (x : Opening) → slice_get (calls (arrived set qs) ++ option_to_list o) c ≡ Some x → x.method.ticks ≡ false
  ticks_more None new c x is = alone.no_ticks c x (sym (ap (λ xs. slice_get xs c) (append-nil (calls (arrived set qs)))) ∙ is)
  ticks_more (Some y) new c x is =
      each_more (λ (z : Opening). z.method.ticks ≡ false) (calls (arrived set qs)) y alone.no_ticks (new y refl).no_tick c x is

  pub alone_more : Alone set (p ∷ qs)
  alone_more =
      let g = agrees_alone in
      record {
        none_ended = λ c. ap (λ xs. ends_of (arrived set qs) c ++ of_call c xs) g.no_end ∙ (append-nil (ends_of (arrived set qs) c) ∙ alone.none_ended c);
        fresh_names = λ name none. rw (fresh_more name none.0 (arrive_row set (arrived set qs) p).does.opens g.new) (alone.fresh_names name none.1);
        no_ticks = ticks_more (arrive_row set (arrived set qs) p).does.opens g.new;
        unput = λ c beyond.
            let far : call_count (arrived set qs) + length (option_to_list (arrive_row set (arrived set qs) p).does.opens) ≤ c =
            omega (arith, beyond, length-append (calls (arrived set qs)) (option_to_list (arrive_row set (arrived set qs) p).does.opens)) in
            rw (g.past c far) (append-nil (puts_to (arrived set qs) c) ∙ alone.unput c (omega (arith, far)));
      }

-- In a history.
module _ (rule : HandlerRule) (set : Setting) (role : set.role ≡ Server) (ds : List Deed) (qs : List Packet) (follow : Follows rule set ds qs) where
  -- an arrival
  module _ (seat : ℕ) (p : Packet) (input : input_ended ds ≡ false) (comes : Comes set qs p) where
    pub meets : Meets ds p (arrive_row set ds p).does (arrive_row set (arrived set qs) p).does
    meets =
        rows_meet set ds (arrived set qs) p
        (record {
          same_count = ap length follow.same_calls;
          same_channels = follow.same_channels;
          same_last = follow.same_last p.name;
          unended = λ c. open_at (arrived set qs) c (follow.alone.none_ended c);
          completed = follow.same_completed;
          there = last_known ds p.name;
          no_error = comes.no_error;
          fresh = λ is. follow.alone.fresh_names p.name (comes.new_name is);
          no_tick = comes.no_tick;
        }) role

    agreed : Agrees ds p (arrive_row set ds p).does (arrive_row set (arrived set qs) p).does
    agreed = agrees ds p _ _ meets

    abbrev mine : Effect
    mine = (arrive_row set ds p).does

    abbrev theirs : Effect
    theirs = (arrive_row set (arrived set qs) p).does

    abbrev arrival : Deed
    arrival = deed_by seat (Arrive p) (arrive_row set ds p).does

    no_end_for : (c : ℕ) → of_call c mine.ends ≡ []
    no_end_for c = ap (of_call c) agreed.no_end

    passes : (c : ℕ) → Passes arrival c
    passes c = record { starts = refl; finishes = refl; replaces = refl; kept = ap (λ xs. list_any (λ x. x == c) xs) agreed.no_drop }

    -- what can be put to c now
    reach_more : (c : ℕ) → has_end ds c ≡ false → reach set (p ∷ qs) (arrival ∷ ds) c ≡ reach set qs ds c ++ of_call c mine.puts
    reach_more c unended =
        rw (input, agreed.live c unended)
        (append-nil (puts_to (arrived set qs) c ++ of_call c theirs.puts)
        ∙ ap (λ xs. xs ++ of_call c theirs.puts) (sym (append-nil (puts_to (arrived set qs) c))))

    reach_late : (c : ℕ) → IsPrefix (reach set qs ds c) (reach set (p ∷ qs) (arrival ∷ ds) c)
    reach_late c =
        rw (input) (
          of_call c theirs.puts,
          ap (λ xs. xs ++ of_call c theirs.puts) (append-nil (puts_to (arrived set qs) c)) ∙ sym (append-nil (puts_to (arrived set qs) c ++ of_call c theirs.puts)),
        )

    puts : (c : ℕ) → c < call_count ds → Puts ds arrival c (reach set qs ds c) (reach set (p ∷ qs) (arrival ∷ ds) c)
    puts c below = record {
      no_end = no_end_for c;
      more = λ unended. reach_more c unended;
      none_late = λ ended. agreed.ended c below ended;
      late = λ ended. reach_late c;
    }

    -- a call that isn't there
    none_there : (c : ℕ) → (o : Option Opening) → mine.opens ≡ o → (is_some o && (call_count ds == c)) ≡ false → Absent ds c → of_call c mine.puts ≡ []
    none_there c o is closed a =
        agreed.live c (open_at ds c a.no_end) ∙ agreed.past c (at o is closed)
      where
        at : (o : Option Opening) → mine.opens ≡ o → (is_some o && (call_count ds == c)) ≡ false → call_count ds + length (option_to_list mine.opens) ≤ c
        at None is closed = let past : call_count ds ≤ c = a.past in rw is (omega (arith, past))
        at (Some o) is closed = let past : call_count ds ≤ c = a.past in rw is (omega (arith, past, eqb-false (call_count ds) c closed))

    opens_here : (c : ℕ) (o : Opening) → mine.opens ≡ Some o → (call_count ds == c) ≡ true → Absent ds c → Phase rule set (arrival ∷ ds) c (reach set (p ∷ qs) (arrival ∷ ds) c)
    opens_here c o opens here a =
        let past : call_count ds ≤ c = a.past in
        let unput : puts_to (arrived set qs) c ≡ [] = follow.alone.unput c (omega (arith, past, ap length follow.same_calls)) in
        let none : reach set qs ds c ≡ [] = rw (input, unput) refl in
        let all : reach set (p ∷ qs) (arrival ∷ ds) c ≡ of_call c mine.puts =
        reach_more c (open_at ds c a.no_end) ∙ ap (λ xs. xs ++ of_call c mine.puts) none in
        phase_opens rule set ds arrival c (follow.even c) (passes c) (reach set (p ∷ qs) (arrival ∷ ds) c) o opens here (no_end_for c) all a

    arrive_phase : (c : ℕ) → Phase rule set ds c (reach set qs ds c) → Phase rule set (arrival ∷ ds) c (reach set (p ∷ qs) (arrival ∷ ds) c)
    arrive_phase c phase = at mine.opens refl (call_count ds == c) refl phase
      where
        passed : (o : Option Opening) → mine.opens ≡ o → (is_some o && (call_count ds == c)) ≡ false → Phase rule set ds c (reach set qs ds c)
            → Phase rule set (arrival ∷ ds) c (reach set (p ∷ qs) (arrival ∷ ds) c)
        passed o is closed (not_there a) =
            phase_stays rule set ds arrival c (follow.even c) (passes c) (reach set qs ds c) (reach set (p ∷ qs) (arrival ∷ ds) c) (ap (λ x. is_some x && (call_count ds == c)) is ∙ closed)
            (puts c) (λ past. (no_end_for c, none_there c o is closed a)) (not_there a)
        passed o is closed (is_there x there k) =
            phase_stays rule set ds arrival c (follow.even c) (passes c) (reach set qs ds c) (reach set (p ∷ qs) (arrival ∷ ds) c) (ap (λ x. is_some x && (call_count ds == c)) is ∙ closed)
            (puts c) (λ past. absurd (omega (arith, past, slice_get_within (calls ds) c x there))) (is_there x there k)

        fresh_here : (o : Opening) → mine.opens ≡ Some o → (call_count ds == c) ≡ true → Phase rule set ds c (reach set qs ds c)
            → Phase rule set (arrival ∷ ds) c (reach set (p ∷ qs) (arrival ∷ ds) c)
        fresh_here o opens here (not_there a) = opens_here c o opens here a
        fresh_here o opens here (is_there x there k) = absurd (omega (arith, eqb-true (call_count ds) c here, slice_get_within (calls ds) c x there))

        at : (o : Option Opening) → mine.opens ≡ o → (b : Bool) → (call_count ds == c) ≡ b → Phase rule set ds c (reach set qs ds c)
            → Phase rule set (arrival ∷ ds) c (reach set (p ∷ qs) (arrival ∷ ds) c)
        at None is b here phase = passed None is refl phase
        at (Some o) is true here phase = fresh_here o is here phase
        at (Some o) is false here phase = passed (Some o) is here phase

    arrive_follows : Follows rule set (arrival ∷ ds) (p ∷ qs)
    arrive_follows = record {
      same_calls = rw (follow.same_calls, agreed.same_opens) refl;
      same_last = λ name. rw (agreed.same_opens, follow.same_last name, follow.same_calls) refl;
      same_channels = follow.same_channels;
      same_completed = λ c unended.
          let before : has_end ds c ≡ false = unended_before ds arrival c unended in
          rw (agreed.live c before, follow.same_completed c before) refl;
      uncancelled = follow.uncancelled;
      unhalted = follow.unhalted;
      even = λ c. even_step ds arrival c (follow.even c) (λ starts. absurd (false≢true starts));
      each = λ c. arrive_phase c (follow.each c);
      alone = alone_more set role qs p follow.alone comes;
    }

  -- an entry that isn't an arrival
  pub record Carries (d : Deed) : Type 0 where
    pub no_call : d.does.opens ≡ None
    pub no_close : channel_closed d.entry.kind ≡ None
    pub no_cancel : (c : ℕ) → is_cancel_of c d.entry.kind ≡ false
    pub no_halt : reason_of d.entry.kind ≡ None
    pub no_completion : (c : ℕ) → list_any is_completion (of_call c d.does.puts) ≡ false
    pub ready : (c : ℕ) → is_start_of c d.entry.kind ≡ true → is_empty (waiting_of ds c) ≡ false
    pub each : (c : ℕ) → Phase rule set (d ∷ ds) c (reach set qs (d ∷ ds) c)

  carries : (d : Deed) → Carries d → Follows rule set (d ∷ ds) qs
  carries d k = record {
    same_calls = rw (k.no_call) (append-nil (calls ds) ∙ follow.same_calls);
    same_last = λ name. rw (k.no_call) (follow.same_last name);
    same_channels = ap (λ x. filter (λ channel. not (is_for channel x || is_closed ds channel)) set.channels) k.no_close ∙ follow.same_channels;
    same_completed = λ c unended. rw (k.no_completion c) (follow.same_completed c (unended_before ds d c unended));
    uncancelled = λ c. rw (k.no_cancel c) (follow.uncancelled c);
    unhalted = rw (k.no_halt) (follow.unhalted);
    even = λ c. even_step ds d c (follow.even c) (k.ready c);
    each = k.each;
    alone = follow.alone;
  }

  -- an entry that begins and ends no run, drops nothing and gives no end
  stays : (d : Deed) (c : ℕ) → d.does.opens ≡ None → Passes d c → of_call c d.does.ends ≡ [] → of_call c d.does.puts ≡ [] → last_word (d ∷ ds) ≡ last_word ds
      → Phase rule set (d ∷ ds) c (reach set qs (d ∷ ds) c)
  stays d c no_call p no_end none same =
      subst (Phase rule set (d ∷ ds) c) (sym (ap (λ es. puts_to (arrived set qs) c ++ es) same))
      (phase_stays rule set ds d c (follow.even c) p (reach set qs ds c) (reach set qs ds c) (rw no_call refl)
      (λ below. puts_nothing ds d c (reach set qs ds c) no_end none) (λ past. (no_end, none)) (follow.each c))

  -- a run begins
  module _ (seat c : ℕ) (ready : is_ready ds c ≡ true) where
    abbrev start : Deed
    start = deed_of set ds seat (Start c)

    own : (c == c) ≡ true
    own = eq-eqb c c refl

    some : is_empty (waiting_of ds c) ≡ false
    some = some_waits ds c ready

    -- the event in front
    front_there : (ws : List Waiting) → is_empty ws ≡ false
        → (event : Event) × (front_event ws ≡ event ∷ []) × (slice_get (map (λ (w : Waiting). w.event) ws) 0 ≡ Some event) × (front_event ws ++ map (λ (w : Waiting). w.event) (drop 1 ws) ≡ map (λ (w : Waiting). w.event) ws)
    front_there [] is = absurd (true≢false is)
    front_there (w ∷ ws) is = (w.event, refl, refl, refl)

    begins : (m : Memo) → state_set rule set ds c ≡ Some m → Idle rule m ds c (reach set qs ds c) → Busy rule set m (start ∷ ds) c (reach set qs ds c)
    begins m state i =
        let front = front_there (waiting_of ds c) some in
        let left : waiting_of (start ∷ ds) c ≡ drop 1 (waiting_of ds c) = waits_fewer ds start c (follow.even c) own (λ s. (refl, refl)) in
        let now : events_taken (start ∷ ds) c ≡ events_taken ds c ++ front_event (waiting_of ds c) = rw own refl in
        record {
          event = front.0;
          on = rw own refl;
          unended = ended_same ds start c refl ∙ i.unended;
          taken = now ∙ (ap (λ es. events_taken ds c ++ es) front.1 ∙ ap (λ es. es ++ front.0 ∷ []) (sym i.done));
          took = rw own front.2;
          began = rw own refl;
          before = rw own (ap (option_map (λ x. fold rule.next x (finished_since ds c))) state);
          all =
              ap (λ es. es ++ waits (start ∷ ds) c) now
              ∙ (ap (λ ws. (events_taken ds c ++ front_event (waiting_of ds c)) ++ map (λ (w : Waiting). w.event) ws) left
              ∙ (append_assoc (events_taken ds c) (front_event (waiting_of ds c)) (map (λ (w : Waiting). w.event) (drop 1 (waiting_of ds c)))
              ∙ (ap (λ es. events_taken ds c ++ es) front.3 ∙ i.all)));
          still_open = subst (λ es. stays_open rule m es ≡ true) (sym i.done) i.still_open;
        }

    none_some : {P : Type 0} (ws : List Waiting) → map (λ (w : Waiting). w.event) ws ≡ [] → is_empty ws ≡ false → P
    none_some [] none some = absurd (true≢false some)
    none_some (w ∷ ws) none some = absurd cc

    begins_standing : (m : Memo) → state_set rule set ds c ≡ Some m → Standing rule set m ds c (reach set qs ds c) → Standing rule set m (start ∷ ds) c (reach set qs ds c)
    begins_standing m state (at_rest i) = at_work (begins m state i)
    begins_standing m state (at_work b) = absurd (true≢false (sym b.on ∙ not_on (runner_of ds c) (ready_idle ds c ready)))
      where
        not_on : (o : Option ℕ) → is_none o ≡ true → is_some o ≡ false
        not_on None is = refl
        not_on (Some x) is = absurd (false≢true is)
    begins_standing m state (at_end k) = none_some (waiting_of ds c) k.none_waits some

    start_own : Phase rule set ds c (reach set qs ds c) → Phase rule set (start ∷ ds) c (reach set qs ds c)
    start_own (not_there a) = none_some (waiting_of ds c) a.none_waits some
    start_own (is_there o there k) =
        is_there o (ap (λ xs. slice_get xs c) (append-nil (calls ds)) ∙ there)
        (record { state = k.state; standing = begins_standing (opened_state rule set o) k.state k.standing })

    start_phase : (k : ℕ) → Phase rule set (start ∷ ds) k (reach set qs (start ∷ ds) k)
    start_phase k = at (c == k) refl
      where
        at : (b : Bool) → (c == k) ≡ b → Phase rule set (start ∷ ds) k (reach set qs (start ∷ ds) k)
        at true same = subst (λ x. Phase rule set (start ∷ ds) x (reach set qs (start ∷ ds) x)) (eqb-true c k same) (start_own (follow.each c))
        at false other = stays start k refl (record { starts = other; finishes = refl; replaces = refl; kept = refl }) refl refl refl

    start_follows : Follows rule set (start ∷ ds) qs
    start_follows =
        carries start
        (record {
          no_call = refl;
          no_close = refl;
          no_cancel = λ k. refl;
          no_halt = refl;
          no_completion = λ k. refl;
          ready = λ k starts. subst (λ x. is_empty (waiting_of ds x) ≡ false) (eqb-true c k starts) some;
          each = start_phase;
        })

  -- a call whose run is on
  pub record Running (c : ℕ) : Type 0 where
    pub opening : Opening
    pub there : call_at ds c ≡ Some opening
    pub state : state_set rule set ds c ≡ Some (opened_state rule set opening)
    pub run : Busy rule set (opened_state rule set opening) ds c (reach set qs ds c)

  pub running : (c : ℕ) → is_some (runner_of ds c) ≡ true → Running c
  running c on = at (follow.each c)
    where
      no_run : runner_of ds c ≡ None → Running c
      no_run none = absurd (false≢true (sym (ap is_some none) ∙ on))

      standing : (o : Opening) → call_at ds c ≡ Some o → state_set rule set ds c ≡ Some (opened_state rule set o)
          → Standing rule set (opened_state rule set o) ds c (reach set qs ds c) → Running c
      standing o there state (at_rest i) = no_run i.no_run
      standing o there state (at_work b) = record { opening = o; there = there; state = state; run = b }
      standing o there state (at_end k) = no_run k.no_run

      at : Phase rule set ds c (reach set qs ds c) → Running c
      at (not_there x) = no_run x.no_run
      at (is_there o there k) = standing o there k.state k.standing

  -- a run ends
  module _ (seat c : ℕ) (a : Answer)
      (by_rule : (m : Memo) (event : Event) → state_before_run rule set ds c ≡ Some m → taken_event ds c ≡ Some event → a ≡ rule.answer m event) where
    abbrev finish : Effect → Deed
    finish effect = deed_by seat (Finish c a) effect

    own_call : (c == c) ≡ true
    own_call = eq-eqb c c refl

    gets : {A : Type 0} (x : A) → of_call c ((c, x) ∷ []) ≡ x ∷ []
    gets x = rw own_call refl

    -- the call whose run ends, by its answer
    module _ (o : Opening) (b : Busy rule set (opened_state rule set o) ds c (reach set qs ds c)) where
      abbrev m : Memo
      m = opened_state rule set o

      abbrev over : Deed
      over = finish (given c o b.event a)

      answers : a ≡ rule.answer (fold rule.next m (finished_since ds c)) b.event
      answers = by_rule _ _ b.before b.took

      closed_call : opens_call ds over c ≡ false
      closed_call = rw (given_opens c o b.event a) refl

      one_more : finished_since (over ∷ ds) c ≡ finished_since ds c ++ b.event ∷ []
      one_more = rw (closed_call, own_call, b.began, b.took) refl

      done_now : finished_since (over ∷ ds) c ≡ events_taken (over ∷ ds) c
      done_now = one_more ∙ sym b.taken

      leaves_is : stays_open rule m (events_taken ds c) ≡ (is_ended b.event || is_none a.end)
      leaves_is =
          ap (stays_open rule m) b.taken
          ∙ (stays-push rule m (finished_since ds c) b.event
          ∙ (ap (λ x. x && leaves_open rule (fold rule.next m (finished_since ds c)) b.event) b.still_open
          ∙ ap (λ (x : Answer). is_ended b.event || is_none x.end) (sym answers)))

      ended_open : (is_ended b.event || is_none a.end) ≡ true → Idle rule m (over ∷ ds) c (reach set qs ds c)
      ended_open open_still =
          let nothing = given_leaves c o b.event a open_still in
          let kept : drops_of over c ≡ false = ap (λ xs. list_any (λ x. x == c) xs) nothing.1 in
          let waiting : waits (over ∷ ds) c ≡ waits ds c =
          waits_more ds over c (follow.even c) refl kept ∙ (ap (λ xs. waits ds c ++ of_call c xs) (given_puts c o b.event a) ∙ append-nil (waits ds c)) in
          record {
            no_run = rw own_call refl;
            unended = ended_same ds over c (ap (of_call c) nothing.0) ∙ b.unended;
            done = done_now;
            all = ap (λ ws. events_taken ds c ++ ws) waiting ∙ b.all;
            still_open = leaves_is ∙ open_still;
          }

      ended_shut : (is_ended b.event || is_none a.end) ≡ false → Closed rule m (over ∷ ds) c (reach set qs ds c)
      ended_shut shuts =
          let end = given_shuts c o b.event a shuts in
          let dropped : drops_of over c ≡ true = ap (λ xs. list_any (λ x. x == c) xs) end.2 ∙ rw own_call refl in
          let gained : of_call c over.does.ends ≡ end.0 ∷ [] = ap (of_call c) end.1 ∙ gets end.0 in
          record {
            no_run = rw own_call refl;
            ended = ap (λ xs. not (is_empty (ends_of ds c ++ xs))) gained ∙ some_in (ends_of ds c) end.0;
            done = done_now;
            none_waits = waits_none ds over c (follow.even c) refl dropped (ap (of_call c) (given_puts c o b.event a));
            front = finished_since ds c;
            last = b.event;
            taken = b.taken;
            begin = (waits ds c, b.all);
            still_open = b.still_open;
            shut = leaves_is ∙ shuts;
          }

      ends : Standing rule set m (over ∷ ds) c (reach set qs ds c)
      ends = at (is_ended b.event || is_none a.end) refl
        where
          at : (x : Bool) → (is_ended b.event || is_none a.end) ≡ x → Standing rule set m (over ∷ ds) c (reach set qs ds c)
          at true is = at_rest (ended_open is)
          at false is = at_end (ended_shut is)

      own_phase : call_at ds c ≡ Some o → state_set rule set ds c ≡ Some m → Phase rule set (over ∷ ds) c (reach set qs ds c)
      own_phase there state =
          is_there o (rw (given_opens c o b.event a) (ap (λ xs. slice_get xs c) (append-nil (calls ds)) ∙ there))
          (record { state = rw closed_call state; standing = ends })

      -- another call
      other_phase : (k : ℕ) → (c == k) ≡ false → Phase rule set (over ∷ ds) k (reach set qs (over ∷ ds) k)
      other_phase k other = at (is_ended b.event || is_none a.end) refl
        where
          passing : (ends : of_call k over.does.ends ≡ []) → drops_of over k ≡ false → Phase rule set (over ∷ ds) k (reach set qs (over ∷ ds) k)
          passing no_end kept =
              stays over k (given_opens c o b.event a) (record { starts = refl; finishes = other; replaces = refl; kept = kept }) no_end (ap (of_call k) (given_puts c o b.event a)) refl

          at : (x : Bool) → (is_ended b.event || is_none a.end) ≡ x → Phase rule set (over ∷ ds) k (reach set qs (over ∷ ds) k)
          at true is =
              let nothing = given_leaves c o b.event a is in
              passing (ap (of_call k) nothing.0) (ap (λ xs. list_any (λ x. x == k) xs) nothing.1)
          at false is =
              let end = given_shuts c o b.event a is in
              passing (ap (of_call k) end.1 ∙ rw other refl) (ap (λ xs. list_any (λ x. x == k) xs) end.2 ∙ rw other refl)

      finished : call_at ds c ≡ Some o → state_set rule set ds c ≡ Some m → Follows rule set (deed_of set ds seat (Finish c a) ∷ ds) qs
      finished there state =
          subst (λ effect. Follows rule set (finish effect ∷ ds) qs) (sym (finish_given set ds c a o b.event role there (follow.uncancelled c) b.unended b.took))
          (carries over
          (record {
            no_call = given_opens c o b.event a;
            no_close = refl;
            no_cancel = λ k. refl;
            no_halt = refl;
            no_completion = λ k. ap (λ xs. list_any is_completion (of_call k xs)) (given_puts c o b.event a);
            ready = λ k starts. absurd (false≢true starts);
            each = λ k. each k (c == k) refl;
          }))
        where
          each : (k : ℕ) (x : Bool) → (c == k) ≡ x → Phase rule set (over ∷ ds) k (reach set qs (over ∷ ds) k)
          each k true same = subst (λ x. Phase rule set (over ∷ ds) x (reach set qs (over ∷ ds) x)) (eqb-true c k same) (own_phase there state)
          each k false other = other_phase k other

    finish_follows : (r : Running c) → Follows rule set (deed_of set ds seat (Finish c a) ∷ ds) qs
    finish_follows r = finished r.opening r.run r.there r.state

  -- the time
  module _ (seat t : ℕ) where
    abbrev tick : Deed
    tick = deed_of set ds seat (Tick t)

    unticked : (o : Opening) (b x y : Bool) → o.method.ticks ≡ false → (o.method.ticks && b && x && y) ≡ false
    unticked o b x y none = rw none refl

    no_tick_for : (c : ℕ) (b : Bool) → nat_le (call_count ds) c ≡ b → of_call c (each_from 0 (wants_tick ds) (Ticked t) (calls ds)) ≡ []
    no_tick_for c true past = none_past (wants_tick ds) (Ticked t) (calls ds) 0 c (omega (arith, leb-true (call_count ds) c past))
    no_tick_for c false below =
        let found = get_some (calls ds) c (leb-false (call_count ds) c below) in
        let none : found.0.method.ticks ≡ false = follow.alone.no_ticks c found.0 (ap (λ xs. slice_get xs c) (sym follow.same_calls) ∙ found.1) in
        one_put (wants_tick ds) (Ticked t) (calls ds) 0 c c found.0 found.1 (omega arith)
        ∙ ap (λ b. if b then Ticked t ∷ [] else []) (unticked found.0 _ _ _ none)

    tick_none : (c : ℕ) → of_call c tick.does.puts ≡ []
    tick_none c = no_tick_for c (nat_le (call_count ds) c) refl

    tick_follows : Follows rule set (tick ∷ ds) qs
    tick_follows =
        carries tick
        (record {
          no_call = refl;
          no_close = refl;
          no_cancel = λ c. refl;
          no_halt = refl;
          no_completion = λ c. ap (list_any is_completion) (tick_none c);
          ready = λ c starts. absurd (false≢true starts);
          each = λ c. stays tick c refl (record { starts = refl; finishes = refl; replaces = refl; kept = refl }) refl (tick_none c) refl;
        })

  flush_follows : (seat : ℕ) → Follows rule set (deed_of set ds seat Flush ∷ ds) qs
  flush_follows seat =
      carries (deed_of set ds seat Flush)
      (record {
        no_call = refl;
        no_close = refl;
        no_cancel = λ c. refl;
        no_halt = refl;
        no_completion = λ c. refl;
        ready = λ c starts. absurd (false≢true starts);
        each = λ c. stays (deed_of set ds seat Flush) c refl (record { starts = refl; finishes = refl; replaces = refl; kept = refl }) refl refl refl;
      })

  -- the end of the input
  module _ (seat : ℕ) (input : input_ended ds ≡ false) where
    abbrev end_in : Deed
    end_in = deed_of set ds seat EndIn

    abbrev last : List Event
    last = Ended Unavailable ∷ []

    end_past : (c : ℕ) → call_count ds ≤ c → of_call c end_in.does.puts ≡ []
    end_past c past = none_past (is_live ds) (Ended Unavailable) (calls ds) 0 c (omega (arith, past))

    end_put : (c : ℕ) → c < call_count ds → of_call c end_in.does.puts ≡ (if not (has_end ds c) then last else [])
    end_put c below =
        let found = get_some (calls ds) c below in
        one_put (is_live ds) (Ended Unavailable) (calls ds) 0 c c found.0 found.1 (omega arith)

    end_puts : (c : ℕ) → c < call_count ds → Puts ds end_in c (reach set qs ds c) (reach set qs (end_in ∷ ds) c)
    end_puts c below = record {
      no_end = refl;
      more = λ unended. rw (end_put c below, unended, input) (ap (λ es. es ++ last) (sym (append-nil (puts_to (arrived set qs) c))));
      none_late = λ ended. rw (end_put c below, ended) refl;
      late = λ ended. rw (input) (subst (λ es. IsPrefix es (puts_to (arrived set qs) c ++ last)) (sym (append-nil (puts_to (arrived set qs) c))) (prefix_append (puts_to (arrived set qs) c) last));
    }

    end_no_completion : (c : ℕ) (b : Bool) → nat_le (call_count ds) c ≡ b → list_any is_completion (of_call c end_in.does.puts) ≡ false
    end_no_completion c true past = ap (list_any is_completion) (end_past c (omega (arith, leb-true (call_count ds) c past)))
    end_no_completion c false below = ap (list_any is_completion) (end_put c (leb-false (call_count ds) c below)) ∙ at (has_end ds c)
      where
        at : (b : Bool) → list_any is_completion (if not b then last else []) ≡ false
        at true = refl
        at false = refl

    end_follows : Follows rule set (end_in ∷ ds) qs
    end_follows =
        carries end_in
        (record {
          no_call = refl;
          no_close = refl;
          no_cancel = λ c. refl;
          no_halt = refl;
          no_completion = λ c. end_no_completion c (nat_le (call_count ds) c) refl;
          ready = λ c starts. absurd (false≢true starts);
          each = λ c.
              phase_stays rule set ds end_in c (follow.even c) (record { starts = refl; finishes = refl; replaces = refl; kept = refl }) (reach set qs ds c) (reach set qs (end_in ∷ ds) c)
              refl (end_puts c) (λ past. (refl, end_past c past)) (follow.each c);
        })

-- What is asked of an entry.
abbrev pub Step : HandlerRule → Setting → List Deed → List Packet → EntryKind → Type 0
Step rule set ds qs (Arrive p) = (input_ended ds ≡ false) × Comes set qs p
Step rule set ds qs (Start c) = is_ready ds c ≡ true
Step rule set ds qs (Finish c a) =
    (is_some (runner_of ds c) ≡ true) × ((m : Memo) (event : Event) → state_before_run rule set ds c ≡ Some m → taken_event ds c ≡ Some event → a ≡ rule.answer m event)
Step rule set ds qs (Tick t) = Unit {0}
Step rule set ds qs Flush = Unit {0}
Step rule set ds qs EndIn = input_ended ds ≡ false
Step rule set ds qs _ = ⊥

pub follows_step : (rule : HandlerRule) (set : Setting) → set.role ≡ Server → (ds : List Deed) (qs : List Packet) (seat : ℕ) (kind : EntryKind) → Follows rule set ds qs → Step rule set ds qs kind
    → Follows rule set (deed_of set ds seat kind ∷ ds) (arrival_of kind ++ qs)
follows_step rule set role ds qs seat (Arrive p) follow step = arrive_follows rule set role ds qs follow seat p step.0 step.1
follows_step rule set role ds qs seat (Start c) follow step = start_follows rule set role ds qs follow seat c step
follows_step rule set role ds qs seat (Finish c a) follow step = finish_follows rule set role ds qs follow seat c a step.1 (running rule set role ds qs follow c step.0)
follows_step rule set role ds qs seat (Tick t) follow step = tick_follows rule set role ds qs follow seat t
follows_step rule set role ds qs seat Flush follow step = flush_follows rule set role ds qs follow seat
follows_step rule set role ds qs seat EndIn follow step = end_follows rule set role ds qs follow seat step
follows_step rule set role ds qs seat _ follow step = absurd step

-- nothing happened yet
pub follows_nothing : (rule : HandlerRule) (set : Setting) → Follows rule set [] []
follows_nothing rule set = record {
  same_calls = refl;
  same_last = λ name. refl;
  same_channels = refl;
  same_completed = λ c unended. refl;
  uncancelled = λ c. refl;
  unhalted = refl;
  even = λ c. omega arith;
  each = λ c. not_there (record { past = omega arith; taken = refl; done = refl; none_waits = refl; no_end = refl; no_run = refl });
  alone = record { none_ended = λ c. refl; fresh_names = λ name none. refl; no_ticks = λ c o is. absurd (none_at c o is); unput = λ c past. refl };
}
  where
    none_at : (c : ℕ) (o : Opening) → slice_get (calls []) c ≡ Some o → ⊥
    none_at c o is = cc
