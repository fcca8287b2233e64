-- What the runs of a call have taken of all that can be put to it, in a server's history over calm packets.
use Rattle.std.proofs.Common.{◌≡◌, ℕ, ◌<◌, ◌≤◌, true, false, ◌&&◌, ◌==◌, List, [], ◌∷◌, ◌++◌, fold, length, slice_get, Option, Some, None, is_some, option_map, option_to_list, refl, ap, sym, ◌∙◌, subst, append_assoc, arith, length-append}
use Rattle.std.proofs.lemmas.Bool.{and_right, eqb-false, eqb-true}
use Rattle.std.proofs.lemmas.List.{append-nil}
use Rattle.std.proofs.lemmas.Option.{slice_get_within}
use mathlib.Core.List.{IsPrefix}
use Rattle.entry_lists.proofs.Prefixes.{prefix_self, prefix_trans}
use Rattle.rpc_handlers.specs.declared.event.Event.{Event}
use Rattle.rpc_handlers.specs.declared.event.Memo.{Memo}
use Rattle.rpc_handlers.specs.HandlerRule.{HandlerRule}
use Rattle.rpc_journal.specs.declared.setting.Setting.{Setting}
use Rattle.rpc_journal.specs.Calls.{call_at, call_count, calls, ends_of, has_end, of_call, runner_of}
use Rattle.rpc_journal.specs.Effect.{Deed, Opening}
use Rattle.rpc_journal.specs.Queues.{taken_event}
use Rattle.rpc_journal.specs.States.{began_since, finished_since, opened_state, opens_call, state_before_run, state_set}
use Rattle.rpc_journal.proofs.PacketLemmas.{fresh}
use Rattle.rpc_journal.proofs.PlaceLemmas.{get_front, get_last}
use Rattle.run_laws.specs.calm.Alone.{stays_open}
use Rattle.run_laws.specs.calm.Taken.{events_taken}
use Rattle.run_laws.proofs.calm.Words.{IsEven, Passes, SameRuns, ended_same, ends_same, same_runs, waits, waits_more}

-- no run of c, which has taken and will take all that is put to it
pub record Idle (rule : HandlerRule) (m : Memo) (ds : List Deed) (c : ℕ) (reach : List Event) : Type 0 where
  pub no_run : runner_of ds c ≡ None
  pub unended : has_end ds c ≡ false
  pub done : finished_since ds c ≡ events_taken ds c
  pub all : events_taken ds c ++ waits ds c ≡ reach
  pub still_open : stays_open rule m (events_taken ds c) ≡ true

-- a run of c is on, with the newest event taken
pub record Busy (rule : HandlerRule) (set : Setting) (m : Memo) (ds : List Deed) (c : ℕ) (reach : List Event) : Type 0 where
  pub event : Event
  pub on : is_some (runner_of ds c) ≡ true
  pub unended : has_end ds c ≡ false
  pub taken : events_taken ds c ≡ finished_since ds c ++ event ∷ []
  pub took : taken_event ds c ≡ Some event
  pub began : began_since ds c ≡ true
  pub before : state_before_run rule set ds c ≡ Some (fold rule.next m (finished_since ds c))
  pub all : events_taken ds c ++ waits ds c ≡ reach
  pub still_open : stays_open rule m (finished_since ds c) ≡ true

-- the answer to the newest event taken ended c, and nothing waits
pub record Closed (rule : HandlerRule) (m : Memo) (ds : List Deed) (c : ℕ) (reach : List Event) : Type 0 where
  pub no_run : runner_of ds c ≡ None
  pub ended : has_end ds c ≡ true
  pub done : finished_since ds c ≡ events_taken ds c
  pub none_waits : waits ds c ≡ []
  pub front : List Event
  pub last : Event
  pub taken : events_taken ds c ≡ front ++ last ∷ []
  pub begin : IsPrefix (events_taken ds c) reach
  pub still_open : stays_open rule m front ≡ true
  pub shut : stays_open rule m (events_taken ds c) ≡ false

pub data Standing (rule : HandlerRule) (set : Setting) (m : Memo) (ds : List Deed) (c : ℕ) (reach : List Event) : Type 0 where
  at_rest : Idle rule m ds c reach → Standing rule set m ds c reach
  at_work : Busy rule set m ds c reach → Standing rule set m ds c reach
  at_end : Closed rule m ds c reach → Standing rule set m ds c reach

-- c is there, with the state that it opened with
pub record Known (rule : HandlerRule) (set : Setting) (o : Opening) (ds : List Deed) (c : ℕ) (reach : List Event) : Type 0 where
  pub state : state_set rule set ds c ≡ Some (opened_state rule set o)
  pub standing : Standing rule set (opened_state rule set o) ds c reach

-- c isn't there
pub record Absent (ds : List Deed) (c : ℕ) : Type 0 where
  pub past : call_count ds ≤ c
  pub taken : events_taken ds c ≡ []
  pub done : finished_since ds c ≡ []
  pub none_waits : waits ds c ≡ []
  pub no_end : ends_of ds c ≡ []
  pub no_run : runner_of ds c ≡ None

pub data Phase (rule : HandlerRule) (set : Setting) (ds : List Deed) (c : ℕ) (reach : List Event) : Type 0 where
  not_there : Absent ds c → Phase rule set ds c reach
  is_there : (o : Opening) → call_at ds c ≡ Some o → Known rule set o ds c reach → Phase rule set ds c reach

-- what a deed puts to c, where `reach` and `now` are all that can be put to it before and behind the deed
pub record Puts (ds : List Deed) (d : Deed) (c : ℕ) (reach now : List Event) : Type 0 where
  pub no_end : of_call c d.does.ends ≡ []
  pub more : has_end ds c ≡ false → now ≡ reach ++ of_call c d.does.puts
  pub none_late : has_end ds c ≡ true → of_call c d.does.puts ≡ []
  pub late : has_end ds c ≡ true → IsPrefix reach now

all_more : (taken now_taken waiting now_waiting puts reach now : List Event) → now_taken ≡ taken → now_waiting ≡ waiting ++ puts → taken ++ waiting ≡ reach
    → now ≡ reach ++ puts → now_taken ++ now_waiting ≡ now
all_more taken now_taken waiting now_waiting puts reach now same more all is =
    rw (same, more) (sym (append_assoc taken waiting puts) ∙ (ap (λ es. es ++ puts) all ∙ sym is))

module _ (rule : HandlerRule) (set : Setting) (ds : List Deed) (d : Deed) (c : ℕ) (even : IsEven ds c) (p : Passes d c) where
  -- an entry that passes a call by
  standing_stays : (m : Memo) (reach now : List Event) → SameRuns rule set ds d c → Puts ds d c reach now → Standing rule set m ds c reach
      → Standing rule set m (d ∷ ds) c now
  standing_stays m reach now s put (at_rest i) =
      at_rest (record {
        no_run = s.runner ∙ i.no_run;
        unended = ended_same ds d c put.no_end ∙ i.unended;
        done = s.done ∙ (i.done ∙ sym s.taken);
        all = all_more _ _ _ _ (of_call c d.does.puts) reach now s.taken (waits_more ds d c even p.starts p.kept) i.all (put.more i.unended);
        still_open = subst (λ es. stays_open rule m es ≡ true) (sym s.taken) i.still_open;
      })
  standing_stays m reach now s put (at_work b) =
      at_work (record {
        event = b.event;
        on = ap is_some s.runner ∙ b.on;
        unended = ended_same ds d c put.no_end ∙ b.unended;
        taken = s.taken ∙ (b.taken ∙ ap (λ es. es ++ b.event ∷ []) (sym s.done));
        took = s.took ∙ b.took;
        began = s.began ∙ b.began;
        before = s.before ∙ (b.before ∙ ap (λ es. Some (fold rule.next m es)) (sym s.done));
        all = all_more _ _ _ _ (of_call c d.does.puts) reach now s.taken (waits_more ds d c even p.starts p.kept) b.all (put.more b.unended);
        still_open = subst (λ es. stays_open rule m es ≡ true) (sym s.done) b.still_open;
      })
  standing_stays m reach now s put (at_end k) =
      at_end (record {
        no_run = s.runner ∙ k.no_run;
        ended = ended_same ds d c put.no_end ∙ k.ended;
        done = s.done ∙ (k.done ∙ sym s.taken);
        none_waits = waits_more ds d c even p.starts p.kept ∙ (ap (λ es. waits ds c ++ es) (put.none_late k.ended) ∙ (append-nil (waits ds c) ∙ k.none_waits));
        front = k.front;
        last = k.last;
        taken = s.taken ∙ k.taken;
        begin = subst (λ es. IsPrefix es now) (sym s.taken) (prefix_trans (events_taken ds c) reach now k.begin (put.late k.ended));
        still_open = k.still_open;
        shut = subst (λ es. stays_open rule m es ≡ false) (sym s.taken) k.shut;
      })

  -- a call that isn't there, and isn't opened
  absent_stays : call_count (d ∷ ds) ≤ c → SameRuns rule set ds d c → of_call c d.does.ends ≡ [] → of_call c d.does.puts ≡ [] → Absent ds c → Absent (d ∷ ds) c
  absent_stays past s no_end none a = record {
    past = past;
    taken = s.taken ∙ a.taken;
    done = s.done ∙ a.done;
    none_waits = waits_more ds d c even p.starts p.kept ∙ (ap (λ es. waits ds c ++ es) none ∙ (append-nil (waits ds c) ∙ a.none_waits));
    no_end = ends_same ds d c no_end ∙ a.no_end;
    no_run = s.runner ∙ a.no_run;
  }

  -- a call opens, without a state of its own
  opened : (o : Opening) → d.does.opens ≡ Some o → (call_count ds == c) ≡ true → of_call c d.does.ends ≡ [] → Absent ds c
      → Known rule set o (d ∷ ds) c (of_call c d.does.puts)
  opened o opens here no_end a =
      let is : opens_call ds d c ≡ true = rw (opens, here) refl in
      let taken : events_taken (d ∷ ds) c ≡ [] = rw p.starts a.taken in
      let done : finished_since (d ∷ ds) c ≡ [] = rw is refl in
      let waiting : waits (d ∷ ds) c ≡ of_call c d.does.puts = waits_more ds d c even p.starts p.kept ∙ ap (λ es. es ++ of_call c d.does.puts) a.none_waits in
      let ends : ends_of (d ∷ ds) c ≡ [] = ends_same ds d c no_end ∙ a.no_end in
      record {
        state = rw (p.replaces, is) (ap (option_map (opened_state rule set)) opens);
        standing = at_rest (record {
          no_run = rw (p.starts, p.finishes) a.no_run;
          unended = rw ends refl;
          done = done ∙ sym taken;
          all = rw (taken, waiting) refl;
          still_open = rw taken refl;
        });
      }

  -- behind an entry that opens no call c
  still_past : opens_call ds d c ≡ false → call_count ds ≤ c → call_count (d ∷ ds) ≤ c
  still_past closed past = at d.does.opens closed
    where
      at : (o : Option Opening) → (is_some o && (call_count ds == c)) ≡ false → length (calls ds ++ option_to_list o) ≤ c
      at None is = omega (arith, past, length-append (calls ds) [])
      at (Some o) is = omega (arith, past, eqb-false (call_count ds) c is, length-append (calls ds) (o ∷ []))

  not_opened : c < call_count ds → opens_call ds d c ≡ false
  not_opened below = and_right (is_some d.does.opens) (call_count ds == c) (fresh ds c below)

  known_stays : (reach now : List Event) (o : Opening) → call_at ds c ≡ Some o → Puts ds d c reach now → Known rule set o ds c reach → Phase rule set (d ∷ ds) c now
  known_stays reach now o there put k =
      let below : c < call_count ds = slice_get_within (calls ds) c o there in
      let s : SameRuns rule set ds d c = same_runs rule set ds d c p (not_opened below) in
      is_there o (get_front (calls ds) (option_to_list d.does.opens) c below ∙ there)
      (record { state = s.state ∙ k.state; standing = standing_stays (opened_state rule set o) reach now s put k.standing })

  -- an entry that opens no call c and passes it by
  pub phase_stays : (reach now : List Event) → opens_call ds d c ≡ false → (c < call_count ds → Puts ds d c reach now)
      → (call_count ds ≤ c → (of_call c d.does.ends ≡ []) × (of_call c d.does.puts ≡ [])) → Phase rule set ds c reach → Phase rule set (d ∷ ds) c now
  phase_stays reach now closed put none (not_there a) =
      let nothing = none a.past in
      not_there (absent_stays (still_past closed a.past) (same_runs rule set ds d c p closed) nothing.0 nothing.1 a)
  phase_stays reach now closed put none (is_there o there k) = known_stays reach now o there (put (slice_get_within (calls ds) c o there)) k

  -- an entry that opens call c
  pub phase_opens : (now : List Event) (o : Opening) → d.does.opens ≡ Some o → (call_count ds == c) ≡ true → of_call c d.does.ends ≡ []
      → now ≡ of_call c d.does.puts → Absent ds c → Phase rule set (d ∷ ds) c now
  phase_opens now o opens here no_end is a =
      let last : call_at (d ∷ ds) c ≡ Some o =
      rw opens (ap (slice_get (calls ds ++ o ∷ [])) (sym (eqb-true (call_count ds) c here)) ∙ get_last (calls ds) o) in
      is_there o last (subst (Known rule set o (d ∷ ds) c) (sym is) (opened o opens here no_end a))

-- nothing is put
pub puts_nothing : (ds : List Deed) (d : Deed) (c : ℕ) (reach : List Event) → of_call c d.does.ends ≡ [] → of_call c d.does.puts ≡ [] → Puts ds d c reach reach
puts_nothing ds d c reach no_end none = record {
  no_end = no_end;
  more = λ unended. sym (append-nil reach) ∙ ap (λ es. reach ++ es) (sym none);
  none_late = λ ended. none;
  late = λ ended. prefix_self reach;
}
