-- Where one thread has handled calm packets: it has taken all that they put to each call, and what waits of a name is open.
use Rattle.std.proofs.Common.{◌≡◌, ℕ, Bool, true, false, List, [], ◌∷◌, ◌++◌, reverse, slice_get, Option, Some, None, is_some, IsTrue, option_to_list, if◌then◌else◌, refl, ap, sym, ◌∙◌, subst, arith}
use Rattle.std.proofs.lemmas.Bool.{true≢false, false≢true}
use Rattle.std.proofs.lemmas.List.{append-nil, reverse-reverse}
use Rattle.std.proofs.lemmas.Option.{slice_get_within}
use Rattle.rpc_ids.specs.declared.method.Role.TheVariants.{Server}
use Rattle.rpc_packet.specs.declared.call_name.CallName.{CallName}
use Rattle.rpc_packet.specs.declared.owned.Packet.{Packet}
use Rattle.rpc_handlers.specs.declared.event.Event.{Event}
use Rattle.rpc_handlers.specs.declared.event.Memo.{Memo}
use Rattle.rpc_handlers.specs.HandlerRule.{HandlerRule}
use Rattle.rpc_journal.specs.declared.entry.Entry.{Entry}
use Rattle.rpc_journal.specs.declared.setting.Setting.{Setting}
use Rattle.rpc_journal.specs.Calls.{call_at, call_count, calls, has_end, last_call, opens_named, runner_of, same_name}
use Rattle.rpc_journal.specs.Effect.{Deed, Opening}
use Rattle.rpc_journal.specs.History.{history}
use Rattle.rpc_journal.specs.Items.{input_ended}
use Rattle.rpc_journal.specs.States.{opened_state}
use Rattle.rpc_journal.proofs.PlaceLemmas.{get_front, get_last, some_same}
use Rattle.rpc_schedule.specs.OneThread.{Handled}
use Rattle.rpc_schedule.proofs.ThereLemmas.{history_is_there}
use Rattle.run_laws.specs.calm.Alone.{arrived, puts_to, stays_open}
use Rattle.run_laws.specs.calm.Calm.{IsCalmBehind}
use Rattle.run_laws.specs.calm.Taken.{events_taken}
use Rattle.run_laws.proofs.calm.Compare.{open_begin}
use Rattle.run_laws.proofs.calm.Drive.{AllCome, follow_all, handled_over, handled_rests, over_waits}
use Rattle.run_laws.proofs.calm.Follow.{Follows, reach}
use Rattle.run_laws.proofs.calm.Phases.{Phase, Standing}
use Rattle.run_laws.proofs.calm.Phases.Phase.{is_there, not_there}
use Rattle.run_laws.proofs.calm.Phases.Standing.{at_end, at_rest, at_work}
use Rattle.run_laws.proofs.calm.Words.{waits}

-- the last call of a name is there, and has the name
pub last_named : (ds : List Deed) (name : CallName) (c : ℕ) → last_call ds name ≡ Some c → (o : Opening) × (call_at ds c ≡ Some o) × (same_name o.name name ≡ true)
last_named [] name c is = absurd cc
last_named (d ∷ ds) name c is = at d.does.opens is (λ earlier. last_named ds name c earlier)
  where
    at : (o : Option Opening) → (if opens_named name o then Some (call_count ds) else last_call ds name) ≡ Some c
        → (last_call ds name ≡ Some c → (x : Opening) × (call_at ds c ≡ Some x) × (same_name x.name name ≡ true))
        → (x : Opening) × (slice_get (calls ds ++ option_to_list o) c ≡ Some x) × (same_name x.name name ≡ true)
    at None is rest =
        let before = rest is in
        (before.0, ap (λ xs. slice_get xs c) (append-nil (calls ds)) ∙ before.1, before.2)
    at (Some o) is rest = named (same_name o.name name) refl is
      where
        named : (b : Bool) → same_name o.name name ≡ b → (if b then Some (call_count ds) else last_call ds name) ≡ Some c
            → (x : Opening) × (slice_get (calls ds ++ o ∷ []) c ≡ Some x) × (same_name x.name name ≡ true)
        named true same is = (o, ap (slice_get (calls ds ++ o ∷ [])) (sym (some_same (call_count ds) c is)) ∙ get_last (calls ds) o, same)
        named false apart is =
            let before = rest is in
            (before.0, get_front (calls ds) (o ∷ []) c (slice_get_within (calls ds) c before.0 before.1) ∙ before.1, before.2)

module _ (rule : HandlerRule) (set : Setting) (ds : List Deed) (qs : List Packet) (follow : Follows rule set ds qs) (input : input_ended ds ≡ false) (c : ℕ) (o : Opening)
    (there : call_at ds c ≡ Some o) where
  abbrev m : Memo
  m = opened_state rule set o

  abbrev put : List Event
  put = puts_to (arrived set qs) c

  all_put : reach set qs ds c ≡ put
  all_put = rw input (append-nil put)

  standing : Standing rule set m ds c put
  standing = at (follow.each c)
    where
      at : Phase rule set ds c (reach set qs ds c) → Standing rule set m ds c put
      at (not_there a) = absurd (omega (arith, a.past, slice_get_within (calls ds) c o there))
      at (is_there x is k) =
          subst (λ y. Standing rule set (opened_state rule set y) ds c put) (some_same x o (sym is ∙ there))
          (subst (Standing rule set (opened_state rule set x) ds c) all_put k.standing)

  -- the answers to what packets put to a call with an end end it
  pub ended_shuts : has_end ds c ≡ true → stays_open rule m put ≡ false
  ended_shuts ends = at standing (stays_open rule m put) refl
    where
      at : Standing rule set m ds c put → (b : Bool) → stays_open rule m put ≡ b → stays_open rule m put ≡ false
      at s false is = is
      at (at_rest i) true is = absurd (true≢false (sym ends ∙ i.unended))
      at (at_work b) true is = absurd (true≢false (sym ends ∙ b.unended))
      at (at_end k) true is = absurd (true≢false (sym (open_begin rule m (events_taken ds c) put k.begin is) ∙ k.shut))

  -- they leave a call open that has no end, where all that was put is taken
  pub unended_leaves : has_end ds c ≡ false → waits ds c ≡ [] → runner_of ds c ≡ None → stays_open rule m put ≡ true
  unended_leaves unended none no_run = at standing
    where
      at : Standing rule set m ds c put → stays_open rule m put ≡ true
      at (at_rest i) =
          let all : events_taken ds c ≡ put = sym (append-nil (events_taken ds c)) ∙ (ap (λ ws. events_taken ds c ++ ws) (sym none) ∙ i.all) in
          subst (λ es. stays_open rule m es ≡ true) all i.still_open
      at (at_work b) = absurd (false≢true (sym (ap is_some no_run) ∙ b.on))
      at (at_end k) = absurd (true≢false (sym k.ended ∙ unended))

module _ (rule : HandlerRule) (set : Setting) (role : set.role ≡ Server) (ruled : IsTrue rule.ruled) where
  -- where one thread has handled packets, the newest first
  pub record HasHandled (qs : List Packet) (h : List Entry) : Type 0 where
    pub follow : Follows rule set (history set h) qs
    pub input : input_ended (history set h) ≡ false
    pub none_waits : (c : ℕ) → waits (history set h) c ≡ []
    pub no_run : (c : ℕ) → runner_of (history set h) c ≡ None

  pub has_handled : (qs : List Packet) (h : List Entry) → AllCome set qs → Handled rule set qs h → HasHandled qs h
  has_handled qs h come handled =
      let rests = handled_rests rule set ruled qs h come handled in
      let follow = subst (Follows rule set (history set h)) rests.heard (follow_all rule set role (reverse h) rests.steps) in
      record {
        follow = follow;
        input = rests.input;
        none_waits = over_waits rule set ruled h qs (handled_over rule set ruled qs h handled) rests.no_run follow;
        no_run = rests.no_run;
      }

  -- one thread can handle them
  pub handling : (qs : List Packet) → (h : List Entry) × Handled rule set (reverse (reverse qs)) h
  handling qs = let whole = history_is_there rule set (reverse qs) in (whole.1.before, whole.1.handled)

  in_order : (qs : List Packet) (h : List Entry) → Handled rule set (reverse (reverse qs)) h → Handled rule set qs h
  in_order qs h handled = subst (λ ps. Handled rule set ps h) (reverse-reverse qs) handled

  -- behind calm packets, the answers to what was put to a call of a calm packet's name leave it open
  pub leaves_open_name : (qs : List Packet) (p : Packet) → AllCome set qs → IsCalmBehind rule set (reverse qs) p → (c : ℕ) (o : Opening) → call_at (arrived set qs) c ≡ Some o
      → same_name o.name p.name ≡ true → stays_open rule (opened_state rule set o) (puts_to (arrived set qs) c) ≡ true
  leaves_open_name qs p come calm c o there same =
      let one = handling qs in
      let has = has_handled qs one.0 come (in_order qs one.0 one.1) in
      let there_one : call_at (history set one.0) c ≡ Some o = ap (λ xs. slice_get xs c) has.follow.same_calls ∙ there in
      unended_leaves rule set (history set one.0) qs has.follow has.input c o there_one (calm.unended one.0 one.1 c o there_one same) (has.none_waits c) (has.no_run c)

  -- so no call of the name has an end in any history that follows them
  pub name_open : (ds : List Deed) (qs : List Packet) (p : Packet) → Follows rule set ds qs → input_ended ds ≡ false → AllCome set qs → IsCalmBehind rule set (reverse qs) p
      → (c : ℕ) → last_call ds p.name ≡ Some c → has_end ds c ≡ false
  name_open ds qs p follow input come calm c last = at (has_end ds c) refl
    where
      named : (o : Opening) × (call_at ds c ≡ Some o) × (same_name o.name p.name ≡ true)
      named = last_named ds p.name c last

      at : (b : Bool) → has_end ds c ≡ b → has_end ds c ≡ false
      at false is = is
      at true is =
          let there : call_at (arrived set qs) c ≡ Some named.0 = ap (λ xs. slice_get xs c) (sym follow.same_calls) ∙ named.1 in
          absurd (true≢false (sym (leaves_open_name qs p come calm c named.0 there named.2) ∙ ended_shuts rule set ds qs follow input c named.0 named.1 is))
