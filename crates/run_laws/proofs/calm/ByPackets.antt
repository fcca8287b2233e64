-- Whether packets are calm is told by the packets alone.
use Rattle.std.proofs.Common.{◌≡◌, ℕ, zero, suc, ◌+◌, Bool, true, false, not, ◌&&◌, ◌||◌, List, [], ◌∷◌, ◌++◌, reverse, slice_get, Some, IsTrue, refl, ap, sym, ◌∙◌, subst, arith, append_assoc}
use Rattle.std.proofs.lemmas.Bool.{true≢false, false≢true, and_from, and_parts, not-true}
use Rattle.std.proofs.lemmas.List.{reverse-append}
use Rattle.std.specs.List.{AllByRecursion, list_any}
use Rattle.rpc_ids.specs.declared.method.Role.TheVariants.{Server}
use Rattle.rpc_packet.specs.declared.call_name.CallName.{CallName}
use Rattle.rpc_packet.specs.declared.owned.Packet.{Packet}
use Rattle.rpc_handlers.specs.HandlerRule.{HandlerRule}
use Rattle.rpc_journal.specs.declared.entry.Entry.{Entry}
use Rattle.rpc_journal.specs.declared.setting.Setting.{Setting}
use Rattle.rpc_journal.specs.Calls.{call_at, calls, has_end, same_name}
use Rattle.rpc_journal.specs.Effect.{Deed, Opening}
use Rattle.rpc_journal.specs.History.{history}
use Rattle.rpc_journal.specs.Lawful.{is_request}
use Rattle.rpc_journal.specs.Rows.{method_named}
use Rattle.rpc_journal.specs.States.{opened_state}
use Rattle.rpc_journal.proofs.PlaceLemmas.{some_same}
use Rattle.rpc_journal.proofs.Push.{all-unreverse}
use Rattle.rpc_schedule.specs.OneThread.{Handled}
use Rattle.run_laws.specs.calm.Alone.{ToldByPackets, are_calm_behind, arrived, has_request, is_calm_behind, leave_open, puts_to, stays_open}
use Rattle.run_laws.specs.calm.Calm.{AreCalm, HasNoRequest, NoneEnded, is_client_error, is_ticking}
use Rattle.run_laws.proofs.calm.Drive.{AllCalm, AllCome, all_come, calm_whole}
use Rattle.run_laws.proofs.calm.Handling.{ended_shuts, has_handled, leaves_open_name}

-- the answers to all that these packets put to a call of this name leave it open
abbrev pub LeaveOpen : HandlerRule → Setting → List Packet → CallName → Type 0
LeaveOpen rule set earlier name =
    (c : ℕ) (o : Opening) → call_at (arrived set earlier) c ≡ Some o → same_name o.name name ≡ true
    → stays_open rule (opened_state rule set o) (puts_to (arrived set earlier) c) ≡ true

-- a packet is calm behind these, the newest first, as far as the packets tell
pub record FitsBehind (rule : HandlerRule) (set : Setting) (earlier : List Packet) (p : Packet) : Type 0 where
  pub no_error : is_client_error p.ptype ≡ false
  pub new_name : is_request p.ptype ≡ true → HasNoRequest p.name earlier
  pub no_tick : is_request p.ptype ≡ true → is_ticking (method_named set p.name) ≡ false
  pub unended : LeaveOpen rule set earlier p.name

abbrev pub AllFit : HandlerRule → Setting → List Packet → Type 0
AllFit rule set [] = Unit {0}
AllFit rule set (p ∷ earlier) = AllFit rule set earlier × FitsBehind rule set earlier p

-- What the test asks.
none_passes : (test : Packet → Bool) (packets : List Packet) → list_any test packets ≡ false → AllByRecursion (λ p. test p ≡ false) packets
none_passes test [] none = tt
none_passes test (p ∷ packets) none = let parts = neither (test p) (list_any test packets) none in (parts.0, none_passes test packets parts.1)
  where
    neither : (a b : Bool) → (a || b) ≡ false → (a ≡ false) × (b ≡ false)
    neither true b is = absurd (true≢false is)
    neither false b is = (refl, is)

passes_none : (test : Packet → Bool) (packets : List Packet) → AllByRecursion (λ p. test p ≡ false) packets → list_any test packets ≡ false
passes_none test [] none = refl
passes_none test (p ∷ packets) none = rw (none.0) (passes_none test packets none.1)

if_then : (a b : Bool) → (not a || b) ≡ true → a ≡ true → b ≡ true
if_then true b is holds = is
if_then false b is holds = absurd (false≢true holds)

then_if : (a b : Bool) → (a ≡ true → b ≡ true) → (not a || b) ≡ true
then_if true b then = then refl
then_if false b then = refl

module _ (rule : HandlerRule) (set : Setting) (ds : List Deed) (name : CallName) where
  -- the call with number n + k is the one at k of these
  opens_at : (n : ℕ) (os : List Opening) → leave_open rule set ds name n os ≡ true → (k : ℕ) (o : Opening) → slice_get os k ≡ Some o → same_name o.name name ≡ true
      → stays_open rule (opened_state rule set o) (puts_to ds (n + k)) ≡ true
  opens_at n [] all k o there same = absurd cc
  opens_at n (x ∷ os) all zero o there same =
      let parts = and_parts (not (same_name x.name name) || stays_open rule (opened_state rule set x) (puts_to ds n)) (leave_open rule set ds name (n + 1) os) all in
      let it : x ≡ o = some_same x o there in
      let first : (not (same_name o.name name) || stays_open rule (opened_state rule set o) (puts_to ds n)) ≡ true =
      subst (λ (y : Opening). (not (same_name y.name name) || stays_open rule (opened_state rule set y) (puts_to ds n)) ≡ true) it parts.0 in
      let place : n ≡ n + 0 = omega arith in
      subst (λ j. stays_open rule (opened_state rule set o) (puts_to ds j) ≡ true) place (if_then (same_name o.name name) _ first same)
  opens_at n (x ∷ os) all (suc k) o there same =
      let parts = and_parts (not (same_name x.name name) || stays_open rule (opened_state rule set x) (puts_to ds n)) (leave_open rule set ds name (n + 1) os) all in
      let place : (n + 1) + k ≡ n + suc k = omega arith in
      subst (λ j. stays_open rule (opened_state rule set o) (puts_to ds j) ≡ true) place (opens_at (n + 1) os parts.1 k o there same)

  all_open : (n : ℕ) (os : List Opening)
      → ((k : ℕ) (o : Opening) → slice_get os k ≡ Some o → same_name o.name name ≡ true → stays_open rule (opened_state rule set o) (puts_to ds (n + k)) ≡ true)
      → leave_open rule set ds name n os ≡ true
  all_open n [] each = refl
  all_open n (o ∷ os) each =
      let place : n + 0 ≡ n = omega arith in
      and_from _ _
      (then_if (same_name o.name name) _ (λ same. subst (λ j. stays_open rule (opened_state rule set o) (puts_to ds j) ≡ true) place (each 0 o refl same)))
      (all_open (n + 1) os (λ k x there same. later k x (each (suc k) x there same)))
    where
      later : (k : ℕ) (x : Opening) → stays_open rule (opened_state rule set x) (puts_to ds (n + suc k)) ≡ true
          → stays_open rule (opened_state rule set x) (puts_to ds ((n + 1) + k)) ≡ true
      later k x is = let place : n + suc k ≡ (n + 1) + k = omega arith in subst (λ j. stays_open rule (opened_state rule set x) (puts_to ds j) ≡ true) place is

module _ (rule : HandlerRule) (set : Setting) where
  tested : (qs : List Packet) (p : Packet) → is_calm_behind rule set qs p ≡ true → FitsBehind rule set qs p
  tested qs p is =
      let ends = and_parts _ (leave_open rule set (arrived set qs) p.name 0 (calls (arrived set qs))) is in
      let parts = and_parts (not (is_client_error p.ptype)) (not (is_request p.ptype) || (not (has_request p.name qs) && not (is_ticking (method_named set p.name)))) ends.0 in
      record {
        no_error = not-true _ parts.0;
        new_name = λ request. none_passes _ qs (not-true _ (and_parts _ _ (if_then (is_request p.ptype) _ parts.1 request)).0);
        no_tick = λ request. not-true _ (and_parts _ _ (if_then (is_request p.ptype) _ parts.1 request)).1;
        unended = λ c o there same. here c o (opens_at rule set (arrived set qs) p.name 0 (calls (arrived set qs)) ends.1 c o there same);
      }
    where
      here : (c : ℕ) (o : Opening) → stays_open rule (opened_state rule set o) (puts_to (arrived set qs) (0 + c)) ≡ true
          → stays_open rule (opened_state rule set o) (puts_to (arrived set qs) c) ≡ true
      here c o is = let place : 0 + c ≡ c = omega arith in subst (λ j. stays_open rule (opened_state rule set o) (puts_to (arrived set qs) j) ≡ true) place is

  passes : (qs : List Packet) (p : Packet) → FitsBehind rule set qs p → is_calm_behind rule set qs p ≡ true
  passes qs p fits =
      and_from _ _
      (and_from _ _ (ap not fits.no_error)
      (then_if (is_request p.ptype) _ (λ request. and_from _ _ (ap not (passes_none _ qs (fits.new_name request))) (ap not (fits.no_tick request)))))
      (all_open rule set (arrived set qs) p.name 0 (calls (arrived set qs)) (λ k o there same. here k o (fits.unended k o there same)))
    where
      here : (k : ℕ) (o : Opening) → stays_open rule (opened_state rule set o) (puts_to (arrived set qs) k) ≡ true
          → stays_open rule (opened_state rule set o) (puts_to (arrived set qs) (0 + k)) ≡ true
      here k o is = let place : k ≡ 0 + k = omega arith in subst (λ j. stays_open rule (opened_state rule set o) (puts_to (arrived set qs) j) ≡ true) place is

  all_tested : (qs : List Packet) → are_calm_behind rule set qs ≡ true → AllFit rule set qs
  all_tested [] is = tt
  all_tested (p ∷ qs) is = let parts = and_parts (are_calm_behind rule set qs) (is_calm_behind rule set qs p) is in (all_tested qs parts.0, tested qs p parts.1)

  all_pass : (qs : List Packet) → AllFit rule set qs → are_calm_behind rule set qs ≡ true
  all_pass [] fit = refl
  all_pass (p ∷ qs) fit = and_from (are_calm_behind rule set qs) (is_calm_behind rule set qs p) (all_pass qs fit.0) (passes qs p fit.1)

module _ (rule : HandlerRule) (set : Setting) (role : set.role ≡ Server) (ruled : IsTrue rule.ruled) where
  pub fit_come : (qs : List Packet) → AllFit rule set qs → AllCome set qs
  fit_come [] fit = tt
  fit_come (p ∷ qs) fit = (fit_come qs fit.0, record { no_error = fit.1.no_error; new_name = fit.1.new_name; no_tick = fit.1.no_tick })

  -- the packets before others, the newest first
  fit_older : (new qs : List Packet) → AllFit rule set (new ++ qs) → AllFit rule set qs
  fit_older [] qs fit = fit
  fit_older (p ∷ new) qs fit = fit_older new qs fit.0

  none_ended : (earlier : List Packet) (p : Packet) → AllFit rule set (reverse earlier) → FitsBehind rule set (reverse earlier) p
      → (h : List Entry) → Handled rule set (reverse earlier) h → NoneEnded (history set h) p.name
  none_ended earlier p fit fits h handled c o there same = at (has_end (history set h) c) refl
    where
      at : (b : Bool) → has_end (history set h) c ≡ b → has_end (history set h) c ≡ false
      at false is = is
      at true is =
          let has = has_handled rule set role ruled (reverse earlier) h (fit_come (reverse earlier) fit) handled in
          let open_still = fits.unended c o (ap (λ xs. slice_get xs c) (sym has.follow.same_calls) ∙ there) same in
          absurd (true≢false (sym open_still ∙ ended_shuts rule set (history set h) (reverse earlier) has.follow has.input c o there is))

  pub enough : (packets : List Packet) → AllFit rule set (reverse packets) → AreCalm rule set packets
  enough packets fit earlier later p split =
      let order : reverse packets ≡ reverse later ++ p ∷ reverse earlier =
      ap reverse split ∙ (reverse-append earlier (p ∷ later) ∙ (ap (λ ps. ps ++ reverse earlier) (reverse-append (p ∷ []) later) ∙ append_assoc (reverse later) (p ∷ []) (reverse earlier))) in
      let here = fit_older (reverse later) (p ∷ reverse earlier) (subst (AllFit rule set) order fit) in
      record {
        no_error = here.1.no_error;
        new_name = λ is. all-unreverse _ earlier (here.1.new_name is);
        no_tick = here.1.no_tick;
        unended = none_ended earlier p here.0 here.1;
      }

  needed : (qs : List Packet) → AllCalm rule set qs → AllFit rule set qs
  needed [] calm = tt
  needed (p ∷ qs) calm =
      let come = (all_come rule set (p ∷ qs) calm) in (
        needed qs calm.0,
        record { no_error = come.1.no_error; new_name = come.1.new_name; no_tick = come.1.no_tick; unended = leaves_open_name rule set role ruled qs p come.0 calm.1 },
      )

pub told_by_packets : ToldByPackets
told_by_packets = record {
  enough = λ rule set packets role ruled is. enough rule set role ruled packets (all_tested rule set (reverse packets) is);
  needed = λ rule set packets role ruled calm. all_pass rule set (reverse packets) (needed rule set role ruled (reverse packets) (calm_whole rule set packets calm));
}
