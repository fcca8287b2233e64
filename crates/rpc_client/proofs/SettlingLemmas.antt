-- What the loop has done so far, and one work more.
use Rattle.std.proofs.Common.{◌≡◌, ℕ, ◌+◌, ◌-◌, ◌<◌, Bool, true, false, List, [], ◌∷◌, ◌++◌, length, Option, Some, None, is_some, if◌then◌else◌, Result, Ok, Err, refl, ap, sym, ◌∙◌, subst, inl, inr, arith, append_assoc, append-nil}
use Rattle.rpc_handlers.specs.declared.event.Event.{Event}
use Rattle.rpc_handlers.specs.HandlerRule.{HandlerRule}
use Rattle.rpc_journal.specs.declared.answers.StartRefused.{StartRefused}
use Rattle.rpc_journal.specs.declared.entry.Entry.{Entry}
use Rattle.rpc_journal.specs.declared.entry.EntryKind.TheVariants.{Start, Finish}
use Rattle.rpc_journal.specs.declared.entry.TheConstants.{MAX_ENTRIES}
use Rattle.rpc_journal.specs.History.{entry_by}
use Rattle.rpc_schedule.specs.Schedule.{run_seat}
use Rattle.rpc_schedule.specs.Serving.{Begins, Ends, Serving}
use Rattle.rpc_schedule.proofs.EntryLemmas.{length-push}
use Rattle.rpc_schedule.proofs.ServingLemmas.{below_full}
use Rattle.rpc_client.specs.Working.{WorksOn}
use Rattle.rpc_client.specs.Settling.{HandsOnAll, HandsOnUntil, Lists}

-- what was handed on so far
pub record HandedSo (rule : HandlerRule) (old : Serving) (before : List (ℕ × Event)) (now : Serving) (after : List (ℕ × Event)) : Type 0 where
  pub handed : List (ℕ × Event)
  pub all : HandsOnAll rule old handed now
  pub list : after ≡ before ++ handed

pub handed_none : (rule : HandlerRule) (s : Serving) (list : List (ℕ × Event)) → HandedSo rule s list s list
handed_none rule s list = record { handed = []; all = refl; list = sym (append-nil list) }

hands_on_more : (rule : HandlerRule) (old now next : Serving) (handed : List (ℕ × Event)) (more : ℕ × Event) → HandsOnAll rule old handed now
    → WorksOn rule now (Ok (Some more)) next → HandsOnAll rule old (handed ++ more ∷ []) next
hands_on_more rule old now next [] more same step = (next, subst (λ s. WorksOn rule s (Ok (Some more)) next) same step, refl)
hands_on_more rule old now next (first ∷ handed) more all step = (all.0, all.1, hands_on_more rule all.0 now next handed more all.2 step)

pub handed_more : (rule : HandlerRule) (old : Serving) (before : List (ℕ × Event)) (now : Serving) (list : List (ℕ × Event)) (next : Serving) (after : List (ℕ × Event))
    → HandedSo rule old before now list → Lists rule now list (Ok true) next after → HandedSo rule old before next after
handed_more rule old before now list next after so step = record {
  handed = so.handed ++ step.0 ∷ [];
  all = hands_on_more rule old now next so.handed step.0 so.all step.1;
  list = step.2 ∙ ap (λ l. l ++ step.0 ∷ []) so.list ∙ append_assoc before so.handed (step.0 ∷ []);
}

pub handed_all : (rule : HandlerRule) (old : Serving) (before : List (ℕ × Event)) (now : Serving) (list : List (ℕ × Event)) (next : Serving) (after : List (ℕ × Event))
    → (last : Result (Option (ℕ × Event)) StartRefused) → HandedSo rule old before now list → WorksOn rule now last next → after ≡ list
    → HandsOnUntil rule last old before next after
handed_all rule old before now list next after last so stops same =
    record { handed = so.handed; now = now; all = so.all; stops = stops; list = same ∙ so.list }

-- how many runs can still end, counted twice, and once more where one is kept
pub places_left : List Entry → Option ℕ → ℕ
places_left h kept = (MAX_ENTRIES - length h) + (MAX_ENTRIES - length h) + (if is_some kept then 1 else 0)

pub runs_left : Serving → ℕ
runs_left s = places_left s.table.entries s.kept

ended_left : (h : List Entry) (e : Entry) (kept : Option ℕ) (call : ℕ) → kept ≡ Some call → places_left (h ++ e ∷ []) None < places_left h kept
unfolding places_left
ended_left h e kept call some =
    subst (λ k. places_left (h ++ e ∷ []) None < places_left h k) (sym some) (omega (arith, length-push h e))

end_left : (rule : HandlerRule) (now next : Serving) → Ends rule now next → runs_left next < runs_left now
unfolding runs_left
end_left rule now next ends =
    subst (λ s. runs_left s < runs_left now) (sym ends.adds) (ended_left now.table.entries (entry_by run_seat (Finish ends.call ends.answer)) now.kept ends.call ends.kept)

began_left : (h : List Entry) (e : Entry) (call : ℕ) → length h < MAX_ENTRIES → places_left (h ++ e ∷ []) (Some call) < places_left h None
unfolding places_left
began_left h e call below = omega (arith, length-push h e, below)

begin_left : (now next : Serving) → Begins now next → runs_left next < runs_left now
unfolding runs_left
begin_left now next begins =
    subst (λ s. runs_left s < runs_left now) (sym begins.adds)
    (subst (λ k. places_left (now.table.entries ++ entry_by run_seat (Start begins.call) ∷ []) (Some begins.call) < places_left now.table.entries k) (sym begins.unkept)
    (began_left now.table.entries (entry_by run_seat (Start begins.call)) begins.call (below_full now.table.entries begins.room)))

pub fewer_left : (rule : HandlerRule) (now next : Serving) (handed : ℕ × Event) → WorksOn rule now (Ok (Some handed)) next → runs_left next < runs_left now
fewer_left rule now next handed (inl ended) = end_left rule now next ended.ends
fewer_left rule now next handed (inr ran) =
    let first = begin_left now ran.0 ran.1 in
    let ended = end_left rule ran.0 next ran.2.ends in
    omega (arith, first, ended)
