-- How lines are read one by one.
use Rattle.std.proofs.Common.{◌≡◌, ℕ, suc, ◌+◌, List, [], ◌∷◌, ◌++◌, refl, ap, sym, ◌∙◌, arith, subst, append_assoc}
use Rattle.frame_router.specs.declared.port.Port.{Port}
use Rattle.frame_router.specs.declared.routes.Route.{Route}
use Rattle.frame_router.specs.Routed.{RouterView}
use Rattle.frame_router.specs.declared.text.line.Step.{Step}
use Rattle.frame_router.specs.text.Flows.{Flows, no_flows}
use Rattle.frame_router.specs.text.Following.{FollowsBoth, RunsAll}
use Rattle.frame_router.specs.text.Lines.{AreSteps, no_steps, one_step, HasBadLine, bad_route, behind_route, HasNoStepAt, stray_line, behind_step, IsPrinted, then_steps, one_route, IsRouteLine, IsStepLine, MayAdd, MayNotAdd, with_route}
use Rattle.frame_router.specs.text.Printed.{after_step, end_lines, printed, step_lines}
use Rattle.frame_router.proofs.text.StepLemmas.{at_routes, on_step}

-- the steps of which some were done, and these lines are left
pub record RunsOn (routes : List Route) (lines rest : List (List ℕ)) (so_far : List ℕ) (flows : Flows) (count : ℕ) : Type 0 where
  pub forth : (steps : List Step) → AreSteps rest steps → (all : List Step) × AreSteps lines all × (printed routes no_flows all ≡ so_far ++ printed routes flows steps)
  pub wrong : (k : ℕ) → HasNoStepAt rest k → HasNoStepAt lines (count + k)

pub runs_start : (routes : List Route) (lines : List (List ℕ)) (count : ℕ) → count ≡ 0 → RunsOn routes lines lines [] no_flows count
runs_start routes lines count none = record {
  forth = λ steps are. (steps, are, refl);
  wrong = λ k h. let e : k ≡ count + k = omega (arith, none) in subst (HasNoStepAt lines) e h;
}

-- one more step was done
runs_more : (routes : List Route) (lines : List (List ℕ)) (line : List ℕ) (rest : List (List ℕ)) (so_far : List ℕ) (flows : Flows) (step : Step) (count next : ℕ) →
    RunsOn routes lines (line ∷ rest) so_far flows count → IsStepLine line step → next ≡ count + 1 →
    RunsOn routes lines rest (so_far ++ step_lines step flows) (after_step routes step flows) next
runs_more routes lines line rest so_far flows step count next runs is further = record {
  forth = λ steps are.
      let r = runs.forth (step ∷ steps) (one_step line step rest steps is are) in
      (r.0, r.1, r.2 ∙ sym (append_assoc so_far (step_lines step flows) (printed routes (after_step routes step flows) steps)));
  wrong = λ k h.
      let e : count + suc k ≡ next + k = omega (arith, further) in
      subst (HasNoStepAt lines) e (runs.wrong (suc k) (behind_step line step rest k is h));
}

-- what was printed so far, and the router that the steps so far have made
abbrev pub RunsTo : List Route → List (List ℕ) → List (List ℕ) → RouterView → List ℕ → List ℕ → ℕ → Type 0
RunsTo routes lines rest router text_old text_now count =
    (so_far : List ℕ) × (flows : Flows) × (text_now ≡ text_old ++ so_far) × FollowsBoth routes router flows × RunsOn routes lines rest so_far flows count

-- the router did one more step
pub runs_step : (routes : List Route) (lines : List (List ℕ)) (line : List ℕ) (rest : List (List ℕ)) (old new : RouterView) (text_old text_now text_new : List ℕ) (step : Step) (count next : ℕ) →
    RunsTo routes lines (line ∷ rest) old text_old text_now count → IsStepLine line step → next ≡ count + 1 →
    ((flows : Flows) → FollowsBoth old.routes old flows → FollowsBoth old.routes new (after_step old.routes step flows)) →
    ((flows : Flows) → FollowsBoth old.routes old flows → text_new ≡ text_now ++ step_lines step flows) → RunsTo routes lines rest new text_old text_new next
runs_step routes lines line rest old new text_old text_now text_new step count next (so_far, flows, wrote, follows, runs) is further goes tells = (
  so_far ++ step_lines step flows,
  after_step routes step flows,
  tells flows (at_routes routes old flows follows) ∙ (ap (λ l. l ++ step_lines step flows) wrote ∙ append_assoc text_old so_far (step_lines step flows)),
  on_step routes old new flows step follows goes,
  runs_more routes lines line rest so_far flows step count next runs is further,
)

-- no line is left
pub runs_done : (routes : List Route) (lines rest : List (List ℕ)) (router : RouterView) (text_old text_new so_far : List ℕ) (flows : Flows) (count : ℕ) →
    RunsOn routes lines rest so_far flows count → rest ≡ [] → FollowsBoth routes router flows → text_new ≡ text_old ++ so_far →
    RunsAll routes lines router text_old text_new
runs_done routes lines rest router text_old text_new so_far flows count runs none follows wrote =
    let r = runs.forth [] (subst (λ l. AreSteps l []) (sym none) no_steps) in
    record { steps = r.0; are = r.1; flows = flows; follows = follows; so_far = so_far; wrote = wrote; whole = r.2 }

-- a line that is no step
pub runs_stray : (routes : List Route) (lines : List (List ℕ)) (line : List ℕ) (rest : List (List ℕ)) (so_far : List ℕ) (flows : Flows) (count : ℕ) →
    RunsOn routes lines (line ∷ rest) so_far flows count → ((step : Step) → IsStepLine line step → ⊥) → HasNoStepAt lines count
runs_stray routes lines line rest so_far flows count runs none =
    let e : count + 0 ≡ count = omega arith in
    subst (HasNoStepAt lines) e (runs.wrong 0 (stray_line line rest none))

-- what was printed of all steps, and of the end
pub all_printed : (routes : List Route) (lines : List (List ℕ)) (router : RouterView) (text_old text_new whole : List ℕ) → text_old ≡ [] →
    (runs : RunsAll routes lines router text_old text_new) → whole ≡ text_new ++ end_lines routes runs.flows → IsPrinted routes lines whole
all_printed routes lines router text_old text_new whole empty runs is =
    let same : whole ≡ printed routes no_flows runs.steps =
    is ∙ (ap (λ l. l ++ end_lines routes runs.flows) (runs.wrote ∙ ap (λ l. l ++ runs.so_far) empty) ∙ sym runs.whole) in
    subst (IsPrinted routes lines) (sym same) (then_steps routes lines runs.steps runs.are)

-- the routes of which some were added, and these lines are left
pub record ReadsOn (first : List Route) (lines : List (List ℕ)) (routes : List Route) (rest : List (List ℕ)) (count : ℕ) : Type 0 where
  pub forth : (text : List ℕ) → IsPrinted routes rest text → IsPrinted first lines text
  pub wrong : (k : ℕ) → HasBadLine routes rest k → HasBadLine first lines (count + k)

pub reads_start : (routes : List Route) (lines : List (List ℕ)) (count : ℕ) → count ≡ 0 → ReadsOn routes lines routes lines count
reads_start routes lines count none = record {
  forth = λ text h. h;
  wrong = λ k h. let e : k ≡ count + k = omega (arith, none) in subst (HasBadLine routes lines) e h;
}

-- one more route was added
pub reads_more : (first : List Route) (lines : List (List ℕ)) (routes after : List Route) (line : List ℕ) (port : Port) (address : ℕ) (rest : List (List ℕ)) (count next : ℕ) →
    ReadsOn first lines routes (line ∷ rest) count → IsRouteLine line port address → MayAdd routes address → after ≡ with_route routes port address → next ≡ count + 1 →
    ReadsOn first lines after rest next
reads_more first lines routes after line port address rest count next reads is may added further = record {
  forth = λ text h. reads.forth text (one_route routes line port address rest text is may (subst (λ rs. IsPrinted rs rest text) added h));
  wrong = λ k h.
      let e : count + suc k ≡ next + k = omega (arith, further) in
      subst (HasBadLine first lines) e (reads.wrong (suc k) (behind_route routes line port address rest k is may (subst (λ rs. HasBadLine rs rest k) added h)));
}

-- a route that may not be added
pub reads_refused : (first : List Route) (lines : List (List ℕ)) (routes : List Route) (line : List ℕ) (port : Port) (address : ℕ) (rest : List (List ℕ)) (count : ℕ) →
    ReadsOn first lines routes (line ∷ rest) count → IsRouteLine line port address → MayNotAdd routes address → HasBadLine first lines count
reads_refused first lines routes line port address rest count reads is refused =
    let e : count + 0 ≡ count = omega arith in
    subst (HasBadLine first lines) e (reads.wrong 0 (bad_route routes line port address rest is refused))
