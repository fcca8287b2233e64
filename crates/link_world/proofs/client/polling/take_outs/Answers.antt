use Rattle.std.proofs.Common.{◌≡◌, suc, [], ◌∷◌, ◌++◌, length, map, ap, sym, ◌∙◌, subst, arith, append_assoc, append-nil, length-append}
use Rattle.task_core.specs.Tasks.{StandsFor}
use Rattle.link_world.specs.client.OnePoll.{with_taken}
use Rattle.link_world.proofs.client.OnePollLemmas.{none_left}
use Rattle.link_world.proofs.client.polling.take_outs.Goals as goal

pub outs-preserved : goal.outs-preserved
outs-preserved c =
    let out = c.in-Some.out in
    let more : length c.push.new.self.items ≡ suc (length c.outs.outs.items) = ap length c.in_ok-push.ensures.items ∙ omega (arith, length-append c.outs.outs.items (out ∷ [])) in
    record {
      said = c.outs.invariant.said
          ∙ (ap (λ outs. c.outs.outs.items ++ map (λ said. said.1) outs) c.in-Some.ensures.first
          ∙ (sym (append_assoc c.outs.outs.items (out ∷ []) (map (λ said. said.1) c.take_out.new.self.outs))
          ∙ ap (λ items. items ++ map (λ said. said.1) c.take_out.new.self.outs) (sym c.in_ok-push.ensures.items)));
      stands = λ log stands.
          subst (λ n. StandsFor c.take_out.new.self (with_taken n log)) (sym more)
          (c.in-Some.ensures.takes (with_taken (length c.outs.outs.items) log) (c.outs.invariant.stands log stands));
      keeps = record {
        moment = c.in-Some.ensures.keeps.moment ∙ c.outs.invariant.keeps.moment;
        keys = λ k. c.in-Some.ensures.keeps.keys k ∙ c.outs.invariant.keeps.keys k;
      };
    }

-- where nothing was taken out, nothing is there
pub returns-clause-none : goal.returns-clause-none
returns-clause-none c = λ log stands.
    let at = with_taken (length c.outs.outs.items) log in
    let same : c.outs.tasks.outs ≡ c.take_out.new.self.outs = c.in_default.ensures.first in
    none_left at c.outs.tasks c.take_out.new.self (c.outs.invariant.stands log stands) (c.in_default.ensures.takes at (c.outs.invariant.stands log stands)) same

pub returns-clause-outs : goal.returns-clause-outs
returns-clause-outs c = λ log stands.
    let at = with_taken (length c.outs.outs.items) log in
    let same : c.outs.tasks.outs ≡ c.take_out.new.self.outs = c.in_default.ensures.first in
    let none : c.take_out.new.self.outs ≡ [] =
    none_left at c.outs.tasks c.take_out.new.self (c.outs.invariant.stands log stands) (c.in_default.ensures.takes at (c.outs.invariant.stands log stands)) same in
    sym (c.outs.invariant.said ∙ (ap (λ outs. c.outs.outs.items ++ map (λ said. said.1) outs) (same ∙ none) ∙ append-nil c.outs.outs.items))

pub returns-clause-stands : goal.returns-clause-stands
returns-clause-stands c = λ log stands. c.in_default.ensures.takes (with_taken (length c.outs.outs.items) log) (c.outs.invariant.stands log stands)
