use Rattle.std.proofs.Common.{◌≡◌, ℕ, ◌==◌, ◌∷◌, ◌++◌, ◌∙◌, List, [], IfOk, Result, Ok, Err, if◌then◌else◌, flat_map, ap, sym}
use Rattle.std.specs.Prelude.{MatchResult, slice_get, unwrap_or}
use Rattle.rpc_journal.specs.Calls.{of_call}
use Rattle.link_laws.specs.world.Lines.{message_in}
use Rattle.link_world.proofs.client.MailLemmas.{among_from, more}
use Rattle.link_world.proofs.client.questions.first_message.Goals as goal

pub events-preserved : goal.events-preserved
events-preserved c =
    more message_in c.args.call c.args.events.now c.events.of-index c.events-item.result c.events-test.true c.events-item.is
    ∙ (ap (λ before. before ++ (if c.events-item.result.0 == c.args.call then message_in c.events-item.result.1 else [])) c.events.invariant ∙ sym c.in-None.ensures)

-- the first of all is the first found
first_is : (before one rest all : List (List ℕ)) (payload : List ℕ) → all ≡ (before ++ one) ++ rest → before ≡ [] → payload ∷ [] ≡ one
    → unwrap_or (slice_get all 0) [] ≡ payload
first_is before one rest all payload is none found =
    ap (λ xs. unwrap_or (slice_get xs 0) []) (is ∙ (ap (λ xs. (xs ++ one) ++ rest) none ∙ ap (λ xs. xs ++ rest) (sym found)))

copied : {E : Type 0} (Q : E → Type 0) (r : Result (List ℕ) E) (payload first : List ℕ) → MatchResult r (λ copy. copy ≡ payload) Q → first ≡ payload
    → IfOk r (λ bytes. bytes ≡ first)
copied Q (Ok bytes) payload first is same = is ∙ sym same
copied Q (Err e) payload first is same = tt

pub returns-in-Some : goal.returns-in-Some
returns-in-Some c =
    let all = among_from message_in c.args.call c.args.events.now c.events.of-index c.events-item.result c.events-test.true c.events-item.is in
    copied _ c.clone.result c.in-Some.payload.now (unwrap_or (slice_get (flat_map message_in (of_call c.args.call c.args.events.now)) 0) [])
    c.clone.ensures.cases (first_is _ _ _ _ _ all c.events.invariant c.in-Some.ensures)
