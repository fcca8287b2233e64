use Rattle.std.proofs.Common.{◌≡◌, ℕ, ◌+◌, ◌==◌, ◌++◌, ◌∙◌, List, [], Option, Some, None, is_some, if◌then◌else◌, flat_map, length, take, ap, arith, length-append, refl, sym, Bor}
use Rattle.std.specs.Option.{option_copied, option_to_list}
use Rattle.rpc_journal.specs.Calls.{of_call}
use Rattle.link_laws.specs.world.Lines.{message_in}
use Rattle.link_world.proofs.client.MailLemmas.{more}
use Rattle.link_world.proofs.client.questions.count_messages.Goals as goal
use Rattle.link_world.proofs.client.questions.count_messages.Goals.{then-is_some, else-is_some}

sized : {A : Type 0} (r : Option (Bor A)) → length (option_to_list (option_copied r)) ≡ (if is_some r then 1 else 0)
sized None = refl
sized (Some x) = refl

-- so many messages more as the event is
counted_more : (before now : List (List ℕ)) (one : List (List ℕ)) (n : ℕ) → now ≡ before ++ one → length one ≡ n → length now ≡ length before + n
counted_more before now one n is some = omega (arith, ap length is, length-append before one, some)

pub events-preserved : goal.events-preserved
events-preserved c =
    let events = c.args.events.now in
    let i = c.events.of-index in
    let x = c.events-item.result in
    let step = more message_in c.args.call events i x c.events-test.true c.events-item.is in
    let one = ap length (sym c.message_to.ensures) ∙ sized c.message_to.result in
    elim c.if-is_some.branch [
      | then-is_some w ↦
          let size = one ∙ ap (λ b. if b then 1 else 0) (sym c.is_some.ensures ∙ w.if-is_some.true) in
          let all = counted_more (flat_map message_in (of_call c.args.call (take i events))) (flat_map message_in (of_call c.args.call (take (i + 1) events))) (if x.0 == c.args.call then message_in x.1 else []) 1 step size in
          record { within = omega (arith, c.events.invariant.within, w.count-is); counted = omega (arith, c.events.invariant.counted, w.count-is, all) }
      | else-is_some w ↦
          let size = one ∙ ap (λ b. if b then 1 else 0) (sym c.is_some.ensures ∙ w.if-is_some.false) in
          let all = counted_more (flat_map message_in (of_call c.args.call (take i events))) (flat_map message_in (of_call c.args.call (take (i + 1) events))) (if x.0 == c.args.call then message_in x.1 else []) 0 step size in
          record { within = omega (arith, c.events.invariant.within, w.count-is); counted = omega (arith, c.events.invariant.counted, w.count-is, all) }
    ]
