use Rattle.std.proofs.Common.{◌≡◌, false, ◌∙◌, insert, count_by, nat_lt, sym, ap, subst, arith}
use Rattle.std.proofs.lemmas.Grind.{common_steps}
use Rattle.rpc_channel.specs.Rising.{IsRising, has_id}
use Rattle.rpc_channel.proofs.Order.{insert_with_id, IsRising-with_id}
use Rattle.rpc_channel.proofs.channels.Channels.add.Goals as goal

pub returns-clause-ok : goal.returns-clause-ok
returns-clause-ok c =
    let rising = subst IsRising c.self.view_is c.self.invariant.0 in
    let new : has_id c.args.self.now c.args.id ≡ false = cc (c.is_in.ensures, c.if-is_in.false) in
    let items : c.insert.new.self.items ≡ insert c.self.inside.ids.items c.place_of-place.result c.args.id =
    rw c.if-is_err.ensures.negation at c.insert.ensures.items in
    let place : c.place_of-place.result ≡ count_by (λ x. nat_lt x c.args.id) c.self.inside.ids.items =
    c.place_of-place.ensures ∙ ap (count_by (λ x. nat_lt x c.args.id)) c.deref.ensures.value in
    items ∙ rw (place, c.self.view_is) (insert_with_id _ _ rising new)

pub invariant_of-self-2 : goal.invariant_of-self-2
invariant_of-self-2 c = (
  subst IsRising (sym (returns-clause-ok c)) (IsRising-with_id _ _ (subst IsRising c.self.view_is c.self.invariant.0)),
  grind (arith, common_steps),
)
