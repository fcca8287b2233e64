use Rattle.std.proofs.Common.{◌≡◌, ◌+◌, ◌*◌, ◌%◌, ◌^◌, refl, ◌∙◌, ap, sym, drop, get_or, arith, length}
use Rattle.std.proofs.Math.Nat.{mod-add-mod}
use Rattle.std.proofs.lemmas.List.{at_drop_more}
use Rattle.rpc_ids.specs.Names.{name_id, sum_of_powers}
use Rattle.rpc_ids.proofs.HashLemmas.{wrapped_step, next_power}
use Rattle.rpc_ids.proofs.name_hash.hash_name.Goals as goal

pub loop-byte-init : goal.loop-byte-init
unfolding name_id
loop-byte-init c = record {
  leads_on = mod-add-mod (length c.args.name.now) (2 ^ 32) (sum_of_powers 1 c.args.name.now);
  power = refl;
}

pub loop-byte-preserved : goal.loop-byte-preserved
loop-byte-preserved c = record {
  leads_on =
      let i = c.loop-byte.byte-index in
      let name = c.args.name.now in
      let rest = sum_of_powers (i + 1 + 1) (drop (i + 1) name) in
      let next : (c.loop-byte.hash + sum_of_powers (i + 1) (drop i name)) % 2 ^ 32 ≡ (c.loop-byte.hash + (get_or name i 0 * 65599 ^ (i + 1) + rest)) % 2 ^ 32 =
      ap (λ s. (c.loop-byte.hash + s) % 2 ^ 32) (at_drop_more (sum_of_powers (i + 1)) name i 0 (omega arith)) in
      ap (λ b. ((c.loop-byte.hash + (b * c.loop-byte.power) % 2 ^ 32) % 2 ^ 32 + rest) % 2 ^ 32) c.from.ensures
      ∙ (wrapped_step c.loop-byte.hash (get_or name i 0) c.loop-byte.power (65599 ^ (i + 1)) rest (2 ^ 32) c.loop-byte.invariant.power
      ∙ (sym next ∙ c.loop-byte.invariant.leads_on));
  power = next_power _ 65599 _ _ c.loop-byte.invariant.power;
}
