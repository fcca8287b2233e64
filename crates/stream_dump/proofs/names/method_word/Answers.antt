use Rattle.std.proofs.Common.{ap, sym, ◌∙◌}
use Rattle.std.specs.Option.{option_map_or}
use Rattle.stream_dump.specs.Names.{Name, has_ids, id_text}
use Rattle.stream_dump.proofs.NameLemmas.{found_at, none_more}
use Rattle.stream_dump.proofs.names.method_word.Goals as goal

pub returns-then-has_ids : goal.returns-then-has_ids
returns-then-has_ids c =
    sym (ap (λ o. option_map_or (λ (n : Name). n.method) o (id_text c.args.method))
    (found_at (has_ids c.args.service c.args.method) c.args.names.now c.loop-name.name-index _ c.loop-name-test.true c.loop-name.invariant (sym c.has_ids.ensures ∙ c.if-has_ids.true)))

pub loop-name-preserved : goal.loop-name-preserved
loop-name-preserved c =
    none_more (has_ids c.args.service c.args.method) c.args.names.now c.loop-name.name-index _ c.loop-name-test.true c.loop-name.invariant (sym c.has_ids.ensures ∙ c.if-has_ids.false)
