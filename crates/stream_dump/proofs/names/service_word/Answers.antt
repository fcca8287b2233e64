use Rattle.std.proofs.Common.{ap, sym, ◌∙◌}
use Rattle.std.specs.Option.{option_map_or}
use Rattle.stream_dump.specs.Names.{Name, has_service, id_text}
use Rattle.stream_dump.proofs.NameLemmas.{found_at, none_more}
use Rattle.stream_dump.proofs.names.service_word.Goals as goal

pub returns-then-has_service : goal.returns-then-has_service
returns-then-has_service c =
    sym (ap (λ o. option_map_or (λ (n : Name). n.service) o (id_text c.args.service))
    (found_at (has_service c.args.service) c.args.names.now c.loop-name.name-index _ c.loop-name-test.true c.loop-name.invariant (sym c.has_service.ensures ∙ c.if-has_service.true)))

pub loop-name-preserved : goal.loop-name-preserved
loop-name-preserved c =
    none_more (has_service c.args.service) c.args.names.now c.loop-name.name-index _ c.loop-name-test.true c.loop-name.invariant (sym c.has_service.ensures ∙ c.if-has_service.false)
