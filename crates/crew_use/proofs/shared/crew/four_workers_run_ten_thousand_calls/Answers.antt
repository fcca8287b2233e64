use Rattle.std.proofs.Common.{◌∙◌}
use Rattle.crew_use.proofs.shared.crew.four_workers_run_ten_thousand_calls.Goals as goal

pub close-calls-requires : goal.close-calls-requires
close-calls-requires g c = record {
  all = record { count = c.crew-passes.ensures.count ∙ c.in-Ok.ensures.passes.count; each = c.crew-passes.ensures.idle };
}
