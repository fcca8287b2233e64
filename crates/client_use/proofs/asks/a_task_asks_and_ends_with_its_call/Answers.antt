use Rattle.std.proofs.Common.{◌∙◌, ap, arith}
use Rattle.client_use.proofs.asks.a_task_asks_and_ends_with_its_call.Goals as goal

pub go_on-requires-clause-fits : goal.go_on-requires-clause-fits
go_on-requires-clause-fits g c =
    c.next_out.ensures.fits c.in_ok-bells.bells
    (record {
      own = ap (λ ear. ear.table) (c.in_ok-errand.ensures.ear ∙ c.in_ok-bells.ensures.ear);
      word = omega (arith, c.in_ok-bells.ensures.made.0);
    })

pub go_on-requires-2-clause-fits : goal.go_on-requires-2-clause-fits
go_on-requires-2-clause-fits g c =
    c.hear.ensures.fits c.in_ok-bells.bells (c.next_out-3.ensures.fits c.in_ok-bells.bells (c.next_out-2.ensures.fits c.in_ok-bells.bells c.go_on.ensures.fits))
