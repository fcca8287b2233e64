use Rattle.std.proofs.Common.{◌≡◌, subst, slice_index_or, arith}
use Rattle.live_client.proofs.TableLemmas.{two_of}
use Rattle.live_client.proofs.table.apart.Goals as goal

pub returns-clause-parts : goal.returns-clause-parts
returns-clause-parts c =
    two_of c.args.passes.items c.remove-reader.result c.remove-driver.result (omega (arith, c.args.passes.ok, c.requires)) c.remove-driver.ensures.value
    (subst (λ l. c.remove-reader.result ≡ slice_index_or l 0 c.remove-reader.result) c.remove-driver.ensures.items c.remove-reader.ensures.value)
