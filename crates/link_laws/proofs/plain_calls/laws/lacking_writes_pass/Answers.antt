use Rattle.link_laws.specs.plain_calls.Commands.{KeepsAs}
use Rattle.link_laws.proofs.plain_calls.Commands.{lacking_writes_pass}
use Rattle.link_laws.proofs.plain_calls.laws.lacking_writes_pass.Goals as goal

pub returns : goal.returns
returns c = λ k books. lacking_writes_pass k (KeepsAs books)
