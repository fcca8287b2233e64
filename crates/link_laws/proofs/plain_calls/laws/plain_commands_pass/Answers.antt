use Rattle.link_laws.specs.plain_calls.Commands.{KeepsAs}
use Rattle.link_laws.proofs.plain_calls.Commands.{plain_commands_pass}
use Rattle.link_laws.proofs.plain_calls.laws.plain_commands_pass.Goals as goal

pub returns : goal.returns
returns c = λ k books. plain_commands_pass k (KeepsAs books)
