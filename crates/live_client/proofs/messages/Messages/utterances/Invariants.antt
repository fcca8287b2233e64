use Rattle.std.proofs.Common.{◌≡◌, ◌++◌, map}
use Rattle.rpc_handlers.specs.declared.answer.Out.TheVariants.{Say}
use Rattle.live_client.specs.declared.asks.utterance.Utterance.TheVariants.{Says}
use Rattle.live_client.proofs.messages.Messages.utterances.Given as goal

abbrev pub invariant-loop-message : goal.invariant-loop-message
invariant-loop-message l = l.says.items ++ map (λ message. Says (Say message)) l.message-iterator.rest.items ≡ map (λ message. Says (Say message)) l.fn.self
