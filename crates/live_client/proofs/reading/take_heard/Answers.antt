use Rattle.std.proofs.Common.{◌++◌, refl, sym, ap, ◌∙◌}
use Rattle.std.proofs.lemmas.List.{append-nil}
use Rattle.std.specs.Option.{option_to_list}
use Rattle.turn_cell.proofs.Calls.{same_self}
use Rattle.rpc_journal.specs.Items.{arrivals}
use Rattle.live_client.proofs.WakeLemmas.{rang_none}
use Rattle.live_client.proofs.reading.take_heard.Goals as goal

pub returns-in-None-clause-arrived : goal.returns-in-None-clause-arrived
returns-in-None-clause-arrived g c =
    sym (ap (λ o. arrivals c.args.pass.now.view.known.mine ++ option_to_list o) c.in-None.is ∙ append-nil (arrivals c.args.pass.now.view.known.mine))

pub returns-in-None-clause-same : goal.returns-in-None-clause-same
returns-in-None-clause-same g c = same_self c.args.pass.now

pub returns-in-None-clause-rung : goal.returns-in-None-clause-rung
returns-in-None-clause-rung g c = rang_none c.args.bell.now c.args.pass.now c.args.pass.now refl
