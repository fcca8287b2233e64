use Rattle.std.proofs.Common.{ap, sym, ◌∙◌}
use Rattle.rpc_journal.specs.Items.{arrivals}
use Rattle.live_client.proofs.WakeLemmas.{rang_more, rang_none}
use Rattle.live_client.proofs.reading.feed_source.Goals as goal

pub returns-then-is_err-clause-rung : goal.returns-then-is_err-clause-rung
returns-then-is_err-clause-rung g c = rang_none c.args.bell.now c.args.pass.now c.see_call.new.pass (ap arrivals (c.see_call.ensures.none ∙ sym c.requires.new.mine))

pub returns-clause-rung : goal.returns-clause-rung
returns-clause-rung g c =
    rang_more 0 c.args.bell.now c.args.bell.now c.feed_stream.new.bell c.args.pass.now c.see_call.new.pass c.feed_stream.new.pass
    (rang_none c.args.bell.now c.args.pass.now c.see_call.new.pass (ap arrivals (c.see_call.ensures.none ∙ sym c.requires.new.mine))) c.feed_stream.ensures.rung
