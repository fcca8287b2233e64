use Rattle.std.proofs.Common.{◌≡◌, Err, ◌∙◌, arith}
use Rattle.rpc_journal.specs.Items.{items_flushed}
use Rattle.rpc_schedule.specs.Serving.{deeds}
use Rattle.link_io.specs.declared.store.StoreRefused.TheVariants.{Failed}
use Rattle.rpc_schedule.proofs.LoopLemmas.{flush_stops, flushes_on_more, one_item_more}
use Rattle.rpc_schedule.proofs.SentLemmas.{sends_flushed, sent_since}
use Rattle.rpc_schedule.proofs.ServingLemmas.{flush_steps}
use Rattle.rpc_schedule.proofs.StreamLemmas.{handed_on}
use Rattle.rpc_schedule.proofs.ends.FedLemmas.{on_err}
use Rattle.rpc_schedule.proofs.settling.flush_all.Goals as goal

pub items-smaller : goal.items-smaller
items-smaller g c =
    let seen = g.T.Serves.seen in
    (flush_steps (seen c.items.server) (seen c.next_out.new.self) c.in-Some.item c.items.invariant.on.orderly c.in-Some.ensures.step).fewer

pub items-preserved : goal.items-preserved
items-preserved g c =
    let seen = g.T.Serves.seen in
    let step = flush_steps (seen c.items.server) (seen c.next_out.new.self) c.in-Some.item c.items.invariant.on.orderly c.in-Some.ensures.step in
    record {
      on = flushes_on_more g.T.Serves.rule (seen c.args.server.now) (seen c.items.server) (seen c.next_out.new.self) c.in-Some.item c.items.invariant.on c.in-Some.ensures.step;
      items = one_item_more c.take.new.items.items c.items.items.items (items_flushed (deeds (seen c.items.server))) (items_flushed (deeds (seen c.next_out.new.self))) c.in-Some.item c.in_ok-take.ensures.ok c.items.invariant.items step.items;
      later = omega (arith, c.in_ok-take.ensures.later, c.items.invariant.later);
      holds = λ st before. c.in_ok-take.ensures.holds st (c.items.invariant.holds st before);
      fed = λ s stands. c.in-Some.ensures.fed s (c.items.invariant.fed s stands);
    }

pub returns-in_err-take-clause-fails : goal.returns-in_err-take-clause-fails
returns-in_err-take-clause-fails g c = λ failed.
    let seen = g.T.Serves.seen in
    let stopped : c.take.result ≡ Err Failed = handed_on c.from_residual.result c.take.result c.in_err-take.field-0.0 Failed c.in_err-take.was c.from_residual.ensures failed in
    flush_stops g.T.Serves.rule (seen c.args.server.now) (seen c.items.server) (seen c.next_out.new.self) c.items.items.items c.take.new.items.items c.in-Some.item c.items.invariant.on
    c.in-Some.ensures.step (c.take.ensures.action stopped) c.in_err-take.ensures.err c.items.invariant.items

pub returns-in_err-take-clause-sent : goal.returns-in_err-take-clause-sent
returns-in_err-take-clause-sent g c =
    let seen = g.T.Serves.seen in
    on_err _ c.from_residual.result
    (sent_since (seen c.items.server) (seen c.next_out.new.self) c.take.new.items.items (c.in_err-take.ensures.err ∙ c.items.invariant.items)
    (sends_flushed (seen c.items.server) (seen c.next_out.new.self) c.in-Some.item c.in-Some.ensures.step))
