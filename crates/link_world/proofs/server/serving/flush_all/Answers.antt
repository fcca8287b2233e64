use Rattle.rpc_ids.specs.declared.method.Role.TheVariants.{Server as server_role}
use Rattle.rpc_journal.specs.Items.{items_flushed}
use Rattle.rpc_schedule.specs.Serving.{deeds}
use Rattle.rpc_schedule.proofs.LoopLemmas.{flushes_on_from, flushes_on_more, one_item_more}
use Rattle.rpc_schedule.proofs.ServingLemmas.{flush_steps}
use Rattle.link_world.proofs.server.OutLemmas.{goes_out_none, goes_out_one}
use Rattle.link_world.proofs.server.serving.flush_all.Goals as goal

pub items-init : goal.items-init
items-init g c = record {
  on = flushes_on_from g.T.Serves.rule (g.T.Serves.seen c.args.server.now) c.requires.orderly;
  items = c.requires.items;
  out = goes_out_none server_role c.args.items.now.items c.args.wires.now;
  holds = λ st before. before;
  fed = λ s stands. stands;
}

pub items-smaller : goal.items-smaller
items-smaller g c =
    let seen = g.T.Serves.seen in
    (flush_steps (seen c.items.server) (seen c.next_out.new.self) c.in-Some.item c.items.invariant.on.orderly c.in-Some.ensures.step).fewer

pub items-preserved : goal.items-preserved
items-preserved g c =
    let seen = g.T.Serves.seen in
    let step = flush_steps (seen c.items.server) (seen c.next_out.new.self) c.in-Some.item c.items.invariant.on.orderly c.in-Some.ensures.step in
    record {
      on = flushes_on_more g.T.Serves.rule (seen c.args.server.now) (seen c.items.server) (seen c.next_out.new.self) c.in-Some.item c.items.invariant.on c.in-Some.ensures.step;
      items = one_item_more c.take_out.new.items.items c.items.items.items (items_flushed (deeds (seen c.items.server))) (items_flushed (deeds (seen c.next_out.new.self))) c.in-Some.item c.in_ok-take_out.ensures.items c.items.invariant.items step.items;
      out = goes_out_one server_role c.args.items.now.items c.items.items.items c.take_out.new.items.items c.args.wires.now c.items.wires c.take_out.new.wires c.in-Some.item
          c.items.invariant.out c.in_ok-take_out.ensures.items c.in_ok-take_out.ensures.wires;
      holds = λ st before. c.in_ok-take_out.ensures.holds st (c.items.invariant.holds st before);
      fed = λ s stands. c.in-Some.ensures.fed s (c.items.invariant.fed s stands);
    }
