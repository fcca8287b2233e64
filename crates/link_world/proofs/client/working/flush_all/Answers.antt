use Rattle.std.proofs.Common.{refl}
use Rattle.rpc_ids.specs.declared.method.Role.TheVariants.{Client as client_role}
use Rattle.rpc_journal.specs.Items.{items_flushed}
use Rattle.rpc_schedule.specs.Serving.{deeds}
use Rattle.rpc_schedule.proofs.LoopLemmas.{one_item_more}
use Rattle.rpc_schedule.proofs.ServingLemmas.{flush_steps}
use Rattle.link_world.proofs.server.OutLemmas.{goes_out_none, goes_out_one}
use Rattle.link_world.proofs.client.PassLemmas.{flushes_more, flushes_none}
use Rattle.link_world.proofs.client.working.flush_all.Goals as goal

pub items-init : goal.items-init
items-init c = record {
  so = flushes_none c.args.desk.now.client.serving c.requires.orderly;
  items = c.requires.items;
  same = refl;
  out = goes_out_none client_role c.args.desk.now.items.items c.args.wires.now;
  holds = λ st before. before;
  fed = λ bytes fed. fed;
}

pub items-smaller : goal.items-smaller
items-smaller c =
    (flush_steps c.items.desk.client.serving c.next_out.new.self.serving c.in-Some.item c.items.invariant.so.passes.orderly c.in-Some.ensures.step).fewer

pub items-preserved : goal.items-preserved
items-preserved c =
    let step = flush_steps c.items.desk.client.serving c.next_out.new.self.serving c.in-Some.item c.items.invariant.so.passes.orderly c.in-Some.ensures.step in
    record {
      so = flushes_more c.args.desk.now.client.serving c.items.desk.client.serving c.next_out.new.self.serving c.in-Some.item c.items.invariant.so c.in-Some.ensures.step;
      items = one_item_more c.take_out.new.items.items c.items.desk.items.items (items_flushed (deeds c.items.desk.client.serving)) (items_flushed (deeds c.next_out.new.self.serving)) c.in-Some.item c.in_ok-take_out.ensures.items c.items.invariant.items step.items;
      same = c.items.invariant.same;
      out = goes_out_one client_role c.args.desk.now.items.items c.items.desk.items.items c.take_out.new.items.items c.args.wires.now c.items.wires c.take_out.new.wires c.in-Some.item
          c.items.invariant.out c.in_ok-take_out.ensures.items c.in_ok-take_out.ensures.wires;
      holds = λ st before. c.in_ok-take_out.ensures.holds st (c.items.invariant.holds st before);
      fed = λ bytes was. c.in-Some.ensures.fed bytes (c.items.invariant.fed bytes was);
    }
