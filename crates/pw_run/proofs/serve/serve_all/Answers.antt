use Rattle.std.proofs.Common.{◌≡◌, ◌+◌, ◌-◌, None, refl, inl, arith}
use Rattle.pw_run.proofs.LinkCounts.{either_rose, rose_later, rose_on, served_on}
use Rattle.pw_run.proofs.ServeLemmas.{all_served, one_more, stopped_at}
use Rattle.pw_run.proofs.serve.serve_all.Goals as goal

pub returns-in_default : goal.returns-in_default
returns-in_default g c =
    let links = g.N.Linker.links in
    let before = c.loop-number.invariant in
    let next = c.serve_next.ensures in
    let number = c.loop-number.number in
    let on = served_on c.args.way c.args.workers (number - 1) _ _ (before.all None) in
    record {
      words = next.words;
      serves = λ left.
          stopped_at c.args.way c.args.workers c.args.connections number _ _ _ c.serve_next.result before.begun (omega (arith, c.loop-number-test.true))
          (before.all left) (next.did left) c.in_default.not-Done;
      source = λ is.
          rose_on (links c.args.net.now).in_faults (links c.loop-number.net).in_faults (links c.serve_next.new.net).in_faults on.source (next.source is);
      sink = λ is.
          either_rose (links c.args.net.now).out_faults (links c.loop-number.net).out_faults (links c.serve_next.new.net).out_faults
          (g.O.Sink.faults c.args.output.now) (g.O.Sink.faults c.loop-number.output) (g.O.Sink.faults c.serve_next.new.output)
          on.sink before.sink_later (next.sink is);
      store = λ is.
          rose_later (g.S.Store.faults c.args.store.now) (g.S.Store.faults c.loop-number.store) (g.S.Store.faults c.serve_next.new.store)
          before.store_later (next.store is);
      linker = λ is.
          rose_later (links c.args.net.now).faults (links c.loop-number.net).faults (links c.serve_next.new.net).faults
          before.linker_later (next.linker is);
      linker_later = omega (arith, before.linker_later, next.linker_later);
      sink_later = omega (arith, before.sink_later, next.sink_later);
      store_later = omega (arith, before.store_later, next.store_later);
    }

pub loop-number-preserved : goal.loop-number-preserved
loop-number-preserved g c =
    let before = c.loop-number.invariant in
    let next = c.serve_next.ensures in
    record {
      begun = omega arith;
      within = omega (arith, c.loop-number-test.true);
      all = λ left. one_more c.args.way c.args.workers c.loop-number.number _ _ _ before.begun (before.all left) (c.in-Done.ensures.did left);
      unfinished = next.open;
      listens = next.listens;
      linker_later = omega (arith, before.linker_later, next.linker_later);
      sink_later = omega (arith, before.sink_later, next.sink_later);
      store_later = omega (arith, before.store_later, next.store_later);
    }

pub returns-in-Done-clause-serves : goal.returns-in-Done-clause-serves
returns-in-Done-clause-serves g c left =
    let before = c.loop-number.invariant in
    let last : c.loop-number.number + 1 ≡ c.args.connections + 1 = omega (arith, c.loop-number-test.true) in
    inl (
      refl,
      all_served c.args.way c.args.workers c.args.connections (c.loop-number.number + 1) _ _ last
          (one_more c.args.way c.args.workers c.loop-number.number _ _ _ before.begun (before.all left) (c.in-Done.ensures.did left)),
    )
