use Rattle.std.proofs.Common.{◌≡◌, ℕ, ◌+◌, ◌-◌, ◌≤◌, true, false, List, Option}
use Rattle.pw_run.specs.Devices.{devices}
use Rattle.pw_run.specs.Serve.{ServesAll}
use Rattle.pw_run.proofs.serve.serve_all.Given as goal

abbrev pub invariant-loop-number : goal.invariant-loop-number
invariant-loop-number g l = record {
  begun : 1 ≤ l.number;
  within : l.number ≤ l.connections + 1;
  all : (left : Option (List ℕ)) → ServesAll l.way l.workers (l.number - 1)
      (devices left (g.O.Sink.written l.fn.output) (g.O.Sink.faults l.fn.output) (g.S.Store.holds l.fn.store) (g.N.Linker.links l.fn.net) (g.C.Clock.last l.fn.clock))
      (devices left (g.O.Sink.written l.output) (g.O.Sink.faults l.output) (g.S.Store.holds l.store) (g.N.Linker.links l.net) (g.C.Clock.last l.clock));
  unfinished : g.O.Sink.finished l.output ≡ false;
  listens : (g.N.Linker.links l.net).listens ≡ true;
  linker_later : (g.N.Linker.links l.fn.net).faults ≤ (g.N.Linker.links l.net).faults;
  sink_later : g.O.Sink.faults l.fn.output ≤ g.O.Sink.faults l.output;
  store_later : g.S.Store.faults l.fn.store ≤ g.S.Store.faults l.store;
}
