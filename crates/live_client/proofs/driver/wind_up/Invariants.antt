use Rattle.std.proofs.Common.{◌≡◌, ◌≤◌, ℕ, true, false, List, Option}
use Rattle.link_io.specs.Stored.{Stored}
use Rattle.turn_cell.specs.Passes.{IsSame}
use Rattle.rpc_journal.specs.declared.entry.EntryKind.{EntryKind}
use Rattle.live_client.specs.Driving.{CanDrive, Works}
use Rattle.live_client.specs.asks.Telling.{said_all}
use Rattle.live_client.proofs.driver.wind_up.Given as goal

abbrev pub invariant-loop : goal.invariant-loop
invariant-loop g l = record {
  can : CanDrive l.table l.call l.pass;
  same : IsSame l.fn.pass l.pass;
  ready : g.W.Errand.ready l.errand;
  origin : g.W.Errand.origin l.errand ≡ g.W.Errand.origin l.fn.errand;
  short : g.W.Errand.short l.errand ≡ g.W.Errand.short l.fn.errand;
  done : g.O.Sink.finished l.output ≡ true;
  sink_later : g.O.Sink.faults l.fn.output ≤ g.O.Sink.faults l.output;
  store_later : g.S.Store.faults l.fn.store ≤ g.S.Store.faults l.store;
  works :
      (opening : EntryKind) (start upto : ℕ) (w0 : Option (List ℕ)) (d0 : Option Stored) (f0 g0 : ℕ)
      → Works g.W.Errand.watches opening (g.W.Errand.did l.fn.errand said_all start upto) l.table l.call true true w0 (g.O.Sink.written l.fn.output) d0 (g.S.Store.holds l.fn.store) f0 (g.O.Sink.faults l.fn.output) g0 (g.S.Store.faults l.fn.store) l.fn.pass
      → Works g.W.Errand.watches opening (g.W.Errand.did l.errand said_all start upto) l.table l.call true true w0 (g.O.Sink.written l.output) d0 (g.S.Store.holds l.store) f0 (g.O.Sink.faults l.output) g0 (g.S.Store.faults l.store) l.pass;
  uncut :
      (opening : EntryKind) (start upto : ℕ) (w0 : Option (List ℕ)) (d0 : Option Stored) (f0 g0 : ℕ)
      → Works g.W.Errand.watches opening (g.W.Errand.did l.fn.errand said_all start upto) l.table l.call true true w0 (g.O.Sink.written l.fn.output) d0 (g.S.Store.holds l.fn.store) f0 (g.O.Sink.faults l.fn.output) g0 (g.S.Store.faults l.fn.store) l.fn.pass
      → g.W.Errand.cuts l.fn.errand ≡ false → g.W.Errand.cuts l.errand ≡ false;
}
