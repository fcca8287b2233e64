use Rattle.std.proofs.Common.{◌≡◌, ◌≤◌, ℕ, false, List, Option}
use Rattle.link_io.specs.Stored.{Stored}
use Rattle.turn_cell.specs.Passes.{IsSame}
use Rattle.rpc_journal.specs.declared.entry.EntryKind.{EntryKind}
use Rattle.live_client.specs.Driving.{CanDrive, Works}
use Rattle.live_client.specs.asks.Telling.{Progress}
use Rattle.live_client.proofs.driver.converse.Given as goal

abbrev pub invariant-loop : goal.invariant-loop
invariant-loop g l = record {
  can : CanDrive l.table l.call l.pass;
  same : IsSame l.fn.pass l.pass;
  ready : g.W.Errand.ready l.errand;
  origin : g.W.Errand.origin l.errand ≡ g.W.Errand.origin l.fn.errand;
  fits : g.W.Errand.fits l.errand l.wakes.bells;
  past : g.W.Errand.moment l.errand ≤ g.C.Clock.last l.clock;
  uncut : g.W.Errand.cuts l.errand ≡ false;
  whole : g.W.Errand.short l.errand ≡ false;
  more : g.O.Sink.finished l.output ≡ false;
  later : g.C.Clock.last l.fn.clock ≤ g.C.Clock.last l.clock;
  sink_later : g.O.Sink.faults l.fn.output ≤ g.O.Sink.faults l.output;
  store_later : g.S.Store.faults l.fn.store ≤ g.S.Store.faults l.store;
  works :
      (opening : EntryKind) (all : Progress) (start : ℕ) (w0 : Option (List ℕ)) (d0 : Option Stored) (f0 g0 : ℕ) → start ≤ g.C.Clock.last l.fn.clock
      → Works g.W.Errand.watches opening (g.W.Errand.did l.fn.errand all start (g.C.Clock.last l.fn.clock)) l.table l.call false false w0 (g.O.Sink.written l.fn.output) d0 (g.S.Store.holds l.fn.store) f0 (g.O.Sink.faults l.fn.output) g0 (g.S.Store.faults l.fn.store) l.fn.pass
      → (some : Progress) × Works g.W.Errand.watches opening (g.W.Errand.did l.errand some start (g.C.Clock.last l.clock)) l.table l.call false false w0 (g.O.Sink.written l.output) d0 (g.S.Store.holds l.store) f0 (g.O.Sink.faults l.output) g0 (g.S.Store.faults l.store) l.pass;
}
