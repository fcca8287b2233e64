use Rattle.std.proofs.Common.{◌≡◌, true, false, is_none, is_ok, refl, sym, ap, ◌∙◌, subst}
use Rattle.turn_cell.specs.Passes.{AllFit, AreAll, IsIdle, IsNew}
use Rattle.turn_cell.proofs.Calls.{same_trans}
use Rattle.rpc_journal.specs.Laws.{seat_of}
use Rattle.rpc_shared.specs.Steps.{base_of, log_of}
use Rattle.rpc_shared.specs.session.Sessions.{is_halted}
use Rattle.live_client.specs.Ask.{live_name, live_setting, opens, setting_with}
use Rattle.live_client.specs.Ran.{HasRun}
use Rattle.live_client.specs.Told.{HasTold}
use Rattle.live_client.proofs.FeedLemmas.{fed_nothing}
use Rattle.live_client.proofs.RunLemmas.{both_idle, driver_uncut, has_run, run_ends, run_well, why_halted, why_told}
use Rattle.live_client.proofs.running.run_live.Goals as goal

pub open_call-requires-clause-new : goal.open_call-requires-clause-new
open_call-requires-clause-new g c =
    let r = c.in_ok-table.table in
    let new = subst (AreAll r (IsNew r)) c.apart-reader.ensures.parts c.in_ok-table.ensures.passes in
    new.each 1 c.apart-reader.result.driver refl

pub run_both-requires-clause-new : goal.run_both-requires-clause-new
run_both-requires-clause-new g c κs within =
    let r = c.in_ok-table.table in
    let new = subst (AreAll r (IsNew r)) c.apart-reader.ensures.parts c.in_ok-table.ensures.passes in
    new.each 0 c.apart-reader.result.reader refl

pub run_both-requires-clause-fed : goal.run_both-requires-clause-fed
run_both-requires-clause-fed g c κs within =
    let r = c.in_ok-table.table in
    let new = subst (AreAll r (IsNew r)) c.apart-reader.ensures.parts c.in_ok-table.ensures.passes in
    fed_nothing c.in_ok-listener.listener c.apart-reader.result.reader c.in_ok-listener.ensures.role c.in_ok-listener.ensures.heard (new.each 0 c.apart-reader.result.reader refl).mine

pub close-calls-requires : goal.close-calls-requires
close-calls-requires g c =
    let r = c.in_ok-table.table in
    let new = subst (AreAll r (IsNew r)) c.apart-reader.ensures.parts c.in_ok-table.ensures.passes in
    let e = c.run_both.ensures in
    record {
      all =
          subst (AreAll r (IsIdle r)) (sym c.together.ensures)
          (both_idle r c.apart-reader.result.reader c.apart-reader.result.driver c.run_both.new.reader c.run_both.new.driver new e.reader.1 e.reader.0.stands.own.idle
          (same_trans c.apart-reader.result.driver c.open_call.new.pass c.run_both.new.driver c.open_call.ensures.same e.can.1) e.can.0.stands.own.idle);
    }

pub why_of-requires : goal.why_of-requires
why_of-requires g c =
    let r = c.in_ok-table.table in
    let e = c.run_both.ensures in
    let last = g.C.Clock.last in
    let base = c.in_ok-table.ensures.turn.1 ∙ ap setting_with c.requires.methods in
    let ends = run_ends c.args.method r base g.W.Errand.watches c.args.payload c.in-Some.call c.open_call.new.pass c.run_both.new.reader c.run_both.new.driver c.in-Some.ensures.opens
    (g.W.Errand.did c.args.errand.now) (g.W.Errand.did c.run_both.new.errand) (g.W.Errand.cuts c.run_both.new.errand) (last c.args.clock.now) (last c.run_both.new.clock)
    (g.I.Source.left c.args.link_in.now) (g.I.Source.left c.run_both.new.input) (g.O.Sink.written c.args.link_out.now) (g.O.Sink.written c.run_both.new.output) (g.S.Store.holds c.args.store.now) (g.S.Store.holds c.run_both.new.store)
    (g.O.Sink.faults c.args.link_out.now) (g.O.Sink.faults c.run_both.new.output) (g.S.Store.faults c.args.store.now) (g.S.Store.faults c.run_both.new.store) c.run_both.result.0.ending c.run_both.result.0.read c.run_both.new.listener
    (c.requires.fresh (last c.args.clock.now) (last c.args.clock.now)) e.reader.0 e.read c.run_both.result.1 e.drove e.settled e.halted c.close-calls.result
    (subst (λ l. AllFit log_of seat_of base_of l c.close-calls.result) c.together.ensures c.close-calls.ensures.fits) c.close-calls.ensures.setting c.close-calls.ensures.legal in
    λ none. ends.known (ap is_none (sym (why_halted c.args.method c.close-calls.result.setting c.close-calls.result.entries c.halted.result (c.close-calls.ensures.setting ∙ base) c.halted.ensures)) ∙ none)

pub returns-clause-ran : goal.returns-clause-ran
returns-clause-ran g c =
    let r = c.in_ok-table.table in
    let e = c.run_both.ensures in
    let last = g.C.Clock.last in
    let base = c.in_ok-table.ensures.turn.1 ∙ ap setting_with c.requires.methods in
    let ends = run_ends c.args.method r base g.W.Errand.watches c.args.payload c.in-Some.call c.open_call.new.pass c.run_both.new.reader c.run_both.new.driver c.in-Some.ensures.opens
    (g.W.Errand.did c.args.errand.now) (g.W.Errand.did c.run_both.new.errand) (g.W.Errand.cuts c.run_both.new.errand) (last c.args.clock.now) (last c.run_both.new.clock)
    (g.I.Source.left c.args.link_in.now) (g.I.Source.left c.run_both.new.input) (g.O.Sink.written c.args.link_out.now) (g.O.Sink.written c.run_both.new.output) (g.S.Store.holds c.args.store.now) (g.S.Store.holds c.run_both.new.store)
    (g.O.Sink.faults c.args.link_out.now) (g.O.Sink.faults c.run_both.new.output) (g.S.Store.faults c.args.store.now) (g.S.Store.faults c.run_both.new.store) c.run_both.result.0.ending c.run_both.result.0.read c.run_both.new.listener
    (c.requires.fresh (last c.args.clock.now) (last c.args.clock.now)) e.reader.0 e.read c.run_both.result.1 e.drove e.settled e.halted c.close-calls.result
    (subst (λ l. AllFit log_of seat_of base_of l c.close-calls.result) c.together.ensures c.close-calls.ensures.fits) c.close-calls.ensures.setting c.close-calls.ensures.legal in
    subst (HasRun c.args.method g.W.Errand.watches (opens c.args.method c.args.payload) (g.I.Source.left c.args.link_in.now) (g.I.Source.left c.run_both.new.input) (g.O.Sink.written c.args.link_out.now) (g.O.Sink.written c.run_both.new.output) (g.S.Store.holds c.args.store.now) (g.S.Store.holds c.run_both.new.store)
    (g.I.Source.faults c.args.link_in.now) (g.I.Source.faults c.run_both.new.input) (g.O.Sink.faults c.args.link_out.now) (g.O.Sink.faults c.run_both.new.output) (g.S.Store.faults c.args.store.now) (g.S.Store.faults c.run_both.new.store) c.why_of.result c.run_both.result.0.read) (sym c.into_journal.ensures.entries)
    (has_run c.args.method g.W.Errand.watches (opens c.args.method c.args.payload) (λ all. g.W.Errand.did c.run_both.new.errand all (last c.args.clock.now) (last c.run_both.new.clock))
    (g.I.Source.left c.args.link_in.now) (g.I.Source.left c.run_both.new.input) (g.O.Sink.written c.args.link_out.now) (g.O.Sink.written c.run_both.new.output) (g.S.Store.holds c.args.store.now) (g.S.Store.holds c.run_both.new.store)
    (g.I.Source.faults c.args.link_in.now) (g.I.Source.faults c.run_both.new.input) (g.O.Sink.faults c.args.link_out.now) (g.O.Sink.faults c.run_both.new.output) (g.S.Store.faults c.args.store.now) (g.S.Store.faults c.run_both.new.store) c.run_both.result.0.ending c.run_both.result.0.read
    c.close-calls.result.entries c.why_of.result ends (why_told c.args.method c.close-calls.result.setting c.close-calls.result.entries c.halted.result c.run_both.result.0.ending c.why_of.result (c.close-calls.ensures.setting ∙ base) c.halted.ensures c.why_of.ensures) e.fault)

pub returns-clause-told : goal.returns-clause-told
returns-clause-told g c =
    let r = c.in_ok-table.table in
    let e = c.run_both.ensures in
    let last = g.C.Clock.last in
    let base = c.in_ok-table.ensures.turn.1 ∙ ap setting_with c.requires.methods in
    let ends = run_ends c.args.method r base g.W.Errand.watches c.args.payload c.in-Some.call c.open_call.new.pass c.run_both.new.reader c.run_both.new.driver c.in-Some.ensures.opens
    (g.W.Errand.did c.args.errand.now) (g.W.Errand.did c.run_both.new.errand) (g.W.Errand.cuts c.run_both.new.errand) (last c.args.clock.now) (last c.run_both.new.clock)
    (g.I.Source.left c.args.link_in.now) (g.I.Source.left c.run_both.new.input) (g.O.Sink.written c.args.link_out.now) (g.O.Sink.written c.run_both.new.output) (g.S.Store.holds c.args.store.now) (g.S.Store.holds c.run_both.new.store)
    (g.O.Sink.faults c.args.link_out.now) (g.O.Sink.faults c.run_both.new.output) (g.S.Store.faults c.args.store.now) (g.S.Store.faults c.run_both.new.store) c.run_both.result.0.ending c.run_both.result.0.read c.run_both.new.listener
    (c.requires.fresh (last c.args.clock.now) (last c.args.clock.now)) e.reader.0 e.read c.run_both.result.1 e.drove e.settled e.halted c.close-calls.result
    (subst (λ l. AllFit log_of seat_of base_of l c.close-calls.result) c.together.ensures c.close-calls.ensures.fits) c.close-calls.ensures.setting c.close-calls.ensures.legal in
    subst (HasTold c.args.method (λ all. g.W.Errand.did c.run_both.new.errand all (last c.args.clock.now) (last c.run_both.new.clock))) (sym c.into_journal.ensures.entries) ends.told

pub returns-clause-whole : goal.returns-clause-whole
returns-clause-whole g c =
    let r = c.in_ok-table.table in
    let e = c.run_both.ensures in
    let last = g.C.Clock.last in
    let base = c.in_ok-table.ensures.turn.1 ∙ ap setting_with c.requires.methods in
    subst (λ h. is_halted (live_setting c.args.method) h ≡ false → g.W.Errand.short c.run_both.new.errand ≡ false) (sym c.into_journal.ensures.entries)
    (run_well c.args.method r base g.W.Errand.watches c.args.payload c.in-Some.call c.open_call.new.pass c.run_both.new.reader c.run_both.new.driver c.in-Some.ensures.opens
    (g.W.Errand.did c.args.errand.now) (g.W.Errand.did c.run_both.new.errand) (g.W.Errand.cuts c.run_both.new.errand) (last c.args.clock.now) (last c.run_both.new.clock)
    (g.I.Source.left c.args.link_in.now) (g.I.Source.left c.run_both.new.input) (g.O.Sink.written c.args.link_out.now) (g.O.Sink.written c.run_both.new.output) (g.S.Store.holds c.args.store.now) (g.S.Store.holds c.run_both.new.store)
    (g.O.Sink.faults c.args.link_out.now) (g.O.Sink.faults c.run_both.new.output) (g.S.Store.faults c.args.store.now) (g.S.Store.faults c.run_both.new.store) c.run_both.result.0.ending c.run_both.result.0.read c.run_both.new.listener
    (c.requires.fresh (last c.args.clock.now) (last c.args.clock.now)) e.reader.0 e.read c.run_both.result.1 e.drove e.whole e.settled e.halted c.close-calls.result
    (subst (λ l. AllFit log_of seat_of base_of l c.close-calls.result) c.together.ensures c.close-calls.ensures.fits) c.close-calls.ensures.setting c.close-calls.ensures.legal)

pub returns-clause-finished : goal.returns-clause-finished
returns-clause-finished g c =
    let r = c.in_ok-table.table in
    let e = c.run_both.ensures in
    let last = g.C.Clock.last in
    let base = c.in_ok-table.ensures.turn.1 ∙ ap setting_with c.requires.methods in
    subst (λ h. is_halted (live_setting c.args.method) h ≡ false → g.O.Sink.finished c.run_both.new.output ≡ true) (sym c.into_journal.ensures.entries)
    (run_well c.args.method r base g.W.Errand.watches c.args.payload c.in-Some.call c.open_call.new.pass c.run_both.new.reader c.run_both.new.driver c.in-Some.ensures.opens
    (g.W.Errand.did c.args.errand.now) (g.W.Errand.did c.run_both.new.errand) (g.W.Errand.cuts c.run_both.new.errand) (last c.args.clock.now) (last c.run_both.new.clock)
    (g.I.Source.left c.args.link_in.now) (g.I.Source.left c.run_both.new.input) (g.O.Sink.written c.args.link_out.now) (g.O.Sink.written c.run_both.new.output) (g.S.Store.holds c.args.store.now) (g.S.Store.holds c.run_both.new.store)
    (g.O.Sink.faults c.args.link_out.now) (g.O.Sink.faults c.run_both.new.output) (g.S.Store.faults c.args.store.now) (g.S.Store.faults c.run_both.new.store) c.run_both.result.0.ending c.run_both.result.0.read c.run_both.new.listener
    (c.requires.fresh (last c.args.clock.now) (last c.args.clock.now)) e.reader.0 e.read c.run_both.result.1 e.drove e.finished e.settled e.halted c.close-calls.result
    (subst (λ l. AllFit log_of seat_of base_of l c.close-calls.result) c.together.ensures c.close-calls.ensures.fits) c.close-calls.ensures.setting c.close-calls.ensures.legal)

pub returns-clause-uncut : goal.returns-clause-uncut
returns-clause-uncut g c =
    let r = c.in_ok-table.table in
    let last = g.C.Clock.last in
    driver_uncut g.W.Errand.watches r (live_name c.args.method) c.args.payload c.in-Some.call c.open_call.new.pass c.in-Some.ensures.opens
    (g.W.Errand.did c.args.errand.now) (g.W.Errand.did c.run_both.new.errand) (g.W.Errand.cuts c.run_both.new.errand) (last c.args.clock.now) (last c.run_both.new.clock)
    (g.O.Sink.written c.args.link_out.now) (g.O.Sink.written c.run_both.new.output) (g.S.Store.holds c.args.store.now) (g.S.Store.holds c.run_both.new.store)
    (g.O.Sink.faults c.args.link_out.now) (g.O.Sink.faults c.run_both.new.output) (g.S.Store.faults c.args.store.now) (g.S.Store.faults c.run_both.new.store) c.run_both.new.driver
    (c.requires.fresh (last c.args.clock.now) (last c.args.clock.now)) (is_ok c.run_both.result.1) c.run_both.ensures.drove
