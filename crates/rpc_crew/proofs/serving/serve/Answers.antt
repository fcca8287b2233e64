use Rattle.std.proofs.Common.{◌≡◌, ◌∷◌, ◌++◌, [], List, length, is_none, false, refl, sym, ap, subst, ◌∙◌, arith, length-append}
use Rattle.rtrb.specs.Ring.{known_items, received, sent}
use Rattle.turn_cell.specs.Passes.{AllFit, AreAll, IsIdle, IsNew}
use Rattle.rpc_journal.specs.History.{history}
use Rattle.rpc_journal.specs.Items.{halt_reason, moments}
use Rattle.rpc_journal.specs.Laws.{seat_of}
use Rattle.rpc_shared.specs.Steps.{base_of, log_of}
use Rattle.rpc_shared.specs.session.Crew.{Seat}
use Rattle.rpc_shared.specs.session.Leaving.{LeavesLink}
use Rattle.rpc_shared.specs.session.Reasons.{reason_of}
use Rattle.rpc_shared.specs.session.Sessions.{Begins, Explains, IsSessionHistory, LeavesNoneDue, is_halted, session_setting}
use Rattle.rpc_crew.specs.WholeFrames.{SendsWholeFrames, WritesWholeFrames}
use Rattle.rpc_crew.proofs.WholeFrames.{or_map}
use Rattle.rpc_crew.proofs.PumpLemmas.{pumps_none}
use Rattle.rpc_shared.proofs.session.ReaderLemmas.{fed_nothing}
use Rattle.rpc_shared.proofs.session.SessionLemmas.{given_out, new_pump, new_reader, new_stands}
use Rattle.rpc_crew.proofs.WholeSession.{Whole, back_idle, began_before, begins, ended_history, explains, is_told, leaves_link, none_left_due, read_all, read_below, read_failed, read_limit, sends_whole, sink_halted, store_halted, ticks_between, whole_of}
use Rattle.rpc_crew.proofs.WorkerLists.{worked_length}
use Rattle.rpc_shared.proofs.session.WriterLemmas.{writes_none}
use Rattle.rpc_crew.proofs.serving.serve.Given.{Over}
use Rattle.rpc_crew.proofs.serving.serve.Goals as goal

pub run_threads-done-requires-clause-reader : goal.run_threads-done-requires-clause-reader
run_threads-done-requires-clause-reader g c κs within =
    let rule = g.M.H.Handler.rule in
    let r = c.in_ok-shared.shared in
    let new = subst (AreAll c.in_ok-shared.shared (IsNew c.in_ok-shared.shared)) c.apart-reader.ensures.parts c.in_ok-shared.ensures.passes in
    new_reader rule r c.apart-reader.result.reader (new.each 0 c.apart-reader.result.reader refl)

pub run_threads-done-requires-clause-fed : goal.run_threads-done-requires-clause-fed
run_threads-done-requires-clause-fed g c κs within =
    let rule = g.M.H.Handler.rule in
    let r = c.in_ok-shared.shared in
    let new = subst (AreAll c.in_ok-shared.shared (IsNew c.in_ok-shared.shared)) c.apart-reader.ensures.parts c.in_ok-shared.ensures.passes in
    fed_nothing c.in_ok-listener.listener c.apart-reader.result.reader c.in_ok-listener.ensures.role c.in_ok-listener.ensures.heard (new.each 0 c.apart-reader.result.reader refl).mine

pub run_threads-done-requires-clause-workers : goal.run_threads-done-requires-clause-workers
run_threads-done-requires-clause-workers g c κs within =
    let rule = g.M.H.Handler.rule in
    let r = c.in_ok-shared.shared in
    let new = subst (AreAll c.in_ok-shared.shared (IsNew c.in_ok-shared.shared)) c.apart-reader.ensures.parts c.in_ok-shared.ensures.passes in
    (given_out rule r c.apart-reader.result.reader c.apart-reader.result.pumper c.apart-reader.result.writer c.apart-reader.result.workers.passes.items new).workers

pub run_threads-done-requires-clause-pumps : goal.run_threads-done-requires-clause-pumps
run_threads-done-requires-clause-pumps g c κs within =
    let rule = g.M.H.Handler.rule in
    let r = c.in_ok-shared.shared in
    let new = subst (AreAll c.in_ok-shared.shared (IsNew c.in_ok-shared.shared)) c.apart-reader.ensures.parts c.in_ok-shared.ensures.passes in
    pumps_none rule r c.apart-reader.result.pumper (new_pump rule r c.apart-reader.result.pumper (new.each 1 c.apart-reader.result.pumper refl)) (sent c.in_ok-ring.ring) c.in_ok-ring.ensures.producer.0

pub run_threads-done-requires-clause-fresh : goal.run_threads-done-requires-clause-fresh
run_threads-done-requires-clause-fresh g c κs within =
    let rule = g.M.H.Handler.rule in
    let r = c.in_ok-shared.shared in
    let new = subst (AreAll c.in_ok-shared.shared (IsNew c.in_ok-shared.shared)) c.apart-reader.ensures.parts c.in_ok-shared.ensures.passes in
    (new.each 1 c.apart-reader.result.pumper refl).mine

pub run_threads-done-requires-clause-writes : goal.run_threads-done-requires-clause-writes
run_threads-done-requires-clause-writes g c κs within =
    let rule = g.M.H.Handler.rule in
    let r = c.in_ok-shared.shared in
    let new = subst (AreAll c.in_ok-shared.shared (IsNew c.in_ok-shared.shared)) c.apart-reader.ensures.parts c.in_ok-shared.ensures.passes in
    let writer = (given_out rule r c.apart-reader.result.reader c.apart-reader.result.pumper c.apart-reader.result.writer c.apart-reader.result.workers.passes.items new).writer in
    writes_none rule r (g.O.Sink.written c.args.link_out.now) (g.S.Store.holds c.args.store.now) c.args.log.now (received c.in_ok-ring.end) c.apart-reader.result.writer (new_stands rule r _ c.apart-reader.result.writer writer) writer.mine
    c.in_ok-ring.ensures.consumer.0

pub together-requires : goal.together-requires
together-requires g c =
    let rule = g.M.H.Handler.rule in
    let r = c.in_ok-shared.shared in
    let new = subst (AreAll c.in_ok-shared.shared (IsNew c.in_ok-shared.shared)) c.apart-reader.ensures.parts c.in_ok-shared.ensures.passes in
    let e = c.run_threads-done.ensures in
    omega (
      arith,
      worked_length rule r c.apart-reader.result.workers.passes.items c.run_threads-done.new.workers.passes.items e.worked,
      e.room,
      c.apart-reader.ensures.room,
      ap length c.apart-reader.ensures.parts,
      length-append c.apart-reader.result.workers.passes.items (c.apart-reader.result.writer ∷ []),
      c.in_ok-shared.passes.ok,
    )

pub close-calls-requires : goal.close-calls-requires
close-calls-requires g c =
    let rule = g.M.H.Handler.rule in
    let r = c.in_ok-shared.shared in
    let new = subst (AreAll c.in_ok-shared.shared (IsNew c.in_ok-shared.shared)) c.apart-reader.ensures.parts c.in_ok-shared.ensures.passes in
    let e = c.run_threads-done.ensures in
    record { all = subst (AreAll r (IsIdle r)) (sym c.together.ensures) (back_idle rule r c.apart-reader.result.reader c.apart-reader.result.pumper c.apart-reader.result.writer c.run_threads-done.new.reader c.run_threads-done.new.pumper c.run_threads-done.new.writer c.apart-reader.result.workers.passes.items c.run_threads-done.new.workers.passes.items new e.reader e.pump e.worked e.writer) }

pub slots_beside-requires : goal.slots_beside-requires
slots_beside-requires g c =
    let e = c.run_threads-done.ensures in
    let pair = c.in_ok-ring.ensures.pair in
    (e.consumer.0.0 ∙ (pair.0 ∙ sym e.producer.0.0), e.consumer.0.1 ∙ (pair.1 ∙ sym e.producer.0.1), e.consumer.0.2 ∙ (pair.2 ∙ sym e.producer.0.2), e.consumer.0.3 ∙ (pair.3 ∙ sym e.producer.0.3))

pub why_of-requires : goal.why_of-requires
why_of-requires g c =
    let rule = g.M.H.Handler.rule in
    let r = c.in_ok-shared.shared in
    let new = subst (AreAll c.in_ok-shared.shared (IsNew c.in_ok-shared.shared)) c.apart-reader.ensures.parts c.in_ok-shared.ensures.passes in
    let e = c.run_threads-done.ensures in
    let whole = whole_of rule r c.apart-reader.result.reader c.apart-reader.result.pumper c.apart-reader.result.writer c.run_threads-done.new.reader c.run_threads-done.new.pumper c.run_threads-done.new.writer c.apart-reader.result.workers.passes.items c.run_threads-done.new.workers.passes.items
    c.args.workers (g.I.Source.left c.args.link_in.now) (g.I.Source.left c.run_threads-done.new.link_in) (g.O.Sink.written c.args.link_out.now) (g.O.Sink.written c.run_threads-done.new.link_out) (g.S.Store.holds c.args.store.now) (g.S.Store.holds c.run_threads-done.new.store) c.args.log.now c.run_threads-done.new.log c.run_threads-done.new.listener c.run_threads-done.new.listener.counts c.run_threads-done.result.1.ending c.run_threads-done.result.1.read c.run_threads-done.result.0 c.close-calls.result
    (sent c.run_threads-done.new.ring) (received c.run_threads-done.new.end) (known_items c.slots_beside.new.self)
    c.in_ok-shared.ensures.turn.0 new e.reader e.read e.pump e.worked e.writer
    (ap (λ got. got ++ known_items c.slots_beside.new.self) (sym c.slots_beside.ensures.looked.1) ∙ (c.slots_beside.ensures.fifo ∙ c.slots_beside.ensures.producer.1))
    (subst (λ (l : List Seat). AllFit log_of seat_of base_of l c.close-calls.result) c.together.ensures c.close-calls.ensures.fits) c.close-calls.ensures.setting c.close-calls.ensures.legal
    (λ stream heard. heard.counts) (omega (arith, c.len.ensures.bound, c.len.ensures.len, ap length c.journal.ensures.entries)) in
    let told = is_told g.M.H.Handler.rule c.in_ok-shared.shared c.args.workers (g.I.Source.left c.args.link_in.now) (g.I.Source.left c.run_threads-done.new.link_in) (g.O.Sink.written c.args.link_out.now) (g.O.Sink.written c.run_threads-done.new.link_out) (g.S.Store.holds c.args.store.now) (g.S.Store.holds c.run_threads-done.new.store) c.args.log.now c.run_threads-done.new.log c.run_threads-done.new.listener c.run_threads-done.new.listener.counts c.run_threads-done.result.1.ending c.run_threads-done.result.1.read c.run_threads-done.result.0 c.close-calls.result
    c.run_threads-done.new.reader c.run_threads-done.new.pumper c.run_threads-done.new.writer c.run_threads-done.new.workers.passes.items whole in
    λ none. told (ap is_none (sym (c.halted.ensures ∙ ap (λ set. halt_reason (history set c.close-calls.result.entries)) c.close-calls.ensures.setting)) ∙ none)

whole : (g : Over) (c : goal.After-drop-listener-inside-2 g) → Whole g.M.H.Handler.rule c.in_ok-shared.shared c.args.workers (g.I.Source.left c.args.link_in.now) (g.I.Source.left c.run_threads-done.new.link_in) (g.O.Sink.written c.args.link_out.now) (g.O.Sink.written c.run_threads-done.new.link_out) (g.S.Store.holds c.args.store.now) (g.S.Store.holds c.run_threads-done.new.store) c.args.log.now c.run_threads-done.new.log c.run_threads-done.new.listener c.counts.result c.run_threads-done.result.1.ending c.run_threads-done.result.1.read c.run_threads-done.result.0 c.close-calls.result
    c.run_threads-done.new.reader c.run_threads-done.new.pumper c.run_threads-done.new.writer c.run_threads-done.new.workers.passes.items
whole g c =
    let rule = g.M.H.Handler.rule in
    let r = c.in_ok-shared.shared in
    let new = subst (AreAll c.in_ok-shared.shared (IsNew c.in_ok-shared.shared)) c.apart-reader.ensures.parts c.in_ok-shared.ensures.passes in
    let e = c.run_threads-done.ensures in
    whole_of rule r c.apart-reader.result.reader c.apart-reader.result.pumper c.apart-reader.result.writer c.run_threads-done.new.reader c.run_threads-done.new.pumper c.run_threads-done.new.writer c.apart-reader.result.workers.passes.items c.run_threads-done.new.workers.passes.items
    c.args.workers (g.I.Source.left c.args.link_in.now) (g.I.Source.left c.run_threads-done.new.link_in) (g.O.Sink.written c.args.link_out.now) (g.O.Sink.written c.run_threads-done.new.link_out) (g.S.Store.holds c.args.store.now) (g.S.Store.holds c.run_threads-done.new.store) c.args.log.now c.run_threads-done.new.log c.run_threads-done.new.listener c.counts.result c.run_threads-done.result.1.ending c.run_threads-done.result.1.read c.run_threads-done.result.0 c.close-calls.result
    (sent c.run_threads-done.new.ring) (received c.run_threads-done.new.end) (known_items c.slots_beside.new.self)
    c.in_ok-shared.ensures.turn.0 new e.reader e.read e.pump e.worked e.writer
    (ap (λ got. got ++ known_items c.slots_beside.new.self) (sym c.slots_beside.ensures.looked.1) ∙ (c.slots_beside.ensures.fifo ∙ c.slots_beside.ensures.producer.1))
    (subst (λ (l : List Seat). AllFit log_of seat_of base_of l c.close-calls.result) c.together.ensures c.close-calls.ensures.fits) c.close-calls.ensures.setting c.close-calls.ensures.legal
    c.counts.ensures.counts (omega (arith, c.len.ensures.bound, c.len.ensures.len, ap length c.journal.ensures.entries))

base_is : (g : Over) (c : goal.After-drop-listener-inside-2 g) → c.in_ok-shared.shared.base ≡ session_setting c.args.channels c.args.registry (g.M.Maker.seed_memo c.args.maker.now)
base_is g c = c.in_ok-shared.ensures.turn.1 ∙ (c.in_ok-calls.ensures.setting ∙ ap (session_setting c.args.channels c.args.registry) c.in_ok-seed.ensures)

why_is : (g : Over) (c : goal.After-drop-listener-inside-2 g) → c.why_of.result ≡ reason_of (halt_reason (history c.in_ok-shared.shared.base c.close-calls.result.entries)) c.run_threads-done.result.1.ending
why_is g c =
    c.why_of.ensures ∙ ap (λ o. reason_of o c.run_threads-done.result.1.ending) (c.halted.ensures ∙ ap (λ set. halt_reason (history set c.close-calls.result.entries)) c.close-calls.ensures.setting)

pub returns-clause-history : goal.returns-clause-history
returns-clause-history g c =
    subst (λ set. IsSessionHistory g.M.H.Handler.rule set c.args.workers c.why_of.result c.close-calls.result.entries) (base_is g c)
    (ended_history g.M.H.Handler.rule c.in_ok-shared.shared c.args.workers (g.I.Source.left c.args.link_in.now) (g.I.Source.left c.run_threads-done.new.link_in) (g.O.Sink.written c.args.link_out.now) (g.O.Sink.written c.run_threads-done.new.link_out) (g.S.Store.holds c.args.store.now) (g.S.Store.holds c.run_threads-done.new.store) c.args.log.now c.run_threads-done.new.log c.run_threads-done.new.listener c.counts.result c.run_threads-done.result.1.ending c.run_threads-done.result.1.read c.run_threads-done.result.0 c.close-calls.result
    c.run_threads-done.new.reader c.run_threads-done.new.pumper c.run_threads-done.new.writer c.run_threads-done.new.workers.passes.items
    (whole g c) c.why_of.result (why_is g c))

pub returns-clause-begins : goal.returns-clause-begins
returns-clause-begins g c =
    let w = whole g c in (
      w.writer.makes.items,
      subst (λ set. Begins set (g.I.Source.left c.args.link_in.now) (g.I.Source.left c.run_threads-done.new.link_in) (g.O.Sink.written c.args.link_out.now) (g.O.Sink.written c.run_threads-done.new.link_out) (g.S.Store.holds c.args.store.now) (g.S.Store.holds c.run_threads-done.new.store) c.counts.result c.run_threads-done.result.1.read c.run_threads-done.result.0 w.writer.makes.items c.close-calls.result.entries) (base_is g c)
          (begins g.M.H.Handler.rule c.in_ok-shared.shared c.args.workers (g.I.Source.left c.args.link_in.now) (g.I.Source.left c.run_threads-done.new.link_in) (g.O.Sink.written c.args.link_out.now) (g.O.Sink.written c.run_threads-done.new.link_out) (g.S.Store.holds c.args.store.now) (g.S.Store.holds c.run_threads-done.new.store) c.args.log.now c.run_threads-done.new.log c.run_threads-done.new.listener c.counts.result c.run_threads-done.result.1.ending c.run_threads-done.result.1.read c.run_threads-done.result.0 c.close-calls.result
          c.run_threads-done.new.reader c.run_threads-done.new.pumper c.run_threads-done.new.writer c.run_threads-done.new.workers.passes.items w),
      w.writer.makes.logged,
    )

whole_frames : (g : Over) (c : goal.After-drop-listener-inside-2 g) → WritesWholeFrames (g.O.Sink.written c.args.link_out.now) (g.O.Sink.written c.run_threads-done.new.link_out) (received c.run_threads-done.new.end) c.run_threads-done.result.0
    → SendsWholeFrames (session_setting c.args.channels c.args.registry (g.M.Maker.seed_memo c.args.maker.now)) (g.O.Sink.written c.args.link_out.now) (g.O.Sink.written c.run_threads-done.new.link_out) c.run_threads-done.result.0 c.close-calls.result.entries
whole_frames g c frames =
    let e = c.run_threads-done.ensures in
    subst (λ set. SendsWholeFrames set (g.O.Sink.written c.args.link_out.now) (g.O.Sink.written c.run_threads-done.new.link_out) c.run_threads-done.result.0 c.close-calls.result.entries) (base_is g c)
    (sends_whole g.M.H.Handler.rule c.in_ok-shared.shared c.args.workers (g.I.Source.left c.args.link_in.now) (g.I.Source.left c.run_threads-done.new.link_in) (g.O.Sink.written c.args.link_out.now) (g.O.Sink.written c.run_threads-done.new.link_out) (g.S.Store.holds c.args.store.now) (g.S.Store.holds c.run_threads-done.new.store) c.args.log.now c.run_threads-done.new.log c.run_threads-done.new.listener c.counts.result c.run_threads-done.result.1.ending c.run_threads-done.result.1.read c.run_threads-done.result.0 c.close-calls.result
    c.run_threads-done.new.reader c.run_threads-done.new.pumper c.run_threads-done.new.writer c.run_threads-done.new.workers.passes.items (whole g c)
    (sent c.run_threads-done.new.ring) (received c.run_threads-done.new.end) (known_items c.slots_beside.new.self) e.pump.0
    (ap (λ got. got ++ known_items c.slots_beside.new.self) (sym c.slots_beside.ensures.looked.1) ∙ (c.slots_beside.ensures.fifo ∙ c.slots_beside.ensures.producer.1)) frames)

pub returns-clause-whole : goal.returns-clause-whole
returns-clause-whole g c = or_map (whole_frames g c) c.run_threads-done.ensures.whole

pub returns-clause-explains : goal.returns-clause-explains
returns-clause-explains g c =
    subst (λ set. is_halted set c.close-calls.result.entries ≡ false → Explains set (g.I.Source.left c.args.link_in.now) (g.I.Source.left c.run_threads-done.new.link_in) (g.O.Sink.written c.args.link_out.now) (g.O.Sink.written c.run_threads-done.new.link_out) (g.S.Store.holds c.args.store.now) (g.S.Store.holds c.run_threads-done.new.store) c.counts.result c.run_threads-done.result.1.read c.run_threads-done.result.0 c.close-calls.result.entries) (base_is g c)
    (explains g.M.H.Handler.rule c.in_ok-shared.shared c.args.workers (g.I.Source.left c.args.link_in.now) (g.I.Source.left c.run_threads-done.new.link_in) (g.O.Sink.written c.args.link_out.now) (g.O.Sink.written c.run_threads-done.new.link_out) (g.S.Store.holds c.args.store.now) (g.S.Store.holds c.run_threads-done.new.store) c.args.log.now c.run_threads-done.new.log c.run_threads-done.new.listener c.counts.result c.run_threads-done.result.1.ending c.run_threads-done.result.1.read c.run_threads-done.result.0 c.close-calls.result
    c.run_threads-done.new.reader c.run_threads-done.new.pumper c.run_threads-done.new.writer c.run_threads-done.new.workers.passes.items (whole g c))

pub returns-clause-at_end : goal.returns-clause-at_end
returns-clause-at_end g c =
    read_all g.M.H.Handler.rule c.in_ok-shared.shared c.args.workers (g.I.Source.left c.args.link_in.now) (g.I.Source.left c.run_threads-done.new.link_in) (g.O.Sink.written c.args.link_out.now) (g.O.Sink.written c.run_threads-done.new.link_out) (g.S.Store.holds c.args.store.now) (g.S.Store.holds c.run_threads-done.new.store) c.args.log.now c.run_threads-done.new.log c.run_threads-done.new.listener c.counts.result c.run_threads-done.result.1.ending c.run_threads-done.result.1.read c.run_threads-done.result.0 c.close-calls.result
    c.run_threads-done.new.reader c.run_threads-done.new.pumper c.run_threads-done.new.writer c.run_threads-done.new.workers.passes.items (whole g c) c.why_of.result (why_is g c)

pub returns-clause-at_limit : goal.returns-clause-at_limit
returns-clause-at_limit g c =
    read_limit g.M.H.Handler.rule c.in_ok-shared.shared c.args.workers (g.I.Source.left c.args.link_in.now) (g.I.Source.left c.run_threads-done.new.link_in) (g.O.Sink.written c.args.link_out.now) (g.O.Sink.written c.run_threads-done.new.link_out) (g.S.Store.holds c.args.store.now) (g.S.Store.holds c.run_threads-done.new.store) c.args.log.now c.run_threads-done.new.log c.run_threads-done.new.listener c.counts.result c.run_threads-done.result.1.ending c.run_threads-done.result.1.read c.run_threads-done.result.0 c.close-calls.result
    c.run_threads-done.new.reader c.run_threads-done.new.pumper c.run_threads-done.new.writer c.run_threads-done.new.workers.passes.items (whole g c) c.why_of.result (why_is g c)

pub returns-clause-below : goal.returns-clause-below
returns-clause-below g c =
    read_below g.M.H.Handler.rule c.in_ok-shared.shared c.args.workers (g.I.Source.left c.args.link_in.now) (g.I.Source.left c.run_threads-done.new.link_in) (g.O.Sink.written c.args.link_out.now) (g.O.Sink.written c.run_threads-done.new.link_out) (g.S.Store.holds c.args.store.now) (g.S.Store.holds c.run_threads-done.new.store) c.args.log.now c.run_threads-done.new.log c.run_threads-done.new.listener c.counts.result c.run_threads-done.result.1.ending c.run_threads-done.result.1.read c.run_threads-done.result.0 c.close-calls.result
    c.run_threads-done.new.reader c.run_threads-done.new.pumper c.run_threads-done.new.writer c.run_threads-done.new.workers.passes.items (whole g c) c.why_of.result (why_is g c)

pub returns-clause-source : goal.returns-clause-source
returns-clause-source g c =
    λ is. c.run_threads-done.ensures.fault (read_failed g.M.H.Handler.rule c.in_ok-shared.shared c.args.workers (g.I.Source.left c.args.link_in.now) (g.I.Source.left c.run_threads-done.new.link_in) (g.O.Sink.written c.args.link_out.now) (g.O.Sink.written c.run_threads-done.new.link_out) (g.S.Store.holds c.args.store.now) (g.S.Store.holds c.run_threads-done.new.store) c.args.log.now c.run_threads-done.new.log c.run_threads-done.new.listener c.counts.result c.run_threads-done.result.1.ending c.run_threads-done.result.1.read c.run_threads-done.result.0 c.close-calls.result
    c.run_threads-done.new.reader c.run_threads-done.new.pumper c.run_threads-done.new.writer c.run_threads-done.new.workers.passes.items (whole g c) c.why_of.result (why_is g c) is)

pub returns-clause-sink : goal.returns-clause-sink
returns-clause-sink g c =
    λ is. c.run_threads-done.ensures.sink (sink_halted g.M.H.Handler.rule c.in_ok-shared.shared c.args.workers (g.I.Source.left c.args.link_in.now) (g.I.Source.left c.run_threads-done.new.link_in) (g.O.Sink.written c.args.link_out.now) (g.O.Sink.written c.run_threads-done.new.link_out) (g.S.Store.holds c.args.store.now) (g.S.Store.holds c.run_threads-done.new.store) c.args.log.now c.run_threads-done.new.log c.run_threads-done.new.listener c.counts.result c.run_threads-done.result.1.ending c.run_threads-done.result.1.read c.run_threads-done.result.0 c.close-calls.result
    c.run_threads-done.new.reader c.run_threads-done.new.pumper c.run_threads-done.new.writer c.run_threads-done.new.workers.passes.items (whole g c) c.why_of.result (why_is g c) is)

pub returns-clause-store : goal.returns-clause-store
returns-clause-store g c =
    λ is. c.run_threads-done.ensures.store (store_halted g.M.H.Handler.rule c.in_ok-shared.shared c.args.workers (g.I.Source.left c.args.link_in.now) (g.I.Source.left c.run_threads-done.new.link_in) (g.O.Sink.written c.args.link_out.now) (g.O.Sink.written c.run_threads-done.new.link_out) (g.S.Store.holds c.args.store.now) (g.S.Store.holds c.run_threads-done.new.store) c.args.log.now c.run_threads-done.new.log c.run_threads-done.new.listener c.counts.result c.run_threads-done.result.1.ending c.run_threads-done.result.1.read c.run_threads-done.result.0 c.close-calls.result
    c.run_threads-done.new.reader c.run_threads-done.new.pumper c.run_threads-done.new.writer c.run_threads-done.new.workers.passes.items (whole g c) c.why_of.result (why_is g c) is)

pub returns-clause-ticks : goal.returns-clause-ticks
returns-clause-ticks g c =
    ticks_between g.M.H.Handler.rule c.in_ok-shared.shared c.args.workers (g.I.Source.left c.args.link_in.now) (g.I.Source.left c.run_threads-done.new.link_in) (g.O.Sink.written c.args.link_out.now) (g.O.Sink.written c.run_threads-done.new.link_out) (g.S.Store.holds c.args.store.now) (g.S.Store.holds c.run_threads-done.new.store) c.args.log.now c.run_threads-done.new.log c.run_threads-done.new.listener c.counts.result c.run_threads-done.result.1.ending c.run_threads-done.result.1.read c.run_threads-done.result.0 c.close-calls.result
    c.run_threads-done.new.reader c.run_threads-done.new.pumper c.run_threads-done.new.writer c.run_threads-done.new.workers.passes.items (whole g c) (g.C.Clock.last c.args.clock.now) c.now-began.result (g.C.Clock.last c.run_threads-done.new.clock) c.now-began.ensures.later c.run_threads-done.ensures.spaced c.run_threads-done.ensures.past

pub returns-clause-began : goal.returns-clause-began
returns-clause-began g c = (
  c.now-began.ensures.later,
  began_before g.M.H.Handler.rule c.in_ok-shared.shared c.args.workers (g.I.Source.left c.args.link_in.now) (g.I.Source.left c.run_threads-done.new.link_in) (g.O.Sink.written c.args.link_out.now) (g.O.Sink.written c.run_threads-done.new.link_out) (g.S.Store.holds c.args.store.now) (g.S.Store.holds c.run_threads-done.new.store) c.args.log.now c.run_threads-done.new.log c.run_threads-done.new.listener c.counts.result c.run_threads-done.result.1.ending c.run_threads-done.result.1.read c.run_threads-done.result.0 c.close-calls.result
      c.run_threads-done.new.reader c.run_threads-done.new.pumper c.run_threads-done.new.writer c.run_threads-done.new.workers.passes.items (whole g c) c.now-began.result (g.C.Clock.last c.run_threads-done.new.clock) c.run_threads-done.ensures.past c.run_threads-done.ensures.spaced,
)

pub returns-clause-due : goal.returns-clause-due
returns-clause-due g c =
    subst (λ set. is_halted set c.close-calls.result.entries ≡ false → LeavesNoneDue c.now-began.result (g.C.Clock.last c.run_threads-done.new.clock) (moments c.close-calls.result.entries)) (base_is g c)
    (none_left_due g.M.H.Handler.rule c.in_ok-shared.shared c.args.workers (g.I.Source.left c.args.link_in.now) (g.I.Source.left c.run_threads-done.new.link_in) (g.O.Sink.written c.args.link_out.now) (g.O.Sink.written c.run_threads-done.new.link_out) (g.S.Store.holds c.args.store.now) (g.S.Store.holds c.run_threads-done.new.store) c.args.log.now c.run_threads-done.new.log c.run_threads-done.new.listener c.counts.result c.run_threads-done.result.1.ending c.run_threads-done.result.1.read c.run_threads-done.result.0 c.close-calls.result
    c.run_threads-done.new.reader c.run_threads-done.new.pumper c.run_threads-done.new.writer c.run_threads-done.new.workers.passes.items (whole g c) c.now-began.result (g.C.Clock.last c.run_threads-done.new.clock) c.run_threads-done.ensures.due.due)

pub returns-clause-setting : goal.returns-clause-setting
returns-clause-setting g c =
    c.close-calls.ensures.setting ∙ base_is g c

pub returns-clause-leaves : goal.returns-clause-leaves
returns-clause-leaves g c =
    let e = c.run_threads-done.ensures in
    subst (λ set. LeavesLink set c.close-calls.result.entries (g.O.Sink.finished c.run_threads-done.new.link_out) (g.O.Sink.faults c.args.link_out.now) (g.O.Sink.faults c.run_threads-done.new.link_out)) (base_is g c)
    (leaves_link g.M.H.Handler.rule c.in_ok-shared.shared c.args.workers (g.I.Source.left c.args.link_in.now) (g.I.Source.left c.run_threads-done.new.link_in) (g.O.Sink.written c.args.link_out.now) (g.O.Sink.written c.run_threads-done.new.link_out) (g.S.Store.holds c.args.store.now) (g.S.Store.holds c.run_threads-done.new.store) c.args.log.now c.run_threads-done.new.log c.run_threads-done.new.listener c.counts.result c.run_threads-done.result.1.ending c.run_threads-done.result.1.read c.run_threads-done.result.0 c.close-calls.result
    c.run_threads-done.new.reader c.run_threads-done.new.pumper c.run_threads-done.new.writer c.run_threads-done.new.workers.passes.items (whole g c)
    (g.O.Sink.finished c.run_threads-done.new.link_out) (g.O.Sink.faults c.args.link_out.now) (g.O.Sink.faults c.run_threads-done.new.link_out)
    (sent c.run_threads-done.new.ring) (received c.run_threads-done.new.end) (known_items c.slots_beside.new.self) e.pump.0
    (ap (λ got. got ++ known_items c.slots_beside.new.self) (sym c.slots_beside.ensures.looked.1) ∙ (c.slots_beside.ensures.fifo ∙ c.slots_beside.ensures.producer.1)) e.leaves)

pub returns-clause-later : goal.returns-clause-later
returns-clause-later g c =
    (c.run_threads-done.ensures.source, c.run_threads-done.ensures.later.0, c.run_threads-done.ensures.later.1)
