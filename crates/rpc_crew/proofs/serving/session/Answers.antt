use Rattle.std.proofs.Common.{◌≡◌, false, sym, subst}
use Rattle.rpc_journal.specs.Items.{moments}
use Rattle.rpc_shared.specs.session.Leaving.{LeavesLink}
use Rattle.rpc_shared.specs.session.Sessions.{Begins, Explains, IsSessionHistory, LeavesNoneDue, TicksBetween, is_halted, session_setting}
use Rattle.rpc_crew.specs.WholeFrames.{SendsWholeFrames}
use Rattle.rpc_crew.proofs.WholeFrames.{or_map}
use Rattle.rpc_crew.proofs.serving.session.Goals as goal

pub returns-clause-history : goal.returns-clause-history
returns-clause-history g c =
    subst (IsSessionHistory g.M.H.Handler.rule (session_setting c.args.channels c.args.registry (g.M.Maker.seed_memo c.args.maker.now)) c.args.workers c.in_ok-served.served.why) (sym c.into_journal.ensures.entries) c.in_ok-served.ensures.history

pub returns-clause-begins : goal.returns-clause-begins
returns-clause-begins g c =
    let made = c.in_ok-served.ensures.begins in
    (made.0, subst (Begins (session_setting c.args.channels c.args.registry (g.M.Maker.seed_memo c.args.maker.now)) (g.I.Source.left c.args.link_in.now) (g.I.Source.left c.serve.new.link_in) (g.O.Sink.written c.args.link_out.now) (g.O.Sink.written c.serve.new.link_out) (g.S.Store.holds c.args.store.now) (g.S.Store.holds c.serve.new.store) c.in_ok-served.served.counts c.in_ok-served.served.read c.in_ok-served.served.done made.0) (sym c.into_journal.ensures.entries) made.1)

pub returns-clause-whole : goal.returns-clause-whole
returns-clause-whole g c =
    or_map (subst (SendsWholeFrames (session_setting c.args.channels c.args.registry (g.M.Maker.seed_memo c.args.maker.now)) (g.O.Sink.written c.args.link_out.now) (g.O.Sink.written c.serve.new.link_out) c.in_ok-served.served.done) (sym c.into_journal.ensures.entries))
    c.in_ok-served.ensures.whole

pub returns-clause-explains : goal.returns-clause-explains
returns-clause-explains g c =
    subst (λ h. is_halted (session_setting c.args.channels c.args.registry (g.M.Maker.seed_memo c.args.maker.now)) h ≡ false → Explains (session_setting c.args.channels c.args.registry (g.M.Maker.seed_memo c.args.maker.now)) (g.I.Source.left c.args.link_in.now) (g.I.Source.left c.serve.new.link_in) (g.O.Sink.written c.args.link_out.now) (g.O.Sink.written c.serve.new.link_out) (g.S.Store.holds c.args.store.now) (g.S.Store.holds c.serve.new.store) c.in_ok-served.served.counts c.in_ok-served.served.read c.in_ok-served.served.done h) (sym c.into_journal.ensures.entries) c.in_ok-served.ensures.explains

pub returns-clause-ticks : goal.returns-clause-ticks
returns-clause-ticks g c =
    subst (TicksBetween (g.C.Clock.last c.args.clock.now) (g.C.Clock.last c.serve.new.clock)) (sym c.into_journal.ensures.entries) c.in_ok-served.ensures.ticks

pub returns-clause-due : goal.returns-clause-due
returns-clause-due g c =
    subst (λ h. is_halted (session_setting c.args.channels c.args.registry (g.M.Maker.seed_memo c.args.maker.now)) h ≡ false → LeavesNoneDue c.in_ok-served.served.began (g.C.Clock.last c.serve.new.clock) (moments h)) (sym c.into_journal.ensures.entries) c.in_ok-served.ensures.due

pub returns-clause-leaves : goal.returns-clause-leaves
returns-clause-leaves g c =
    subst (λ h. LeavesLink (session_setting c.args.channels c.args.registry (g.M.Maker.seed_memo c.args.maker.now)) h (g.O.Sink.finished c.serve.new.link_out) (g.O.Sink.faults c.args.link_out.now) (g.O.Sink.faults c.serve.new.link_out))
    (sym c.into_journal.ensures.entries) c.in_ok-served.ensures.leaves
