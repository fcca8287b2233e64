use Rattle.std.proofs.Common.{◌≡◌, ℕ, Ok, Err, arith, subst, sym, ap, ◌∙◌, length-take, length-drop}
use Rattle.rpc_frames.proofs.Pieces.{piece_parts}
use Rattle.rpc_journal.specs.declared.answers.StartRefused.TheVariants.{JournalFull}
use Rattle.rpc_schedule.specs.declared.stop.Stop.TheVariants as stop
use Rattle.rpc_schedule.specs.Serving.{Feeds, TakesPacket, deeds}
use Rattle.rpc_journal.specs.Items.{input_ended}
use Rattle.rpc_schedule.proofs.BreakLemmas.{breaks_in}
use Rattle.rpc_schedule.proofs.InputLemmas.{calm_fed, came_more, feed_full, feed_steps, full_came, open_after, refused_more, settle_full, settle_store, store_came}
use Rattle.rpc_schedule.proofs.LoopLemmas.{feeds_setting}
use Rattle.rpc_schedule.proofs.SentLemmas.{sends_refused, sent_since}
use Rattle.rpc_schedule.proofs.StreamLemmas.{handed_on, journal_full, not_store, stops_in}
use Rattle.rpc_schedule.proofs.ends.FedLemmas.{on_err}
use Rattle.rpc_schedule.proofs.stream.feed_all.Goals as goal

pub returns-in_err-done-clause-full : goal.returns-in_err-done-clause-full
returns-in_err-done-clause-full g c = λ journal.
    let rule = g.T.Serves.rule in
    let seen = g.T.Serves.seen in
    let arrived = g.met.T.Serves.arrived in
    let full : c.in_err-done.field-0.0 ≡ JournalFull = journal_full c.from_residual.result c.in_err-done.field-0.0 c.from_residual.ensures journal in
    let refuses : Feeds (seen c.frames.server) (Err JournalFull) (seen c.feed.new.self) =
    subst (λ r. Feeds (seen c.frames.server) (Err r) (seen c.feed.new.self)) full c.in_err-done.ensures.step in
    let filled = feed_full rule (seen c.frames.server) (seen c.feed.new.self) c.frames.invariant.calm refuses in
    let part = c.in_err-done.ensures.refused_fed in
    record {
      part = stops_in g.T.Serves.heard (g.T.Serves.stands c.args.server.now) (g.T.Serves.stands c.frames.server) (g.T.Serves.stands c.feed.new.self)
          (g.T.Serves.stands c.feed.new.self) c.args.piece.now c.frames.done part.0 (seen c.feed.new.self) g.met.T.Serves.more_heard
          c.frames.invariant.within c.frames.invariant.fed part.1 (λ bytes fed. fed)
          (λ before now stood stands. refused_more (seen c.frames.server) (seen c.feed.new.self) _ _ JournalFull c.frames.invariant.calm.accepts refuses.1
          (arrived c.frames.server before stood) (arrived c.feed.new.self now stands))
          (ap (λ s. input_ended (deeds s)) refuses.1 ∙ c.frames.invariant.calm.unended);
      full = filled.0;
      items_are = c.frames.invariant.items ∙ sym filled.1;
    }

pub returns-in_err-done-clause-fails : goal.returns-in_err-done-clause-fails
returns-in_err-done-clause-fails g c = λ failed. absurd (not_store c.from_residual.result c.in_err-done.field-0.0 c.from_residual.ensures failed)

pub settle-requires-clause-orderly : goal.settle-requires-clause-orderly
settle-requires-clause-orderly g c =
    let seen = g.T.Serves.seen in
    (feed_steps (seen c.frames.server) (seen c.feed.new.self) c.in_ok-done.field-0 c.frames.invariant.calm.orderly c.in_ok-done.ensures.step).0

pub frames-preserved : goal.frames-preserved
frames-preserved g c =
    let seen = g.T.Serves.seen in
    let count = c.in_ok-done.field-0 in
    record {
      within = omega (arith, c.in_ok-done.ensures.fed.within, c.frames.invariant.within, length-take {A = ℕ}, length-drop {A = ℕ});
      calm = calm_fed g.T.Serves.rule (seen c.frames.server) (seen c.feed.new.self) (seen c.settle.new.server) count c.frames.invariant.calm c.in_ok-done.ensures.step c.in_ok-settle.ensures.ok;
      items = c.in_ok-settle.ensures.items;
      setting = c.in_ok-settle.ensures.setting ∙ (feeds_setting (seen c.frames.server) (seen c.feed.new.self) (Ok count) c.in_ok-done.ensures.step ∙ c.frames.invariant.setting);
      fed = λ s stood. subst (g.T.Serves.stands c.settle.new.server) (piece_parts s c.args.piece.now c.frames.done count)
          (c.in_ok-settle.ensures.fed _ (c.in_ok-done.ensures.fed.fed _ (c.frames.invariant.fed s stood)));
      later = omega (arith, c.in_ok-settle.ensures.later, c.frames.invariant.later);
      holds = λ st before. c.in_ok-settle.ensures.holds st (c.frames.invariant.holds st before);
    }

pub returns-in_err-settle-clause-full : goal.returns-in_err-settle-clause-full
returns-in_err-settle-clause-full g c = λ journal.
    let rule = g.T.Serves.rule in
    let seen = g.T.Serves.seen in
    let arrived = g.met.T.Serves.arrived in
    let count = c.in_ok-done.field-0 in
    let calm = c.frames.invariant.calm in
    let stopped : c.settle.result ≡ Err stop.Journal =
    handed_on c.from_residual-in_err-settle.result c.settle.result c.in_err-settle.field-0.0 stop.Journal c.in_err-settle.was c.from_residual-in_err-settle.ensures journal in
    let stops = c.settle.ensures.full stopped in
    let takes : TakesPacket (seen c.frames.server) (seen c.feed.new.self) =
    full_came rule (seen c.frames.server) (seen c.feed.new.self) (seen c.settle.new.server) count calm c.in_ok-done.ensures.step stops in
    record {
      part = stops_in g.T.Serves.heard (g.T.Serves.stands c.args.server.now) (g.T.Serves.stands c.frames.server) (g.T.Serves.stands c.feed.new.self)
          (g.T.Serves.stands c.settle.new.server) c.args.piece.now c.frames.done count (seen c.settle.new.server) g.met.T.Serves.more_heard
          c.frames.invariant.within c.frames.invariant.fed c.in_ok-done.ensures.fed c.settle.ensures.fed
          (λ before now stood stands. came_more (seen c.frames.server) (seen c.feed.new.self) (seen c.settle.new.server) _ _ calm.accepts takes stops.stays
          (arrived c.frames.server before stood) (arrived c.settle.new.server now stands))
          (open_after (seen c.frames.server) (seen c.feed.new.self) (seen c.settle.new.server) calm.unended takes stops.stays);
      full = settle_full rule (seen c.frames.server) (seen c.feed.new.self) (seen c.settle.new.server) calm takes stops;
      items_are = c.settle.ensures.full_items stopped;
    }

pub returns-in_err-settle-clause-fails : goal.returns-in_err-settle-clause-fails
returns-in_err-settle-clause-fails g c = λ failed.
    let rule = g.T.Serves.rule in
    let seen = g.T.Serves.seen in
    let arrived = g.met.T.Serves.arrived in
    let count = c.in_ok-done.field-0 in
    let calm = c.frames.invariant.calm in
    let stopped : c.settle.result ≡ Err stop.Store =
    handed_on c.from_residual-in_err-settle.result c.settle.result c.in_err-settle.field-0.0 stop.Store c.in_err-settle.was c.from_residual-in_err-settle.ensures failed in
    let stops = c.settle.ensures.fails stopped in
    let takes : TakesPacket (seen c.frames.server) (seen c.feed.new.self) =
    store_came rule (seen c.frames.server) (seen c.feed.new.self) (seen c.settle.new.server) count c.settle.new.items.items calm c.in_ok-done.ensures.step stops in
    record {
      part = stops_in g.T.Serves.heard (g.T.Serves.stands c.args.server.now) (g.T.Serves.stands c.frames.server) (g.T.Serves.stands c.feed.new.self)
          (g.T.Serves.stands c.settle.new.server) c.args.piece.now c.frames.done count (seen c.settle.new.server) g.met.T.Serves.more_heard
          c.frames.invariant.within c.frames.invariant.fed c.in_ok-done.ensures.fed c.settle.ensures.fed
          (λ before now stood stands. came_more (seen c.frames.server) (seen c.feed.new.self) (seen c.settle.new.server) _ _ calm.accepts takes stops.stays
          (arrived c.frames.server before stood) (arrived c.settle.new.server now stands))
          (open_after (seen c.frames.server) (seen c.feed.new.self) (seen c.settle.new.server) calm.unended takes stops.stays);
      stop = settle_store rule (seen c.frames.server) (seen c.feed.new.self) (seen c.settle.new.server) c.settle.new.items.items calm takes stops;
    }

pub returns-in_err-done-clause-broken : goal.returns-in_err-done-clause-broken
returns-in_err-done-clause-broken g c =
    let seen = g.T.Serves.seen in
    let part = c.in_err-done.ensures.refused_fed in
    on_err _ c.from_residual.result
    (breaks_in g.T.Serves.heard (g.T.Serves.stands c.args.server.now) (g.T.Serves.stands c.frames.server) (g.T.Serves.stands c.feed.new.self) (g.T.Serves.stands c.feed.new.self)
    c.args.piece.now c.frames.done part.0 (seen c.feed.new.self) c.frames.items.items c.frames.invariant.within c.frames.invariant.fed part.1 (λ bytes fed. fed)
    (sent_since (seen c.frames.server) (seen c.feed.new.self) c.frames.items.items c.frames.invariant.items
    (sends_refused (seen c.frames.server) (seen c.feed.new.self) c.in_err-done.field-0.0 c.in_err-done.ensures.step)))

pub returns-in_err-settle-clause-broken : goal.returns-in_err-settle-clause-broken
returns-in_err-settle-clause-broken g c =
    let seen = g.T.Serves.seen in
    on_err _ c.from_residual-in_err-settle.result
    (breaks_in g.T.Serves.heard (g.T.Serves.stands c.args.server.now) (g.T.Serves.stands c.frames.server) (g.T.Serves.stands c.feed.new.self) (g.T.Serves.stands c.settle.new.server)
    c.args.piece.now c.frames.done c.in_ok-done.field-0 (seen c.settle.new.server) c.settle.new.items.items c.frames.invariant.within c.frames.invariant.fed
    c.in_ok-done.ensures.fed c.settle.ensures.fed c.in_err-settle.ensures.sent)
