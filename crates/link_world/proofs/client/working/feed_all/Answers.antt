use Rattle.std.proofs.Common.{◌≡◌, ◌<◌, ℕ, ◌+◌, ◌∙◌, length, length-take, length-drop, IfSome, Err, ap, sym, subst, arith}
use Rattle.rpc_ids.specs.declared.method.Role.TheVariants.{Client as client_role}
use Rattle.rpc_journal.specs.declared.answers.StartRefused.TheVariants.{JournalFull}
use Rattle.rpc_journal.specs.Calls.{call_count}
use Rattle.rpc_journal.specs.CallTable.{Table}
use Rattle.rpc_schedule.specs.Serving.{Feeds, TakesPacket, deeds}
use Rattle.rpc_schedule.specs.ends.EndState.{WasFed}
use Rattle.rpc_frames.proofs.Pieces.{piece_parts}
use Rattle.link_world.specs.server.Resting.{IsResting}
use Rattle.link_world.proofs.server.OutLemmas.{goes_out_then}
use Rattle.link_world.proofs.server.StopLemmas.{if_err_by, stopped_full}
use Rattle.link_world.specs.client.Underway.{call_seen}
use Rattle.link_world.specs.client.Working.{IsKept, ClientTakesMore}
use Rattle.link_world.proofs.client.ArriveLemmas.{fed_calls, fed_kept, fed_packet, fed_rests, fed_same, fed_takes, there_still}
use Rattle.link_world.proofs.client.StopLemmas.{packet_stops, work_stops}
use Rattle.link_world.proofs.client.IdleLemmas.{few_fed}
use Rattle.link_world.proofs.client.working.feed_all.Goals as goal

pub settle-requires-clause-kept : goal.settle-requires-clause-kept
settle-requires-clause-kept c =
    let old = c.frames.desk.client.serving in
    let mid = c.feed.new.self.serving in
    let was : c.len-count.result ≡ length old.table.entries =
    c.len-count.ensures.len ∙ ap length (c.journal.ensures.entries ∙ ap (λ (t : Table). t.entries) c.calls.ensures.table) in
    let is : c.len.result ≡ length mid.table.entries =
    c.len.ensures.len ∙ ap length (c.journal-in-frames.ensures.entries ∙ ap (λ (t : Table). t.entries) c.calls-in-frames.ensures.table) in
    let packet : TakesPacket old mid = fed_packet old mid c.in_ok-done.field-0 c.in_ok-done.ensures.step (omega (arith, was, is, c.if-count-len.true)) in
    fed_kept old mid c.frames.desk.items.items c.frames.desk.events.items packet c.frames.invariant.kept

pub frames-preserved-in_ok-settle : goal.frames-preserved-in_ok-settle
frames-preserved-in_ok-settle c =
    let old = c.frames.desk.client.serving in
    let mid = c.feed.new.self.serving in
    let new = c.settle.new.desk.client.serving in
    let count = c.in_ok-done.field-0 in
    let was : c.len-count.result ≡ length old.table.entries =
    c.len-count.ensures.len ∙ ap length (c.journal.ensures.entries ∙ ap (λ (t : Table). t.entries) c.calls.ensures.table) in
    let is : c.len.result ≡ length mid.table.entries =
    c.len.ensures.len ∙ ap length (c.journal-in-frames.ensures.entries ∙ ap (λ (t : Table). t.entries) c.calls-in-frames.ensures.table) in
    let packet : TakesPacket old mid = fed_packet old mid count c.in_ok-done.ensures.step (omega (arith, was, is, c.if-count-len.true)) in
    let settled = c.in_ok-settle.ensures.settled in
    let setting = c.frames.invariant.kept.setting in
    record {
      within = omega (arith, c.in_ok-done.ensures.fed.within, c.frames.invariant.within, length-take {A = ℕ}, length-drop {A = ℕ});
      rest = fed_rests c.args.now old mid new c.frames.under c.settle.new.under c.settle.new.desk.items.items c.settle.new.desk.events.items c.frames.invariant.rest packet settled c.in_ok-settle.ensures.kept;
      kept = c.in_ok-settle.ensures.kept;
      takes = fed_takes c.args.now c.args.desk.now.client.serving c.args.under.now old c.frames.under mid new c.settle.new.under setting c.frames.invariant.takes packet settled;
      there = there_still c.args.now mid.table.entries new.table.entries c.frames.under c.settle.new.under old new settled.works (settled.calls ∙ fed_calls old mid packet setting) c.frames.invariant.there;
      past = c.in_ok-settle.ensures.past;
      out = goes_out_then client_role c.args.desk.now.items.items c.frames.desk.items.items c.settle.new.desk.items.items c.args.wires.now c.frames.wires c.settle.new.wires
          c.frames.invariant.out c.in_ok-settle.ensures.out;
      holds = λ st before. c.in_ok-settle.ensures.holds st (c.frames.invariant.holds st before);
      fed = λ s stood. subst (WasFed client_role c.settle.new.desk.client) (piece_parts s c.args.frame.now c.frames.done count)
          (c.settle.ensures.fed _ (c.in_ok-done.ensures.fed.fed _ (c.frames.invariant.fed s stood)));
    }

pub frames-preserved : goal.frames-preserved
frames-preserved c =
    let old = c.frames.desk.client.serving in
    let mid = c.feed.new.self.serving in
    let count = c.in_ok-done.field-0 in
    let was : c.len-count.result ≡ length old.table.entries =
    c.len-count.ensures.len ∙ ap length (c.journal.ensures.entries ∙ ap (λ (t : Table). t.entries) c.calls.ensures.table) in
    let is : c.len.result ≡ length mid.table.entries =
    c.len.ensures.len ∙ ap length (c.journal-in-frames.ensures.entries ∙ ap (λ (t : Table). t.entries) c.calls-in-frames.ensures.table) in
    let same : mid ≡ old = fed_same old mid count c.in_ok-done.ensures.step (λ longer. absurd (omega (arith, was, is, longer, c.if-count-len.false))) in
    record {
      within = omega (arith, c.in_ok-done.ensures.fed.within, c.frames.invariant.within, length-take {A = ℕ}, length-drop {A = ℕ});
      rest = subst IsResting (sym same) c.frames.invariant.rest;
      kept = subst (λ s. IsKept s c.frames.desk.items.items c.frames.desk.events.items) (sym same) c.frames.invariant.kept;
      takes = subst (λ s. ClientTakesMore c.args.now c.args.desk.now.client.serving c.args.under.now s c.frames.under) (sym same) c.frames.invariant.takes;
      there = subst (λ s. IfSome (call_seen c.frames.under) (λ k. k < call_count (deeds s))) (sym same) c.frames.invariant.there;
      past = c.frames.invariant.past;
      out = c.frames.invariant.out;
      holds = c.frames.invariant.holds;
      fed = λ s stood. subst (WasFed client_role c.feed.new.self) (piece_parts s c.args.frame.now c.frames.done count)
          (c.in_ok-done.ensures.fed.fed _ (c.frames.invariant.fed s stood));
    }

pub returns-in_err-done-clause-full : goal.returns-in_err-done-clause-full
returns-in_err-done-clause-full c =
    let old = c.frames.desk.client.serving in
    let mid = c.feed.new.self.serving in
    let part = c.in_err-done.ensures.refused_fed in
    if_err_by c.from_residual.result _ _ c.from_residual.ensures (λ journal bytes stood.
    let full : c.in_err-done.field-0.0 ≡ JournalFull = stopped_full c.in_err-done.field-0.0 journal in
    let refuses : Feeds old (Err JournalFull) mid = subst (λ why. Feeds old (Err why) mid) full c.in_err-done.ensures.step in
    let fed : WasFed client_role c.feed.new.self _ = subst (WasFed client_role c.feed.new.self) (piece_parts bytes c.args.frame.now c.frames.done part.0)
    (part.1.fed _ (c.frames.invariant.fed bytes stood)) in
    packet_stops c.args.now c.args.desk.now.client.serving c.args.under.now old c.frames.under bytes c.args.frame.now (c.frames.done + part.0)
    stood.packets c.requires.rest.accepts c.frames.invariant.takes mid fed.packets refuses.0 refuses.1)

pub returns-in_err-settle-clause-full : goal.returns-in_err-settle-clause-full
returns-in_err-settle-clause-full c =
    let old = c.frames.desk.client.serving in
    let mid = c.feed.new.self.serving in
    let count = c.in_ok-done.field-0 in
    let was : c.len-count.result ≡ length old.table.entries =
    c.len-count.ensures.len ∙ ap length (c.journal.ensures.entries ∙ ap (λ (t : Table). t.entries) c.calls.ensures.table) in
    let is : c.len.result ≡ length mid.table.entries =
    c.len.ensures.len ∙ ap length (c.journal-in-frames.ensures.entries ∙ ap (λ (t : Table). t.entries) c.calls-in-frames.ensures.table) in
    let packet : TakesPacket old mid = fed_packet old mid count c.in_ok-done.ensures.step (omega (arith, was, is, c.if-count-len.true)) in
    if_err_by c.from_residual-in_err-settle.result _ _ c.from_residual-in_err-settle.ensures (λ journal bytes stood.
    let fed : WasFed client_role c.feed.new.self _ = subst (WasFed client_role c.feed.new.self) (piece_parts bytes c.args.frame.now c.frames.done count)
    (c.in_ok-done.ensures.fed.fed _ (c.frames.invariant.fed bytes stood)) in
    work_stops c.args.now c.args.desk.now.client.serving c.args.under.now old c.frames.under bytes c.args.frame.now (c.frames.done + count)
    stood.packets c.requires.rest.accepts c.frames.invariant.takes mid fed.packets c.frames.invariant.rest.accepts packet (c.in_err-settle.ensures.full journal))

pub settle-requires-clause-few : goal.settle-requires-clause-few
settle-requires-clause-few c =
    let old = c.frames.desk.client.serving in
    let mid = c.feed.new.self.serving in
    let was : c.len-count.result ≡ length old.table.entries =
    c.len-count.ensures.len ∙ ap length (c.journal.ensures.entries ∙ ap (λ (t : Table). t.entries) c.calls.ensures.table) in
    let is : c.len.result ≡ length mid.table.entries =
    c.len.ensures.len ∙ ap length (c.journal-in-frames.ensures.entries ∙ ap (λ (t : Table). t.entries) c.calls-in-frames.ensures.table) in
    few_fed old mid c.frames.invariant.rest (fed_packet old mid c.in_ok-done.field-0 c.in_ok-done.ensures.step (omega (arith, was, is, c.if-count-len.true)))
