use Rattle.std.proofs.Common.{◌++◌, ◌∙◌, ap, refl, take}
use Rattle.hdlc_frame.specs.Found.{found}
use Rattle.hdlc_frame.specs.Lent.{found_in_got, found_of}
use Rattle.rpc_frames.specs.Listening.{Listening}
use Rattle.rpc_frames.proofs.Listens.{hears_nothing, hears_segment, loses_packet, on_err, packet_is_heard, stops_at_segment}
use Rattle.rpc_frames.proofs.listener.Listener.listen.Goals as goal

pub returns-in_default-clause-hears : goal.returns-in_default-clause-hears
returns-in_default-clause-hears c =
    let inside = c.self.inside in
    let old : Listening = record { role = inside.role; reading = inside.decoder; counts = inside.counts } in
    let push = c.push-pushed in
    rw (← c.self.view_is) (
    hears_nothing old _ (take push.result.taken c.args.piece.now) refl push.follows.holds-at-none
    (λ stream read. push.ensures.gives stream read ∙ ap (λ got. found old.reading.limit stream ++ found_in_got got) c.in_default.is) refl
    )

pub returns-clause-hears : goal.returns-clause-hears
returns-clause-hears c =
    let inside = c.self.inside in
    let old : Listening = record { role = inside.role; reading = inside.decoder; counts = inside.counts } in
    let push = c.push-pushed in
    rw (c.in_ok-packet.ensures.ok, ← c.self.view_is) (
    hears_segment old _ (take push.result.taken c.args.piece.now) (found_of c.in-Some.got) c.hear-heard.result refl push.follows.holds-at-none
    (λ stream read. push.ensures.gives stream read ∙ ap (λ got. found old.reading.limit stream ++ found_in_got got) c.in-Some.is)
    c.hear-heard.ensures c.with-self-inside.ensures
    )

pub returns-in_default-clause-stops : goal.returns-in_default-clause-stops
returns-in_default-clause-stops c =
    let inside = c.self.inside in
    let old : Listening = record { role = inside.role; reading = inside.decoder; counts = inside.counts } in
    let push = c.push-pushed in
    rw (← c.self.view_is) (stops_at_segment old c.args.piece.now push.result.taken push.result.got push.ensures.whole push.ensures.gives push.ensures.first)

pub returns-clause-stops : goal.returns-clause-stops
returns-clause-stops c =
    let inside = c.self.inside in
    let old : Listening = record { role = inside.role; reading = inside.decoder; counts = inside.counts } in
    let push = c.push-pushed in
    rw (← c.self.view_is) (stops_at_segment old c.args.piece.now push.result.taken push.result.got push.ensures.whole push.ensures.gives push.ensures.first)

pub returns-in_err-packet-clause-lost : goal.returns-in_err-packet-clause-lost
returns-in_err-packet-clause-lost c =
    let inside = c.self.inside in
    let old : Listening = record { role = inside.role; reading = inside.decoder; counts = inside.counts } in
    let push = c.push-pushed in
    let piece = c.args.piece.now in
    let heard = c.hear-heard.result in
    let more = hears_segment old _ (take push.result.taken piece) (found_of c.in-Some.got) heard refl push.follows.holds-at-none
    (λ stream read. push.ensures.gives stream read ∙ ap (λ got. found old.reading.limit stream ++ found_in_got got) c.in-Some.is)
    c.hear-heard.ensures c.with-self-inside.ensures in
    rw (← c.self.view_is) (
    on_err c.from_residual.result (
    loses_packet old _ piece push.result.taken heard (push.ensures.progress c.requires.more) push.ensures.taken
    (packet_is_heard old.role (found_of c.in-Some.got) heard c.hear-heard.ensures) more
    (stops_at_segment old piece push.result.taken push.result.got push.ensures.whole push.ensures.gives push.ensures.first)
    c.in_err-packet.ensures.err
    )
    )
