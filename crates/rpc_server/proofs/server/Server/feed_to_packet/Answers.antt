use Rattle.std.proofs.Common.{◌≡◌, take, Some, sym, subst}
use Rattle.rpc_frames.specs.Listening.{StopsAtPacket}
use Rattle.rpc_ids.specs.declared.method.Role.TheVariants.{Server}
use Rattle.rpc_schedule.specs.ends.EndState.{WasFed}
use Rattle.rpc_schedule.proofs.ends.FedLemmas.{fed_less, fed_lost, fed_more, fed_to_packet, on_err}
use Rattle.rpc_server.proofs.server.Server.feed_to_packet.Goals as goal

pub returns-in_err-take_in-in-Ok-clause-refused_fed : goal.returns-in_err-take_in-in-Ok-clause-refused_fed
returns-in_err-take_in-in-Ok-clause-refused_fed g c =
    on_err _ c.from_residual.result (
      c.in-Ok.heard.taken,
      fed_to_packet Server c.args.self.now c.take_in.new.self c.args.piece.now c.in-Ok.heard.taken c.in-Ok.heard.packet (subst (λ v. v.listener.role ≡ Server) c.self.view_is c.self.invariant.1) c.in-Ok.ensures.taken
          (subst (λ v. StopsAtPacket v.listener c.args.piece.now c.in-Ok.heard.taken c.in-Ok.heard.packet) c.self.view_is c.in-Ok.ensures.stops)
          (λ s fed.
          fed_less _ _ c.self.inside.listener c.listen_for_packet.new.self (take c.in-Ok.heard.taken c.args.piece.now) c.take_in.new.self.serving c.take_in.new.self.listener
          c.in-Ok.heard.packet c.in_err-take_in-in-Ok.field-0.0 s c.self.invariant.1 c.in-Ok.ensures.hears c.in_default.is c.in_err-take_in-in-Ok.ensures.step
          c.take_in.ensures.listener (subst (λ v. WasFed Server v s) (sym c.self.view_is) fed)),
    )

pub returns-in_ok-take_in-in-Ok-clause-fed : goal.returns-in_ok-take_in-in-Ok-clause-fed
returns-in_ok-take_in-in-Ok-clause-fed g c =
    fed_to_packet Server c.args.self.now c.take_in.new.self c.args.piece.now c.in-Ok.heard.taken c.in-Ok.heard.packet (subst (λ v. v.listener.role ≡ Server) c.self.view_is c.self.invariant.1) c.in-Ok.ensures.taken
    (subst (λ v. StopsAtPacket v.listener c.args.piece.now c.in-Ok.heard.taken c.in-Ok.heard.packet) c.self.view_is c.in-Ok.ensures.stops)
    (λ s fed.
    fed_more _ _ c.self.inside.listener c.listen_for_packet.new.self (take c.in-Ok.heard.taken c.args.piece.now) c.take_in.new.self.serving c.take_in.new.self.listener
    c.in-Ok.heard.packet s c.self.invariant.1 c.in-Ok.ensures.hears c.in_default.is c.in_ok-take_in-in-Ok.ensures.step
    c.take_in.ensures.listener (subst (λ v. WasFed Server v s) (sym c.self.view_is) fed))

pub returns-in-Err-clause-refused_fed : goal.returns-in-Err-clause-refused_fed
returns-in-Err-clause-refused_fed g c =
    let lost = c.in-Err.ensures.lost in (
      lost.taken,
      fed_to_packet Server c.args.self.now _ c.args.piece.now lost.taken (Some lost.packet) (subst (λ v. v.listener.role ≡ Server) c.self.view_is c.self.invariant.1) lost.within
          (subst (λ v. StopsAtPacket v.listener c.args.piece.now lost.taken (Some lost.packet)) c.self.view_is lost.stops)
          (λ s fed.
          fed_lost _ _ c.self.inside.listener c.listen_for_packet.new.self (take lost.taken c.args.piece.now) lost.packet s lost.more c.self.invariant.1 c.in_default.is
          (subst (λ v. WasFed Server v s) (sym c.self.view_is) fed)),
    )
