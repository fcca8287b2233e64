use Rattle.std.proofs.Common.{subst}
use Rattle.link_world.proofs.server.OutLemmas.{on_ok_one}
use Rattle.link_laws.specs.world.Limits.{StopsIn}
use Rattle.link_laws.specs.world.Turns.{cancelling, starting, timing, to_client, to_server}
use Rattle.link_world.specs.Making.{ClientTurns, ServerTurns, TakesTurn}
use Rattle.link_world.proofs.MakeLemmas.{client_turns, next_turns, server_turns}
use Rattle.link_world.proofs.StopLemmas.{next_stops}
use Rattle.link_world.proofs.making.act.Goals as goal

pub returns-in-ToServer-clause-turn : goal.returns-in-ToServer-clause-turn
returns-in-ToServer-clause-turn c =
    let s = c.deliver_to_server.new.server in
    let x = c.deliver_to_server.new.wires in
    let d = c.deliver_to_server.new.course in
    on_ok_one c.deliver_to_server.result
    (λ turn k commands w shows shown course tuned takes.
    let t = subst (TakesTurn k w c.args.wires.now) c.in-ToServer.is takes in
    next_turns k commands w (to_server c.in-ToServer.frame t.0) s c.args.client.now x d t.1
    (server_turns k commands w (to_server c.in-ToServer.frame t.0) s c.args.client.now x d
    (subst (λ frame. ServerTurns k commands w (to_server frame t.0) s x d) c.as_slice.ensures (turn k commands w t.0 shows t.2 course)) shown))
    c.deliver_to_server.ensures.turn

pub returns-in-ToClient-clause-turn : goal.returns-in-ToClient-clause-turn
returns-in-ToClient-clause-turn c =
    let client = c.deliver_to_client.new.client in
    let x = c.deliver_to_client.new.wires in
    let d = c.deliver_to_client.new.course in
    on_ok_one c.deliver_to_client.result
    (λ turn k commands w shows shown course tuned takes.
    let t = subst (TakesTurn k w c.args.wires.now) c.in-ToClient.is takes in
    next_turns k commands w (to_client c.in-ToClient.frame t.0) c.args.server.now client x d t.1
    (client_turns k commands w (to_client c.in-ToClient.frame t.0) c.args.server.now client x d
    (subst (λ frame. ClientTurns k commands w (to_client frame t.0) client x d) c.as_slice-in-ToClient.ensures (turn k commands w t.0 shown t.2 course)) shows))
    c.deliver_to_client.ensures.turn

pub returns-in-Cancel-clause-turn : goal.returns-in-Cancel-clause-turn
returns-in-Cancel-clause-turn c =
    on_ok_one c.cancel.result
    (λ turn k commands w shows shown course tuned takes.
    let t = subst (TakesTurn k w c.args.wires.now) c.in-Cancel.is takes in
    next_turns k commands w (cancelling c.in-Cancel.call) c.args.server.now c.cancel.new.client c.cancel.new.wires c.args.course.now t.0
    (client_turns k commands w (cancelling c.in-Cancel.call) c.args.server.now c.cancel.new.client c.cancel.new.wires c.args.course.now
    (turn k commands w shown t.1 course) shows))
    c.cancel.ensures.turn

pub returns-in-ToServer-clause-journal : goal.returns-in-ToServer-clause-journal
returns-in-ToServer-clause-journal c = λ is k commands w shows shown course tuned takes.
    let t = subst (TakesTurn k w c.args.wires.now) c.in-ToServer.is takes in
    next_stops k w (to_server c.in-ToServer.frame t.0) t.1
    (subst (λ frame. StopsIn k w (to_server frame t.0)) c.as_slice.ensures (c.deliver_to_server.ensures.journal is k w t.0 shows))

pub returns-in-ToClient-clause-journal : goal.returns-in-ToClient-clause-journal
returns-in-ToClient-clause-journal c = λ is k commands w shows shown course tuned takes.
    let t = subst (TakesTurn k w c.args.wires.now) c.in-ToClient.is takes in
    next_stops k w (to_client c.in-ToClient.frame t.0) t.1
    (subst (λ frame. StopsIn k w (to_client frame t.0)) c.as_slice-in-ToClient.ensures (c.deliver_to_client.ensures.journal is k commands w t.0 shown course))

pub returns-in-Start-clause-journal : goal.returns-in-Start-clause-journal
returns-in-Start-clause-journal c = λ is k commands w shows shown course tuned takes.
    let t = subst (TakesTurn k w c.args.wires.now) c.in-Start.is takes in
    next_stops k w (starting c.in-Start.command.now t.0) t.1 (c.start.ensures.journal is k commands w t.0 shows shown course tuned t.1)

pub returns-in-Cancel-clause-journal : goal.returns-in-Cancel-clause-journal
returns-in-Cancel-clause-journal c = λ is k commands w shows shown course tuned takes.
    let t = subst (TakesTurn k w c.args.wires.now) c.in-Cancel.is takes in
    next_stops k w (cancelling c.in-Cancel.call) t.0 (c.cancel.ensures.journal is k commands w shown course)

pub returns-in-Time-clause-journal : goal.returns-in-Time-clause-journal
returns-in-Time-clause-journal c = λ is k commands w shows shown course tuned takes.
    let t = subst (TakesTurn k w c.args.wires.now) c.in-Time.is takes in
    next_stops k w timing t.0 (c.pass_time.ensures.journal is k commands w shows shown course)
