-- Each move is made as its row says, over a table with more room.
use Rattle.std.proofs.Common.{◌∷◌, length, refl, ap, ◌∙◌, subst, arith}
use Rattle.rpc_journal.specs.declared.table.arrival_move.Move.TheVariants.{Drop, Reply, Close, Open, OpenAnew, Queue, Complete, Stray, End, Refuse, Answer}
use Rattle.rpc_ids.specs.declared.status.Status.TheVariants.{FailedPrecondition}
use Rattle.rpc_packet.specs.declared.packet_type.PacketType.TheVariants.{ClientError, ServerError}
use Rattle.rpc_handlers.specs.declared.event.Event.TheVariants.{Message}
use Rattle.rpc_journal.specs.Rows.{both_effects, ends_call, no_effect, puts_event}
use Rattle.rpc_journal.specs.Calls.{call_count}
use Rattle.rpc_journal.specs.table.Moves.{row_of}
use Rattle.rpc_journal.specs.declared.entry.EntryKind.TheVariants.{Arrive}
use Rattle.rpc_journal.specs.table.Agrees.{IsOpenAt, Agrees}
use Rattle.rpc_journal.specs.table.Touch.{IsServed}
use Rattle.rpc_journal.specs.History.{deed_by}
use Rattle.rpc_journal.proofs.table.OpenLemmas.{arrived}
use Rattle.rpc_journal.proofs.table.RoomLemmas.{on_err, on_ok, same_table_open, same_table_agrees, same_table_trans}
use Rattle.rpc_journal.proofs.table.TableSteps.{table_idle}
use Rattle.rpc_journal.proofs.table.call_states.CallStates.arrive.Goals as goal

pub open_anew-requires-clause-live : goal.open_anew-requires-clause-live
open_anew-requires-clause-live c =
    let opened : IsOpenAt c.args.self.now.calls.items c.in-OpenAnew.call = rw c.in-OpenAnew.is at c.requires in
    same_table_open c.args.self.now c.make_room-in-OpenAnew.new.self c.in-OpenAnew.call c.make_room-in-OpenAnew.ensures.same opened

pub returns-in_ok-make_room-in-OpenAnew-clause-err : goal.returns-in_ok-make_room-in-OpenAnew-clause-err
returns-in_ok-make_room-in-OpenAnew-clause-err c =
    on_err c.open_anew.result (same_table_trans c.args.self.now c.make_room-in-OpenAnew.new.self _ c.make_room-in-OpenAnew.ensures.same) c.open_anew.ensures.err

pub returns-in-Drop-clause-agrees : goal.returns-in-Drop-clause-agrees
returns-in-Drop-clause-agrees c = λ set ds seat place row agrees.
    arrived set ds seat c.args.p.now Drop c.args.self.now (row ∙ ap (λ m. row_of m c.args.p.now (call_count ds)) c.in-Drop.is)
    (table_idle ds (deed_by seat (Arrive c.args.p.now) no_effect) c.args.self.now c.args.self.now agrees
    (record { start = λ k. refl; finish = λ k. refl; cancel = λ k. refl; ends = refl; drops = refl; puts = refl; says = λ k. refl })
    refl (record { unflushing = refl; going_on = refl; running = refl; unclosed = refl }) refl refl refl (omega arith) refl refl)

pub returns-in-Reply-clause-agrees : goal.returns-in-Reply-clause-agrees
returns-in-Reply-clause-agrees c =
    on_ok c.reply.result
    (λ inner set ds seat place row agrees.
    arrived set ds seat c.args.p.now (Reply c.in-Reply.field-0) c.reply.new.self (row ∙ ap (λ m. row_of m c.args.p.now (call_count ds)) c.in-Reply.is)
    (inner ds seat c.args.p.now ServerError c.in-Reply.field-0 agrees))
    c.reply.ensures.agrees

pub returns-in_ok-make_room-in-Close-clause-agrees : goal.returns-in_ok-make_room-in-Close-clause-agrees
returns-in_ok-make_room-in-Close-clause-agrees c = λ set ds seat place row agrees.
    arrived set ds seat c.args.p.now (Close c.in-Close.call c.in-Close.status) c.close.new.self (row ∙ ap (λ m. row_of m c.args.p.now (call_count ds)) c.in-Close.is)
    (c.close.ensures.agrees ds seat c.args.p.now place (same_table_agrees ds _ _ c.make_room.ensures.same agrees))

pub returns-in_ok-state-in-Open-clause-agrees : goal.returns-in_ok-state-in-Open-clause-agrees
returns-in_ok-state-in-Open-clause-agrees c =
    on_ok c.open.result
    (λ inner set ds seat place row agrees.
    let served : IsServed (length ds) c.args.p.now c.in-Open.method c.in_ok-state-in-Open.state =
    subst (λ n. IsServed n c.args.p.now c.in-Open.method c.in_ok-state-in-Open.state) place c.in_ok-state-in-Open.ensures.state in
    arrived set ds seat c.args.p.now (Open c.in-Open.method) c.open.new.self (row ∙ ap (λ m. row_of m c.args.p.now (call_count ds)) c.in-Open.is)
    (inner ds seat c.args.p.now c.in-Open.method agrees served))
    c.open.ensures.agrees

pub returns-in_ok-make_room-in-OpenAnew-clause-agrees : goal.returns-in_ok-make_room-in-OpenAnew-clause-agrees
returns-in_ok-make_room-in-OpenAnew-clause-agrees c =
    on_ok c.open_anew.result
    (λ inner set ds seat place row agrees.
    arrived set ds seat c.args.p.now (OpenAnew c.in-OpenAnew.method c.in-OpenAnew.call) c.open_anew.new.self (row ∙ ap (λ m. row_of m c.args.p.now (call_count ds)) c.in-OpenAnew.is)
    (inner ds seat c.args.p.now c.in-OpenAnew.method place (same_table_agrees ds _ _ c.make_room-in-OpenAnew.ensures.same agrees)
    c.in_ok-state-in-OpenAnew.ensures.state))
    c.open_anew.ensures.agrees

pub returns-in_ok-make_room-in-Queue-clause-agrees : goal.returns-in_ok-make_room-in-Queue-clause-agrees
returns-in_ok-make_room-in-Queue-clause-agrees c = λ set ds seat place row agrees.
    arrived set ds seat c.args.p.now (Queue c.in-Queue.call) c.put.new.self (row ∙ ap (λ m. row_of m c.args.p.now (call_count ds)) c.in-Queue.is)
    (subst (λ b. Agrees (deed_by seat (Arrive c.args.p.now) (puts_event c.in-Queue.call (Message b)) ∷ ds) c.put.new.self) c.in_ok-payload-in-Queue.ensures.cases
    (c.put.ensures.agrees ds seat c.args.p.now place (same_table_agrees ds _ _ c.make_room-in-Queue.ensures.same agrees)))

pub returns-in_ok-make_room-in-Complete-clause-agrees : goal.returns-in_ok-make_room-in-Complete-clause-agrees
returns-in_ok-make_room-in-Complete-clause-agrees c = λ set ds seat place row agrees.
    arrived set ds seat c.args.p.now (Complete c.in-Complete.call) c.put-in-Complete.new.self (row ∙ ap (λ m. row_of m c.args.p.now (call_count ds)) c.in-Complete.is)
    (c.put-in-Complete.ensures.agrees ds seat c.args.p.now place (same_table_agrees ds _ _ c.make_room-in-Complete.ensures.same agrees))

pub returns-in-Stray-clause-agrees : goal.returns-in-Stray-clause-agrees
returns-in-Stray-clause-agrees c =
    on_ok c.reply-in-Stray.result
    (λ inner set ds seat place row agrees.
    arrived set ds seat c.args.p.now Stray c.reply-in-Stray.new.self (row ∙ ap (λ m. row_of m c.args.p.now (call_count ds)) c.in-Stray.is)
    (inner ds seat c.args.p.now ClientError FailedPrecondition agrees))
    c.reply-in-Stray.ensures.agrees

pub returns-in_ok-make_room-in-End-clause-agrees : goal.returns-in_ok-make_room-in-End-clause-agrees
returns-in_ok-make_room-in-End-clause-agrees c = λ set ds seat place row agrees.
    arrived set ds seat c.args.p.now (End c.in-End.call c.in-End.status) c.end.new.self (row ∙ ap (λ m. row_of m c.args.p.now (call_count ds)) c.in-End.is)
    (c.end.ensures.agrees ds seat c.args.p.now place (same_table_agrees ds _ _ c.make_room-in-End.ensures.same agrees))

pub returns-in_ok-make_room-in-Refuse-clause-agrees : goal.returns-in_ok-make_room-in-Refuse-clause-agrees
returns-in_ok-make_room-in-Refuse-clause-agrees c = λ set ds seat place row agrees.
    arrived set ds seat c.args.p.now (Refuse c.in-Refuse.call) c.refuse.new.self (row ∙ ap (λ m. row_of m c.args.p.now (call_count ds)) c.in-Refuse.is)
    (c.refuse.ensures.agrees ds seat c.args.p.now place (same_table_agrees ds _ _ c.make_room-in-Refuse.ensures.same agrees))

pub returns-in_ok-make_rooms-in-Answer-clause-agrees : goal.returns-in_ok-make_rooms-in-Answer-clause-agrees
returns-in_ok-make_rooms-in-Answer-clause-agrees c = λ set ds seat place row agrees.
    arrived set ds seat c.args.p.now (Answer c.in-Answer.call c.in-Answer.status) c.answer.new.self (row ∙ ap (λ m. row_of m c.args.p.now (call_count ds)) c.in-Answer.is)
    (subst (λ b. Agrees (deed_by seat (Arrive c.args.p.now) (both_effects (puts_event c.in-Answer.call (Message b)) (ends_call c.in-Answer.call c.in-Answer.status)) ∷ ds) c.answer.new.self) c.in_ok-payload-in-Answer.ensures.cases
    (c.answer.ensures.agrees ds seat c.args.p.now place (same_table_agrees ds _ _ c.make_rooms.ensures.same agrees)))
