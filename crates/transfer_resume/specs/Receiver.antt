-- What a session that receives makes of a word, of a tick and of the end of the call.
use Rattle.std.specs.Prelude.{ℕ, [], ◌∷◌}
use Rattle.rpc_ids.specs.declared.Status.{Status}
use Rattle.rpc_ids.specs.declared.Status.TheVariants.{Cancelled}
use Rattle.transfer_base.specs.declared.Piece.{Piece}
use Rattle.transfer_receiver.specs.declared.answers.Ticked.{Ticked}
use Rattle.transfer_receiver.specs.declared.answers.Ticked.TheVariants.{Quiet, Resend, ResendEnd, Over}
use Rattle.transfer_receiver.specs.declared.phase.Phase.{Phase}
use Rattle.transfer_receiver.specs.declared.phase.Phase.TheVariants as phase
use Rattle.transfer_receiver.specs.Phase.{is_open}
use Rattle.transfer_receiver.specs.Receiver.{Receiver}
use Rattle.transfer_receiver.specs.PieceRules.{PieceOutcome}
use Rattle.transfer_receiver.specs.Run.{outcome_of}
use Rattle.transfer_receiver.specs.TickRules.{tick_outcome}
use Rattle.transfer_words.specs.Word.{Word, data_comes, completion, completion_ack}
use Rattle.transfer_words.specs.Saying.{Stepped, says, leaves}
use Rattle.transfer_words.specs.CoreAnswers.{of_piece, of_tick}
use Rattle.transfer_resume.specs.declared.stage.Stage.{Stage}
use Rattle.transfer_resume.specs.declared.stage.Stage.TheVariants as stage
use Rattle.transfer_resume.specs.Session.{saying, staying}

abbrev pub piece_step : Piece → PieceOutcome → Stepped Stage
piece_step p t = record { after = stage.Receiving t.after; sayings = of_piece p.bytes t.answer }

-- an end that the client tells is the end of the session, unless the session has told its own already
abbrev pub completed : Receiver → Phase → Status → Stepped Stage
completed r (phase.Completing status) told = saying (stage.Receiving r) (says completion_ack)
completed r _ told = record { after = stage.Ended told; sayings = leaves ∷ says completion_ack ∷ [] }

-- the client knows the end
abbrev pub acknowledged : Receiver → Phase → Stepped Stage
acknowledged r (phase.Completing status) = staying (stage.Ended status)
acknowledged r _ = staying (stage.Receiving r)

-- what is no piece is no activity
abbrev pub receiver_hears : ℕ → Receiver → Word → Stepped Stage
receiver_hears now r (data_comes p) = piece_step p (outcome_of r p now)
receiver_hears now r (completion told) = completed r r.phase told
receiver_hears now r completion_ack = acknowledged r r.phase
receiver_hears now r _ = staying (stage.Receiving r)

-- a receiver goes on, unless it has given up
abbrev pub receiving_or_over : Receiver → Ticked → Stage
receiving_or_over r Quiet = stage.Receiving r
receiving_or_over r (Resend ask) = stage.Receiving r
receiving_or_over r (ResendEnd status) = stage.Receiving r
receiving_or_over r (Over status) = stage.Ended status

abbrev pub receiver_ticks : ℕ → Receiver → Stepped Stage
receiver_ticks now r = record {
  after = receiving_or_over (tick_outcome r now).after (tick_outcome r now).answer;
  sayings = of_tick (is_open r.phase) (tick_outcome r now).answer;
}

-- an end that is told already stands; else the upload is left
abbrev pub receiver_stops : Phase → Stepped Stage
receiver_stops (phase.Completing status) = staying (stage.Ended status)
receiver_stops _ = saying (stage.Ended Cancelled) leaves
