-- A word that is said to a session of a call moves that session.
use Rattle.std.proofs.Common.{sym, ap, ◌∙◌}
use Rattle.rpc_handlers.specs.declared.event.Event.TheVariants.{Message}
use Rattle.transfer_words.specs.Spoken.{text_in}
use Rattle.transfer_words.proofs.SpokenLaws.{words_are_heard}
use Rattle.transfer_resume.specs.Hears.{session_hears}
use Rattle.transfer_resume.specs.Book.{has_room, stage_of, spelled_all}
use Rattle.transfer_resume.proofs.AloneLaws.{moves_alone}
use Rattle.transfer_resume.proofs.SpelledLemmas.{spelled_in}
use Rattle.demo_services.specs.declared.call.DemoCall.TheVariants.{Transfer}
use Rattle.demo_services.specs.ReadBack.{answer-memo_of, next-memo_of}
use Rattle.demo_services.specs.Serves.{ServesSessions}
use Rattle.demo_services.specs.Transfer.{giving, message_answer, message_after, transfer_memo}

pub serves_sessions : ServesSessions
serves_sessions = record {
  answers = λ b s w small some fits.
      sym (answer-memo_of (Transfer b) (Message (text_in s w)))
      ∙ (ap (message_answer b) (words_are_heard s w small fits).read
      ∙ (ap (λ t. giving (spelled_all t.outs)) (moves_alone.heard b s w some fits)
      ∙ ap giving (spelled_in s (session_hears b.service (has_room b) (stage_of s b.rows) w).sayings)));
  moves = λ b s w small some fits.
      sym (next-memo_of (Transfer b) (Message (text_in s w)))
      ∙ (ap (λ read. transfer_memo (message_after b read)) (words_are_heard s w small fits).read
      ∙ ap (λ t. transfer_memo t.after) (moves_alone.heard b s w some fits));
}
