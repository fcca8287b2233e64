use Rattle.token_text.proofs.PrintedLaws.{message_of_text, text_of_message}
use Rattle.token_text.proofs.laws.message_has_one_text.Goals as goal

pub returns : goal.returns
returns c = record { one = text_of_message; only = message_of_text }
