-- A message that was written.
use Rattle.std.proofs.Common.{◌≡◌, ℕ, ◌<◌, ◌≤◌, ◌^◌, true, List, [], ◌++◌, length, Some, ap, ◌∙◌, arith}
use Rattle.byteorder.specs.Endian.{little_bytes}
use Rattle.byteorder.specs.Numbers.{little_number-reads_back}
use Rattle.token_text.specs.Arguments.{arguments_of, fits}
use Rattle.token_text.specs.Book.{Entry, IsMessage, format_of, message_text, token_of}
use Rattle.token_text.specs.Spelling.{AreWords, arguments_text}
use Rattle.token_text.specs.declared.argument.Arg.{Arg}
use Rattle.token_text.proofs.WriteLemmas.{written_spells}

token_back : (token : ℕ) (rest : List ℕ) → token < 2 ^ 32 → token_of (little_bytes 4 token ++ rest) ≡ token
token_back token rest h = little_number-reads_back 4 token [] (omega (arith, h))

four_bytes : (token : ℕ) (rest : List ℕ) → 4 ≤ length (little_bytes 4 token ++ rest)
four_bytes token rest = omega arith

-- it is the message of this format and these arguments
pub written_message : (book : List Entry) (token : ℕ) (format : Entry) (args : List Arg) → token < 2 ^ 32 → format_of book token ≡ Some format →
    fits format.parts args ≡ true → AreWords (arguments_of args) → IsMessage book (message_text token (arguments_of args)) format (arguments_of args)
written_message book token format args small known fit words =
    let rest = arguments_text (arguments_of args) in
    record {
      long = four_bytes token rest;
      known = ap (λ t. format_of book t) (token_back token rest small) ∙ known;
      spelled = written_spells format.parts args fit words;
    }
