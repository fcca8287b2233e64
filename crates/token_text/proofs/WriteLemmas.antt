-- How arguments are written.
use Rattle.std.proofs.Common.{◌≡◌, ℕ, ◌+◌, ◌<◌, Bool, true, false, cond, leb, List, [], ◌∷◌, ◌++◌, length, take, refl, arith}
use Rattle.std.specs.Prelude.{All}
use Rattle.std.specs.List.{list_all}
use Rattle.std.proofs.lemmas.Bool.{leb-true, leb-false}
use Rattle.std.proofs.lemmas.List.{length-take-le}
use Rattle.std.proofs.lemmas.List.Elements.{All-take, All-weaker}
use Rattle.std.proofs.lemmas.List.Sums.{AllPass-from_list_all}
use Rattle.proto_wire.proofs.SpellingLaws.{varint_text_spelled}
use Rattle.proto_wire.proofs.OptionLemmas.{both_passed}
use Rattle.token_text.specs.Arguments.{Number, Text, argument_of, arguments_of, fits, is_printable}
use Rattle.token_text.specs.Format.{IsPrintable}
use Rattle.token_text.specs.Spelling.{AreWords, Spells, StartsWith, argument_text, arguments_text, text_head, zigzag}
use Rattle.token_text.specs.declared.argument.Arg.{Arg}
use Rattle.token_text.specs.declared.argument.Arg.TheVariants as arg
use Rattle.token_text.specs.declared.part.Part.{Part}
use Rattle.token_text.specs.declared.part.Part.TheVariants as part

printable : (b : ℕ) → is_printable b ≡ true → IsPrintable b
printable b h = let r = both_passed (leb 32 b) (leb b 126) h in (leb-true 32 b r.0, leb-true b 126 r.1)

pub all_printable : (bytes : List ℕ) → list_all is_printable bytes ≡ true → All IsPrintable bytes
all_printable bytes h = All-weaker (λ b. is_printable b ≡ true) IsPrintable printable bytes (AllPass-from_list_all is_printable bytes h)

text_by : (t : Bool) (bytes rest : List ℕ) → leb (length bytes) 127 ≡ t → All IsPrintable bytes →
    StartsWith part.Text (argument_text (cond t (Text bytes false) (Text (take 127 bytes) true)) ++ rest) (cond t (Text bytes false) (Text (take 127 bytes) true)) rest
text_by true bytes rest test h = record {
  front = text_head (length bytes) false ∷ bytes;
  spelled = (record { short = leb-true (length bytes) 127 test; printable = h }, refl);
  whole = refl;
}
text_by false bytes rest test h =
    let long : 127 < length bytes = leb-false (length bytes) 127 test in
    let size : length (take 127 bytes) ≡ 127 = length-take-le 127 bytes (omega (arith, long)) in
    record {
      front = text_head (length (take 127 bytes)) true ∷ take 127 bytes;
      spelled = (record { short = omega (arith, size); printable = All-take IsPrintable 127 bytes h }, refl);
      whole = refl;
    }

-- what is written of a text spells it
text_spelled : (bytes rest : List ℕ) → list_all is_printable bytes ≡ true →
    StartsWith part.Text (argument_text (argument_of (arg.Text bytes)) ++ rest) (argument_of (arg.Text bytes)) rest
text_spelled bytes rest h = text_by (leb (length bytes) 127) bytes rest refl (all_printable bytes h)

-- what is written of arguments that fit spells them
pub written_spells : (ps : List Part) (args : List Arg) → fits ps args ≡ true → AreWords (arguments_of args) → Spells ps (arguments_text (arguments_of args)) (arguments_of args)
written_spells [] [] fit words = (refl, refl)
written_spells [] (a ∷ args) fit words = absurd (let f : ⊥ = cc in f)
written_spells (part.Byte b ∷ ps) args fit words = written_spells ps args fit words
written_spells (part.Number filled written ∷ ps) [] fit words = absurd (let f : ⊥ = cc in f)
written_spells (part.Number filled written ∷ ps) (arg.Number n ∷ args) fit words = (
  arguments_text (arguments_of args),
  record { front = argument_text (Number n); spelled = varint_text_spelled (zigzag n) words.0; whole = refl },
  written_spells ps args fit words.1,
)
written_spells (part.Number filled written ∷ ps) (arg.Text bytes ∷ args) fit words = absurd (let f : ⊥ = cc in f)
written_spells (part.Text ∷ ps) [] fit words = absurd (let f : ⊥ = cc in f)
written_spells (part.Text ∷ ps) (arg.Number n ∷ args) fit words = absurd (let f : ⊥ = cc in f)
written_spells (part.Text ∷ ps) (arg.Text bytes ∷ args) fit words =
    let r = both_passed (list_all is_printable bytes) (fits ps args) fit in
    let tail = arguments_text (arguments_of args) in
    (tail, text_spelled bytes tail r.0, written_spells ps args r.1 words.1)
