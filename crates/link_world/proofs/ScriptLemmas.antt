-- The numbers of a script that a text says fit.
use Rattle.std.proofs.Common.{◌≡◌, ℕ, ◌+◌, ◌≤◌, ◌<◌, ◌^◌, ◌==◌, true, false, Bool, if◌then◌else◌, List, [], ◌∷◌, ◌++◌, length, refl, sym, subst, arith}
use Rattle.std.specs.List.{AllByRecursion, slice_split}
use Rattle.std.proofs.lemmas.List.Splits.{length-slice_split}
use Rattle.std.proofs.lemmas.List.Sums.{count_by-le-length}
use Rattle.link_script.specs.declared.script.Script.{Script}
use Rattle.link_script.specs.Script.{IsStock, new_script}
use Rattle.rpc_ids.specs.declared.method.Role.TheVariants.{Server, Client}
use Rattle.link_script.specs.declared.text.line.Line.{Line}
use Rattle.link_script.specs.declared.text.line.Line.TheVariants as line
use Rattle.link_script.specs.declared.text.line.Setting.TheVariants.{Chunk, Window, Full, Left}
use Rattle.link_script.specs.text.Reading.{GoesOn, IsNext, IsScriptText}
use Rattle.link_script.specs.text.Standing.{with_line}
use Rattle.text_fields.specs.declared.lines.TheConstants.{NEWLINE}
use Rattle.text_fields.specs.Lines.{lines_of, without_empty_last}
use Rattle.link_laws.specs.transfers_fit.Scripts.{IsScript}
use Rattle.link_world.proofs.BoundsLemmas.{all_push, bounded}

-- the resources of the client fit
record Fits (s : Script) : Type 0 where
  client : AllByRecursion IsStock s.client
  left_client : AllByRecursion IsStock s.left_client

fits_more : (s : Script) (text : List ℕ) (l : Line) → Fits s → IsNext s text l → Fits (with_line s l)
fits_more s text (line.Setting (Chunk size)) f next = record { client = f.client; left_client = f.left_client }
fits_more s text (line.Setting (Window chunks)) f next = record { client = f.client; left_client = f.left_client }
fits_more s text (line.Setting (Full Server stock)) f next = record { client = f.client; left_client = f.left_client }
fits_more s text (line.Setting (Full Client stock)) f next = record { client = all_push IsStock s.client stock f.client next.0.1; left_client = f.left_client }
fits_more s text (line.Setting (Left Server stock)) f next = record { client = f.client; left_client = f.left_client }
fits_more s text (line.Setting (Left Client stock)) f next = record { client = f.client; left_client = all_push IsStock s.left_client stock f.left_client next.0.1 }
fits_more s text (line.Loss l) f next = record { client = f.client; left_client = f.left_client }
fits_more s text (line.Command c) f next = record { client = f.client; left_client = f.left_client }

fits_all : (s : Script) (texts : List (List ℕ)) (after : Script) → Fits s → GoesOn s texts after → Fits after
fits_all s [] after f same = subst Fits (sym same) f
fits_all s (text ∷ texts) after f goes = fits_all (with_line s goes.0) texts after (fits_more s text goes.0 f goes.1) goes.2

one_more : {A : Type 0} (xs : List A) (x : A) → length (xs ++ x ∷ []) ≡ length xs + 1
one_more [] x = refl
one_more (y ∷ xs) x = omega (arith, one_more xs x)

-- a line adds one command at most
commands_more : (s : Script) (l : Line) → length (with_line s l).commands ≤ length s.commands + 1
commands_more s (line.Setting (Chunk size)) = omega arith
commands_more s (line.Setting (Window chunks)) = omega arith
commands_more s (line.Setting (Full Server stock)) = omega arith
commands_more s (line.Setting (Full Client stock)) = omega arith
commands_more s (line.Setting (Left Server stock)) = omega arith
commands_more s (line.Setting (Left Client stock)) = omega arith
commands_more s (line.Loss l) = omega arith
commands_more s (line.Command c) = omega (arith, one_more s.commands c)

commands_all : (s : Script) (texts : List (List ℕ)) (after : Script) → GoesOn s texts after → length after.commands ≤ length s.commands + length texts
commands_all s [] after same = subst (λ after. length after.commands ≤ length s.commands + 0) (sym same) (omega arith)
commands_all s (text ∷ texts) after goes = omega (arith, commands_more s goes.0, commands_all (with_line s goes.0) texts after goes.2)

fewer_lines : (parts : List (List ℕ)) → length (without_empty_last parts) ≤ length parts
fewer_lines [] = omega arith
fewer_lines (last ∷ []) = by_case (length last == 0)
  where
    by_case : (b : Bool) → length (if b then [] else last ∷ []) ≤ 1
    by_case true = omega arith
    by_case false = omega arith
fewer_lines (part ∷ next ∷ parts) = omega (arith, fewer_lines (next ∷ parts))

lines_fit : (text : List ℕ) → length (lines_of text) ≤ length text + 1
lines_fit text =
    omega (arith, fewer_lines (slice_split (λ b. b == NEWLINE) text), length-slice_split (λ b. b == NEWLINE) text, count_by-le-length (λ b. b == NEWLINE) text)

pub fitting : (text : List ℕ) (script : Script) → IsScriptText text script → length text + 1 < 2 ^ 32 → IsScript script
fitting text script says short =
    let f = fits_all new_script (lines_of text) script (record { client = tt; left_client = tt }) says in
    let b = bounded text script says in
    record {
      window = b.window.1;
      chunk = b.chunk.1;
      client = f.client;
      left_client = f.left_client;
      commands = b.commands;
      few = omega (arith, short, commands_all new_script (lines_of text) script says, lines_fit text);
    }
