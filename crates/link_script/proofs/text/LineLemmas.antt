-- A line says one thing at most.
use Rattle.std.proofs.Common.{◌≡◌, ℕ, ap, List, Option, Some, None, option_map}
use Rattle.link_script.specs.declared.command.Command.{Command}
use Rattle.link_script.specs.declared.text.line.Line.TheVariants as line
use Rattle.link_script.specs.declared.text.line.LossAt.{LossAt}
use Rattle.link_script.specs.declared.text.line.Setting.{Setting}
use Rattle.link_script.specs.text.Lines.{IsLine, IsSettingLine, IsLossLine, IsCommandLine}
use Rattle.link_script.proofs.text.Disjoint.{setting_no_loss, setting_no_command, loss_no_command}

-- a reader of one kind of lines answers what the line says, and nothing else
abbrev pub Only : {A : Type 0} → (List ℕ → A → Type 0) → List ℕ → Option A → Type 0
Only {A} Says text found = (x : A) → Says text x → found ≡ Some x

pub setting_only : (text : List ℕ) (s : Setting) → IsSettingLine text s → Only IsSettingLine text (Some s) → Only IsLine text (Some (line.Setting s))
setting_only text s is only (line.Setting other) so = ap (λ found. option_map (λ x. line.Setting x) found) (only other so)
setting_only text s is only (line.Loss l) so = absurd (setting_no_loss text s l is so)
setting_only text s is only (line.Command c) so = absurd (setting_no_command text s c is so)

pub loss_only : (text : List ℕ) (l : LossAt) → Only IsSettingLine text None → IsLossLine text l → Only IsLossLine text (Some l) → Only IsLine text (Some (line.Loss l))
loss_only text l none is only (line.Setting s) so = absurd (cc (none s so))
loss_only text l none is only (line.Loss other) so = ap (λ found. option_map (λ x. line.Loss x) found) (only other so)
loss_only text l none is only (line.Command c) so = absurd (loss_no_command text l c is so)

pub command_only : (text : List ℕ) (found : Option Command) → Only IsSettingLine text None → Only IsLossLine text None → Only IsCommandLine text found →
    Only IsLine text (option_map (λ x. line.Command x) found)
command_only text found none no_loss only (line.Setting s) so = absurd (cc (none s so))
command_only text found none no_loss only (line.Loss l) so = absurd (cc (no_loss l so))
command_only text found none no_loss only (line.Command c) so = ap (λ x. option_map (λ y. line.Command y) x) (only c so)
