-- The kinds of lines begin differently.
use Rattle.std.proofs.Common.{◌≡◌, ℕ, refl, sym, ap, ◌∙◌, List, ◌∷◌, ◌==◌, if◌then◌else◌}
use Rattle.rpc_ids.specs.declared.method.Role.TheVariants.{Server, Client}
use Rattle.link_script.specs.declared.command.Command.{Command}
use Rattle.link_script.specs.declared.command.Command.TheVariants.{Read, Write, Echo, Count, Sum, Chat, Close}
use Rattle.link_script.specs.declared.loss.Loss.{Loss}
use Rattle.link_script.specs.declared.loss.Loss.TheVariants.{Lose, Repeat, Swap, Flip}
use Rattle.link_script.specs.declared.text.line.LossAt.{LossAt}
use Rattle.link_script.specs.declared.text.line.Setting.{Setting}
use Rattle.link_script.specs.declared.text.line.Setting.TheVariants.{Chunk, Window, Full, Left}
use Rattle.link_script.specs.text.Lines.{IsSettingLine, IsLossLine, IsCommandLine, loss_text, command_text}

-- a number for the kind by the first three bytes of a line: 0 for `chu`nk, `win`dow, `ser`ver, `cli`ent and `lef`t, 1 for
-- `dro`p, `rep`eat, `swa`p and `fli`p, 2 for all others
abbrev kind_by : ℕ → ℕ → ℕ → ℕ
kind_by a b c =
    if (a == 99) then (if b == 104 then (if c == 117 then 0 else 2) else if b == 108 then (if c == 105 then 0 else 2) else 2)
    else if a == 119 then (if b == 105 then 0 else 2)
    else if a == 115 then (if b == 101 then 0 else if b == 119 then 1 else 2)
    else if a == 108 then 0
    else if a == 100 then 1
    else if a == 114 then (if c == 112 then 1 else 2)
    else if a == 102 then 1
    else 2

abbrev kind_of : List ℕ → ℕ
kind_of (a ∷ b ∷ c ∷ text) = kind_by a b c
kind_of _ = 2

setting_kind : (text : List ℕ) (s : Setting) → IsSettingLine text s → kind_of text ≡ 0
setting_kind text (Chunk size) is = rw (is.0) refl
setting_kind text (Window chunks) is = rw (is.0) refl
setting_kind text (Full Server s) is = rw (is.0) refl
setting_kind text (Full Client s) is = rw (is.0) refl
setting_kind text (Left Server s) is = rw (is.0) refl
setting_kind text (Left Client s) is = rw (is.0) refl

loss_text_kind : (frame : ℕ) (l : Loss) → kind_of (loss_text frame l) ≡ 1
loss_text_kind frame Lose = refl
loss_text_kind frame Repeat = refl
loss_text_kind frame Swap = refl
loss_text_kind frame (Flip bit) = refl

loss_kind : (text : List ℕ) (l : LossAt) → IsLossLine text l → kind_of text ≡ 1
loss_kind text l is = ap kind_of is.spelled ∙ loss_text_kind l.frame l.loss

command_text_kind : (c : Command) → kind_of (command_text c) ≡ 2
command_text_kind (Read resource offset) = refl
command_text_kind (Write resource offset) = refl
command_text_kind (Echo bytes) = refl
command_text_kind (Count n) = refl
command_text_kind (Sum bytes) = refl
command_text_kind (Chat bytes) = refl
command_text_kind (Close channel) = refl

command_kind : (text : List ℕ) (c : Command) → IsCommandLine text c → kind_of text ≡ 2
command_kind text c is = ap kind_of is.0 ∙ command_text_kind c

pub setting_no_loss : (text : List ℕ) (s : Setting) (l : LossAt) → IsSettingLine text s → IsLossLine text l → ⊥
setting_no_loss text s l setting loss = let e : ◌≡◌ {A = ℕ} 0 1 = sym (setting_kind text s setting) ∙ loss_kind text l loss in cc

pub setting_no_command : (text : List ℕ) (s : Setting) (c : Command) → IsSettingLine text s → IsCommandLine text c → ⊥
setting_no_command text s c setting command = let e : ◌≡◌ {A = ℕ} 0 2 = sym (setting_kind text s setting) ∙ command_kind text c command in cc

pub loss_no_command : (text : List ℕ) (l : LossAt) (c : Command) → IsLossLine text l → IsCommandLine text c → ⊥
loss_no_command text l c loss command = let e : ◌≡◌ {A = ℕ} 1 2 = sym (loss_kind text l loss) ∙ command_kind text c command in cc
