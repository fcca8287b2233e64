-- No words name both a recorded command and one on threads, or one of them and a call: their first words differ in the first two
-- letters.
use Rattle.std.proofs.Common.{◌≡◌, ℕ, ◌+◌, ◌*◌, ◌==◌, ◌||◌, Bool, true, false, List, ◌∷◌, ap, sym, ◌∙◌}
use Rattle.std.proofs.lemmas.Bool.{false≢true}
use Rattle.pw_run.specs.declared.call_words.CallWords.{CallWords}
use Rattle.pw_run.specs.declared.client_command.ClientCommand.TheVariants.{Get, Put, Watch}
use Rattle.pw_run.specs.declared.command.Command.{Command}
use Rattle.pw_run.specs.declared.command.Command.TheVariants.{Replay, Text, Load, Dump}
use Rattle.pw_run.specs.declared.command.Form.TheVariants.{Report, Raw, Journal}
use Rattle.pw_run.specs.declared.text_command.TextCommand.TheVariants.{Check, Detoken, Link, Route}
use Rattle.pw_run.specs.declared.live_command.LiveCommand.{LiveCommand}
use Rattle.pw_run.specs.declared.live_command.LiveCommand.TheVariants.{Crew, Serve, Host, Bridge, Client}
use Rattle.pw_run.specs.CallCommand.{AreCall}
use Rattle.pw_run.specs.Command.{IsCommand}
use Rattle.pw_run.specs.LiveCommand.{IsLiveCommand}

-- the first two letters of the first word
letters : List (List ℕ) → ℕ
letters ((a ∷ b ∷ rest) ∷ words) = 256 * a + b
letters _ = 0

-- whether they are those of `replay`, `check`, `detoken`, `link`, `route`, `load` or `dump`
begin_recorded : ℕ → Bool
begin_recorded n = (n == 29285) || ((n == 25448) || ((n == 25701) || ((n == 27753) || ((n == 29295) || ((n == 27759) || (n == 25717))))))

is_recorded : List (List ℕ) → Bool
is_recorded words = begin_recorded (letters words)

recorded_is : (words : List (List ℕ)) (command : Command) → IsCommand words command → is_recorded words ≡ true
unfolding letters begin_recorded is_recorded
recorded_is words (Replay Report) is = ap is_recorded is
recorded_is words (Replay Raw) is = ap is_recorded is
recorded_is words (Replay Journal) is = ap is_recorded is
recorded_is words (Text Check) is = ap is_recorded is
recorded_is words (Text Detoken) is = ap is_recorded is
recorded_is words (Text Link) is = ap is_recorded is
recorded_is words (Text Route) is = ap is_recorded is
recorded_is words (Load calls seed) is = ap is_recorded is.0
recorded_is words (Dump names) is = ap is_recorded is.1

on_threads_is : (words : List (List ℕ)) (command : LiveCommand) → IsLiveCommand words command → is_recorded words ≡ false
unfolding letters begin_recorded is_recorded
on_threads_is words (Crew workers) is = ap is_recorded is.0
on_threads_is words (Serve workers connections) is = ap is_recorded is.1
on_threads_is words (Host workers) is = ap is_recorded is.1
on_threads_is words (Bridge at_right at_left) is = ap is_recorded is.2
on_threads_is words (Client (Get resource offset)) is = ap is_recorded is.1
on_threads_is words (Client (Put resource offset)) is = ap is_recorded is.1
on_threads_is words (Client (Watch number limit)) is = ap is_recorded is.1

pub not_both : (words : List (List ℕ)) (command : Command) (live : LiveCommand) → IsCommand words command → IsLiveCommand words live → ⊥
not_both words command live first second = differ (sym (recorded_is words command first) ∙ on_threads_is words live second)
  where
    differ : true ≡ false → ⊥
    differ is = cc

-- ---- a call

is_call_word : List (List ℕ) → Bool
is_call_word words = letters words == 25441

recorded_only : (words : List (List ℕ)) (c : CallWords) → AreCall words c → is_recorded words ≡ false
unfolding letters begin_recorded is_recorded
recorded_only words c are = ap is_recorded are.spelled

call_word_is : (words : List (List ℕ)) (c : CallWords) → AreCall words c → is_call_word words ≡ true
unfolding letters is_call_word
call_word_is words c are = ap is_call_word are.spelled

no_call_word : (words : List (List ℕ)) (command : LiveCommand) → IsLiveCommand words command → is_call_word words ≡ false
unfolding letters is_call_word
no_call_word words (Crew workers) is = ap is_call_word is.0
no_call_word words (Serve workers connections) is = ap is_call_word is.1
no_call_word words (Host workers) is = ap is_call_word is.1
no_call_word words (Bridge at_right at_left) is = ap is_call_word is.2
no_call_word words (Client (Get resource offset)) is = ap is_call_word is.1
no_call_word words (Client (Put resource offset)) is = ap is_call_word is.1
no_call_word words (Client (Watch number limit)) is = ap is_call_word is.1

pub call_not_recorded : (words : List (List ℕ)) (c : CallWords) (command : Command) → AreCall words c → IsCommand words command → ⊥
call_not_recorded words c command are is = false≢true (sym (recorded_only words c are) ∙ recorded_is words command is)

pub call_not_live : (words : List (List ℕ)) (c : CallWords) (command : LiveCommand) → AreCall words c → IsLiveCommand words command → ⊥
call_not_live words c command are is = false≢true (sym (no_call_word words command is) ∙ call_word_is words c are)
