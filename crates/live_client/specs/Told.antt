-- What an errand was told and said, as the whole history tells it.
use Rattle.std.specs.Prelude.{◌≡◌, true, false, List, [], ◌++◌, Option, Some, None, is_some}
use Rattle.std.specs.List.{AllByRecursion, list_any}
use Rattle.rpc_ids.specs.declared.method.MethodRef.{MethodRef}
use Rattle.rpc_ids.specs.declared.status.Status.{Status}
use Rattle.rpc_handlers.specs.declared.event.Event.{Event}
use Rattle.rpc_journal.specs.declared.entry.Entry.{Entry}
use Rattle.rpc_journal.specs.Calls.{end_of}
use Rattle.rpc_journal.specs.History.{history}
use Rattle.rpc_journal.specs.Kinds.{streams_up}
use Rattle.rpc_shared.specs.session.Sessions.{is_halted}
use Rattle.live_client.specs.Ask.{live_setting}
use Rattle.live_client.specs.declared.asks.utterance.Utterance.{Utterance}
use Rattle.live_client.specs.Driving.{CanEnd}
use Rattle.live_client.specs.asks.Tasks.{Given}
use Rattle.live_client.specs.asks.Telling.{Progress, said_all}
use Rattle.live_client.specs.Histories.{AreSaid, cancels, events_run, is_completion, is_for_board, is_long_said, utterances_of}

-- what a call of this method may be given to say: short messages, and that they end only where the client streams some
pub record MaySay (method : MethodRef) (says : List Utterance) : Type 0 where
  pub short : AllByRecursion (λ utterance. is_long_said utterance ≡ false) says
  pub for_board : AllByRecursion (λ utterance. is_for_board utterance ≡ true) says
  pub streams : list_any is_completion says ≡ true → streams_up method.kind ≡ true

-- the call was cancelled, which answered this; or it wasn't
abbrev pub IsCutSo : MethodRef → List Entry → Option Status → Type 0
IsCutSo method h None = cancels h ≡ false
IsCutSo method h (Some status) = (cancels h ≡ true) × (end_of (history (live_setting method) h) 0 ≡ Some status)

-- It heard the events of the call's runs. What it gave out was said or refused, but for the last of it at a halt; without one it
-- has said all, and has ended.
pub record HasTold (method : MethodRef) (did : Progress → Option Status → List Event → List Given → Option Status → Type 0) (h : List Entry) : Type 0 where
  pub cut : Option Status
  pub outs : List Given
  pub lost : List Given
  pub ended : Option Status
  pub all : Progress
  pub is_cut : IsCutSo method h cut
  pub said : CanEnd (live_setting method) 0 outs → AreSaid (live_setting method) 0 h outs (utterances_of h)
  pub heard : did all cut (events_run (live_setting method) h 0) (outs ++ lost) ended
  pub none_lost : is_halted (live_setting method) h ≡ false → lost ≡ []
  pub all_said : is_halted (live_setting method) h ≡ false → all ≡ said_all
  pub is_over : is_halted (live_setting method) h ≡ false → is_some ended ≡ true
