-- What a live client's history tells: who adds what, the events that were run, and what was said.
use Rattle.std.specs.Prelude.{◌≡◌, ◌⊎◌, ℕ, ◌==◌, ◌<◌, ◌&&◌, not, Bool, true, false, if◌then◌else◌, List, [], ◌∷◌, ◌++◌}
use Rattle.std.specs.List.{AllByRecursion}
use Rattle.std.specs.Option.{option_to_list}
use mathlib.Core.List.{IsPrefix}
use Rattle.rpc_handlers.specs.declared.answer.Out.{Out}
use Rattle.rpc_handlers.specs.declared.answer.Out.TheVariants.{Say as Message}
use Rattle.rpc_handlers.specs.declared.event.Event.{Event}
use Rattle.rpc_handlers.specs.Limits.{is_long_out}
use Rattle.rpc_journal.specs.declared.entry.Entry.{Entry}
use Rattle.rpc_journal.specs.declared.entry.EntryKind.{EntryKind}
use Rattle.rpc_journal.specs.declared.entry.EntryKind.TheVariants.{Arrive, Say, Done, Start, Finish, Cancel, Flush, EndIn, Halt}
use Rattle.rpc_journal.specs.declared.setting.Setting.{Setting}
use Rattle.rpc_journal.specs.Calls.{call_at, call_count, has_end, is_cancelled, is_finish_of}
use Rattle.rpc_journal.specs.Effect.{Deed}
use Rattle.rpc_journal.specs.History.{history}
use Rattle.rpc_journal.specs.Items.{is_done}
use Rattle.rpc_journal.specs.Kinds.{is_server}
use Rattle.rpc_journal.specs.Lawful.{has_stream}
use Rattle.rpc_journal.specs.Queues.{taken_event}
use Rattle.rpc_shared.specs.session.Sessions.{is_halting}
use Rattle.live_client.specs.Silent.{is_silent}
use Rattle.live_client.specs.declared.asks.utterance.Utterance.{Utterance}
use Rattle.live_client.specs.declared.asks.utterance.Utterance.TheVariants.{Says, Completes}
use Rattle.live_client.specs.asks.Tasks.{Given, mails}

-- What a seat adds behind the opening of the call: the reader's, 0, feeds the input; the driver's, 1, runs handlers, which answer
-- nothing, flushes, and says what is to be said; of a call whose messages are kept it may also end the client's stream, and cancel
-- it. Each may halt.
abbrev pub is_entry_of : Bool → ℕ → EntryKind → Bool
is_entry_of watches seat (Arrive p) = seat == 0
is_entry_of watches seat EndIn = seat == 0
is_entry_of watches seat (Start c) = seat == 1
is_entry_of watches seat (Finish c a) = (seat == 1) && is_silent a
is_entry_of watches seat Flush = seat == 1
is_entry_of watches seat (Say c out) = seat == 1
is_entry_of watches seat (Done c) = (seat == 1) && watches
is_entry_of watches seat (Cancel c) = (seat == 1) && watches
is_entry_of watches seat (Halt why) = is_halting why
is_entry_of watches seat _ = false

abbrev pub AreOfLive : Bool → List Entry → Type 0
AreOfLive watches h = AllByRecursion (λ e. is_entry_of watches e.seat e.kind ≡ true) h

-- the events of the runs of c that have finished, in order
abbrev pub events_in : List Deed → ℕ → List Event
events_in [] c = []
events_in (d ∷ ds) c = if is_finish_of c d.entry.kind then events_in ds c ++ option_to_list (taken_event ds c) else events_in ds c

abbrev pub events_run : Setting → List Entry → ℕ → List Event
events_run set h c = events_in (history set h) c

abbrev pub said_by : EntryKind → List Out
said_by (Say c out) = out ∷ []
said_by _ = []

-- what was said, in order
abbrev pub says_of : List Entry → List Out
says_of [] = []
says_of (e ∷ h) = said_by e.kind ++ says_of h

abbrev pub uttered_by : EntryKind → List Utterance
uttered_by (Say c out) = Says out ∷ []
uttered_by (Done c) = Completes ∷ []
uttered_by _ = []

-- what was said, in order, with the end of the client's stream
abbrev pub utterances_of : List Entry → List Utterance
utterances_of [] = []
utterances_of (e ∷ h) = uttered_by e.kind ++ utterances_of h

-- a message of the call; what else is said acts on the store
abbrev pub is_spoken : Out → Bool
is_spoken (Message payload) = true
is_spoken _ = false

-- it is for the board; what else is said acts on the store
abbrev pub is_for_board : Utterance → Bool
is_for_board (Says out) = is_spoken out
is_for_board Completes = true

abbrev pub is_completion : Utterance → Bool
is_completion Completes = true
is_completion _ = false

-- no frame takes it
abbrev pub is_long_said : Utterance → Bool
is_long_said (Says out) = is_long_out out
is_long_said Completes = false

-- The table refuses all that c has for the board, now and for good: c has an end, or it is there and has no stream in this direction,
-- or this client has completed it.
abbrev pub IsShut : Setting → ℕ → List Deed → Type 0
IsShut set c ds =
    (has_end ds c ≡ true) ⊎ (((c < call_count ds) × (has_stream set.role (call_at ds c) ≡ false)) ⊎ ((not (is_server set.role) && is_done ds c) ≡ true))

-- The table refused what c had for the board when just so much mail had come: in a beginning of the history, whose runs are so much mail,
-- the call is shut.
pub record IsRefusedAt (set : Setting) (runs : List Entry → List Event) (c : ℕ) (h : List Entry) (mail : ℕ) : Type 0 where
  pub front : List Entry
  pub begins : IsPrefix front h
  pub came : mails (runs front) ≡ mail
  pub shut : IsShut set c (history set front)

-- Of these outs, in order, none for the board was said, and each store action was, but where the call was cancelled.
abbrev pub AreActed : Setting → ℕ → List Entry → List Given → List Utterance → Type 0
AreActed set c h [] says = says ≡ []
AreActed set c h (given ∷ outs) says =
    ((is_for_board given.out ≡ true) × AreActed set c h outs says)
    ⊎ (((is_for_board given.out ≡ false) × (rest : List Utterance) × (says ≡ given.out ∷ rest) × AreActed set c h outs rest)
    ⊎ ((is_for_board given.out ≡ false) × (is_cancelled (history set h) c ≡ true) × AreActed set c h outs says))

-- The same as AreSaid, where a beginning of the history has run these events.
abbrev pub AreSaidOver : Setting → (List Entry → List Event) → ℕ → List Entry → List Given → List Utterance → Type 0
AreSaidOver set runs c h [] says = says ≡ []
AreSaidOver set runs c h (given ∷ outs) says =
    ((rest : List Utterance) × (says ≡ given.out ∷ rest) × AreSaidOver set runs c h outs rest)
    ⊎ (((is_long_said given.out ≡ true) × AreSaidOver set runs c h outs says)
    ⊎ (((is_for_board given.out ≡ false) × (is_cancelled (history set h) c ≡ true) × AreSaidOver set runs c h outs says)
    ⊎ (IsRefusedAt set runs c h given.mail × AreActed set c h (given ∷ outs) says)))

-- Of these outs, in order, each was said, but for what no frame takes, for store actions of a call that was cancelled, and, from one on
-- that was for the board and that the table refused before more mail came to the task, for all that were for the board.
abbrev pub AreSaid : Setting → ℕ → List Entry → List Given → List Utterance → Type 0
AreSaid set c h outs says = AreSaidOver set (λ front. events_run set front c) c h outs says

-- ONE'S OWN WORDS, none of which answers an event of call 0. The first of these were said, in order; of the others the table refused the
-- first before any event was run, and so all.
pub record SaysFirst (set : Setting) (h : List Entry) (given : List Utterance) : Type 0 where
  pub unsaid : List Utterance
  pub parts : given ≡ utterances_of h ++ unsaid
  pub refused : (unsaid ≡ []) ⊎ IsRefusedAt set (λ front. events_run set front 0) 0 h 0

abbrev pub is_cancel : EntryKind → Bool
is_cancel (Cancel c) = true
is_cancel _ = false

-- a Cancel is among these entries
abbrev pub cancels : List Entry → Bool
cancels [] = false
cancels (e ∷ h) = if is_cancel e.kind then true else cancels h
