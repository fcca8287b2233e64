-- What follows from the rule of the three services.
use Rattle.std.specs.Prelude.{◌≡◌, ℕ, ◌+◌, ◌%◌, ◌^◌, ◌<◌, ◌≤◌, false, List, [], ◌∷◌, ◌++◌, length, map, fold, sum, sum_by, slice_get, All, Some, codes}
use Rattle.std.specs.Int.{w64, to_be_bytes}
use Rattle.rpc_ids.specs.declared.method.Kind.TheVariants.{ServerStream, ClientStream, Bidi}
use Rattle.rpc_ids.specs.declared.status.Status.TheVariants.{Okay}
use Rattle.rpc_handlers.specs.declared.answer.Out.{Out}
use Rattle.rpc_handlers.specs.declared.answer.Out.TheVariants.{Say}
use Rattle.rpc_handlers.specs.declared.event.Event.{Event}
use Rattle.rpc_handlers.specs.declared.event.Event.TheVariants.{Request, Message, Completion}
use Rattle.rpc_handlers.specs.declared.event.Memo.{Memo}
use Rattle.rpc_handlers.specs.Limits.{is_long, is_past_limits}
use Rattle.transfer_resume.specs.Book.{HasFew}
use Rattle.demo_services.specs.declared.call.DemoCall.{DemoCall}
use Rattle.demo_services.specs.declared.call.DemoCall.TheVariants.{Echo, Count, Sum, Chat, Log, Transfer}
use Rattle.demo_services.specs.Answers.{ends}
use Rattle.demo_services.specs.DemoCall.{answer_of, call_of, memo_of}
use Rattle.demo_services.specs.DemoRule.{answer, next, first}
use Rattle.demo_services.specs.Methods.{demo_method}

-- the state after these events
abbrev pub state_after : Memo → List Event → Memo
state_after m evs = fold next m evs

-- the messages said in answer to these events, in order
abbrev pub said : Memo → List Event → List Out
said m [] = []
said m (ev ∷ evs) = (answer m ev).items ++ said (next m ev) evs

-- a call's state tells the whole call
abbrev pub StatesReadBack : Type 0
StatesReadBack = (call : DemoCall) → call_of (memo_of call) ≡ call

-- the call has no more sessions than a call may have
abbrev pub HasFewSessions : DemoCall → Type 0
HasFewSessions (Echo _) = Unit {0}
HasFewSessions (Count _) = Unit {0}
HasFewSessions (Sum _) = Unit {0}
HasFewSessions (Chat _) = Unit {0}
HasFewSessions (Log _) = Unit {0}
HasFewSessions (Transfer b) = HasFew b

-- each answer of such a call is within the limits on answers
abbrev pub KeepsLimits : Type 0
KeepsLimits = (call : DemoCall) (ev : Event) → HasFewSessions call → is_past_limits (answer_of call ev) ≡ false

-- Count asked with one byte n of at most 64 says n messages, of which each is one byte: 1, 2, .. and at last n
abbrev pub CountsFromOne : Type 0
CountsFromOne = (seed : Memo) (n : ℕ) → n ≤ 64 → let items = said (first seed (demo_method (codes "Count") ServerStream)) (Request (n ∷ []) ∷ []) in (length items ≡ n) × ((i : ℕ) → i < n → slice_get items i ≡ Some (Say ((i + 1) ∷ [])))

-- after these messages Sum answers the completion with the sum of all their bytes, modulo 2^64, in eight bytes
abbrev pub SumsAllBytes : Type 0
SumsAllBytes = (seed : Memo) (messages : List (List ℕ)) → answer (state_after (first seed (demo_method (codes "Sum") ClientStream)) (map Message messages)) Completion ≡ ends Okay (to_be_bytes w64 (sum_by sum messages % 2 ^ 64))

-- Chat says back each of these messages, in order, where none is too long
abbrev pub SaysBack : Type 0
SaysBack = (seed : Memo) (messages : List (List ℕ)) → All (λ payload. is_long payload ≡ false) messages → said (first seed (demo_method (codes "Chat") Bidi)) (map Message messages) ≡ map Say messages
