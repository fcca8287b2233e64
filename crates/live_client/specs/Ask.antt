-- What a live client is asked to do, and the call that it opens for it.
use Rattle.std.specs.Prelude.{◌≡◌, ℕ, ◌≤◌, ◌<◌, Bool, true, false, if◌then◌else◌, List, [], ◌∷◌, ◌++◌, All, length, map}
use Rattle.rpc_ids.specs.declared.method.Kind.{Kind}
use Rattle.rpc_ids.specs.declared.method.Kind.TheVariants.{ServerStream, Bidi}
use Rattle.rpc_ids.specs.declared.method.MethodRef.{MethodRef}
use Rattle.rpc_ids.specs.declared.method.Role.TheVariants.{Client}
use Rattle.rpc_packet.specs.declared.call_name.CallName.{CallName}
use Rattle.rpc_handlers.specs.declared.answer.Out.TheVariants.{Say as Message}
use Rattle.rpc_handlers.specs.HandlerRule.{empty_memo}
use Rattle.rpc_handlers.specs.Limits.{is_long}
use Rattle.rpc_journal.specs.declared.entry.EntryKind.{EntryKind}
use Rattle.rpc_journal.specs.declared.entry.EntryKind.TheVariants.{Invoke}
use Rattle.rpc_journal.specs.declared.setting.Setting.{Setting}
use Rattle.rpc_journal.specs.Changes.{request}
use Rattle.rpc_journal.specs.Kinds.{streams_up}
use Rattle.rpc_journal.specs.Lawful.{has_zero}
use Rattle.demo_services.specs.declared.ids.TheConstants.{DEMO, COUNT, TRANSFER, READ, WRITE}
use Rattle.transfer_base.specs.declared.limits.TheConstants.{MAX_RESOURCE}
use Rattle.live_client.specs.declared.ask.LiveAsk.{LiveAsk}
use Rattle.live_client.specs.declared.ask.LiveAsk.TheVariants.{Get, Put, Watch, Call}
use Rattle.live_client.specs.declared.ask.Opening.{Opening}
use Rattle.live_client.specs.declared.asks.utterance.Utterance.{Utterance}
use Rattle.live_client.specs.declared.asks.utterance.Utterance.TheVariants.{Says, Completes}
use Rattle.live_client.specs.declared.ask.TheConstants.{MAX_MESSAGES}

-- the methods of a transfer and of a watch
abbrev pub read_method : MethodRef
read_method = record { service = TRANSFER; method = READ; kind = Bidi; ticks = true }

abbrev pub write_method : MethodRef
write_method = record { service = TRANSFER; method = WRITE; kind = Bidi; ticks = true }

abbrev pub count_method : MethodRef
count_method = record { service = DEMO; method = COUNT; kind = ServerStream; ticks = false }

-- the method of this kind with these ids of a service and a method
abbrev pub call_method : ℕ → ℕ → Kind → MethodRef
call_method service method kind = record { service = service; method = method; kind = kind; ticks = false }

-- what is fixed with a table that knows these methods: channel 1 is in
abbrev pub setting_with : List MethodRef → Setting
setting_with methods = record { role = Client; channels = 1 ∷ []; registry = methods; seed = empty_memo }

-- the same of one method
abbrev pub live_setting : MethodRef → Setting
live_setting method = setting_with (method ∷ [])

-- the one call is on channel 1 and has the id 1
abbrev pub live_name : MethodRef → CallName
live_name method = record { channel = 1; service = method.service; method = method.method; call = 1 }

-- the call of a method, with this payload
abbrev pub opens : MethodRef → List ℕ → EntryKind
opens method payload = Invoke (request (live_name method) payload) empty_memo

-- neither id is 0, the payload and each message have at most 8,000 bytes, and there are messages only where the client streams some
pub record CanOpen (o : Opening) : Type 0 where
  pub named : has_zero (live_name (call_method o.service o.method o.kind)) ≡ false
  pub short : is_long o.payload ≡ false
  pub all_short : All (λ message. is_long message ≡ false) o.messages
  pub quiet : streams_up o.kind ≡ false → o.messages ≡ []

-- these messages, and that none comes behind them
abbrev pub all_said_of : List (List ℕ) → List Utterance
all_said_of messages = map (λ message. Says (Message message)) messages ++ Completes ∷ []

-- WHAT A CALL SAYS: its messages, in order, and then that none comes after them; nothing where the client streams none
abbrev pub utterances_asked : Kind → List (List ℕ) → List Utterance
utterances_asked kind messages = if streams_up kind then all_said_of messages else []

-- An offset is at most 16,777,216, and the bytes of a Put are at most so many and reach its offset. A Watch has a limit of 1 to 64,
-- and a Call one of 1 to 65,536.
abbrev pub CanAsk : LiveAsk → Type 0
CanAsk (Get resource offset) = offset ≤ MAX_RESOURCE
CanAsk (Put resource offset bytes) = (offset ≤ length bytes) × (length bytes ≤ MAX_RESOURCE)
CanAsk (Watch n limit) = (0 < limit) × (limit ≤ 64)
CanAsk (Call opening limit within) = CanOpen opening × (0 < limit) × (limit ≤ MAX_MESSAGES)

-- what is asked is a call whose messages are kept, in place of a transfer
abbrev pub is_call : LiveAsk → Bool
is_call (Get resource offset) = false
is_call (Put resource offset bytes) = false
is_call (Watch n limit) = true
is_call (Call opening limit within) = true

-- THE METHOD THAT IS CALLED: Read, Write or Count, or the one with these ids
abbrev pub method_asked : LiveAsk → MethodRef
method_asked (Get resource offset) = read_method
method_asked (Put resource offset bytes) = write_method
method_asked (Watch n limit) = count_method
method_asked (Call opening limit within) = call_method opening.service opening.method opening.kind

-- the payload of its request
abbrev pub payload_of : LiveAsk → List ℕ
payload_of (Get resource offset) = []
payload_of (Put resource offset bytes) = []
payload_of (Watch n limit) = n ∷ []
payload_of (Call opening limit within) = opening.payload

-- THE CALL THAT IS OPENED, by what is asked
abbrev pub opening_of : LiveAsk → EntryKind
opening_of ask = opens (method_asked ask) (payload_of ask)
