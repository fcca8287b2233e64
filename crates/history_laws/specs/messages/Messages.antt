-- The packet that brought a message, and the call for which a message goes out.
use Rattle.std.specs.Prelude.{◌≡◌, ◌⊎◌, ℕ, Bool, true, false, List, [], ◌∷◌, Option, Some}
use Rattle.rpc_ids.specs.declared.method.MethodRef.{MethodRef}
use Rattle.rpc_ids.specs.declared.method.Role.{Role}
use Rattle.rpc_ids.specs.declared.method.Role.TheVariants.{Server, Client}
use Rattle.rpc_packet.specs.declared.owned.Packet.{Packet}
use Rattle.rpc_packet.specs.declared.packet_type.PacketType.{PacketType}
use Rattle.rpc_packet.specs.declared.packet_type.PacketType.TheVariants.{ClientStream, ServerStream}
use Rattle.rpc_handlers.specs.declared.event.Event.TheVariants.{Message}
use Rattle.rpc_journal.specs.declared.entry.Entry.{Entry}
use Rattle.rpc_journal.specs.declared.item.Act.{Act}
use Rattle.rpc_journal.specs.declared.item.Act.TheVariants.{Send, Keep, LeaveCall}
use Rattle.rpc_journal.specs.declared.item.Item.{Item}
use Rattle.rpc_journal.specs.declared.setting.Setting.{Setting}
use Rattle.rpc_journal.specs.Calls.{call_at, is_cancelled}
use Rattle.rpc_journal.specs.Effect.{Deed, Opening}
use Rattle.rpc_journal.specs.History.{history}
use Rattle.rpc_journal.specs.Items.{arrivals, items_sent}
use Rattle.rpc_journal.specs.Kinds.{streams_down}
use Rattle.rpc_journal.specs.Rows.{method_named}
use Rattle.rpc_journal.specs.States.{finished_since}

-- it is one of these
abbrev pub IsIn : {A : Type 0} → A → List A → Type 0
IsIn x [] = ⊥
IsIn x (y ∷ ys) = (x ≡ y) ⊎ IsIn x ys

-- A packet that brings a message to this role: to a server one of a client's stream; to a client one of a server's
-- stream, or the response of a method without such a stream.
abbrev pub BringsTo : Role → Setting → Packet → Type 0
BringsTo Server set p = p.ptype ≡ ClientStream
BringsTo Client set p = (p.ptype ≡ ServerStream) ⊎ ((m : MethodRef) → method_named set p.name ≡ Some m → streams_down m.kind ≡ false)

-- a packet with the name of call c arrived, and brought this message
pub record Brought (set : Setting) (ds : List Deed) (arrived : List Packet) (c : ℕ) (payload : List ℕ) : Type 0 where
  pub packet : Packet
  pub came : IsIn packet arrived
  pub opening : Opening
  pub there : call_at ds c ≡ Some opening
  pub name : opening.name ≡ packet.name
  pub is : packet.payload ≡ payload
  pub brings : BringsTo set.role set packet

-- each message that a call took in a run that has finished was brought so
abbrev pub MessagesArrived : Type 0
MessagesArrived =
    (set : Setting) (h : List Entry) (c : ℕ) (payload : List ℕ) → IsIn (Message payload) (finished_since (history set h) c)
    → Brought set (history set h) (arrivals h) c payload

abbrev pub is_stream : PacketType → Bool
is_stream ClientStream = true
is_stream ServerStream = true
is_stream _ = false

-- the packet goes out for a call, and has its name
pub record IsOfCall (ds : List Deed) (call : Option ℕ) (p : Packet) : Type 0 where
  pub number : ℕ
  pub opening : Opening
  pub is : call ≡ Some number
  pub there : call_at ds number ≡ Some opening
  pub name : opening.name ≡ p.name

-- the call was cancelled
pub record IsOfCancelled (ds : List Deed) (call : Option ℕ) : Type 0 where
  pub number : ℕ
  pub is : call ≡ Some number
  pub cancelled : is_cancelled ds number ≡ true

abbrev pub HasCall : List Deed → Option ℕ → Act → Type 0
HasCall ds call (Send p) = is_stream p.ptype ≡ true → IsOfCall ds call p
HasCall ds call (Keep out) = Unit {0}
HasCall ds call LeaveCall = IsOfCancelled ds call

-- each packet of a stream is of a call, and all works are left only of one that was cancelled
abbrev pub ItemsAreOfCalls : Type 0
ItemsAreOfCalls =
    (set : Setting) (h : List Entry) (item : Item) → IsIn item (items_sent (history set h)) → HasCall (history set h) item.call item.act

-- each call is of the method that its name asks for
abbrev pub CallsHaveTheirMethods : Type 0
CallsHaveTheirMethods =
    (set : Setting) (h : List Entry) (c : ℕ) (o : Opening) → call_at (history set h) c ≡ Some o → method_named set o.name ≡ Some o.method
