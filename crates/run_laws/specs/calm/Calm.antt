-- Calm streams: packets over which the order of a server's own work changes nothing of what it tells.
use Rattle.std.specs.Prelude.{◌≡◌, ℕ, Bool, true, false, ◌&&◌, List, ◌∷◌, ◌++◌, reverse, Option, Some, None}
use Rattle.std.specs.List.{AllByRecursion}
use Rattle.rpc_ids.specs.declared.method.MethodRef.{MethodRef}
use Rattle.rpc_packet.specs.declared.call_name.CallName.{CallName}
use Rattle.rpc_packet.specs.declared.owned.Packet.{Packet}
use Rattle.rpc_packet.specs.declared.packet_type.PacketType.{PacketType}
use Rattle.rpc_packet.specs.declared.packet_type.PacketType.TheVariants.{ClientError}
use Rattle.rpc_handlers.specs.HandlerRule.{HandlerRule}
use Rattle.rpc_journal.specs.declared.entry.Entry.{Entry}
use Rattle.rpc_journal.specs.declared.setting.Setting.{Setting}
use Rattle.rpc_journal.specs.Calls.{call_at, has_end, same_name}
use Rattle.rpc_journal.specs.Effect.{Deed, Opening}
use Rattle.rpc_journal.specs.History.{history}
use Rattle.rpc_journal.specs.Lawful.{is_request}
use Rattle.rpc_journal.specs.Rows.{method_named}
use Rattle.rpc_schedule.specs.OneThread.{Handled}

abbrev pub is_client_error : PacketType → Bool
is_client_error ClientError = true
is_client_error _ = false

-- none of these packets is a REQUEST of this name
abbrev pub HasNoRequest : CallName → List Packet → Type 0
HasNoRequest name packets = AllByRecursion (λ p. (is_request p.ptype && same_name p.name name) ≡ false) packets

-- the method is known, and its calls are told of the time
abbrev pub is_ticking : Option MethodRef → Bool
is_ticking None = false
is_ticking (Some m) = m.ticks

-- no call of this name has an end
abbrev pub NoneEnded : List Deed → CallName → Type 0
NoneEnded ds name = (c : ℕ) (o : Opening) → call_at ds c ≡ Some o → same_name o.name name ≡ true → has_end ds c ≡ false

-- A packet that comes behind these is calm: it is no CLIENT_ERROR; a REQUEST is the first of its name and its method doesn't
-- tick; and where one thread has handled the earlier packets, no call of its name has ended.
pub record IsCalmBehind (rule : HandlerRule) (set : Setting) (earlier : List Packet) (p : Packet) : Type 0 where
  pub no_error : is_client_error p.ptype ≡ false
  pub new_name : is_request p.ptype ≡ true → HasNoRequest p.name earlier
  pub no_tick : is_request p.ptype ≡ true → is_ticking (method_named set p.name) ≡ false
  pub unended : (h : List Entry) → Handled rule set (reverse earlier) h → NoneEnded (history set h) p.name

-- each of the packets is calm behind those before it
abbrev pub AreCalm : HandlerRule → Setting → List Packet → Type 0
AreCalm rule set packets = (earlier later : List Packet) (p : Packet) → packets ≡ earlier ++ p ∷ later → IsCalmBehind rule set earlier p
