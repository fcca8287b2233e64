-- What each call of a table asks of its caller; of the entries that stand before it.
use Rattle.std.specs.Prelude.{◌≡◌, ◌≢◌, ℕ, ◌<◌, false, true, List}
use Rattle.link_io.specs.declared.why.Why.{Why}
use Rattle.link_io.specs.declared.why.Why.TheVariants.{Settled}
use Rattle.rpc_ids.specs.declared.method.Role.TheVariants.{Client}
use Rattle.rpc_packet.specs.declared.call_name.CallName.{CallName}
use Rattle.rpc_packet.specs.declared.owned.Packet.{Packet}
use Rattle.rpc_handlers.specs.declared.answer.Out.{Out}
use Rattle.rpc_handlers.specs.Limits.{is_long, is_long_out}
use Rattle.rpc_journal.specs.declared.entry.Entry.{Entry}
use Rattle.rpc_journal.specs.declared.setting.Setting.{Setting}
use Rattle.rpc_journal.specs.Calls.{call_count}
use Rattle.rpc_journal.specs.Items.{input_ended}
use Rattle.rpc_journal.specs.Lawful.{hears, has_zero}
use Rattle.rpc_journal.specs.History.{history}

-- the input hasn't ended, and seat 0 feeds it
pub record IsInputOpen (set : Setting) (h : List Entry) (seat : ℕ) : Type 0 where
  pub feeder : seat ≡ 0
  pub not_ended : input_ended (history set h) ≡ false

-- the role is sent such packets, and no id is 0
pub record IsHeard (set : Setting) (p : Packet) : Type 0 where
  pub heard : hears set.role p.ptype ≡ true
  pub named : has_zero p.name ≡ false

-- a client, no id is 0, and the payload has at most 8,000 bytes
pub record CanInvoke (set : Setting) (name : CallName) (payload : List ℕ) : Type 0 where
  pub client : set.role ≡ Client
  pub named : has_zero name ≡ false
  pub short : is_long payload ≡ false

-- there is such a call
pub record IsCall (set : Setting) (h : List Entry) (c : ℕ) : Type 0 where
  pub below : c < call_count (history set h)

-- there is such a call, and a message has at most 8,000 bytes
pub record CanSay (set : Setting) (h : List Entry) (c : ℕ) (out : Out) : Type 0 where
  pub there : IsCall set h c
  pub short : is_long_out out ≡ false

-- a client, and there is such a call
pub record CanComplete (set : Setting) (h : List Entry) (c : ℕ) : Type 0 where
  pub client : set.role ≡ Client
  pub there : IsCall set h c

-- Settled is no reason for a halt
abbrev pub CanHalt : Why → Type 0
CanHalt why = why ≢ Settled
