-- What a legal history sends is heard.
use Rattle.std.specs.Prelude.{◌≡◌, ◌<◌, ◌^◌, List}
use Rattle.std.specs.List.{AllByRecursion}
use Rattle.rpc_ids.specs.declared.method.Role.{Role}
use Rattle.rpc_ids.specs.declared.method.Role.TheVariants.{Server, Client}
use Rattle.rpc_packet.specs.declared.call_name.CallName.{CallName}
use Rattle.rpc_handlers.specs.HandlerRule.{HandlerRule}
use Rattle.rpc_frames.specs.Written.{IsSendable}
use Rattle.rpc_journal.specs.declared.entry.Entry.{Entry}
use Rattle.rpc_journal.specs.declared.setting.Setting.{Setting}
use Rattle.rpc_journal.specs.Calls.{calls}
use Rattle.rpc_journal.specs.History.{history}
use Rattle.rpc_journal.specs.Items.{arrivals, items_flushed, packets_of}
use Rattle.rpc_journal.specs.Lawful.{IsLegal}

-- the numbers of a name fit their fields
pub record NameFits (name : CallName) : Type 0 where
  pub channel : name.channel < 2 ^ 32
  pub service : name.service < 2 ^ 32
  pub method : name.method < 2 ^ 32
  pub call : name.call < 2 ^ 32

-- the numbers of all packets that arrived fit, and at a client those of all calls
pub record NamesFit (set : Setting) (h : List Entry) : Type 0 where
  pub arrived : AllByRecursion (λ p. NameFits p.name) (arrivals h)
  pub called : set.role ≡ Client → AllByRecursion (λ o. NameFits o.name) (calls (history set h))

abbrev pub peer : Role → Role
peer Server = Client
peer Client = Server

-- each packet that has gone out is one that the other end hears, in a frame that isn't too long for it
abbrev pub SendsAreHeard : Type 0
SendsAreHeard =
    (rule : HandlerRule) (set : Setting) (h : List Entry) → IsLegal rule set h → NamesFit set h → AllByRecursion (IsSendable (peer set.role)) (packets_of (items_flushed (history set h)))
