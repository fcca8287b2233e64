-- Tables at rest, and calls whose peer may send them messages.
use Rattle.std.specs.Prelude.{◌≡◌, ℕ, Bool, true, false, List, [], flat_map, length, Some, None}
use Rattle.rpc_ids.specs.declared.method.Kind.{Kind}
use Rattle.rpc_ids.specs.declared.method.Role.{Role}
use Rattle.rpc_ids.specs.declared.method.Role.TheVariants.{Server, Client}
use Rattle.rpc_channel.specs.Rising.{has_id}
use Rattle.rpc_packet.specs.declared.packet_type.PacketType.{PacketType}
use Rattle.rpc_packet.specs.declared.packet_type.PacketType.TheVariants.{ClientStream, ServerStream}
use Rattle.rpc_handlers.specs.declared.answer.Answer.{Answer}
use Rattle.rpc_handlers.specs.declared.event.Memo.{Memo}
use Rattle.rpc_handlers.specs.HandlerRule.{HandlerRule}
use Rattle.rpc_journal.specs.declared.item.Item.{Item}
use Rattle.rpc_journal.specs.declared.setting.Setting.{Setting}
use Rattle.rpc_journal.specs.Calls.{call_at, ends_of, is_cancelled, live_call, runner_of}
use Rattle.rpc_journal.specs.Effect.{Deed, Opening}
use Rattle.rpc_journal.specs.Entries.{answer_item, messages_go}
use Rattle.rpc_journal.specs.Items.{flush_count, halt_reason, is_done, items_sent}
use Rattle.rpc_journal.specs.Kinds.{streams_down, streams_up}
use Rattle.rpc_journal.specs.Queues.{is_completed, puts_since, starts_since}
use Rattle.rpc_journal.specs.Rows.{channels_in, method_named}
use Rattle.rpc_journal.specs.States.{state_of}

-- the table is at rest: the runs of each call have taken all that was put to it, none is on, all items were flushed, and
-- nothing was halted
pub record IsAtRest (ds : List Deed) : Type 0 where
  pub taken : (c : ℕ) → starts_since ds c ≡ length (puts_since ds c)
  pub idle : (c : ℕ) → runner_of ds c ≡ None
  pub flushed : flush_count ds ≡ length (items_sent ds)
  pub unhalted : halt_reason ds ≡ None

-- the type of the messages that come to this role
abbrev pub message_type : Role → PacketType
message_type Server = ClientStream
message_type Client = ServerStream

-- the method has a stream in the direction in which this role hears
abbrev pub streams_in : Role → Kind → Bool
streams_in Server kind = streams_up kind
streams_in Client kind = streams_down kind

-- c opened so and is live, its peer may send it messages, and its handler is in this state
pub record HasStream (rule : HandlerRule) (set : Setting) (ds : List Deed) (c : ℕ) (o : Opening) (m : Memo) : Type 0 where
  pub opened : call_at ds c ≡ Some o
  pub live : live_call ds o.name ≡ Some c
  pub known : method_named set o.name ≡ Some o.method
  pub channel : has_id (channels_in set ds) o.name.channel ≡ true
  pub hears : streams_in set.role o.method.kind ≡ true
  pub unended : ends_of ds c ≡ []
  pub uncancelled : is_cancelled ds c ≡ false
  pub uncompleted : is_completed ds c ≡ false
  pub state : state_of rule set ds c ≡ Some m

-- what is made of this answer of c: its store actions, and its messages, where c has a stream in this direction that isn't
-- complete
abbrev pub items_of : Setting → List Deed → ℕ → Opening → Answer → List Item
items_of set ds c o a = flat_map (answer_item set.role c o.name (messages_go set.role o.method.kind true (is_done ds c))) a.items
