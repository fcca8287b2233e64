-- A command starts at the client.
use Rattle.std.specs.Prelude.{◌≡◌, ℕ, ◌+◌, ◌≤◌, List, [], ◌∷◌, codes, length, map, Bool, true, false, Option, Some}
use Rattle.link_script.specs.declared.command.Command.{Command}
use Rattle.link_script.specs.declared.command.Command.TheVariants.{Close}
use Rattle.link_script.specs.Script.{IsCommand}
use Rattle.rpc_ids.specs.Names.{name_id}
use Rattle.rpc_handlers.specs.declared.answer.Out.TheVariants.{Say as Message}
use Rattle.rpc_handlers.specs.declared.event.Event.{Event}
use Rattle.rpc_journal.specs.declared.entry.Entry.{Entry}
use Rattle.rpc_journal.specs.declared.entry.EntryKind.{EntryKind}
use Rattle.rpc_journal.specs.declared.entry.EntryKind.TheVariants.{Say}
use Rattle.rpc_journal.specs.declared.item.Item.{Item}
use Rattle.rpc_journal.specs.Calls.{call_count}
use Rattle.rpc_journal.specs.Effect.{Opening}
use Rattle.rpc_journal.specs.Items.{input_ended, items_waiting}
use Rattle.rpc_journal.specs.Kinds.{streams_up}
use Rattle.link_laws.specs.one_run.Speaking.{IsSpeaking}
use Rattle.rpc_schedule.specs.Serving.{Serving, deeds}
use Rattle.rpc_schedule.specs.Settling.{IsOrderly}
use Rattle.transfer_base.specs.declared.tuning.Tuning.{Tuning}
use Rattle.link_laws.specs.world.Client.{ClientSettles}
use Rattle.link_laws.specs.world.Setup.{client_setting}
use Rattle.link_laws.specs.world.Starts.{starts, all_added}
use Rattle.link_laws.specs.world.World.{task_under, under_with, Setup, Tasked, World, client_store, moment}
use Rattle.link_world.specs.declared.client.under.Plain.{Plain}
use Rattle.link_world.specs.declared.client.under.Plain.TheVariants as plain
use Rattle.link_world.specs.declared.client.under.Under.{Under}
use Rattle.link_world.specs.client.ClientSide.{ClientState}
use Rattle.link_world.specs.client.Underway.{under_of}
use Rattle.link_world.specs.client.Working.{IsKept}

-- a command of the client, whose numbers fit
abbrev pub IsAsked : Command → Type 0
IsAsked (Close channel) = ⊥
IsAsked command = IsCommand command

-- the client of this world stands so at this moment, so many sessions were begun, and reads ask so
pub record IsClientOf (k : Setup) (w : World) (s : ClientState) (begun : ℕ) (tuning : Tuning) (at : ℕ) : Type 0 where
  pub setting : k.client ≡ client_setting
  pub entries : w.client ≡ s.end.serving.table.entries
  pub stored : client_store k w ≡ s.stored
  pub sessions : w.sessions ≡ begun
  pub window : k.window ≡ tuning.window
  pub chunk : k.chunk ≡ tuning.chunk
  pub moment : moment w ≡ at

-- the command has started: its entries were added, and the client did its work once; this is under way then
pub record ClientAsks (k : Setup) (w : World) (command : Command) (after : List Entry) (way : Under) (begun : ℕ) : Type 0 where
  pub next : Option Tasked
  pub settles :
      ClientSettles k.client (moment w) (all_added (starts k w command).adds w.client) (task_under (Some (starts k w command).under)) after next
  pub under : Some (under_of way) ≡ under_with next (Some (starts k w command).under)
  pub sessions : begun ≡ (starts k w command).sessions

-- its entries were added, and this is under way
pub record HasBegun (k : Setup) (w : World) (command : Command) (after : List Entry) (way : Under) (begun : ℕ) : Type 0 where
  pub added : after ≡ all_added (starts k w command).adds w.client
  pub under : under_of way ≡ (starts k w command).under
  pub sessions : begun ≡ (starts k w command).sessions

-- entries of the owner were added, and these stand there then; each has put one item at most behind those that wait
pub record ClientAdds (old : Serving) (entries : List Entry) (new : Serving) : Type 0 where
  pub added : new.table.entries ≡ entries
  pub orderly : IsOrderly new
  pub setting : new.table.setting ≡ old.table.setting
  pub refused : new.refused ≡ old.refused
  pub input : input_ended (deeds new) ≡ input_ended (deeds old)
  pub calls : call_count (deeds old) ≤ call_count (deeds new)
  pub waiting : items_waiting (deeds new) + length old.table.entries ≤ items_waiting (deeds old) + length new.table.entries
  pub kept : (items : List Item) (events : List (ℕ × Event)) → IsKept old items events → IsKept new items events

-- the call has a stream of this client, which is open
pub record CanSpeak (s : Serving) (c : ℕ) : Type 0 where
  pub opening : Opening
  pub speaks : IsSpeaking (deeds s) c opening
  pub streams : streams_up opening.method.kind ≡ true

-- the method has such a stream
abbrev pub has_stream : Plain → Bool
has_stream plain.Sum = true
has_stream plain.Chat = true
has_stream _ = false

-- what a transfer adds, and its call, by the live calls of its method
abbrev pub adds_by : List ℕ → EntryKind → List EntryKind
adds_by [] opening = opening ∷ []
adds_by (c ∷ cs) opening = []

abbrev pub call_by : List ℕ → ℕ → ℕ
call_by [] next = next
call_by (c ∷ cs) next = c

-- each of these bytes is sent as a message
abbrev pub byte_messages : ℕ → List ℕ → List EntryKind
byte_messages c bytes = map (λ byte. Say c (Message (byte ∷ []))) bytes

abbrev pub method_name : Plain → List ℕ
method_name plain.Echo = codes "Echo"
method_name plain.Count = codes "Count"
method_name plain.Sum = codes "Sum"
method_name plain.Chat = codes "Chat"

abbrev pub method_id : Plain → ℕ
method_id p = name_id (method_name p)
