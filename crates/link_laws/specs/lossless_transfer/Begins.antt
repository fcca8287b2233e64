-- How a transfer starts, in a world between two commands.
use Rattle.std.specs.Prelude.{◌≡◌, ◌⊎◌, List, [], ◌∷◌, ◌++◌, None}
use Rattle.link_script.specs.declared.command.Command.{Command}
use Rattle.link_script.specs.declared.command.Command.TheVariants.{Close}
use Rattle.link_script.specs.lossy.Link.{new_link}
use Rattle.rpc_ids.specs.declared.method.MethodRef.{MethodRef}
use Rattle.rpc_handlers.specs.declared.event.Event.TheVariants.{Request as Asked}
use Rattle.rpc_handlers.specs.HandlerRule.{empty_memo}
use Rattle.rpc_journal.specs.declared.entry.EntryKind.{EntryKind}
use Rattle.rpc_journal.specs.declared.entry.EntryKind.TheVariants.{Invoke}
use Rattle.rpc_journal.specs.Calls.{call_count, calls}
use Rattle.rpc_frames.specs.Written.{IsBetweenFrames}
use Rattle.history_laws.specs.rounds.Rounds.{ComesToOpen, opened_by}
use Rattle.link_laws.specs.one_run.Speaking.{opening_by}
use Rattle.link_laws.specs.rounds.Polls.{OpensCall}
use Rattle.link_laws.specs.world.Starts.{Started, request, starts}
use Rattle.link_laws.specs.world.World.{Setup, Transfer, World, client_deeds, server_deeds, transferring}
use Rattle.link_laws.specs.lossless_transfer.Shows.{AtClient, AtServer, Places, ServesSession, tasked_with}

-- Nothing is under way, and this command comes next. What the transfer leaves as it is, stands.
pub record IsIdle (x : Places) (big : World) (command : Command) : Type 0 where
  pub to_server : big.to_server ≡ new_link
  pub to_client : big.to_client ≡ new_link
  pub fed_server : IsBetweenFrames big.fed_server
  pub fed_client : IsBetweenFrames big.fed_client
  pub under : big.under ≡ None
  pub coming : big.coming ≡ command ∷ x.coming
  pub lines : big.lines ≡ x.lines
  pub times : big.times ≡ x.times
  pub server : big.server ≡ x.server
  pub client : big.client ≡ x.client

-- the command starts this transfer, with these entries at the client
abbrev pub started_with : Places → List EntryKind → Transfer → Started
started_with x adds t = record { adds = adds; under = transferring (tasked_with x t); sessions = x.session }

-- in a call that both ends have
pub record BeginsOnOld (k : Setup) (x : Places) (big : World) (command : Command) (t : Transfer) : Type 0 where
  pub idle : IsIdle x big command
  pub server : AtServer k x big.server None
  pub client : AtClient k x big.client
  pub numbered : big.numbered ≡ x.numbered
  pub starts_so : starts k big command ≡ started_with x [] t

-- in a new call
pub record BeginsOnNew (k : Setup) (x : Places) (big : World) (command : Command) (t : Transfer) : Type 0 where
  pub idle : IsIdle x big command
  pub method : MethodRef
  pub client : OpensCall k.client big.client method (request x.client_opening.name []) (tasked_with x t)
  pub server : ComesToOpen k.rule k.server big.server method (request x.client_opening.name [])
  pub client_opening : x.client_opening ≡ opening_by (request x.client_opening.name []) method empty_memo
  pub server_opening : x.server_opening ≡ opened_by (request x.client_opening.name []) method
  pub at_server : x.at_server ≡ call_count (server_deeds k big)
  pub client_calls : x.client_calls ≡ calls (client_deeds k big) ++ x.client_opening ∷ []
  pub server_calls : x.server_calls ≡ calls (server_deeds k big) ++ x.server_opening ∷ []
  pub serves : ServesSession x (k.rule.next (k.rule.first k.server.seed method) (Asked [])) None
  pub silent : k.rule.answer (k.rule.first k.server.seed method) (Asked []) ≡ record { items = []; end = None }
  pub numbered : x.numbered ≡ big.numbered ++ request x.client_opening.name [] ∷ []
  pub starts_so : starts k big command ≡ started_with x (Invoke (request x.client_opening.name []) empty_memo ∷ []) t

-- a command other than Close
abbrev pub AsksClient : Command → Type 0
AsksClient (Close channel) = ⊥
AsksClient _ = Unit {0}

-- THE COMMAND BEGINS THIS TRANSFER
pub record Begins (k : Setup) (x : Places) (big : World) (t : Transfer) : Type 0 where
  pub command : Command
  pub asks : AsksClient command
  pub how : BeginsOnOld k x big command t ⊎ BeginsOnNew k x big command t
