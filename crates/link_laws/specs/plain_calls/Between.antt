-- The world between two commands.
use Rattle.std.specs.Prelude.{◌≡◌, ◌≤◌, ℕ, Bool, false, true, List, codes, ◌⊎◌, Some, None}
use Rattle.std.specs.List.{AllByRecursion}
use Rattle.link_script.specs.declared.command.Command.{Command}
use Rattle.link_script.specs.declared.command.Command.TheVariants as command
use Rattle.link_script.specs.lossy.Link.{new_link}
use Rattle.rpc_ids.specs.Names.{name_id}
use Rattle.rpc_frames.specs.Written.{IsBetweenFrames}
use Rattle.rpc_handlers.specs.declared.event.Memo.{Memo}
use Rattle.rpc_journal.specs.Calls.{call_at, call_count, calls}
use Rattle.rpc_journal.specs.Effect.{Deed, Opening}
use Rattle.rpc_journal.specs.Items.{is_done}
use Rattle.rpc_journal.specs.Rows.{channels_in}
use Rattle.rpc_journal.specs.declared.setting.Setting.{Setting}
use Rattle.rpc_channel.specs.Rising.{has_id}
use Rattle.transfer_resume.specs.declared.side.Side.{Side}
use Rattle.transfer_resume.specs.declared.side.Side.TheVariants.{Read, Write}
use Rattle.transfer_resume.specs.Book.{Book}
use Rattle.demo_services.specs.Transfer.{transfer_memo}
use Rattle.history_laws.specs.rounds.Streams.{HasStream, IsAtRest}
use Rattle.link_laws.specs.world.Setup.{quiet_rule}
use Rattle.link_laws.specs.world.Starts.{is_transfer_by}
use Rattle.link_laws.specs.world.World.{Setup, World, client_deeds, server_deeds}

-- the name of the method of the transfer service that moves resources this way
abbrev pub side_name : Side → List ℕ
side_name Read = codes "Read"
side_name Write = codes "Write"

-- the command asks for a transfer this way
abbrev pub asks_for : Side → Command → Bool
asks_for Read (command.Read resource offset) = true
asks_for Write (command.Write resource offset) = true
asks_for _ _ = false

-- the call is one of this method of the transfer service
abbrev pub is_by_side : Side → Opening → Bool
is_by_side side o = is_transfer_by (name_id (side_name side)) o

-- no call of this method was opened
abbrev pub NoneBySide : Side → List Deed → Type 0
NoneBySide side ds = (c : ℕ) (o : Opening) → call_at ds c ≡ Some o → is_by_side side o ≡ false

-- this call alone was
abbrev pub OnlyBySide : Side → List Deed → ℕ → Type 0
OnlyBySide side ds only = (c : ℕ) (o : Opening) → call_at ds c ≡ Some o → is_by_side side o ≡ true → c ≡ only

-- what both ends have gone through; what the server keeps of a call of this method fits
module _ (k : Setup) (server_side client_side : List Deed) (fits : Book → Type 0) (side : Side) where
  -- One call of this method was opened, and it is open at both ends, by one name.
  pub record HasCall : Type 0 where
    pub at_client : ℕ
    pub client_opening : Opening
    pub client_memo : Memo
    pub client_stream : HasStream quiet_rule k.client client_side at_client client_opening client_memo
    pub undone : is_done client_side at_client ≡ false
    pub by_method : is_by_side side client_opening ≡ true
    pub on_channel : client_opening.name.channel ≡ 1
    pub only : OnlyBySide side client_side at_client
    pub at_server : ℕ
    pub server_opening : Opening
    pub book : Book
    pub server_stream : HasStream k.rule k.server server_side at_server server_opening (transfer_memo book)
    pub same_name : server_opening.name ≡ client_opening.name
    pub only_server : OnlyBySide side server_side at_server
    pub book_fits : fits book

  -- no call of this method was opened, at either end
  pub record HasNoCall : Type 0 where
    pub client : NoneBySide side client_side
    pub server : NoneBySide side server_side

  abbrev pub MayTransfer : Type 0
  MayTransfer = HasNoCall ⊎ HasCall

-- no call has a larger number in its name
abbrev pub AreUpTo : ℕ → List Deed → Type 0
AreUpTo count ds = AllByRecursion (λ o. o.name.call ≤ count) (calls ds)

-- the channel of all calls is in
abbrev pub HasChannel : Setting → List Deed → Type 0
HasChannel set ds = has_id (channels_in set ds) 1 ≡ true

-- THE WORLD BETWEEN TWO COMMANDS: none is under way, nothing is on the links, and both ends are at rest. What the server keeps of
-- the call that reads, and of the one that writes, fits.
pub record IsClean (k : Setup) (fits : Side → Book → Type 0) (w : World) : Type 0 where
  pub under : w.under ≡ None
  pub to_server : w.to_server ≡ new_link
  pub to_client : w.to_client ≡ new_link
  pub fed_server : IsBetweenFrames w.fed_server
  pub fed_client : IsBetweenFrames w.fed_client
  pub server : IsAtRest (server_deeds k w)
  pub client : IsAtRest (client_deeds k w)
  pub server_channel : HasChannel k.server (server_deeds k w)
  pub client_channel : HasChannel k.client (client_deeds k w)
  -- so the next call of the client has a name that no call has yet
  pub server_names : AreUpTo (call_count (client_deeds k w)) (server_deeds k w)
  pub client_names : AreUpTo (call_count (client_deeds k w)) (client_deeds k w)
  pub transfers : (side : Side) → MayTransfer k (server_deeds k w) (client_deeds k w) (fits side) side
