-- What goes to the client while a transfer is under way: its words, and the ends of older sessions, told again.
use Rattle.std.specs.Prelude.{◌≡◌, ◌≢◌, ℕ, ◌<◌, List, [], ◌∷◌, ◌⊎◌}
use Rattle.std.specs.List.{AllByRecursion}
use Rattle.rpc_ids.specs.declared.Status.TheVariants.{Okay}
use Rattle.rpc_ids.specs.declared.method.Role.TheVariants.{Client}
use Rattle.rpc_packet.specs.declared.call_name.CallName.{CallName}
use Rattle.rpc_packet.specs.declared.owned.Packet.{Packet}
use Rattle.rpc_packet.specs.declared.packet_type.PacketType.TheVariants.{ServerStream}
use Rattle.rpc_frames.specs.Written.{IsSendable}
use Rattle.rpc_handlers.specs.declared.event.Memo.{Memo}
use Rattle.rpc_journal.specs.Effect.{Opening}
use Rattle.rpc_journal.specs.History.{history}
use Rattle.history_laws.specs.rounds.Streams.{HasStream}
use Rattle.transfer_words.specs.Spoken.{FitsChunk}
use Rattle.transfer_words.specs.Word.{Word, completion}
use Rattle.link_laws.specs.world.Setup.{quiet_rule}
use Rattle.link_laws.specs.world.World.{Setup}
use Rattle.link_laws.specs.lossless_transfer.Shows.{GoesDown, Places, down_packet, packet_saying}

-- an older session of a call tells again that it has ended OK
pub record Stray : Type 0 where
  pub name : CallName
  pub session : ℕ

abbrev pub stray_packet : Stray → Packet
stray_packet s = packet_saying ServerStream s.name s.session (completion Okay)

-- what goes to the client
pub data Passing : Type 0 where
  own : (word : Word) → Passing
  other : (stray : Stray) → Passing

abbrev pub passing_packet : Places → Passing → Packet
passing_packet x (own w) = down_packet x w
passing_packet x (other s) = stray_packet s

-- the words of the transfer
abbrev pub own_words : List Passing → List Word
own_words [] = []
own_words (own w ∷ ps) = w ∷ own_words ps
own_words (other s ∷ ps) = own_words ps

-- another call of this name stood open at the client as the transfer began
pub record IsBesideAtClient (k : Setup) (x : Places) (name : CallName) : Type 0 where
  pub call : ℕ
  pub opening : Opening
  pub memo : Memo
  pub stream : HasStream quiet_rule k.client (history k.client x.client) call opening memo
  pub apart : call ≢ x.at_client
  pub named : opening.name ≡ name

-- the call of this name is the transfer's own, or one beside it
abbrev pub IsCallThere : Setup → Places → CallName → Type 0
IsCallThere k x name = (name ≡ x.client_opening.name) ⊎ IsBesideAtClient k x name

-- what is told again comes to a call that the client has open, and is of an older session
pub record IsStray (k : Setup) (x : Places) (s : Stray) : Type 0 where
  pub older : s.session < x.session
  pub call : IsCallThere k x s.name
  pub heard : IsSendable Client (stray_packet s)

abbrev pub PassesDown : Setup → Places → Passing → Type 0
PassesDown k x (own w) = GoesDown x w
PassesDown k x (other s) = IsStray k x s

abbrev pub PassDown : Setup → Places → List Passing → Type 0
PassDown k x ps = AllByRecursion (PassesDown k x) ps

-- what is no word of the transfer is of an older session, in a call that is there
abbrev pub IsFromOlder : Setup → Places → Passing → Type 0
IsFromOlder k x (own w) = Unit {0}
IsFromOlder k x (other s) = (s.session < x.session) × IsCallThere k x s.name

-- so it is, and the words of the transfer fit chunks
abbrev pub MayPass : Setup → Places → Passing → Type 0
MayPass k x (own w) = FitsChunk w
MayPass k x (other s) = IsFromOlder k x (other s)
