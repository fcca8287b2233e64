-- Which lines are good, and what they say. A good line is the printed one, but a number above 16 in the end of an answer
-- is read as UNKNOWN.
use Rattle.std.specs.Prelude.{◌≡◌, ℕ, ◌+◌, ◌^◌, ◌<◌, ◌⊎◌, List, [], ◌∷◌, ◌++◌, length, codes, Option, Some, None, Ok}
use Rattle.std.specs.Fmt.{decimal}
use Rattle.hex.specs.Hex.{IsBytes, encode_lower}
use Rattle.rpc_ids.specs.Status.{status_of}
use Rattle.rpc_packet.specs.declared.owned.Packet.{Packet}
use Rattle.rpc_packet.specs.Message.{message_of}
use Rattle.rpc_packet.specs.Reading.{packet_of}
use Rattle.rpc_packet.specs.Spelling.{spelling_of}
use Rattle.rpc_handlers.specs.declared.answer.Answer.{Answer}
use Rattle.rpc_handlers.specs.declared.answer.End.{End}
use Rattle.rpc_handlers.specs.declared.answer.Out.{Out}
use Rattle.rpc_handlers.specs.declared.answer.Out.TheVariants.{Say as Message, Begin, Append, Commit, Leave}
use Rattle.rpc_journal.specs.declared.entry.Entry.{Entry}
use Rattle.rpc_journal.specs.declared.entry.EntryKind.{EntryKind}
use Rattle.rpc_journal.specs.declared.entry.EntryKind.TheVariants.{Arrive, Start, Finish, Cancel, Tick, Flush, EndIn, Close}
use Rattle.text_fields.specs.Lines.{lines_of}
use Rattle.journal_text.specs.Line.{item_text, items_text}

-- the numbers of an item fit its fields, and its payload is of bytes
abbrev pub IsOut : Out → Type 0
IsOut (Message payload) = IsBytes payload
IsOut (Begin session resource offset) = (session < 2 ^ 32) × (resource < 2 ^ 32) × (offset < 2 ^ 64)
IsOut (Append session bytes) = (session < 2 ^ 32) × IsBytes bytes
IsOut (Commit session) = session < 2 ^ 32
IsOut (Leave session) = session < 2 ^ 32

-- an item of an answer
pub record IsItem (text : List ℕ) (item : Out) : Type 0 where
  pub spelled : text ≡ item_text item
  pub fits : IsOut item

abbrev pub AreOuts : List Out → Type 0
AreOuts [] = Unit {0}
AreOuts (item ∷ items) = IsOut item × AreOuts items

-- the items of an answer, each behind a blank
pub record AreItems (text : List ℕ) (items : List Out) : Type 0 where
  pub spelled : text ≡ items_text items
  pub fit : AreOuts items

-- the end that an answer gives: its status is the one with the number, and UNKNOWN where no status has it
pub record IsGivenEnd (text : List ℕ) (end : End) : Type 0 where
  pub number : ℕ
  pub spelled : text ≡ decimal number ++ (codes ":" ++ encode_lower end.payload)
  pub fits : number < 2 ^ 32
  pub status : end.status ≡ status_of number
  pub payload : IsBytes end.payload

-- the end of an answer, or a dash where it gives none
abbrev pub IsEnd : List ℕ → Option End → Type 0
IsEnd text None = text ≡ codes "-"
IsEnd text (Some end) = IsGivenEnd text end

-- an answer: its end, and then its items
pub record IsAnswer (text : List ℕ) (a : Answer) : Type 0 where
  pub front : List ℕ
  pub rest : List ℕ
  pub spelled : text ≡ front ++ rest
  pub ends : IsEnd front a.end
  pub items : AreItems rest a.items

-- the end of a run of call c with this answer
pub record IsFinish (text : List ℕ) (c : ℕ) (a : Answer) : Type 0 where
  pub rest : List ℕ
  pub spelled : text ≡ codes "finish " ++ (decimal c ++ (codes " " ++ rest))
  pub fits : c < 2 ^ 32
  pub answer : IsAnswer rest a

-- the packet's one spelling is of bytes, and is read as this packet
pub record IsSpelled (p : Packet) : Type 0 where
  pub bytes : IsBytes (spelling_of (message_of p))
  pub again : packet_of (spelling_of (message_of p)) ≡ Ok (message_of p)

-- what stands behind the seat says this kind of entry. No line says one of the kinds that no recorded run makes
abbrev pub IsKind : List ℕ → EntryKind → Type 0
IsKind text (Arrive p) = (text ≡ codes "arrive " ++ encode_lower (spelling_of (message_of p))) × IsSpelled p
IsKind text (Start c) = (text ≡ codes "start " ++ decimal c) × (c < 2 ^ 32)
IsKind text (Finish c a) = IsFinish text c a
IsKind text (Cancel c) = (text ≡ codes "cancel " ++ decimal c) × (c < 2 ^ 32)
IsKind text (Tick t) = (text ≡ codes "tick " ++ decimal t) × (t < 2 ^ 64)
IsKind text Flush = text ≡ codes "flush"
IsKind text EndIn = text ≡ codes "endin"
IsKind text (Close channel) = (text ≡ codes "close " ++ decimal channel) × (channel < 2 ^ 32)
IsKind text _ = ⊥

-- the line says this entry
pub record IsLine (line : List ℕ) (e : Entry) : Type 0 where
  pub rest : List ℕ
  pub spelled : line ≡ decimal e.seat ++ (codes " " ++ rest)
  pub seat : e.seat < 2 ^ 32
  pub kind : IsKind rest e.kind

-- each line says the entry at its place
abbrev pub AreLines : List (List ℕ) → List Entry → Type 0
AreLines [] [] = Unit {0}
AreLines (line ∷ lines) (e ∷ entries) = IsLine line e × AreLines lines entries
AreLines _ _ = ⊥

-- the text says these entries: a first line `journal`, and then a line for each
pub record IsJournalText (text : List ℕ) (entries : List Entry) : Type 0 where
  pub lines : List (List ℕ)
  pub whole : lines_of text ≡ codes "journal" ∷ lines
  pub says : AreLines lines entries

-- the first line isn't `journal`, or there is none
abbrev pub HasNoHead : List ℕ → Type 0
HasNoHead text = (lines : List (List ℕ)) → lines_of text ≡ codes "journal" ∷ lines → ⊥

-- behind good lines stands one that says no entry, and this is its number
pub record IsBadAt (text : List ℕ) (number : ℕ) : Type 0 where
  pub good : List (List ℕ)
  pub bad : List ℕ
  pub more : List (List ℕ)
  pub entries : List Entry
  pub whole : lines_of text ≡ codes "journal" ∷ (good ++ bad ∷ more)
  pub says : AreLines good entries
  pub none : (e : Entry) → IsLine bad e → ⊥
  pub place : number ≡ length good + 2

-- the first bad line has this number; lines are counted from 1, the line `journal` among them
abbrev pub IsFirstBadLine : List ℕ → ℕ → Type 0
IsFirstBadLine text number = (HasNoHead text × (number ≡ 1)) ⊎ IsBadAt text number
