-- The line of an entry, as it is printed.
use Rattle.std.specs.Prelude.{ℕ, List, [], ◌++◌, flat_map, codes, Option, Some, None}
use Rattle.std.specs.Fmt.{decimal}
use Rattle.hex.specs.Hex.{encode_lower}
use Rattle.rpc_ids.specs.Status.{status_number}
use Rattle.rpc_packet.specs.Message.{message_of}
use Rattle.rpc_packet.specs.Spelling.{spelling_of}
use Rattle.rpc_handlers.specs.declared.answer.End.{End}
use Rattle.rpc_handlers.specs.declared.answer.Out.{Out}
use Rattle.rpc_handlers.specs.declared.answer.Out.TheVariants.{Say as Message, Begin, Append, Commit, Leave}
use Rattle.rpc_journal.specs.declared.entry.Entry.{Entry}
use Rattle.rpc_journal.specs.declared.entry.EntryKind.{EntryKind}
use Rattle.rpc_journal.specs.declared.entry.EntryKind.TheVariants.{Arrive, Start, Finish, Cancel, Tick, Flush, EndIn, Close}

-- an item of an answer: a message, or what is done to the store
abbrev pub item_text : Out → List ℕ
item_text (Message payload) = codes "say:" ++ encode_lower payload
item_text (Begin session resource offset) =
    codes "begin:" ++ (decimal session ++ (codes ":" ++ (decimal resource ++ (codes ":" ++ decimal offset))))
item_text (Append session bytes) = codes "append:" ++ (decimal session ++ (codes ":" ++ encode_lower bytes))
item_text (Commit session) = codes "commit:" ++ decimal session
item_text (Leave session) = codes "leave:" ++ decimal session

-- the items of an answer, each behind a blank
abbrev pub items_text : List Out → List ℕ
items_text items = flat_map (λ item. codes " " ++ item_text item) items

-- the end that an answer gives: its status and its payload, or a dash where it gives none
abbrev pub end_text : Option End → List ℕ
end_text None = codes "-"
end_text (Some end) = decimal (status_number end.status) ++ (codes ":" ++ encode_lower end.payload)

-- what stands behind the seat: the kind's word, and what belongs to it. The kinds that no recorded run makes have none
abbrev pub kind_text : EntryKind → List ℕ
kind_text (Arrive p) = codes "arrive " ++ encode_lower (spelling_of (message_of p))
kind_text (Start c) = codes "start " ++ decimal c
kind_text (Finish c a) = codes "finish " ++ (decimal c ++ (codes " " ++ (end_text a.end ++ items_text a.items)))
kind_text (Cancel c) = codes "cancel " ++ decimal c
kind_text (Tick t) = codes "tick " ++ decimal t
kind_text Flush = codes "flush"
kind_text EndIn = codes "endin"
kind_text (Close channel) = codes "close " ++ decimal channel
kind_text _ = []

-- the line of an entry
abbrev pub line_of : Entry → List ℕ
line_of e = decimal e.seat ++ (codes " " ++ kind_text e.kind)
