-- What goes out: the packets among the items, and the uploads that end well.
use Rattle.std.specs.Prelude.{ℕ, List, [], ◌∷◌, ◌++◌, length, Option, Some, None}
use Rattle.std.specs.List.{sum_by}
use Rattle.std.specs.Map.{lookup}
use Rattle.link_io.specs.Stored.{is_key}
use Rattle.rpc_packet.specs.declared.owned.Packet.{Packet}
use Rattle.rpc_frames.specs.Written.{frames_of_packets}
use Rattle.rpc_handlers.specs.declared.answer.Out.TheVariants.{Commit}
use Rattle.rpc_journal.specs.declared.item.Act.{Act}
use Rattle.rpc_journal.specs.declared.item.Act.TheVariants.{Send, Keep}
use Rattle.rpc_journal.specs.declared.item.Item.{Item}
use Rattle.rpc_journal.specs.Items.{packets_of}
use Rattle.rpc_schedule.specs.Kept.{key}
use Rattle.run_report.specs.declared.uploads.Upload.{Upload}
use Rattle.run_report.specs.Lines.{out_line, stored_line}
use Rattle.run_report.specs.Uploads.{Uploads, behind_item}

-- what stands on the link: the frames of the packets, one behind the other
abbrev pub frames_of_items : List Item → List ℕ
frames_of_items items = frames_of_packets (packets_of items)

-- the line of an upload that ended well, where it was under way
abbrev pub stored_lines : Option Upload → List ℕ
stored_lines None = []
stored_lines (Some u) = stored_line u.resource u.length

-- the line of an item, where these uploads are under way: a packet has one, and the end of an upload that ended well
abbrev pub lines_of_item : Uploads → Option ℕ → Act → List ℕ
lines_of_item us call (Send packet) = out_line packet
lines_of_item us (Some call) (Keep (Commit session)) = stored_lines (lookup (is_key (key call session)) us)
lines_of_item us call act = []

-- the lines of items, one behind the other, where these uploads are under way before the first
abbrev pub lines_from : Uploads → List Item → List ℕ
lines_from us [] = []
lines_from us (item ∷ items) = lines_of_item us item.call item.act ++ lines_from (behind_item item.call item.act us) items

-- the lines of all items that went out
abbrev pub item_lines : List Item → List ℕ
item_lines items = lines_from [] items

-- how many packets there are
abbrev pub packet_count : List Item → ℕ
packet_count items = length (packets_of items)

abbrev pub payload_len : Packet → ℕ
payload_len packet = length packet.payload

-- the bytes of these packets' payloads together
abbrev pub payload_total : List Packet → ℕ
payload_total packets = sum_by payload_len packets

-- the same of the packets among these items
abbrev pub payload_of_items : List Item → ℕ
payload_of_items items = payload_total (packets_of items)
