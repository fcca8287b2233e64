-- The report of a session whose handlers ran side by side: what went out is told call by call, so that the order between calls
-- doesn't show.
use Rattle.std.specs.Prelude.{ℕ, List, [], ◌∷◌, ◌++◌, Option, Some, None}
use Rattle.std.specs.List.{flat_map}
use Rattle.std.specs.Map.{lookup}
use Rattle.link_io.specs.Stored.{is_key}
use Rattle.link_io.specs.declared.why.Why.{Why}
use Rattle.rpc_handlers.specs.declared.answer.Out.TheVariants.{Commit}
use Rattle.rpc_journal.specs.declared.item.Act.{Act}
use Rattle.rpc_journal.specs.declared.item.Act.TheVariants.{Send, Keep}
use Rattle.rpc_journal.specs.declared.item.Item.{Item}
use Rattle.rpc_journal.specs.Calls.{call_count}
use Rattle.rpc_journal.specs.CallTable.{Table, past}
use Rattle.rpc_frames.specs.declared.counts.Counts.{Counts}
use Rattle.rpc_schedule.specs.Kept.{key}
use Rattle.run_report.specs.declared.uploads.Upload.{Upload}
use Rattle.run_report.specs.ItemsByCall.{items_by_call, replies}
use Rattle.run_report.specs.Lines.{frames_line, numbered_out_line, numbered_stored_line, why_line}
use Rattle.run_report.specs.Report.{call_lines}
use Rattle.run_report.specs.Uploads.{Uploads, behind_item}

-- the line of an upload of this call that ended well, where it was under way
abbrev pub numbered_stored_lines : ℕ → Option Upload → List ℕ
numbered_stored_lines call None = []
numbered_stored_lines call (Some u) = numbered_stored_line call u.resource u.length

-- the line of an item with the number of its call, where these uploads are under way
abbrev pub numbered_lines_of_item : Uploads → Option ℕ → Act → List ℕ
numbered_lines_of_item us call (Send packet) = numbered_out_line call packet
numbered_lines_of_item us (Some call) (Keep (Commit session)) = numbered_stored_lines call (lookup (is_key (key call session)) us)
numbered_lines_of_item us call act = []

-- the lines of items, one behind the other, where these uploads are under way before the first
abbrev pub numbered_lines_from : Uploads → List Item → List ℕ
numbered_lines_from us [] = []
numbered_lines_from us (item ∷ items) =
    numbered_lines_of_item us item.call item.act ++ numbered_lines_from (behind_item item.call item.act us) items

-- the lines of all of them
abbrev pub numbered_lines : List Item → List ℕ
numbered_lines items = numbered_lines_from [] items

-- the lines of all items that went out: first those of the replies without a call, then those of each of so many calls by
-- itself, with the uploads of that call alone
abbrev pub lines_by_call : ℕ → List Item → List ℕ
lines_by_call count items = numbered_lines (replies items) ++ flat_map numbered_lines (items_by_call count items)

-- the counts, the calls, the items that were made, call by call, and why the session ended
abbrev pub crew_report : Table → Counts → List Item → Why → List ℕ
crew_report table counts items why =
    frames_line counts ++ call_lines (past table) ++ lines_by_call (call_count (past table)) items ++ why_line why
