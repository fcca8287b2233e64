-- The uploads under way among the items that went out, as far as the lines of a report tell of them.
use Rattle.std.specs.Prelude.{ℕ, ◌+◌, ◌==◌, not, List, [], ◌∷◌, ◌++◌, filter, length, Option, Some, None}
use Rattle.std.specs.Io.Iter.{u64_saturate}
use Rattle.std.specs.Map.{lookup, remove_entry, set_value}
use Rattle.std.specs.BTreeMap.{insert_entry}
use Rattle.link_io.specs.declared.store.StoreKey.{StoreKey}
use Rattle.link_io.specs.Stored.{is_key, key_cmp}
use Rattle.rpc_handlers.specs.declared.answer.Out.{Out}
use Rattle.rpc_handlers.specs.declared.answer.Out.TheVariants.{Say, Begin, Append, Commit, Leave}
use Rattle.rpc_journal.specs.declared.item.Act.{Act}
use Rattle.rpc_journal.specs.declared.item.Act.TheVariants.{Send, Keep, LeaveCall}
use Rattle.rpc_schedule.specs.Kept.{key}
use Rattle.run_report.specs.declared.uploads.Upload.{Upload}

-- by rising key: the resource, and the begin's offset with all bytes appended, as far as 64 bits count
abbrev pub Uploads : Type 0
Uploads = List (StoreKey × Upload)

abbrev pub with_begun : StoreKey → ℕ → ℕ → Uploads → Uploads
with_begun k resource offset us = insert_entry key_cmp us k (record { resource = resource; length = offset })

abbrev pub longer : ℕ → Upload → Upload
longer count u = record u { length = u64_saturate (u.length + count) }

abbrev pub with_bytes_of : StoreKey → ℕ → Option Upload → Uploads → Uploads
with_bytes_of k count None us = us
with_bytes_of k count (Some u) us = set_value (is_key k) us (longer count u)

abbrev pub with_bytes : StoreKey → ℕ → Uploads → Uploads
with_bytes k count us = with_bytes_of k count (lookup (is_key k) us) us

abbrev pub without : StoreKey → Uploads → Uploads
without k us = remove_entry (is_key k) us

abbrev pub all_ended : ℕ → Uploads → Uploads
all_ended call us = filter (λ e. not (e.0.call == call)) us

-- the uploads under way behind a store action of a call, and behind an item
abbrev pub behind_out : ℕ → Out → Uploads → Uploads
behind_out call (Say payload) us = us
behind_out call (Begin session resource offset) us = with_begun (key call session) resource offset us
behind_out call (Append session bytes) us = with_bytes (key call session) (length bytes) us
behind_out call (Commit session) us = without (key call session) us
behind_out call (Leave session) us = without (key call session) us

abbrev pub behind_item : Option ℕ → Act → Uploads → Uploads
behind_item None act us = us
behind_item (Some call) (Send packet) us = us
behind_item (Some call) (Keep out) us = behind_out call out us
behind_item (Some call) LeaveCall us = all_ended call us
