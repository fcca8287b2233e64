-- What a server has sent, as it goes on.
use Rattle.std.proofs.Common.{◌≡◌, ℕ, Bool, true, false, List, [], ◌∷◌, drop, Some, Result, Ok, Err, sym, subst, inl, inr}
use Rattle.std.proofs.lemmas.List.{take-append-drop}
use mathlib.Core.List.{IsPrefix}
use Rattle.entry_lists.proofs.Prefixes.{prefix_self, prefix_trans}
use Rattle.rpc_handlers.specs.HandlerRule.{HandlerRule}
use Rattle.rpc_journal.specs.declared.answers.StartRefused.{StartRefused}
use Rattle.rpc_journal.specs.declared.answers.StartRefused.TheVariants.{JournalFull, Memory}
use Rattle.rpc_journal.specs.declared.entry.EntryKind.{EntryKind}
use Rattle.rpc_journal.specs.declared.entry.EntryKind.TheVariants.{Finish, Flush, Start}
use Rattle.rpc_journal.specs.declared.item.Item.{Item}
use Rattle.rpc_journal.specs.Effect.{Deed}
use Rattle.rpc_journal.specs.History.{entry_by}
use Rattle.rpc_journal.specs.Items.{flush_count, items_flushed, items_sent}
use Rattle.rpc_journal.proofs.ItemLemmas.{items_begin}
use Rattle.rpc_schedule.specs.Schedule.{flush_seat, run_seat}
use Rattle.rpc_schedule.specs.Serving.{Begins, Ends, Feeds, Gives, Serving, Works, deeds, with_entry}

-- what was flushed begins what was sent
pub flushed_of_sent : (ds : List Deed) → IsPrefix (items_flushed ds) (items_sent ds)
flushed_of_sent ds = (drop (flush_count ds) (items_sent ds), take-append-drop (flush_count ds) (items_sent ds))

-- all that this server had sent begins what that one has sent
abbrev pub SendsOn : Serving → Serving → Type 0
SendsOn old new = IsPrefix (items_sent (deeds old)) (items_sent (deeds new))

pub sends_itself : (s : Serving) → SendsOn s s
sends_itself s = prefix_self (items_sent (deeds s))

pub sends_then : (a b c : Serving) → SendsOn a b → SendsOn b c → SendsOn a c
sends_then a b c first more = prefix_trans (items_sent (deeds a)) (items_sent (deeds b)) (items_sent (deeds c)) first more

sends_entry : (s : Serving) (seat : ℕ) (kind : EntryKind) → SendsOn s (with_entry s seat kind)
sends_entry s seat kind = items_begin s.table.setting s.table.entries (entry_by seat kind ∷ [])

sends_same : (s new : Serving) → new ≡ s → SendsOn s new
sends_same s new same = subst (SendsOn s) (sym same) (sends_itself s)

sends_begun : (old new : Serving) → Begins old new → SendsOn old new
sends_begun old new begun = subst (SendsOn old) (sym begun.adds) (sends_entry old run_seat (Start begun.call))

sends_ended : (rule : HandlerRule) (old new : Serving) → Ends rule old new → SendsOn old new
sends_ended rule old new ended = subst (SendsOn old) (sym ended.adds) (sends_entry old run_seat (Finish ended.call ended.answer))

pub sends_worked : (rule : HandlerRule) (old new : Serving) (result : Result Bool StartRefused) → Works rule old result new → SendsOn old new
sends_worked rule old new (Ok true) (inl ended) = sends_ended rule old new ended
sends_worked rule old new (Ok true) (inr ran) = sends_then old ran.0 new (sends_begun old ran.0 ran.1) (sends_ended rule ran.0 new ran.2)
sends_worked rule old new (Ok false) none = sends_same old new none.same
sends_worked rule old new (Err JournalFull) full = sends_same old new full.same
sends_worked rule old new (Err Memory) (inl same) = sends_same old new same
sends_worked rule old new (Err Memory) (inr begun) = sends_begun old new begun

pub sends_flushed : (old new : Serving) (item : Item) → Gives old (Some item) new → SendsOn old new
sends_flushed old new item gives = subst (SendsOn old) (sym gives.1) (sends_entry old flush_seat Flush)

pub sends_refused : (old new : Serving) (why : StartRefused) → Feeds old (Err why) new → SendsOn old new
sends_refused old new JournalFull feeds = subst (SendsOn old) (sym feeds.1) (sends_itself old)
sends_refused old new Memory feeds = subst (SendsOn old) (sym feeds) (sends_itself old)

-- items that were flushed then begin what has been sent since
pub sent_since : (old new : Serving) (items : List Item) → items ≡ items_flushed (deeds old) → SendsOn old new → IsPrefix items (items_sent (deeds new))
sent_since old new items is more =
    subst (λ xs. IsPrefix xs (items_sent (deeds new))) (sym is)
    (prefix_trans (items_flushed (deeds old)) (items_sent (deeds old)) (items_sent (deeds new)) (flushed_of_sent (deeds old)) more)
