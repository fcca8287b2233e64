-- The pass that has just opened the call.
use Rattle.std.specs.Prelude.{◌≡◌, ℕ, Bool, List, [], ◌∷◌}
use Rattle.entry_lists.specs.Entries.{made_by}
use Rattle.rpc_packet.specs.declared.call_name.CallName.{CallName}
use Rattle.rpc_handlers.specs.HandlerRule.{empty_memo}
use Rattle.rpc_journal.specs.declared.entry.Entry.{Entry}
use Rattle.rpc_journal.specs.declared.entry.EntryKind.TheVariants.{Invoke}
use Rattle.rpc_journal.specs.Calls.{call_count}
use Rattle.rpc_journal.specs.Changes.{request}
use Rattle.rpc_journal.specs.History.{adding, entry_by, history}
use Rattle.rpc_journal.specs.Laws.{seat_of}
use Rattle.rpc_shared.specs.session.Crew.{Lock, Seat}
use Rattle.live_client.specs.Driving.{CanDrive, Drives}

-- it opened call c, behind entries of other seats, and did nothing else
pub record Opens (r : Lock) (name : CallName) (payload : List ℕ) (c : ℕ) (p : Seat) : Type 0 where
  pub can : CanDrive r c p
  pub before : List Entry
  pub others : made_by seat_of 1 before ≡ []
  pub seen : p.view.known.seen ≡ adding before 1 (Invoke (request name payload) empty_memo)
  pub number : c ≡ call_count (history r.base before)
  pub mine : p.view.known.mine ≡ entry_by 1 (Invoke (request name payload) empty_memo) ∷ []
  pub drives : (watches : Bool) → Drives watches (Invoke (request name payload) empty_memo) r c [] [] [] p
