-- What a session served of a link.
use Rattle.std.proofs.Common.{◌≡◌, ◌⊎◌, ℕ, ◌+◌, ◌<◌, ◌≤◌, false, List, [], ◌++◌, length, Result, Ok, Err, IfOk, Option, IfSome, refl, sym, ap, ◌∙◌, subst, inl, inr, arith, append_assoc, length-append}
use Rattle.std.proofs.lemmas.List.{append-nil, nil_from_length}
use Rattle.std.specs.Io.KnownBytes.{IsAtEnd}
use mathlib.Core.List.{IsPrefix}
use Rattle.link_io.specs.declared.shelf.Shelf.{Shelf}
use Rattle.link_io.specs.declared.why.Why.{Why}
use Rattle.link_io.specs.declared.why.Why.TheVariants.{Settled, Source, Store, InputLimit}
use Rattle.link_io.specs.Stored.{Stored, shelf_of}
use Rattle.rpc_frames.specs.declared.counts.Counts.{Counts}
use Rattle.rpc_handlers.specs.declared.event.Memo.{Memo}
use Rattle.rpc_ids.specs.declared.method.MethodRef.{MethodRef}
use Rattle.rpc_journal.specs.declared.item.Item.{Item}
use Rattle.rpc_journal.specs.declared.setting.Setting.{Setting}
use Rattle.rpc_journal.specs.CallTable.{Table}
use Rattle.rpc_journal.specs.History.{history}
use Rattle.rpc_journal.specs.Items.{items_sent, moments}
use Rattle.rpc_schedule.specs.declared.stream.TheConstants.{INPUT_LIMIT}
use Rattle.rpc_shared.specs.session.Sessions.{Begins, Explains, IsSessionHistory, LeavesNoneDue, TicksBetween, is_halted, is_halting, session_setting}
use Rattle.demo_services.specs.DemoRule.{demo_rule}
use Rattle.demo_services.specs.Methods.{demo_methods}
use Rattle.demo_services.specs.Transfer.{demo_seed}
use Rattle.pw_run.specs.Demo.{demo_channels, demo_setting}
use Rattle.pw_run.specs.Devices.{LinkDevices}
use Rattle.pw_run.specs.LinkServed.{ServesLink, ServesShelf}
use Rattle.pw_run.specs.Replay.{no_counts, no_table}

-- what holds of the value of a result holds of the result
pub if_ok_from : {T E : Type 0} (result : Result T E) (P : T → Type 0) → ((x : T) → result ≡ Ok x → P x) → IfOk result P
if_ok_from (Ok x) P from = from x refl
if_ok_from (Err e) P from = tt

-- a beginning that is as long as the whole is the whole
whole_list : {A : Type 0} (items next all : List A) → IsPrefix (items ++ next) all → length items ≡ length all → items ≡ all
whole_list items next all begins same =
    let split : items ++ (next ++ begins.0) ≡ all = sym (append_assoc items next begins.0) ∙ begins.1 in
    let sizes : length items + length (next ++ begins.0) ≡ length all = sym (length-append items (next ++ begins.0)) ∙ ap length split in
    let none : next ++ begins.0 ≡ [] = nil_from_length (next ++ begins.0) (omega (arith, sizes, same)) in
    sym (append-nil items) ∙ ap (λ rest. items ++ rest) (sym none) ∙ split

-- what a session did over a shelf, with what was fixed for its table
pub shelf_served : (set : Setting) (workers : ℕ) (shelf : Shelf) (before after : LinkDevices) (why : Why) (counts : Counts) (read done : ℕ) (table : Table) (items : List Item)
    → set ≡ demo_setting shelf → table.setting ≡ set → IsSessionHistory demo_rule set workers why table.entries
    → Begins set before.left after.left before.sent after.sent before.held after.held counts read done items table.entries
    → (is_halted set table.entries ≡ false → Explains set before.left after.left before.sent after.sent before.held after.held counts read done table.entries)
    → (why ≡ Settled → IsAtEnd after.left) → (why ≡ InputLimit → read ≡ INPUT_LIMIT) → ((why ≡ Settled) ⊎ (why ≡ Source) → read < INPUT_LIMIT) → TicksBetween before.moment after.moment table.entries
    → (began : ℕ) → (before.moment ≤ began) × (began ≤ after.moment) → (is_halted set table.entries ≡ false → LeavesNoneDue began after.moment (moments table.entries))
    → ServesShelf workers shelf before after why counts table items
shelf_served set workers shelf before after why counts read done table items same setting history_is begins explains at_end at_limit below ticks began bounds due =
    let all = λ (calm : is_halting why ≡ false). explains (sym history_is.halts ∙ calm) in
    record {
      setting = setting ∙ same;
      journal = subst (λ (s : Setting). IsSessionHistory demo_rule s workers why table.entries) same history_is;
      read = read;
      done = done;
      begins = subst (λ (s : Setting). Begins s before.left after.left before.sent after.sent before.held after.held counts read done items table.entries) same begins;
      explains = λ calm.
          subst (λ (s : Setting). Explains s before.left after.left before.sent after.sent before.held after.held counts read done table.entries) same (all calm);
      all = λ calm.
          subst (λ (s : Setting). items ≡ items_sent (history s table.entries)) same
          (whole_list items begins.next (items_sent (history set table.entries)) begins.sent (sym begins.counted ∙ (all calm).all));
      at_end = at_end;
      at_limit = at_limit;
      below = below;
      ticks = ticks;
      due = λ calm. record { began = began; later = bounds.0; within = bounds.1; none = due (sym history_is.halts ∙ calm) };
    }

-- the store was listed first, which left what it holds
pub listed_served : (workers : ℕ) (shelf : Shelf) (left left_new sent sent_new : Option (List ℕ)) (held listed held_new : Option Stored) (moment moment_new : ℕ)
    (why : Why) (counts : Counts) (table : Table) (items : List Item) → IfSome held (λ st. shelf ≡ shelf_of st) → listed ≡ held
    → ServesShelf workers shelf (record { left = left; sent = sent; held = listed; moment = moment })
    (record { left = left_new; sent = sent_new; held = held_new; moment = moment_new }) why counts table items
    → ServesLink workers (record { left = left; sent = sent; held = held; moment = moment })
    (record { left = left_new; sent = sent_new; held = held_new; moment = moment_new }) why counts table items
listed_served workers shelf left left_new sent sent_new held listed held_new moment moment_new why counts table items lists kept serves =
    inl (record {
      shelf = shelf;
      listed = lists;
      serves = subst (λ (st : Option Stored).
          ServesShelf workers shelf (record { left = left; sent = sent; held = st; moment = moment })
          (record { left = left_new; sent = sent_new; held = held_new; moment = moment_new }) why counts table items) kept serves;
    })

-- the store couldn't be listed
pub nothing_served : (workers : ℕ) (left sent : Option (List ℕ)) (held listed : Option Stored) (moment : ℕ) (why : Why) (counts : Counts) (table : Table)
    (items : List Item) → listed ≡ held → why ≡ Store → counts ≡ no_counts → table ≡ no_table → items ≡ []
    → ServesLink workers (record { left = left; sent = sent; held = held; moment = moment })
    (record { left = left; sent = sent; held = listed; moment = moment }) why counts table items
nothing_served workers left sent held listed moment why counts table items kept reason uncounted empty none =
    inr (record {
      same = ap (λ (st : Option Stored). record { left = left; sent = sent; held = st; moment = moment }) kept;
      reason = reason;
      uncounted = uncounted;
      empty = empty;
      none = none;
    })

-- what is fixed with the table of a session of the demo service
pub setting_is : (channels : List ℕ) (registry : List MethodRef) (seed : Memo) (shelf : Shelf) → channels ≡ demo_channels → registry ≡ demo_methods
    → seed ≡ demo_seed shelf 4 256 → session_setting channels registry seed ≡ demo_setting shelf
setting_is channels registry seed shelf first second third =
    ap (λ (cs : List ℕ). session_setting cs registry seed) first ∙
    ap (λ (ms : List MethodRef). session_setting demo_channels ms seed) second ∙
    ap (λ (memo : Memo). session_setting demo_channels demo_methods memo) third
