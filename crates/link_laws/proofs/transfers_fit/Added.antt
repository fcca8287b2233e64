-- What the client's entries do to its store.
use Rattle.std.proofs.Common.{◌≡◌, ℕ, ◌≤◌, Bool, true, false, if◌then◌else◌, List, [], ◌∷◌, ◌++◌, Option, Some, None, is_none, sym, ap, ◌∙◌, subst, arith}
use Rattle.std.proofs.lemmas.Grind.{fold-append}
use Rattle.std.specs.List.{AllByRecursion}
use Rattle.link_io.specs.Stored.{Stored}
use Rattle.rpc_ids.specs.declared.method.MethodRef.{MethodRef}
use Rattle.rpc_ids.specs.declared.method.Role.TheVariants.{Client}
use Rattle.rpc_packet.specs.declared.owned.Packet.{Packet}
use Rattle.rpc_handlers.specs.declared.answer.Out.TheVariants.{Say as Message, Begin, Append, Commit, Leave}
use Rattle.rpc_handlers.specs.declared.event.Memo.{Memo}
use Rattle.rpc_journal.specs.declared.entry.Entry.{Entry}
use Rattle.rpc_journal.specs.declared.entry.EntryKind.{EntryKind}
use Rattle.rpc_journal.specs.declared.entry.EntryKind.TheVariants.{Arrive, Invoke, Say, Done, Start, Finish, Replace, Cancel, Tick, Flush, EndIn, Halt, Close}
use Rattle.rpc_journal.specs.declared.item.Act.{Act}
use Rattle.rpc_journal.specs.declared.item.Act.TheVariants.{Send, Keep, LeaveCall}
use Rattle.rpc_journal.specs.declared.item.Item.{Item}
use Rattle.rpc_journal.specs.declared.setting.Setting.{Setting}
use Rattle.rpc_journal.specs.Calls.{call_at}
use Rattle.rpc_journal.specs.Effect.{Deed, Opening}
use Rattle.rpc_journal.specs.Entries.{effect_of, invoke_effect, message_item, out_item, with_call}
use Rattle.rpc_journal.specs.History.{adding, entry_by, history}
use Rattle.rpc_journal.specs.Items.{items_sent}
use Rattle.rpc_journal.specs.Refusals.{out_refusal}
use Rattle.rpc_journal.specs.Rows.{method_named, says_item}
use Rattle.rpc_journal.specs.StoreSteps.{after_item}
use Rattle.rpc_journal.proofs.Push.{history-push}
use Rattle.rpc_schedule.specs.Kept.{change_by, kept, stored_steps}
use Rattle.rpc_schedule.specs.Schedule.{run_seat}
use Rattle.demo_services.specs.Answers.{empty_answer}
use Rattle.transfer_base.specs.declared.limits.TheConstants.{MAX_RESOURCE}
use Rattle.transfer_words.specs.Saying.{Saying, says, begins, appends, commits, leaves, out_of, outs_of}
use Rattle.link_laws.specs.world.Client.{all_said_in, said_in}
use Rattle.link_laws.proofs.okay_means_bytes.Items.{AllPlain, PlainAct, arrive_plain, cancel_plain, done_plain, finish_plain}
use Rattle.link_laws.proofs.transfers_fit.Stores.{StoreFits, call_fits, change_fits, grown, grown_by, grows, grows_all, store_widens}

pub kept_append : (s : Stored) (xs ys : List Item) → kept (xs ++ ys) s ≡ kept ys (kept xs s)
kept_append s xs ys = fold-append (λ st item. after_item stored_steps item.call item.act st) s xs ys

-- no action on the store, but that all works of a call are left
abbrev pub Still : Act → Type 0
Still (Send p) = Unit {0}
Still (Keep out) = ⊥
Still LeaveCall = Unit {0}

abbrev AllStill : List Item → Type 0
AllStill items = AllByRecursion (λ item. Still item.act) items

still_act : (act : Act) → PlainAct act → Still act
still_act (Send p) plain = tt
still_act (Keep out) plain = plain
still_act LeaveCall plain = tt

-- the client's entries that act on no work by themselves
abbrev pub Calm : EntryKind → Type 0
Calm (Say c (Message payload)) = Unit {0}
Calm (Say c out) = ⊥
Calm (Finish c a) = a ≡ empty_answer
Calm (Close channel) = ⊥
Calm (Replace c m) = ⊥
Calm _ = Unit {0}

all_still : (items : List Item) → AllPlain items → AllStill items
all_still [] all = tt
all_still (item ∷ items) all = (still_act item.act all.0, all_still items all.1)

module _ (set : Setting) (role : set.role ≡ Client) (ds : List Deed) where
  invoke_still : (p : Packet) (m : Memo) (o : Option MethodRef) → AllStill (invoke_effect ds p m o).says
  invoke_still p m None = tt
  invoke_still p m (Some method) = (tt, tt)

  say_still : (k : ℕ) (payload : List ℕ) (o : Option Opening) → AllStill (with_call o (λ x. says_item (message_item set.role k x.name payload))).says
  say_still k payload None = tt
  say_still k payload (Some o) = (tt, tt)

  calm_still : (kind : EntryKind) → Calm kind → AllStill (effect_of set ds kind).says
  calm_still (Arrive p) q = all_still _ (arrive_plain set ds p role)
  calm_still (Invoke p m) q = invoke_still p m (method_named set p.name)
  calm_still (Say c (Message payload)) q = say_still c payload (call_at ds c)
  calm_still (Say c (Begin s r o)) q = absurd q
  calm_still (Say c (Append s b)) q = absurd q
  calm_still (Say c (Commit s)) q = absurd q
  calm_still (Say c (Leave s)) q = absurd q
  calm_still (Done c) q = all_still _ (done_plain set role ds c (call_at ds c))
  calm_still (Start c) q = tt
  calm_still (Finish c a) q = all_still _ (finish_plain set role ds c a (call_at ds c) q)
  calm_still (Replace c m) q = absurd q
  calm_still (Cancel c) q = all_still _ (cancel_plain set role ds c (call_at ds c))
  calm_still (Tick t) q = tt
  calm_still Flush q = tt
  calm_still EndIn q = tt
  calm_still (Halt why) q = tt
  calm_still (Close channel) q = absurd q

added_items : (set : Setting) (h : List Entry) (seat : ℕ) (kind : EntryKind) → items_sent (history set (adding h seat kind)) ≡ items_sent (history set h) ++ (effect_of set (history set h) kind).says
added_items set h seat kind = ap items_sent (history-push set h (entry_by seat kind))

module _ (set : Setting) (role : set.role ≡ Client) (first : Stored) where
  -- what the store holds behind a history, all of whose items have gone out
  abbrev pub stored_by : List Entry → Stored
  stored_by h = kept (items_sent (history set h)) first

  stored_more : (h : List Entry) (seat : ℕ) (kind : EntryKind) → stored_by (adding h seat kind) ≡ kept (effect_of set (history set h) kind).says (stored_by h)
  stored_more h seat kind = ap (λ items. kept items first) (added_items set h seat kind) ∙ kept_append first (items_sent (history set h)) (effect_of set (history set h) kind).says

  module _ (n i : ℕ) where
    abbrev pub Fits : ℕ → List Entry → Type 0
    Fits m h = StoreFits n i m (stored_by h)

    still_item : (m : ℕ) (o : Option ℕ) (act : Act) (s : Stored) → Still act → StoreFits n i m s → StoreFits n i m (after_item stored_steps o act s)
    still_item m None act s still fits = fits
    still_item m (Some c) (Send p) s still fits = fits
    still_item m (Some c) (Keep out) s still fits = absurd still
    still_item m (Some c) LeaveCall s still fits = call_fits n i c m s fits

    still_items : (m : ℕ) (items : List Item) (s : Stored) → AllStill items → StoreFits n i m s → StoreFits n i m (kept items s)
    still_items m [] s all fits = fits
    still_items m (item ∷ items) s all fits = still_items m items (after_item stored_steps item.call item.act s) all.1 (still_item m item.call item.act s all.0 fits)

    -- a calm entry
    pub calm_fits : (m : ℕ) (h : List Entry) (seat : ℕ) (kind : EntryKind) → Calm kind → Fits m h → Fits m (adding h seat kind)
    calm_fits m h seat kind calm fits =
        subst (StoreFits n i m) (sym (stored_more h seat kind))
        (still_items m (effect_of set (history set h) kind).says (stored_by h) (calm_still set role (history set h) kind calm) fits)

    -- what a task says, whether or not the table takes it
    out_changes : (m : ℕ) (c : ℕ) (x : Saying) (s : Stored) (o : Option Opening) → StoreFits n i m s → StoreFits n i m (change_by c (out_of i x) s)
        → StoreFits n i m (kept (with_call o (λ y. says_item (out_item set.role c y.name (out_of i x)))).says s)
    out_changes m c x s None before after = before
    out_changes m c x s (Some o) before after = by_saying x after
      where
        by_saying : (y : Saying) → StoreFits n i m (change_by c (out_of i y) s) → StoreFits n i m (kept (out_item set.role c o.name (out_of i y) ∷ []) s)
        by_saying (says w) fits = fits
        by_saying (begins r p) fits = fits
        by_saying (appends bytes) fits = fits
        by_saying commits fits = fits
        by_saying leaves fits = fits

    said_fits : (m c : ℕ) (x : Saying) (h : List Entry) → i ≤ n → grown_by m x ≤ MAX_RESOURCE → Fits m h → Fits (grown_by m x) (said_in set c h (out_of i x))
    said_fits m c x h low within fits = at (is_none (out_refusal set (history set h) c (out_of i x)))
      where
        wide : Fits (grown_by m x) h
        wide = store_widens n i m (grown_by m x) (stored_by h) (grows m x) fits

        at : (b : Bool) → Fits (grown_by m x) (if b then adding h run_seat (Say c (out_of i x)) else h)
        at false = wide
        at true =
            subst (StoreFits n i (grown_by m x)) (sym (stored_more h run_seat (Say c (out_of i x))))
            (out_changes (grown_by m x) c x (stored_by h) (call_at (history set h) c) wide (change_fits n i c m x (stored_by h) low within fits))

    pub all_said_fits : (c : ℕ) (xs : List Saying) (m : ℕ) (h : List Entry) → i ≤ n → grown m xs ≤ MAX_RESOURCE → Fits m h → Fits (grown m xs) (all_said_in set c (outs_of i xs) h)
    all_said_fits c [] m h low within fits = fits
    all_said_fits c (x ∷ xs) m h low within fits =
        all_said_fits c xs (grown_by m x) (said_in set c h (out_of i x)) low within (said_fits m c x h low (omega (arith, grows_all (grown_by m x) xs, within)) fits)
