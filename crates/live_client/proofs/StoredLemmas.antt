-- What a fetch leaves in its store.
use Rattle.std.proofs.Common.{◌≡◌, ◌⊎◌, ◌&&◌, ◌==◌, ◌<◌, ◌≤◌, ℕ, nat_le, Bool, true, false, List, [], ◌∷◌, ◌++◌, map, fold, length, slice_get, take, drop, Option, Some, None, cond, unwrap_or, refl, ap, sym, ◌∙◌, subst, inl, inr, arith, reverse, append_assoc}
use Rattle.std.proofs.lemmas.Bool.{false≢true, true≢false, leb-false}
use Rattle.std.proofs.lemmas.List.{append-nil, reverse-append, reverse-reverse}
use Rattle.std.proofs.lemmas.List.Sums.{fold-append}
use Rattle.std.specs.List.{AllByRecursion, concat}
use Rattle.std.specs.declared.cmp.Ordering.{Ordering}
use Rattle.std.specs.declared.cmp.Ordering.TheVariants.{Less, Equal, Greater}
use Rattle.std.specs.Ordering.{nat_cmp, match_ordering}
use Rattle.std.specs.Map.{lookup, set_value}
use Rattle.std.specs.BTreeMap.{insert_entry, is_at}
use Rattle.std.specs.Cmp.{nat_cmp_is}
use Rattle.link_io.specs.declared.store.StoreKey.{StoreKey}
use Rattle.link_io.specs.Resources.{found, with_resource}
use Rattle.link_io.specs.Stored.{Stored, Work, appended_to, committed_of, key_cmp, is_key, longer, new_work, work_of}
use Rattle.rpc_handlers.specs.declared.answer.Out.{Out}
use Rattle.rpc_handlers.specs.declared.answer.Out.TheVariants.{Say as Message, Begin, Append, Commit, Leave}
use Rattle.rpc_ids.specs.declared.status.Status.TheVariants.{Okay}
use Rattle.rpc_ids.specs.declared.method.MethodRef.{MethodRef}
use Rattle.rpc_ids.specs.declared.method.Role.TheVariants.{Client}
use Rattle.rpc_packet.specs.declared.owned.Packet.{Packet}
use Rattle.rpc_handlers.specs.declared.event.Memo.{Memo}
use Rattle.rpc_handlers.specs.HandlerRule.{empty_memo}
use Rattle.rpc_journal.specs.Changes.{request}
use Rattle.entry_lists.proofs.Makers.{all_append}
use Rattle.rpc_journal.specs.declared.entry.Entry.{Entry}
use Rattle.rpc_journal.specs.declared.entry.EntryKind.{EntryKind}
use Rattle.rpc_journal.specs.declared.entry.EntryKind.TheVariants.{Arrive, Invoke, Say, Done, Start, Finish, Cancel, Flush, EndIn, Halt}
use Rattle.rpc_journal.specs.declared.item.Item.{Item}
use Rattle.rpc_journal.specs.Calls.{call_at, call_count, calls}
use Rattle.rpc_journal.specs.Effect.{Deed, Opening}
use Rattle.rpc_journal.specs.Entries.{effect_of, invoke_effect, out_item, with_call}
use Rattle.rpc_journal.specs.History.{deeds_of as deeds_from, entry_by, history}
use Rattle.rpc_journal.specs.Items.{items_sent}
use Rattle.rpc_journal.specs.Lawful.{AllowedAll, call_named, is_unknown}
use Rattle.rpc_journal.specs.Rows.{method_named, says_item}
use Rattle.rpc_journal.proofs.Allowed.{allowed}
use Rattle.rpc_journal.proofs.Push.{all-reverse}
use Rattle.rpc_schedule.specs.Kept.{change_by, key, kept}
use Rattle.transfer_receiver.proofs.RunLaws.{joined_parts_are_the_resource}
use Rattle.live_client.specs.declared.ask.LiveAsk.TheVariants.{Get}
use Rattle.live_client.specs.Ask.{live_name, live_setting, opening_of, read_method}
use Rattle.live_client.specs.Fetched.{FetchesAreStored, HasStored, IsFetched, deeds_of, run_of, work_on}
use Rattle.live_client.specs.Histories.{is_cancel, is_entry_of, said_by, says_of}
use Rattle.live_client.specs.Live.{AreReplies, IsReply}
use Rattle.live_client.specs.Silent.{is_silent}
use Rattle.live_client.specs.asks.Ends.{IsTold, TellsEnd, pieces_in}
use Rattle.live_client.proofs.ClientEntries.{Uncut, is_late, late_quiet, one_call, uncancelled}
use Rattle.live_client.proofs.DriveLemmas.{says-push}
use Rattle.live_client.proofs.FetchedLemmas.{fetch_whole, none_cancel}

-- the store after these outs of the one call
abbrev after_outs : List Out → Stored → Stored
after_outs outs s = fold (λ st out. change_by 0 out st) s outs

-- ---- what the items of a fetch do to the store is what it said

kept-append : (xs ys : List Item) (s : Stored) → kept (xs ++ ys) s ≡ kept ys (kept xs s)
kept-append xs ys s = fold-append _ s xs ys

replies_kept : (items : List Item) (s : Stored) → AreReplies read_method items → kept items s ≡ s
replies_kept [] s all = refl
replies_kept (item ∷ items) s all = at all.0 (replies_kept items s all.1)
  where
    at : IsReply read_method item → kept items s ≡ s → kept (item ∷ items) s ≡ s
    at (inl none) rest = rw none rest
    at (inr refuses) rest = absurd (true≢false refuses.0)

invoke_kept : (ds : List Deed) (p : Packet) (m : Memo) (o : Option MethodRef) (s : Stored) → kept (invoke_effect ds p m o).says s ≡ s
invoke_kept ds p m None s = refl
invoke_kept ds p m (Some called) s = refl

out_kept : (o : Opening) (out : Out) (s : Stored) → kept (out_item Client 0 o.name out ∷ []) s ≡ after_outs (out ∷ []) s
out_kept o (Message payload) s = refl
out_kept o (Begin session resource offset) s = refl
out_kept o (Append session bytes) s = refl
out_kept o (Commit session) s = refl
out_kept o (Leave session) s = refl

there_is : {A : Type 0} (xs : List A) → 0 < length xs → slice_get xs 0 ≡ None → ⊥
there_is [] below none = absurd (omega arith)
there_is (x ∷ xs) below none = absurd (cc none)

-- what is no Say of a transfer says replies alone
other_late : (seat : ℕ) (kind : EntryKind) → is_entry_of false seat kind ≡ true → said_by kind ≡ [] → is_late kind ≡ true
other_late seat (Arrive p) is none = refl
other_late seat EndIn is none = refl
other_late seat (Start c) is none = refl
other_late seat (Finish c a) is none = silent (seat == 1) is
  where
    silent : (b : Bool) → (b && is_silent a) ≡ true → is_silent a ≡ true
    silent true is = is
    silent false is = absurd (false≢true is)
other_late seat Flush is none = refl
other_late seat (Say c out) is none = absurd (cc none)
other_late seat (Cancel c) is none = absurd (false≢true (sym (off (seat == 1)) ∙ is))
  where
    off : (b : Bool) → (b && false) ≡ false
    off true = refl
    off false = refl
other_late seat (Done c) is none = absurd (false≢true (sym (off (seat == 1)) ∙ is))
  where
    off : (b : Bool) → (b && false) ≡ false
    off true = refl
    off false = refl
other_late seat (Halt why) is none = refl
other_late seat _ is none = absurd (false≢true is)

module _ (packet : Packet) (memo : Memo) where
  abbrev first : Entry
  first = entry_by 1 (Invoke packet memo)

  -- one entry more, of those that stand the newest first
  entry_kept : (es : List Entry) (e : Entry) (s : Stored) → AllByRecursion (λ e. is_entry_of false e.seat e.kind ≡ true) es → Uncut (es ++ first ∷ []) → AllowedAll (live_setting read_method) (e ∷ (es ++ first ∷ []))
      → is_entry_of false e.seat e.kind ≡ true → kept (effect_of (live_setting read_method) (deeds_from (live_setting read_method) (es ++ first ∷ [])) e.kind).says s ≡ after_outs (said_by e.kind) s
  entry_kept es e s kinds uncut all is = at e.kind (allowed (live_setting read_method) ds e all.1).known is
    where
      ds : List Deed
      ds = deeds_from (live_setting read_method) (es ++ first ∷ [])

      few : call_count ds ≤ 1
      few = one_call read_method false first es kinds

      -- a Say is of the one call, which is there
      said : (c : ℕ) (out : Out) → nat_le (call_count ds) c ≡ false → kept (with_call (call_at ds c) (λ o. says_item (out_item Client c o.name out))).says s ≡ after_outs (out ∷ []) s
      said c out known =
          let below : c < call_count ds = leb-false (call_count ds) c known in
          let zero_is : c ≡ 0 = omega (arith, few, below) in
          subst (λ n. kept (with_call (call_at ds n) (λ o. says_item (out_item Client n o.name out))).says s ≡ after_outs (out ∷ []) s) (sym zero_is)
          (by (call_at ds 0) refl (subst (λ n. n < call_count ds) zero_is below))
        where
          by : (o : Option Opening) → call_at ds 0 ≡ o → 0 < call_count ds → kept (with_call (call_at ds 0) (λ o. says_item (out_item Client 0 o.name out))).says s ≡ after_outs (out ∷ []) s
          by None none below = absurd (there_is (calls ds) below none)
          by (Some o) found below = rw found (out_kept o out s)

      quiet : (kind : EntryKind) → is_entry_of false e.seat kind ≡ true → said_by kind ≡ [] → kept (effect_of (live_setting read_method) ds kind).says s ≡ after_outs (said_by kind) s
      quiet kind is none = replies_kept (effect_of (live_setting read_method) ds kind).says s (late_quiet read_method ds kind (other_late e.seat kind is none) (inr (λ c. uncancelled read_method (es ++ first ∷ []) c uncut))) ∙ ap (λ outs. after_outs outs s) (sym none)

      at : (kind : EntryKind) → is_unknown (call_count ds) (call_named kind) ≡ false → is_entry_of false e.seat kind ≡ true
          → kept (effect_of (live_setting read_method) ds kind).says s ≡ after_outs (said_by kind) s
      at (Say c out) known is = said c out known
      at (Arrive p) known is = quiet (Arrive p) is refl
      at EndIn known is = quiet EndIn is refl
      at (Start c) known is = quiet (Start c) is refl
      at (Finish c a) known is = quiet (Finish c a) is refl
      at (Cancel c) known is = quiet (Cancel c) is refl
      at (Done c) known is = quiet (Done c) is refl
      at Flush known is = quiet Flush is refl
      at (Halt why) known is = quiet (Halt why) is refl
      at _ known is = absurd (false≢true is)

  says-reverse : (e : Entry) (es : List Entry) → says_of (reverse (e ∷ es)) ≡ says_of (reverse es) ++ said_by e.kind
  says-reverse e es = ap says_of (reverse-append (e ∷ []) es) ∙ says-push (reverse es) e

  all_kept : (es : List Entry) (s : Stored) → AllByRecursion (λ e. is_entry_of false e.seat e.kind ≡ true) es → Uncut (es ++ first ∷ []) → AllowedAll (live_setting read_method) (es ++ first ∷ [])
      → kept (items_sent (deeds_from (live_setting read_method) (es ++ first ∷ []))) s ≡ after_outs (says_of (reverse es)) s
  all_kept [] s kinds uncut all = invoke_kept [] packet memo (method_named (live_setting read_method) packet.name) s
  all_kept (e ∷ es) s kinds uncut all =
      let ds = deeds_from (live_setting read_method) (es ++ first ∷ []) in
      kept-append (items_sent ds) (effect_of (live_setting read_method) ds e.kind).says s
      ∙ (ap (kept (effect_of (live_setting read_method) ds e.kind).says) (all_kept es s kinds.1 uncut.1 all.0)
      ∙ (entry_kept es e (after_outs (says_of (reverse es)) s) kinds.1 uncut.1 all kinds.0
      ∙ (sym (fold-append _ s (says_of (reverse es)) (said_by e.kind)) ∙ ap (λ outs. after_outs outs s) (sym (says-reverse e es)))))

-- ---- messages do nothing to it

deeds_kept : (outs : List Out) (s : Stored) → after_outs outs s ≡ after_outs (deeds_of outs) s
deeds_kept [] s = refl
deeds_kept (Message payload ∷ outs) s = deeds_kept outs s
deeds_kept (Begin session resource offset ∷ outs) s = deeds_kept outs (change_by 0 (Begin session resource offset) s)
deeds_kept (Append session bytes ∷ outs) s = deeds_kept outs (change_by 0 (Append session bytes) s)
deeds_kept (Commit session ∷ outs) s = deeds_kept outs (change_by 0 (Commit session) s)
deeds_kept (Leave session ∷ outs) s = deeds_kept outs (change_by 0 (Leave session) s)

-- ---- a work from its begin to its commit

inserted : {K X : Type 0} (cmp : K → K → Ordering) (es : List (K × X)) (k : K) (v : X) → cmp k k ≡ Equal → lookup (is_at (cmp k)) (insert_entry cmp es k v) ≡ Some v
inserted cmp [] k v same = rw same refl
inserted {K} {X} cmp (e ∷ es) k v same = at (cmp k e.0) refl (inserted cmp es k v same)
  where
    at : (o : Ordering) → cmp k e.0 ≡ o → lookup (is_at (cmp k)) (insert_entry cmp es k v) ≡ Some v
        → lookup (is_at (cmp k)) (match_ordering o ((k, v) ∷ e ∷ es) ((e.0, v) ∷ es) (e ∷ insert_entry cmp es k v)) ≡ Some v
    at Less is rest = rw same refl
    at Equal is rest = rw is refl
    at Greater is rest = rw is rest

set_there : {K X : Type 0} (test : K → Bool) (es : List (K × X)) (v w : X) → lookup test es ≡ Some v → lookup test (set_value test es w) ≡ Some w
set_there test [] v w is = absurd (cc is)
set_there {K} {X} test (e ∷ es) v w is = at (test e.0) refl is (set_there test es v w)
  where
    at : (b : Bool) → test e.0 ≡ b → cond b (Some e.1) (lookup test es) ≡ Some v → (lookup test es ≡ Some v → lookup test (set_value test es w) ≡ Some w)
        → lookup test (cond b ((e.0, w) ∷ es) (e ∷ set_value test es w)) ≡ Some w
    at true pass found rest = rw pass refl
    at false pass found rest = rw pass (rest found)

cmp_self : (n : ℕ) → nat_cmp n n ≡ Equal
cmp_self n = sym (nat_cmp_is n n Equal refl)

abbrev mine : StoreKey
mine = key 0 1

module _ (resource : ℕ) where
  -- a work under way is committed with all that is added to it
  adds_up : (added : List (List ℕ)) (s : Stored) (w : Work) → work_of mine s.work ≡ Some w → w.resource ≡ resource
      → found resource (after_outs (map (λ bytes. Append 1 bytes) added ++ Commit 1 ∷ []) s).full ≡ Some (w.bytes ++ concat added)
  adds_up [] s w there is =
      ap (λ o. found resource (committed_of mine o s).full) there
      ∙ (ap (λ r. found resource (with_resource r w.bytes s.full)) is ∙ (inserted nat_cmp s.full resource w.bytes (cmp_self resource) ∙ ap Some (sym (append-nil w.bytes))))
  adds_up (bytes ∷ added) s w there is =
      ap (λ o. found resource (after_outs (map (λ more. Append 1 more) added ++ Commit 1 ∷ []) (appended_to mine bytes o s)).full) there
      ∙ (adds_up added (record s { work = set_value (is_key mine) s.work (longer bytes w) }) (longer bytes w) (set_there (is_key mine) s.work w (longer bytes w) there) is
      ∙ ap Some (append_assoc w.bytes bytes (concat added)))

  work_kept : (from : ℕ) (added : List (List ℕ)) (s : Stored) → found resource (after_outs (work_on resource from added) s).full ≡ Some (take from (unwrap_or (found resource s.left) []) ++ concat added)
  work_kept from added s =
      adds_up added (record s { work = insert_entry key_cmp s.work mine (new_work resource from s.left) }) (new_work resource from s.left)
      (inserted key_cmp s.work mine (new_work resource from s.left) refl) refl

-- ---- a fetch over an honest board

pub fetches_are_stored : FetchesAreStored
fetches_are_stored resource offset start end l well content honest before held holds = at (fetch_whole resource offset start end l well)
  where
    h : List Entry
    h = l.journal.entries

    at : IsFetched resource l.from (run_of read_method l) (says_of h) ⊎ IsTold (TellsEnd 1 Okay) (run_of read_method l) → (after : Stored) × (held ≡ Some after) × HasStored resource l.from (drop l.from content) before after
    at (inr told) = absurd (honest.no_okay told)
    at (inl f) = (kept (items_sent (history (live_setting read_method) h)) before, holds, stored)
      where
        rest : List Entry
        rest = well.history.rest

        opening : Entry
        opening = entry_by 1 (opening_of (Get resource offset))

        back : reverse h ≡ reverse rest ++ opening ∷ []
        back = ap reverse well.history.begins ∙ reverse-append (opening ∷ []) rest

        kinds : AllByRecursion (λ e. is_entry_of false e.seat e.kind ≡ true) (reverse rest)
        kinds = all-reverse (λ (e : Entry). is_entry_of false e.seat e.kind ≡ true) rest well.history.kinds

        uncut : Uncut (reverse rest ++ opening ∷ [])
        uncut = all_append (λ (e : Entry). is_cancel e.kind ≡ false) (reverse rest) (opening ∷ []) (all-reverse (λ (e : Entry). is_cancel e.kind ≡ false) rest (none_cancel rest well.history.kinds)) (refl, tt)

        says_are : says_of (reverse (reverse rest)) ≡ says_of h
        says_are = ap says_of (reverse-reverse rest) ∙ sym (ap says_of well.history.begins)

        items_are : kept (items_sent (history (live_setting read_method) h)) before ≡ after_outs (says_of h) before
        items_are =
            ap (λ es. kept (items_sent (deeds_from (live_setting read_method) es)) before) back
            ∙ (all_kept (request (live_name read_method) []) empty_memo (reverse rest) before kinds uncut (subst (AllowedAll (live_setting read_method)) back well.history.legal.lawful.allowed)
            ∙ ap (λ outs. after_outs outs before) says_are)

        bytes_are : concat f.added ≡ drop l.from content
        bytes_are = joined_parts_are_the_resource content (pieces_in 1 (run_of read_method l)) l.from (concat f.added) f.joins honest.pieces

        stored : HasStored resource l.from (drop l.from content) before (kept (items_sent (history (live_setting read_method) h)) before)
        stored =
            ap (λ (s : Stored). found resource s.full) (items_are ∙ (deeds_kept (says_of h) before ∙ ap (λ outs. after_outs outs before) f.deeds))
            ∙ (work_kept resource l.from f.added before ∙ ap (λ bytes. Some (take l.from (unwrap_or (found resource before.left) []) ++ bytes)) bytes_are)
