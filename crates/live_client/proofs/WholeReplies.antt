-- What was sent behind the end of the output is replies.
use Rattle.std.proofs.Common.{◌≡◌, ℕ, zero, suc, ◌≤◌, ◌==◌, nat_le, Bool, true, false, if◌then◌else◌, List, [], ◌∷◌, ◌++◌, length, reverse, Option, refl, ap, sym, ◌∙◌, subst, inl, inr, arith, append_assoc, length-append, eq-eqb}
use Rattle.std.proofs.lemmas.Bool.{false≢true, true≢false, leb-false}
use Rattle.std.proofs.lemmas.List.{append-nil, append_cancel_left, reverse-append}
use Rattle.std.specs.List.{AllByRecursion}
use Rattle.std.specs.Option.{option_to_list}
use mathlib.Core.List.{IsPrefix}
use Rattle.entry_lists.specs.Entries.{made_by}
use Rattle.entry_lists.proofs.Makers.{all_append, all_by_maker, all_first, all_second, made_by-append, none_behind}
use Rattle.atomic_table.specs.Seated.{TableId}
use Rattle.rpc_ids.specs.declared.method.MethodRef.{MethodRef}
use Rattle.rpc_packet.specs.declared.owned.Packet.{Packet}
use Rattle.rpc_handlers.specs.declared.event.Event.{Event}
use Rattle.rpc_handlers.specs.declared.event.Memo.{Memo}
use Rattle.rpc_journal.specs.declared.entry.Entry.{Entry}
use Rattle.rpc_journal.specs.declared.entry.EntryKind.{EntryKind}
use Rattle.rpc_journal.specs.declared.entry.EntryKind.TheVariants.{Arrive, Invoke, Start, Finish, Flush, EndIn, Halt, Cancel}
use Rattle.rpc_journal.specs.declared.item.Item.{Item}
use Rattle.rpc_journal.specs.Calls.{call_count, calls, is_finish_of}
use Rattle.rpc_journal.specs.CallTable.{Table}
use Rattle.rpc_journal.specs.Effect.{Opening}
use Rattle.rpc_journal.specs.Entries.{effect_of}
use Rattle.rpc_journal.specs.History.{deeds_of, history}
use Rattle.rpc_journal.specs.Items.{items_sent}
use Rattle.rpc_journal.specs.Lawful.{AllowedAll, IsLawful, call_named, is_unknown}
use Rattle.rpc_journal.specs.Laws.{HasNoRunOf, seat_of}
use Rattle.rpc_journal.proofs.Allowed.{allowed}
use Rattle.rpc_journal.proofs.Push.{all-reverse, allowed-parts}
use Rattle.rpc_journal.proofs.RunLemmas.{quiet_for_good}
use Rattle.rpc_shared.specs.session.Crew.{AreOf, Seat}
use Rattle.live_client.specs.Ask.{live_setting}
use Rattle.live_client.specs.Driving.{IsCalmed, IsWritten, is_closing}
use Rattle.live_client.specs.Feeding.{is_readers}
use Rattle.live_client.specs.Histories.{is_cancel}
use Rattle.live_client.specs.Live.{AreReplies, IsReply}
use Rattle.live_client.specs.asks.Tasks.{Given}
use Rattle.live_client.proofs.ClientEntries.{AddsReplies, Uncut, is_finish, is_late, late_replies, replies_trans}
use Rattle.live_client.proofs.WholeLemmas.{Closed, Whose, is_marked, cancels_own, driver_fits, live_lock, reader_fits, uncut_of, whose}

-- a table that knows this method alone
module _ (method : MethodRef) where
  -- ---- kinds

  reads_late : (kind : EntryKind) → is_readers kind ≡ true → is_late kind ≡ true
  reads_late (Arrive p) is = refl
  reads_late EndIn is = refl
  reads_late (Halt why) is = refl
  reads_late _ is = absurd (false≢true is)

  closes_late : (kind : EntryKind) → is_closing kind ≡ true → is_late kind ≡ true
  closes_late (Start c) is = refl
  closes_late (Finish c a) is = is
  closes_late Flush is = refl
  closes_late (Halt why) is = refl
  closes_late _ is = absurd (false≢true is)

  late_uncut : (kind : EntryKind) → is_late kind ≡ true → is_cancel kind ≡ false
  late_uncut (Cancel c) is = absurd (false≢true is)
  late_uncut _ is = refl

  all_so : (test other : EntryKind → Bool) (b : Bool) → ((kind : EntryKind) → test kind ≡ true → other kind ≡ b) → (es : List Entry) → AreOf test es → AllByRecursion (λ e. other e.kind ≡ b) es
  all_so test other b so [] all = tt
  all_so test other b so (e ∷ es) all = (so e.kind all.0, all_so test other b so es all.1)

  no_second : (xs ys : List Entry) → xs ++ ys ≡ [] → ys ≡ []
  no_second [] ys is = is
  no_second (y ∷ xs) ys is = absurd cc

  -- none of these entries is by seat 1, so none is a Finish
  unmarked_runs : (kind : EntryKind) → ((is_marked method) kind ≡ true → false ≡ true) → is_finish kind ≡ false
  unmarked_runs (Finish c a) off = absurd (false≢true (off refl))
  unmarked_runs _ off = refl

  none_finish : (es : List Entry) → AllByRecursion (Whose method) es → made_by seat_of 1 es ≡ [] → AllByRecursion (λ e. is_finish e.kind ≡ false) es
  none_finish [] all none = tt
  none_finish (e ∷ es) all none = at (e.seat == 1) all.0 none (none_finish es all.1)
    where
      at : (s : Bool) → ((is_marked method) e.kind ≡ true → s ≡ true) → (if s then e ∷ made_by seat_of 1 es else made_by seat_of 1 es) ≡ []
          → (made_by seat_of 1 es ≡ [] → AllByRecursion (λ x. is_finish x.kind ≡ false) es) → AllByRecursion (λ x. is_finish x.kind ≡ false) (e ∷ es)
      at true so none rest = absurd cc
      at false so none rest = (unmarked_runs e.kind so, rest none)

  -- ---- no run ends but the one call's

  fewer_calls : (os : List Opening) (o : Option Opening) → length (os ++ option_to_list o) ≤ 1 → length os ≤ 1
  fewer_calls os o few = omega (arith, few, length-append os (option_to_list o))

  known_zero : (count x : ℕ) → count ≤ 1 → nat_le count x ≡ false → x ≡ 0
  known_zero count x few off = omega (arith, few, leb-false count x off)

  -- of entries that stand the newest first
  zero_finish : (new old : List Entry) → AllowedAll (live_setting method) (new ++ old) → call_count (deeds_of (live_setting method) (new ++ old)) ≤ 1
      → AllByRecursion (λ e. is_finish_of 0 e.kind ≡ false) new → AllByRecursion (λ e. is_finish e.kind ≡ false) new
  zero_finish [] old all few none = tt
  zero_finish (e ∷ new) old all few none =
      let ds = deeds_of (live_setting method) (new ++ old) in
      let before : call_count ds ≤ 1 = fewer_calls (calls ds) (effect_of (live_setting method) ds e.kind).opens few in
      (at e.kind before (allowed (live_setting method) ds e all.1).known none.0, zero_finish new old all.0 before none.1)
    where
      at : (kind : EntryKind) → call_count (deeds_of (live_setting method) (new ++ old)) ≤ 1 → is_unknown (call_count (deeds_of (live_setting method) (new ++ old))) (call_named kind) ≡ false → is_finish_of 0 kind ≡ false → is_finish kind ≡ false
      at (Finish x a) few known off = absurd (true≢false (sym (eq-eqb x 0 (known_zero (call_count (deeds_of (live_setting method) (new ++ old))) x few known)) ∙ off))
      at _ few known off = refl

  no_runs_end : (c : ℕ) → c ≡ 0 → (es : List Entry) → HasNoRunOf c es → AllByRecursion (λ e. is_finish_of 0 e.kind ≡ false) es
  no_runs_end c is [] none = tt
  no_runs_end c is (e ∷ es) none = (subst (λ k. is_finish_of k e.kind ≡ false) is none.0.1, no_runs_end c is es none.1)

  -- ---- behind the end of the output

  module _ (table : TableId) (count : ℕ) (watches : Bool) (packet : Packet) (memo : Memo) (c : ℕ) (events : List Event) (outs : List Given) (items : List Item) (q0 q1 : Seat) (t : Table)
      (x : (Closed method) watches (Invoke packet memo) ((live_lock method) table count) c events outs items q0 q1 t) where
    abbrev h : List Entry
    h = t.entries

    -- what stands behind a beginning of what the driver saw
    module _ (front back : List Entry) (seen : q1.view.known.seen ≡ front ++ back) (closing : AreOf is_closing (made_by seat_of 1 back)) where
      abbrev beyond : List Entry
      beyond = ((driver_fits method) table count watches packet memo c events outs items q0 q1 t x).begins.0

      abbrev behind : List Entry
      behind = back ++ beyond

      whole : front ++ behind ≡ h
      whole =
          sym (append_assoc front back beyond)
          ∙ (ap (λ es. es ++ beyond) (sym seen) ∙ ((driver_fits method) table count watches packet memo c events outs items q0 q1 t x).begins.1)

      parts : (k : ℕ) → made_by seat_of k front ++ made_by seat_of k behind ≡ made_by seat_of k h
      parts k = sym (made_by-append seat_of k front behind) ∙ ap (made_by seat_of k) whole

      none_beyond : made_by seat_of 1 beyond ≡ []
      none_beyond =
          let fits = (driver_fits method) table count watches packet memo c events outs items q0 q1 t x in
          none_behind seat_of 1 q1.view.known.seen beyond (ap (made_by seat_of 1) fits.begins.1 ∙ (fits.own ∙ sym fits.shown))

      own_behind : made_by seat_of 1 behind ≡ made_by seat_of 1 back
      own_behind = made_by-append seat_of 1 back beyond ∙ (ap (λ es. made_by seat_of 1 back ++ es) none_beyond ∙ append-nil (made_by seat_of 1 back))

      late_behind : AllByRecursion (λ e. is_late e.kind ≡ true) behind
      late_behind = all_by_maker seat_of (λ e. is_late e.kind ≡ true) behind at
        where
          at : (k : ℕ) → AllByRecursion (λ e. is_late e.kind ≡ true) (made_by seat_of k behind)
          at zero =
              all_so is_readers is_late true reads_late (made_by seat_of 0 behind)
              (all_second (λ (e : Entry). is_readers e.kind ≡ true) (made_by seat_of 0 front) (made_by seat_of 0 behind)
              (subst (AreOf is_readers) (sym (parts 0 ∙ ((reader_fits method) table count watches packet memo c events outs items q0 q1 t x).own)) x.reader.kinds))
          at (suc zero) = all_so is_closing is_late true closes_late (made_by seat_of 1 behind) (subst (AreOf is_closing) (sym own_behind) closing)
          at (suc (suc k)) =
              subst (AllByRecursion (λ e. is_late e.kind ≡ true))
              (sym (no_second (made_by seat_of (suc (suc k)) front) (made_by seat_of (suc (suc k)) behind) (parts (suc (suc k)) ∙ x.fits.no_others (suc (suc k)) (omega arith)))) tt

      whose_parts : AllByRecursion (Whose method) (front ++ behind)
      whose_parts = subst (AllByRecursion (Whose method)) (sym whole) ((whose method) table count watches packet memo c events outs items q0 q1 t x)

      -- the same of entries in order
      turned : (a b : List Entry) → (AddsReplies method) (items_sent (deeds_of (live_setting method) (reverse a))) (items_sent (deeds_of (live_setting method) (reverse b ++ reverse a)))
          → (AddsReplies method) (items_sent (history (live_setting method) a)) (items_sent (history (live_setting method) (a ++ b)))
      turned a b adds = subst (λ es. (AddsReplies method) (items_sent (history (live_setting method) a)) (items_sent (deeds_of (live_setting method) es))) (sym (reverse-append a b)) adds

      adds_behind : c ≡ 0 → call_count (history (live_setting method) h) ≤ 1 → IsCalmed ((live_lock method) table count) c front back → (AddsReplies method) (items_sent (history (live_setting method) front)) (items_sent (history (live_setting method) (front ++ behind)))
      adds_behind zero_is few (inl uncut) =
          let front_uncut : Uncut front = (uncut_of method) front ((cancels_own method) front (all_first (Whose method) front behind whose_parts) ∙ uncut) in
          let all_uncut : Uncut (front ++ behind) = all_append (λ (e : Entry). is_cancel e.kind ≡ false) front behind front_uncut (all_so is_late is_cancel false late_uncut behind late_behind) in
          turned front behind
          ((late_replies method) (reverse behind) (reverse front) (all-reverse (λ (e : Entry). is_late e.kind ≡ true) behind late_behind)
          (inr (subst Uncut (reverse-append front behind) (all-reverse (λ (e : Entry). is_cancel e.kind ≡ false) (front ++ behind) all_uncut))))
      adds_behind zero_is few (inr calm) =
          let more : List Entry = calm.0 in
          let tail : List Entry = calm.1.0 ++ beyond in
          let split : more ++ tail ≡ behind = sym (append_assoc more calm.1.0 beyond) ∙ ap (λ es. es ++ beyond) calm.1.1 in
          let joined : (front ++ more) ++ tail ≡ front ++ behind = append_assoc front more tail ∙ ap (λ es. front ++ es) split in
          let lates : AllByRecursion (λ e. is_late e.kind ≡ true) (more ++ tail) = subst (AllByRecursion (λ e. is_late e.kind ≡ true)) (sym split) late_behind in
          let more_late = all_first (λ (e : Entry). is_late e.kind ≡ true) more tail lates in
          let tail_late = all_second (λ (e : Entry). is_late e.kind ≡ true) more tail lates in
          let more_whose : AllByRecursion (Whose method) more =
          all_first (Whose method) more tail (subst (AllByRecursion (Whose method)) (sym split) (all_second (Whose method) front behind whose_parts)) in
          let more_none = none_finish more more_whose calm.2 in
          let lawful : IsLawful (live_setting method) ((front ++ more) ++ tail) = subst (IsLawful (live_setting method)) (sym (joined ∙ whole)) x.legal.lawful in
          let quiet = quiet_for_good (live_setting method) (front ++ more) tail c lawful calm.3 in
          let few_there : call_count (deeds_of (live_setting method) (reverse tail ++ reverse (front ++ more))) ≤ 1 =
          subst (λ es. call_count (deeds_of (live_setting method) es) ≤ 1) (ap reverse (sym (joined ∙ whole)) ∙ reverse-append (front ++ more) tail) few in
          let tail_none : AllByRecursion (λ e. is_finish e.kind ≡ false) (reverse tail) =
          zero_finish (reverse tail) (reverse (front ++ more)) (allowed-parts (live_setting method) (front ++ more) tail lawful) few_there
          (all-reverse (λ (e : Entry). is_finish_of 0 e.kind ≡ false) tail (no_runs_end c zero_is tail quiet.no_run)) in
          subst (λ es. (AddsReplies method) (items_sent (history (live_setting method) front)) (items_sent (history (live_setting method) es))) joined
          ((replies_trans method) (items_sent (history (live_setting method) front)) (items_sent (history (live_setting method) (front ++ more))) (items_sent (history (live_setting method) ((front ++ more) ++ tail)))
          (turned front more
          ((late_replies method) (reverse more) (reverse front) (all-reverse (λ (e : Entry). is_late e.kind ≡ true) more more_late) (inl (all-reverse (λ (e : Entry). is_finish e.kind ≡ false) more more_none))))
          (turned (front ++ more) tail
          ((late_replies method) (reverse tail) (reverse (front ++ more)) (all-reverse (λ (e : Entry). is_late e.kind ≡ true) tail tail_late) (inl tail_none))))

    -- what the link didn't get of the items made is replies
    pub record HasLate (made first : List Item) : Type 0 where
      pub late : List Item
      pub is : made ≡ first ++ late
      pub replies : AreReplies method late

    behind_replies : (sent first made all late : List Item) → IsPrefix sent first → IsPrefix first made → IsPrefix made all → all ≡ sent ++ late → AreReplies method late → HasLate made first
    behind_replies sent first made all late one two three is replies =
        let same : sent ++ (one.0 ++ (two.0 ++ three.0)) ≡ sent ++ late =
        sym (append_assoc sent one.0 (two.0 ++ three.0)) ∙ (ap (λ xs. xs ++ (two.0 ++ three.0)) one.1 ∙ (sym (append_assoc first two.0 three.0) ∙ (ap (λ xs. xs ++ three.0) two.1 ∙ (three.1 ∙ is)))) in
        let rest : one.0 ++ (two.0 ++ three.0) ≡ late = append_cancel_left sent (one.0 ++ (two.0 ++ three.0)) late same in
        let all_parts : AreReplies method (one.0 ++ (two.0 ++ three.0)) = subst (AreReplies method) (sym rest) replies in
        record {
          late = two.0;
          is = sym two.1;
          replies = all_first (IsReply method) two.0 three.0 (all_second (IsReply method) one.0 (two.0 ++ three.0) all_parts);
        }

    pub late_items : (finished : Bool) (made first : List Item) → c ≡ 0 → call_count (history (live_setting method) h) ≤ 1 → IsWritten ((live_lock method) table count) c finished made first q1 → IsPrefix made (items_sent (history (live_setting method) h)) → HasLate made first
    late_items false made first zero_is few which begins = record { late = []; is = sym which ∙ sym (append-nil first); replies = tt }
    late_items true made first zero_is few which begins =
        let closing = which.1 in
        let adds = adds_behind closing.front closing.back closing.seen closing.closing zero_is few closing.calmed in
        let joined = whole closing.front closing.back closing.seen closing.closing in
        behind_replies (items_sent (history (live_setting method) closing.front)) first made (items_sent (history (live_setting method) h)) adds.late closing.begins which.0 begins
        (ap (λ es. items_sent (history (live_setting method) es)) (sym joined) ∙ adds.is) adds.replies
