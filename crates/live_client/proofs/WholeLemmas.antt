-- From the two passes to the whole history: whose its entries are, and what the driver's are in it.
use Rattle.std.proofs.Common.{◌≡◌, ◌≢◌, ◌⊎◌, ℕ, zero, suc, ◌<◌, ◌≤◌, ◌==◌, ◌&&◌, Bool, true, false, if◌then◌else◌, List, [], ◌∷◌, ◌++◌, length, reverse, Option, Some, None, is_some, refl, ap, sym, ◌∙◌, subst, inl, inr, arith, length-append, eq-eqb, ne_eqb}
use Rattle.std.proofs.lemmas.Bool.{and_parts, eqb-true, false≢true, true≢false}
use Rattle.std.proofs.lemmas.List.{append-nil, reverse-append}
use Rattle.std.specs.List.{AllByRecursion}
use Rattle.std.specs.Option.{option_to_list}
use mathlib.Core.List.{IsPrefix}
use Rattle.entry_lists.specs.Entries.{AllBy, made_by}
use Rattle.entry_lists.proofs.Makers.{all_by_maker, all_first, all_second, made_by-append, made_by-own, none_behind}
use Rattle.entry_lists.proofs.Prefixes.{prefix_whole}
use Rattle.link_io.specs.declared.why.Why.{Why}
use Rattle.link_io.specs.declared.why.Why.TheVariants.{JournalLimit, Memory}
use Rattle.atomic_table.specs.Seated.{TableId}
use Rattle.turn_cell.specs.Passes.{AllFit, FitsValue}
use Rattle.rpc_ids.specs.declared.method.MethodRef.{MethodRef}
use Rattle.rpc_ids.specs.declared.status.Status.{Status}
use Rattle.rpc_packet.specs.declared.owned.Packet.{Packet}
use Rattle.rpc_handlers.specs.declared.event.Event.{Event}
use Rattle.rpc_handlers.specs.declared.event.Memo.{Memo}
use Rattle.rpc_journal.specs.declared.entry.Entry.{Entry}
use Rattle.rpc_journal.specs.declared.entry.EntryKind.{EntryKind}
use Rattle.rpc_journal.specs.declared.entry.EntryKind.TheVariants.{Arrive, Invoke, Say, Done, Start, Finish, Cancel, Flush, EndIn, Halt}
use Rattle.rpc_journal.specs.declared.entry.TheConstants.{MAX_ENTRIES}
use Rattle.rpc_journal.specs.declared.item.Item.{Item}
use Rattle.rpc_journal.specs.Calls.{call_count, end_of, is_cancelled, is_finish_of}
use Rattle.rpc_journal.specs.CallTable.{Table}
use Rattle.rpc_journal.specs.Effect.{Deed}
use Rattle.rpc_journal.specs.History.{deeds_of, entry_by, history}
use Rattle.rpc_journal.specs.Items.{arrivals, flush_count, flushes, halt_reason, items_sent, reason_of}
use Rattle.rpc_journal.specs.Kinds.{or_else}
use Rattle.rpc_journal.specs.Lawful.{IsLawful, IsLegal}
use Rattle.rpc_journal.specs.Laws.{is_serving, seat_of}
use Rattle.rpc_journal.specs.Queues.{taken_event}
use Rattle.rpc_journal.specs.Quiet.{is_settled}
use Rattle.rpc_journal.proofs.ItemLemmas.{arrivals_of_seat, flushes_count, flushes_of_seat}
use Rattle.rpc_journal.proofs.Push.{all-reverse}
use Rattle.rpc_journal.proofs.StayLemmas.{settled_ends}
use Rattle.rpc_shared.specs.Steps.{base_of, log_of}
use Rattle.rpc_shared.specs.session.Crew.{AreOf, IsLate, Lock, Seat, is_want}
use Rattle.rpc_shared.specs.session.Ring.{HaltsFor}
use Rattle.rpc_shared.specs.session.Sessions.{AreLate, is_halted, is_halting}
use Rattle.rpc_shared.proofs.session.PassLemmas.{late_still, own_there}
use Rattle.live_client.specs.Ask.{live_setting}
use Rattle.live_client.specs.Driving.{CanEnd, Drives, HasCut, is_drivers, runs_by, runs_in}
use Rattle.live_client.specs.Feeding.{Reader, is_readers}
use Rattle.live_client.specs.Histories.{AreOfLive, AreSaid, cancels, events_in, events_run, is_cancel, is_entry_of, uttered_by, utterances_of}
use Rattle.live_client.specs.Silent.{is_silent, silent_rule}
use Rattle.live_client.specs.asks.Tasks.{Given}
use Rattle.live_client.specs.Told.{IsCutSo}
use Rattle.live_client.proofs.ClientEntries.{Uncut, one_call, uncancelled}
use Rattle.live_client.proofs.DriveLemmas.{front_beyond, runs_beyond, there_beyond}
use Rattle.live_client.proofs.SaidLemmas.{said_as, said_later}
use Rattle.live_client.proofs.StepsOf.{end_stays, halts_split}
use Rattle.live_client.proofs.WorkLemmas.{halted_on}

-- a table that knows this method alone
module _ (method : MethodRef) where
  -- a lock of a live client's table
  abbrev pub live_lock : TableId → ℕ → Lock
  live_lock table count = record { table = table; base = (live_setting method); count = count }

  -- ---- whose an entry is

  -- a Finish, a Say, a Done or a Cancel
  abbrev pub is_marked : EntryKind → Bool
  is_marked (Finish c a) = true
  is_marked (Say c out) = true
  is_marked (Done c) = true
  is_marked (Cancel c) = true
  is_marked _ = false

  -- such an entry is the driver's
  abbrev pub Whose : Entry → Type 0
  Whose e = is_marked e.kind ≡ true → (e.seat == 1) ≡ true

  whose_is : (watches : Bool) (seat : ℕ) (kind : EntryKind) → is_entry_of watches seat kind ≡ true → is_marked kind ≡ true → (seat == 1) ≡ true
  whose_is watches seat (Finish c a) is marked = (and_parts (seat == 1) (is_silent a) is).0
  whose_is watches seat (Say c out) is marked = is
  whose_is watches seat (Done c) is marked = (and_parts (seat == 1) watches is).0
  whose_is watches seat (Cancel c) is marked = (and_parts (seat == 1) watches is).0
  whose_is watches seat _ is marked = absurd (false≢true marked)

  whose_all : (watches : Bool) (es : List Entry) → AreOfLive watches es → AllByRecursion Whose es
  whose_all watches [] all = tt
  whose_all watches (e ∷ es) all = (whose_is watches e.seat e.kind all.0, whose_all watches es all.1)

  finish_marked : (c : ℕ) (kind : EntryKind) → is_finish_of c kind ≡ true → is_marked kind ≡ true
  finish_marked c (Finish x a) is = refl
  finish_marked c _ is = absurd (false≢true is)

  unmarked_says : (kind : EntryKind) → (is_marked kind ≡ true → false ≡ true) → uttered_by kind ≡ []
  unmarked_says (Say c out) off = absurd (false≢true (off refl))
  unmarked_says (Done c) off = absurd (false≢true (off refl))
  unmarked_says _ off = refl

  unmarked_cuts : (kind : EntryKind) → (is_marked kind ≡ true → false ≡ true) → is_cancel kind ≡ false
  unmarked_cuts (Cancel c) off = absurd (false≢true (off refl))
  unmarked_cuts _ off = refl

  -- of entries that stand the newest first
  events_own : (es : List Entry) (c : ℕ) → AllByRecursion Whose es → events_in (deeds_of (live_setting method) es) c ≡ runs_by 1 (deeds_of (live_setting method) es) c
  events_own [] c all = refl
  events_own (e ∷ es) c all = at (is_finish_of c e.kind) (e.seat == 1) (λ is. all.0 (finish_marked c e.kind is)) (events_own es c all.1)
    where
      ds : List Deed
      ds = deeds_of (live_setting method) es

      at : (f s : Bool) → (f ≡ true → s ≡ true) → events_in ds c ≡ runs_by 1 ds c
          → (if f then events_in ds c ++ option_to_list (taken_event ds c) else events_in ds c) ≡ (if s && f then runs_by 1 ds c ++ option_to_list (taken_event ds c) else runs_by 1 ds c)
      at true true so same = ap (λ events. events ++ option_to_list (taken_event ds c)) same
      at true false so same = absurd (false≢true (so refl))
      at false true so same = same
      at false false so same = same

  says_own : (es : List Entry) → AllByRecursion Whose es → utterances_of es ≡ utterances_of (made_by seat_of 1 es)
  says_own [] all = refl
  says_own (e ∷ es) all = at (e.seat == 1) all.0 (says_own es all.1)
    where
      at : (s : Bool) → (is_marked e.kind ≡ true → s ≡ true) → utterances_of es ≡ utterances_of (made_by seat_of 1 es)
          → uttered_by e.kind ++ utterances_of es ≡ utterances_of (if s then e ∷ made_by seat_of 1 es else made_by seat_of 1 es)
      at true so same = ap (λ outs. uttered_by e.kind ++ outs) same
      at false so same = ap (λ outs. outs ++ utterances_of es) (unmarked_says e.kind so) ∙ same

  pub cancels_own : (es : List Entry) → AllByRecursion Whose es → cancels es ≡ cancels (made_by seat_of 1 es)
  cancels_own [] all = refl
  cancels_own (e ∷ es) all = at (e.seat == 1) all.0 (cancels_own es all.1)
    where
      at : (s : Bool) → (is_marked e.kind ≡ true → s ≡ true) → cancels es ≡ cancels (made_by seat_of 1 es)
          → (if is_cancel e.kind then true else cancels es) ≡ cancels (if s then e ∷ made_by seat_of 1 es else made_by seat_of 1 es)
      at true so same = ap (λ b. if is_cancel e.kind then true else b) same
      at false so same = rw (unmarked_cuts e.kind so) same

  pub uncut_of : (es : List Entry) → cancels es ≡ false → Uncut es
  uncut_of [] off = tt
  uncut_of (e ∷ es) off = at (is_cancel e.kind) refl off (uncut_of es)
    where
      at : (b : Bool) → is_cancel e.kind ≡ b → (if b then true else cancels es) ≡ false → (cancels es ≡ false → Uncut es) → Uncut (e ∷ es)
      at true is off rest = absurd (true≢false off)
      at false is off rest = (is, rest off)

  -- ---- Halts

  halts_in : (es : List Entry) (why : Why) → halt_reason (deeds_of (live_setting method) es) ≡ Some why → HaltsFor why es
  halts_in [] why is = absurd (cc is)
  halts_in (e ∷ es) why is = at e.kind refl is (halts_in es why)
    where
      at : (kind : EntryKind) → e.kind ≡ kind → or_else (reason_of kind) (halt_reason (deeds_of (live_setting method) es)) ≡ Some why
          → (halt_reason (deeds_of (live_setting method) es) ≡ Some why → HaltsFor why es) → (e.kind ≡ Halt why) ⊎ HaltsFor why es
      at (Halt reason) same now later = inl (same ∙ ap Halt (cc now))
      at _ same now later = inr (later now)

  halts_turned : (why : Why) (es : List Entry) → HaltsFor why (reverse es) → HaltsFor why es
  halts_turned why [] halts = halts
  halts_turned why (e ∷ es) halts = at (halts_split why (reverse es) (e ∷ []) (subst (HaltsFor why) (reverse-append (e ∷ []) es) halts)) (halts_turned why es)
    where
      at : HaltsFor why (reverse es) ⊎ HaltsFor why (e ∷ []) → (HaltsFor why (reverse es) → HaltsFor why es) → HaltsFor why (e ∷ es)
      at (inl later) turned = inr (turned later)
      at (inr (inl is)) turned = inl is
      at (inr (inr none)) turned = absurd none

  halts_told : (h : List Entry) (why : Why) → halt_reason (history (live_setting method) h) ≡ Some why → HaltsFor why h
  halts_told h why is = halts_turned why h (halts_in (reverse h) why is)

  halts_by : (why : Why) (es : List Entry) → HaltsFor why es → (k : ℕ) × HaltsFor why (made_by seat_of k es)
  halts_by why [] halts = absurd halts
  halts_by why (e ∷ es) (inl is) =
      let one : made_by seat_of e.seat (e ∷ es) ≡ e ∷ made_by seat_of e.seat es = rw (eq-eqb e.seat e.seat refl) refl in
      (e.seat, subst (HaltsFor why) (sym one) (inl is))
  halts_by why (e ∷ es) (inr later) = let rest = halts_by why es later in (rest.0, at rest.0 (e.seat == rest.0) rest.1)
    where
      at : (k : ℕ) (b : Bool) → HaltsFor why (made_by seat_of k es) → HaltsFor why (if b then e ∷ made_by seat_of k es else made_by seat_of k es)
      at k true halts = inr halts
      at k false halts = halts

  -- where a Halt stands
  record HaltAt (why : Why) (h : List Entry) : Type 0 where
    seat : ℕ
    front : List Entry
    back : List Entry
    is : h ≡ front ++ entry_by seat (Halt why) ∷ back

  halt_at : (why : Why) (h : List Entry) → HaltsFor why h → HaltAt why h
  halt_at why [] halts = absurd halts
  halt_at why (e ∷ h) (inl is) = record { seat = e.seat; front = []; back = h; is = ap (λ kind. entry_by e.seat kind ∷ h) is }
  halt_at why (e ∷ h) (inr later) = let at = halt_at why h later in record { seat = at.seat; front = e ∷ at.front; back = at.back; is = ap (λ es. e ∷ es) at.is }

  wants_in : (test : EntryKind → Bool) → ((why : Why) → test (Halt why) ≡ true → is_want why ≡ true) → (why : Why) (es : List Entry) → AreOf test es → HaltsFor why es → is_want why ≡ true
  wants_in test wants why [] kinds halts = absurd halts
  wants_in test wants why (e ∷ es) kinds (inl is) = wants why (subst (λ kind. test kind ≡ true) is kinds.0)
  wants_in test wants why (e ∷ es) kinds (inr later) = wants_in test wants why es kinds.1 later

  want_halts : (why : Why) → is_want why ≡ true → is_halting why ≡ true
  want_halts JournalLimit is = refl
  want_halts Memory is = refl
  want_halts _ is = absurd (false≢true is)

  halting_in : (watches : Bool) (why : Why) (es : List Entry) → AreOf (is_drivers watches) es → HaltsFor why es → is_halting why ≡ true
  halting_in watches why [] kinds halts = absurd halts
  halting_in watches why (e ∷ es) kinds (inl is) = subst (λ kind. is_drivers watches kind ≡ true) is kinds.0
  halting_in watches why (e ∷ es) kinds (inr later) = halting_in watches why es kinds.1 later

  -- ---- kinds

  reads_own : (watches : Bool) (kind : EntryKind) → is_readers kind ≡ true → is_entry_of watches 0 kind ≡ true
  reads_own watches (Arrive p) is = refl
  reads_own watches EndIn is = refl
  reads_own watches (Halt why) is = want_halts why is
  reads_own watches _ is = absurd (false≢true is)

  drives_own : (watches : Bool) (kind : EntryKind) → is_drivers watches kind ≡ true → is_entry_of watches 1 kind ≡ true
  drives_own watches (Start c) is = refl
  drives_own watches (Finish c a) is = is
  drives_own watches Flush is = refl
  drives_own watches (Say c out) is = refl
  drives_own watches (Done c) is = is
  drives_own watches (Cancel c) is = is
  drives_own watches (Halt why) is = is
  drives_own watches _ is = absurd (false≢true is)

  with_seat : (watches : Bool) (k : ℕ) (test : EntryKind → Bool) → ((kind : EntryKind) → test kind ≡ true → is_entry_of watches k kind ≡ true) → (es : List Entry) → AllBy seat_of k es → AreOf test es → AreOfLive watches es
  with_seat watches k test wider [] own kinds = tt
  with_seat watches k test wider (e ∷ es) own kinds = (subst (λ seat. is_entry_of watches seat e.kind ≡ true) (sym own.0) (wider e.kind kinds.0), with_seat watches k test wider es own.1 kinds.1)

  serves : (watches : Bool) (kind : EntryKind) → is_entry_of watches 0 kind ≡ true → is_serving kind ≡ true
  serves watches (Arrive p) is = refl
  serves watches EndIn is = refl
  serves watches (Halt why) is = refl
  serves watches (Say c out) is = absurd (false≢true is)
  serves watches (Cancel c) is = absurd (false≢true is)
  serves watches (Done c) is = absurd (false≢true is)
  serves watches Flush is = refl
  serves watches (Start c) is = refl
  serves watches (Finish c a) is = refl
  serves watches _ is = absurd (false≢true is)

  -- of entries of which none is by seat 1
  all_serve : (watches : Bool) (es : List Entry) → AllByRecursion (λ e. seat_of e < 2) es → made_by seat_of 1 es ≡ [] → AreOfLive watches es → AllByRecursion (λ e. is_serving e.kind ≡ true) es
  all_serve watches [] few none kinds = tt
  all_serve watches (e ∷ es) few none kinds = at (e.seat == 1) refl none (all_serve watches es few.1)
    where
      first : (n : ℕ) → n < 2 → (n == 1) ≡ false → is_entry_of watches n e.kind ≡ true → is_serving e.kind ≡ true
      first zero below off is = serves watches e.kind is
      first (suc zero) below off is = absurd (true≢false off)
      first (suc (suc n)) below off is = absurd (omega (arith, below))

      at : (b : Bool) → (e.seat == 1) ≡ b → (if b then e ∷ made_by seat_of 1 es else made_by seat_of 1 es) ≡ []
          → (made_by seat_of 1 es ≡ [] → AreOfLive watches es → AllByRecursion (λ x. is_serving x.kind ≡ true) es) → AllByRecursion (λ x. is_serving x.kind ≡ true) (e ∷ es)
      at true is none rest = absurd cc
      at false is none rest = (first e.seat few.0 is kinds.0, rest none kinds.1)

  by_one : (n : ℕ) → n < 2 → (n == 0) ≡ false → n ≡ 1
  by_one zero below off = absurd (true≢false off)
  by_one (suc zero) below off = refl
  by_one (suc (suc n)) below off = absurd (omega (arith, below))

  unhalted : (o : Option Why) → is_some o ≡ false → o ≡ None
  unhalted None is = refl
  unhalted (Some why) is = absurd (true≢false is)

  -- ---- the passes of a closed table

  pub record Closed (watches : Bool) (opening : EntryKind) (r : Lock) (c : ℕ) (events : List Event) (outs : List Given) (items : List Item) (q0 q1 : Seat) (t : Table) : Type 0 where
    pub reader : Reader is_readers r q0
    pub drives : Drives watches opening r c events outs items q1
    pub fits : AllFit log_of seat_of base_of (q0 ∷ q1 ∷ []) t
    pub legal : IsLegal silent_rule r.base t.entries

  module _ (table : TableId) (count : ℕ) (watches : Bool) (packet : Packet) (memo : Memo) (c : ℕ) (events : List Event) (outs : List Given) (items : List Item) (q0 q1 : Seat) (t : Table)
      (x : Closed watches (Invoke packet memo) (live_lock table count) c events outs items q0 q1 t) where
    abbrev h : List Entry
    h = t.entries

    abbrev d : Drives watches (Invoke packet memo) (live_lock table count) c events outs items q1
    d = x.drives

    pub reader_fits : FitsValue log_of seat_of base_of 0 q0 t
    reader_fits = x.fits.each 0 q0 refl

    pub driver_fits : FitsValue log_of seat_of base_of 1 q1 t
    driver_fits = x.fits.each 1 q1 refl

    -- the call's opening stands first
    pub record Opened : Type 0 where
      pub more : List Entry
      pub is : h ≡ entry_by 1 (Invoke packet memo) ∷ more
      pub kinds : AreOfLive watches more

    pub opened : Opened
    opened =
        let b = x.reader.behind in
        let more : List Entry = b.rest ++ reader_fits.begins.0 in
        let is : h ≡ b.first ∷ more = sym reader_fits.begins.1 ∙ ap (λ es. es ++ reader_fits.begins.0) b.is in
        let few : AllByRecursion (λ e. seat_of e < 2) (b.first ∷ more) = subst (AllByRecursion (λ e. seat_of e < 2)) is x.fits.makers in
        let seat : b.first.seat ≡ 1 = by_one b.first.seat few.0 b.other in
        let own : b.first ∷ made_by seat_of 1 more ≡ entry_by 1 (Invoke packet memo) ∷ d.rest =
        sym (one b.first more seat) ∙ (ap (made_by seat_of 1) (sym is) ∙ (driver_fits.own ∙ d.mine)) in
        let first : b.first ≡ entry_by 1 (Invoke packet memo) = cc own in
        let rest : made_by seat_of 1 more ≡ d.rest = cc own in
        record {
          more = more;
          is = is ∙ ap (λ e. e ∷ more) first;
          kinds = all_by_maker seat_of (λ e. is_entry_of watches e.seat e.kind ≡ true) more (λ k. at k more b.first is seat rest);
        }
      where
        one : (e : Entry) (more : List Entry) → e.seat ≡ 1 → made_by seat_of 1 (e ∷ more) ≡ e ∷ made_by seat_of 1 more
        one e more seat = rw (eq-eqb e.seat 1 seat) refl

        other : (e : Entry) (more : List Entry) (k : ℕ) → e.seat ≡ 1 → k ≢ 1 → made_by seat_of k (e ∷ more) ≡ made_by seat_of k more
        other e more k seat apart = rw (ne_eqb e.seat k (λ same. apart (sym same ∙ seat))) refl

        at : (k : ℕ) (more : List Entry) (e : Entry) → h ≡ e ∷ more → e.seat ≡ 1 → made_by seat_of 1 more ≡ d.rest → AreOfLive watches (made_by seat_of k more)
        at zero more e is seat rest =
            let mine : made_by seat_of 0 more ≡ q0.view.known.mine = sym (other e more 0 seat (λ same. absurd (omega (arith, same)))) ∙ (ap (made_by seat_of 0) (sym is) ∙ reader_fits.own) in
            with_seat watches 0 is_readers (reads_own watches) (made_by seat_of 0 more) (made_by-own seat_of 0 more) (subst (AreOf is_readers) (sym mine) x.reader.kinds)
        at (suc zero) more e is seat rest =
            with_seat watches 1 (is_drivers watches) (drives_own watches) (made_by seat_of 1 more) (made_by-own seat_of 1 more) (subst (AreOf (is_drivers watches)) (sym rest) d.kinds)
        at (suc (suc k)) more e is seat rest =
            let none : made_by seat_of (suc (suc k)) more ≡ [] =
            sym (other e more (suc (suc k)) seat (λ same. absurd (omega (arith, same)))) ∙ (ap (made_by seat_of (suc (suc k))) (sym is) ∙ x.fits.no_others (suc (suc k)) (omega arith)) in
            subst (AreOfLive watches) (sym none) tt

    pub whose : AllByRecursion Whose h
    whose = subst (AllByRecursion Whose) (sym opened.is) ((λ marked. absurd (false≢true marked)), whose_all watches opened.more opened.kinds)

    -- ---- the one call

    pub count_one : call_count (history (live_setting method) h) ≤ 1
    count_one =
        subst (λ es. call_count (deeds_of (live_setting method) es) ≤ 1) (sym (ap reverse opened.is ∙ reverse-append (entry_by 1 (Invoke packet memo) ∷ []) opened.more))
        ((one_call method) watches (entry_by 1 (Invoke packet memo)) (reverse opened.more) (all-reverse (λ (e : Entry). is_entry_of watches e.seat e.kind ≡ true) opened.more opened.kinds))

    pub call_zero : c ≡ 0
    call_zero =
        let there = there_beyond (live_setting method) c q1.view.known.seen h driver_fits.begins d.there in
        omega (arith, there.below, count_one)

    -- ---- the driver's, in the whole history

    others : made_by seat_of 1 h ≡ made_by seat_of 1 q1.view.known.seen
    others = driver_fits.own ∙ sym driver_fits.shown

    pub events_are : events_run (live_setting method) h c ≡ events
    events_are =
        events_own (reverse h) c (all-reverse Whose h whose)
        ∙ (runs_beyond (live_setting method) c q1.view.known.seen h driver_fits.begins others ∙ d.runs)

    pub says_are : utterances_of h ≡ utterances_of q1.view.known.mine
    says_are = says_own h whose ∙ ap utterances_of driver_fits.own

    pub said_whole : CanEnd (live_setting method) c outs → AreSaid (live_setting method) c h outs (utterances_of h)
    said_whole may =
        subst (AreSaid (live_setting method) c h outs) (sym says_are)
        (said_as (live_setting method) (runs_in (live_lock table count) c) (λ front. events_run (live_setting method) front c) c h runs_are outs (utterances_of q1.view.known.mine)
        (said_later (live_setting method) (runs_in (live_lock table count) c) c q1.view.known.seen h driver_fits.begins outs (utterances_of q1.view.known.mine) (d.said may)))
      where
        -- only the driver runs the call
        runs_are : (front : List Entry) → IsPrefix front h → events_run (live_setting method) front c ≡ runs_in (live_lock table count) c front
        runs_are front begins = events_own (reverse front) c (all-reverse Whose front (all_first Whose front begins.0 (subst (AllByRecursion Whose) (sym begins.1) whose)))

    pub cancels_are : cancels h ≡ cancels q1.view.known.mine
    cancels_are = cancels_own h whose ∙ ap cancels driver_fits.own

    cut_there : is_cancelled (history (live_setting method) q1.view.known.seen) c ≡ true → (b : Bool) → cancels h ≡ b → b ≡ true
    cut_there cut true is = refl
    cut_there cut false is =
        let uncut : Uncut (q1.view.known.seen ++ driver_fits.begins.0) = subst Uncut (sym driver_fits.begins.1) (uncut_of h is) in
        let seen : Uncut q1.view.known.seen = all_first (λ (e : Entry). is_cancel e.kind ≡ false) q1.view.known.seen driver_fits.begins.0 uncut in
        absurd (true≢false (sym cut ∙ (uncancelled method) (reverse q1.view.known.seen) c (all-reverse (λ (e : Entry). is_cancel e.kind ≡ false) q1.view.known.seen seen)))

    pub cut_whole : (cut : Option Status) → HasCut (live_lock table count) c cut q1 → IsCutSo method h cut
    cut_whole None uncut = cancels_are ∙ uncut
    cut_whole (Some status) quiet = (
      cut_there (and_parts _ _ quiet.quiet).0 (cancels h) refl,
      subst (λ k. end_of (history (live_setting method) h) k ≡ Some status) call_zero (end_stays (live_setting method) q1.view.known.seen h c status driver_fits.begins quiet.status_is),
    )

    pub front_whole : IsPrefix items (items_sent (history (live_setting method) h))
    front_whole = front_beyond (live_setting method) c items q1.view.known.seen h driver_fits.begins d.front

    pub arrived_whole : arrivals h ≡ arrivals q0.view.known.mine
    arrived_whole = arrivals_of_seat (live_setting method) h x.legal.lawful ∙ ap arrivals reader_fits.own

    -- ---- Halts

    pub halts_driver : (why : Why) → is_want why ≡ false → HaltsFor why h → HaltsFor why q1.view.known.mine
    halts_driver why other halts = let found = halts_by why h halts in at found.0 found.1
      where
        at : (k : ℕ) → HaltsFor why (made_by seat_of k h) → HaltsFor why q1.view.known.mine
        at zero own = absurd (true≢false (sym (wants_in is_readers (λ why is. is) why q0.view.known.mine x.reader.kinds (subst (HaltsFor why) reader_fits.own own)) ∙ other))
        at (suc zero) own = subst (HaltsFor why) driver_fits.own own
        at (suc (suc k)) own = absurd (subst (HaltsFor why) (x.fits.no_others (suc (suc k)) (omega arith)) own)

    pub halting_whole : (why : Why) → HaltsFor why h → is_halting why ≡ true
    halting_whole why halts = let found = halts_by why h halts in at found.0 found.1
      where
        drivers : HaltsFor why (entry_by 1 (Invoke packet memo) ∷ d.rest) → is_halting why ≡ true
        drivers (inl is) = absurd (cc is)
        drivers (inr later) = halting_in watches why d.rest d.kinds later

        at : (k : ℕ) → HaltsFor why (made_by seat_of k h) → is_halting why ≡ true
        at zero own = want_halts why (wants_in is_readers (λ why is. is) why q0.view.known.mine x.reader.kinds (subst (HaltsFor why) reader_fits.own own))
        at (suc zero) own = drivers (subst (HaltsFor why) (driver_fits.own ∙ d.mine) own)
        at (suc (suc k)) own = absurd (subst (HaltsFor why) (x.fits.no_others (suc (suc k)) (omega arith)) own)

    pub halting_reason : (why : Why) → halt_reason (history (live_setting method) h) ≡ Some why → is_halting why ≡ true
    halting_reason why is = halting_whole why (halts_told h why is)

    pub driver_reason : (why : Why) → is_want why ≡ false → halt_reason (history (live_setting method) h) ≡ Some why → HaltsFor why q1.view.known.mine
    driver_reason why other is = halts_driver why other (halts_told h why is)

    pub all_late : AreLate h
    all_late zero front back is =
        let late : IsLate 0 q0.view.known.seen = subst (λ n. IsLate n q0.view.known.seen) x.reader.number x.reader.stands.late in
        late_still 0 q0.view.known.seen h reader_fits.begins (reader_fits.own ∙ sym reader_fits.shown) late front back is
    all_late (suc zero) front back is =
        let late : IsLate 1 q1.view.known.seen = subst (λ n. IsLate n q1.view.known.seen) d.number d.stands.late in
        late_still 1 q1.view.known.seen h driver_fits.begins others late front back is
    all_late (suc (suc k)) front back is =
        absurd (own_there (suc (suc k)) (Halt JournalLimit) front back (ap (made_by seat_of (suc (suc k))) (sym is) ∙ x.fits.no_others (suc (suc k)) (omega arith)))

    -- a full journal is full
    pub full_whole : halt_reason (history (live_setting method) h) ≡ Some JournalLimit → MAX_ENTRIES ≤ length h
    full_whole is =
        let at = halt_at JournalLimit h (halts_told h JournalLimit is) in
        let late = all_late at.seat at.front at.back at.is in
        omega (arith, late, ap length at.is, length-append at.front (entry_by at.seat (Halt JournalLimit) ∷ at.back))

    pub reader_halted : is_halted (live_setting method) q0.view.known.seen ≡ true → is_halted (live_setting method) h ≡ true
    reader_halted halted = halted_on (live_setting method) q0.view.known.seen h reader_fits.begins x.legal.lawful halted

    pub driver_halted : is_halted (live_setting method) q1.view.known.seen ≡ true → is_halted (live_setting method) h ≡ true
    driver_halted halted = halted_on (live_setting method) q1.view.known.seen h driver_fits.begins x.legal.lawful halted

    -- ---- a settled history

    pub settled_whole : is_settled (history (live_setting method) q1.view.known.seen) ≡ true → is_halted (live_setting method) h ≡ false → q1.view.known.seen ≡ h
    settled_whole settled calm =
        let seen : List Entry = q1.view.known.seen in
        let back : List Entry = driver_fits.begins.0 in
        let whole : seen ++ back ≡ h = driver_fits.begins.1 in
        let none_own : made_by seat_of 1 back ≡ [] = none_behind seat_of 1 seen back (ap (made_by seat_of 1) whole ∙ others) in
        let few : AllByRecursion (λ e. seat_of e < 2) back = all_second (λ e. seat_of e < 2) seen back (subst (AllByRecursion (λ e. seat_of e < 2)) (sym whole) x.fits.makers) in
        let kinds : AreOfLive watches back = back_kinds seen back whole none_own in
        let none : back ≡ [] =
        settled_ends (live_setting method) seen back (subst (IsLawful (live_setting method)) (sym whole) x.legal.lawful) settled (all_serve watches back few none_own kinds)
        (subst (λ es. halt_reason (history (live_setting method) es) ≡ None) (sym whole) (unhalted (halt_reason (history (live_setting method) h)) calm)) none_own in
        sym (append-nil seen) ∙ (ap (λ es. seen ++ es) (sym none) ∙ whole)
      where
        back_kinds : (seen back : List Entry) → seen ++ back ≡ h → made_by seat_of 1 back ≡ [] → AreOfLive watches back
        back_kinds seen back whole none = all_by_maker seat_of (λ e. is_entry_of watches e.seat e.kind ≡ true) back (λ k. at k)
          where
            parts : (k : ℕ) → made_by seat_of k seen ++ made_by seat_of k back ≡ made_by seat_of k h
            parts k = sym (made_by-append seat_of k seen back) ∙ ap (made_by seat_of k) whole

            nothing : (k : ℕ) → made_by seat_of k seen ++ made_by seat_of k back ≡ [] → made_by seat_of k back ≡ []
            nothing k none = no_second (made_by seat_of k seen) (made_by seat_of k back) none
              where
                no_second : (xs ys : List Entry) → xs ++ ys ≡ [] → ys ≡ []
                no_second [] ys is = is
                no_second (y ∷ xs) ys is = absurd cc

            at : (k : ℕ) → AreOfLive watches (made_by seat_of k back)
            at zero =
                with_seat watches 0 is_readers (reads_own watches) (made_by seat_of 0 back) (made_by-own seat_of 0 back)
                (all_second (λ (e : Entry). is_readers e.kind ≡ true) (made_by seat_of 0 seen) (made_by seat_of 0 back) (subst (AreOf is_readers) (sym (parts 0 ∙ reader_fits.own)) x.reader.kinds))
            at (suc zero) = subst (AreOfLive watches) (sym none) tt
            at (suc (suc k)) = subst (AreOfLive watches) (sym (nothing (suc (suc k)) (parts (suc (suc k)) ∙ x.fits.no_others (suc (suc k)) (omega arith)))) tt

    pub flushed_whole : flush_count (history (live_setting method) h) ≡ length items
    flushed_whole = flushes_count (live_setting method) h ∙ (flushes_of_seat (live_setting method) h x.legal.lawful ∙ (ap flushes driver_fits.own ∙ sym d.count))

    pub settled_items : is_settled (history (live_setting method) h) ≡ true → items ≡ items_sent (history (live_setting method) h)
    settled_items settled =
        prefix_whole items (items_sent (history (live_setting method) h)) front_whole
        (omega (arith, sym flushed_whole, eqb-true (flush_count (history (live_setting method) h)) (length (items_sent (history (live_setting method) h))) (and_parts _ _ settled).1))
