-- The driver with the link and the store.
use Rattle.std.proofs.Common.{◌≡◌, ◌⊎◌, ◌||◌, ℕ, zero, suc, ◌≤◌, Bool, true, false, List, [], ◌∷◌, ◌++◌, length, slice_get, Option, Some, None, is_some, Result, Ok, Err, OnOk, refl, ap, sym, ◌∙◌, subst, inl, inr, arith, append_assoc}
use Rattle.std.proofs.lemmas.Bool.{false≢true, true≢false}
use Rattle.std.proofs.lemmas.List.{append-nil, append_cancel_left}
use Rattle.std.specs.Io.KnownBytes.{Appends, Keeps}
use Rattle.std.proofs.KnownBytes.{Appends-kept, Appends-nil, Appends-trans}
use mathlib.Core.List.{IsPrefix}
use Rattle.entry_lists.specs.Entries.{made_by}
use Rattle.entry_lists.proofs.Makers.{all_append, made_by-append, none_behind}
use Rattle.entry_lists.proofs.Prefixes.{prefix_longer, prefix_self, prefix_shorter}
use Rattle.link_io.specs.Causes.{Rose}
use Rattle.link_io.specs.Stored.{Stored}
use Rattle.link_io.specs.declared.why.Why.{Why}
use Rattle.link_io.specs.declared.why.Why.TheVariants.{Sink, Store, JournalLimit, Memory}
use Rattle.rpc_ids.specs.declared.status.Status.{Status}
use Rattle.rpc_handlers.specs.declared.event.Event.{Event}
use Rattle.rpc_journal.specs.declared.entry.Entry.{Entry}
use Rattle.rpc_journal.specs.declared.entry.EntryKind.{EntryKind}
use Rattle.rpc_journal.specs.declared.entry.EntryKind.TheVariants.{Start, Finish, Say, Done, Cancel, Flush, Halt}
use Rattle.rpc_journal.specs.declared.item.Item.{Item}
use Rattle.rpc_journal.specs.declared.setting.Setting.{Setting}
use Rattle.rpc_journal.specs.Changes.{NothingToFlush}
use Rattle.rpc_journal.specs.History.{history}
use Rattle.rpc_journal.specs.Items.{flush_count, flushes, halt_reason, items_sent}
use Rattle.rpc_journal.specs.Lawful.{IsLawful}
use Rattle.rpc_journal.specs.Laws.{seat_of}
use Rattle.rpc_journal.specs.Quiet.{is_quiet}
use Rattle.rpc_journal.proofs.ItemLemmas.{flushes_count, flushes_of_seat, items_begin}
use Rattle.rpc_journal.proofs.Push.{beginning_is_lawful}
use Rattle.rpc_journal.proofs.StayLemmas.{halt_stays}
use Rattle.rpc_shared.specs.session.Crew.{Adds, AreOf, Lock, Seat, is_want}
use Rattle.rpc_shared.specs.session.Ring.{HaltsFor}
use Rattle.rpc_shared.specs.session.Sessions.{is_halted, is_halting, wire}
use Rattle.rpc_shared.proofs.session.PassLemmas.{of_weaker}
use Rattle.rpc_shared.proofs.session.WriterLemmas.{holds_more, wire-append}
use Rattle.live_client.specs.Histories.{cancels}
use Rattle.live_client.specs.asks.Tasks.{Given}
use Rattle.live_client.specs.asks.Telling.{Progress}
use Rattle.live_client.specs.Silent.{silent_rule}
use Rattle.live_client.specs.Driving.{Calm, Drives, FlushFails, Flushed, FlushesMore, HasCauses, HasCut, HasWorked, IsCalmed, IsClosing, IsWritten, Made, Rests, Talks, Works, is_closing, is_cutting, is_flushing, is_running, is_saying, is_talking}
use Rattle.live_client.proofs.StepsOf.{cut_on, halts_split}
use Rattle.live_client.proofs.TalkLemmas.{Did, flush_uncancelled, talks_weaker}

-- ---- kinds

pub run_talks : (kind : EntryKind) → is_running kind ≡ true → is_talking kind ≡ true
run_talks (Start c) is = refl
run_talks (Finish c a) is = is
run_talks (Halt why) is = is
run_talks _ is = absurd cc

pub cut_talks : (kind : EntryKind) → is_cutting kind ≡ true → is_talking kind ≡ true
cut_talks (Cancel c) is = refl
cut_talks _ is = absurd cc

pub say_talks : (kind : EntryKind) → is_saying kind ≡ true → is_talking kind ≡ true
say_talks (Say c out) is = refl
say_talks (Done c) is = refl
say_talks (Halt why) is = is
say_talks _ is = absurd cc

want_halting : (why : Why) → is_want why ≡ true → is_halting why ≡ true
want_halting JournalLimit is = refl
want_halting Memory is = refl
want_halting _ is = absurd cc

pub run_closes : (kind : EntryKind) → is_running kind ≡ true → is_closing kind ≡ true
run_closes (Start c) is = refl
run_closes (Finish c a) is = is
run_closes (Halt why) is = want_halting why is
run_closes _ is = absurd cc

pub flush_closes : (kind : EntryKind) → is_flushing kind ≡ true → is_closing kind ≡ true
flush_closes Flush is = refl
flush_closes (Halt why) is = is
flush_closes _ is = absurd cc

-- ---- causes

pub talking_wants : (why : Why) → is_talking (Halt why) ≡ true → is_want why ≡ true
talking_wants why is = is

pub wants_past : (test : EntryKind → Bool) → ((why : Why) → test (Halt why) ≡ true → is_want why ≡ true) → (why : Why) → is_want why ≡ false → (mine added : List Entry) → AreOf test added → HaltsFor why (mine ++ added) → HaltsFor why mine
wants_past test wants why other mine added kinds halts = at (halts_split why mine added halts)
  where
    none : (es : List Entry) → AreOf test es → HaltsFor why es → ⊥
    none [] kinds halts = halts
    none (e ∷ es) kinds (inl is) = true≢false (sym (wants why (subst (λ kind. test kind ≡ true) is kinds.0)) ∙ other)
    none (e ∷ es) kinds (inr later) = none es kinds.1 later

    at : HaltsFor why mine ⊎ HaltsFor why added → HaltsFor why mine
    at (inl halts) = halts
    at (inr halts) = absurd (none added kinds halts)

pub causes_on : (r : Lock) (test : EntryKind → Bool) → ((why : Why) → test (Halt why) ≡ true → is_want why ≡ true) → (f0 f g0 g : ℕ) (p q : Seat) → Adds silent_rule r test p q → HasCauses f0 f g0 g p → HasCauses f0 f g0 g q
causes_on r test wants f0 f g0 g p q adds causes = record {
  sink = λ halts. causes.sink (wants_past test wants Sink refl p.view.known.mine adds.added adds.kinds (subst (HaltsFor Sink) adds.mine halts));
  store = λ halts. causes.store (wants_past test wants Store refl p.view.known.mine adds.added adds.kinds (subst (HaltsFor Store) adds.mine halts));
  later = causes.later;
}

rose_on : (f0 f f' : ℕ) → f ≤ f' → Rose f0 f → Rose f0 f'
rose_on f0 f f' later rose = omega (arith, later, rose)

pub rose_from : (f0 f f' : ℕ) → f0 ≤ f → Rose f f' → Rose f0 f'
rose_from f0 f f' later rose = omega (arith, later, rose)

pub causes_flush : (f0 f f' g0 g g' : ℕ) (p q : Seat) → HasCauses f0 f g0 g p → (f ≤ f') × (g ≤ g')
    → (HaltsFor Sink q.view.known.mine → HaltsFor Sink p.view.known.mine ⊎ Rose f f') → (HaltsFor Store q.view.known.mine → HaltsFor Store p.view.known.mine ⊎ Rose g g') → HasCauses f0 f' g0 g' q
causes_flush f0 f f' g0 g g' p q causes later sink store = record {
  sink = λ halts. at (sink halts);
  store = λ halts. with_store (store halts);
  later = (let a = causes.later.0 in let b = later.0 in omega (arith, a, b), let a = causes.later.1 in let b = later.1 in omega (arith, a, b));
}
  where
    at : HaltsFor Sink p.view.known.mine ⊎ Rose f f' → Rose f0 f'
    at (inl halts) = rose_on f0 f f' later.0 (causes.sink halts)
    at (inr rose) = rose_from f0 f f' causes.later.0 rose

    with_store : HaltsFor Store p.view.known.mine ⊎ Rose g g' → Rose g0 g'
    with_store (inl halts) = rose_on g0 g g' later.1 (causes.store halts)
    with_store (inr rose) = rose_from g0 g g' causes.later.1 rose

-- ---- what is closed

pub closing_on : (r : Lock) (c : ℕ) (test : EntryKind → Bool) (sent : List Item) (p q : Seat) → ((kind : EntryKind) → test kind ≡ true → is_closing kind ≡ true) → p.view.known.number ≡ 1 → (made_by seat_of p.view.known.number p.view.known.seen ≡ p.view.known.mine)
    → Adds silent_rule r test p q → IsClosing r c sent p → IsClosing r c sent q
closing_on r c test sent p q wider number shown adds closing =
    let gap = adds.begins.0 in
    let own_p : made_by seat_of 1 p.view.known.seen ≡ p.view.known.mine = subst (λ n. made_by seat_of n p.view.known.seen ≡ p.view.known.mine) number shown in
    let own_q : made_by seat_of 1 q.view.known.seen ≡ q.view.known.mine = subst (λ n. made_by seat_of n q.view.known.seen ≡ q.view.known.mine) number adds.shown in
    let all : made_by seat_of 1 p.view.known.seen ++ made_by seat_of 1 gap ≡ made_by seat_of 1 p.view.known.seen ++ adds.added =
    sym (made_by-append seat_of 1 p.view.known.seen gap) ∙ (ap (made_by seat_of 1) adds.begins.1 ∙ (own_q ∙ (adds.mine ∙ ap (λ es. es ++ adds.added) (sym own_p)))) in
    let more : made_by seat_of 1 gap ≡ adds.added = append_cancel_left (made_by seat_of 1 p.view.known.seen) (made_by seat_of 1 gap) adds.added all in
    record {
      front = closing.front;
      back = closing.back ++ gap;
      seen = sym adds.begins.1 ∙ (ap (λ es. es ++ gap) closing.seen ∙ append_assoc closing.front closing.back gap);
      begins = closing.begins;
      closing =
          subst (AreOf is_closing) (sym (made_by-append seat_of 1 closing.back gap))
          (all_append (λ (e : Entry). is_closing e.kind ≡ true) (made_by seat_of 1 closing.back) (made_by seat_of 1 gap) closing.closing
          (subst (AreOf is_closing) (sym more) (of_weaker test is_closing wider adds.added adds.kinds)));
      calmed = still gap closing.calmed;
    }
  where
    still : (gap : List Entry) → IsCalmed r c closing.front closing.back → IsCalmed r c closing.front (closing.back ++ gap)
    still gap (inl uncut) = inl uncut
    still gap (inr quiet) = inr (quiet.0, prefix_longer quiet.0 closing.back gap quiet.1, quiet.2, quiet.3)

-- ---- the driver's steps

module _ (watches : Bool) (opening : EntryKind) (r : Lock) (c : ℕ) (w0 : Option (List ℕ)) (d0 : Option Stored) (f0 g0 : ℕ) where
  -- it talks
  pub works_talks : (did now : Did) (over over' : Bool) (test : EntryKind → Bool) (w : Option (List ℕ)) (d : Option Stored) (f g : ℕ) (p q : Seat) → ((why : Why) → test (Halt why) ≡ true → is_want why ≡ true) → Adds silent_rule r test p q
      → ((items : List Item) → Talks watches opening did r c true over items p → Talks watches opening now r c true over' items q)
      → Works watches opening did r c over false w0 w d0 d f0 f g0 g p → Works watches opening now r c over' false w0 w d0 d f0 f g0 g q
  works_talks did now over over' test w d f g p q wants adds talks so = record {
    items = so.items;
    talks = talks so.items so.talks;
    made = record { first = so.made.first; which = so.made.which; written = so.made.written; stored = so.made.stored };
    causes = causes_on r test wants f0 f g0 g p q adds so.causes;
  }

  -- the same once the output is finished
  pub works_winds : (did now : Did) (over over' : Bool) (test : EntryKind → Bool) (w : Option (List ℕ)) (d : Option Stored) (f g : ℕ) (p q : Seat) → ((why : Why) → test (Halt why) ≡ true → is_want why ≡ true)
      → ((kind : EntryKind) → test kind ≡ true → is_closing kind ≡ true) → Adds silent_rule r test p q
      → ((items : List Item) → Talks watches opening did r c true over items p → Talks watches opening now r c true over' items q)
      → Works watches opening did r c over true w0 w d0 d f0 f g0 g p → Works watches opening now r c over' true w0 w d0 d f0 f g0 g q
  works_winds did now over over' test w d f g p q wants wider adds talks so = record {
    items = so.items;
    talks = talks so.items so.talks;
    made = record {
      first = so.made.first;
      which = (so.made.which.0, closing_on r c test so.made.first p q wider so.talks.drives.number so.talks.drives.stands.shown adds so.made.which.1);
      written = so.made.written;
      stored = so.made.stored;
    };
    causes = causes_on r test wants f0 f g0 g p q adds so.causes;
  }

  talks_flush : (did : Did) (over : Bool) (whole : Bool) (items more : List Item) (p q : Seat) → Adds silent_rule r is_flushing p q → FlushesMore r c more p q → Talks watches opening did r c whole over items p → Talks watches opening did r c whole over (items ++ more) q
  talks_flush did over whole items more p q adds flushes t = record {
    cut = t.cut;
    events = t.events;
    outs = t.outs;
    lost = t.lost;
    ended = t.ended;
    drives = flushes watches opening t.events t.outs items t.drives;
    quiet = cut_on r c is_flushing t.cut p q flush_uncancelled adds t.quiet;
    heard = t.heard;
    none_lost = t.none_lost;
    is_over = t.is_over;
  }

  -- it flushes, before the end of the output
  module _ (did : Did) (over : Bool) (w w' : Option (List ℕ)) (d d' : Option Stored) (f f' g g' : ℕ) (p q : Seat) (adds : Adds silent_rule r is_flushing p q) (later : (f ≤ f') × (g ≤ g'))
      (sink : HaltsFor Sink q.view.known.mine → HaltsFor Sink p.view.known.mine ⊎ Rose f f') (store : HaltsFor Store q.view.known.mine → HaltsFor Store p.view.known.mine ⊎ Rose g g') where
    pub works_flush : (more : List Item) → Flushed false w w' d d' more → FlushesMore r c more p q
        → Works watches opening did r c over false w0 w d0 d f0 f g0 g p → Works watches opening did r c over false w0 w' d0 d' f0 f' g0 g' q
    works_flush more flushed flushes so = record {
      items = so.items ++ more;
      talks = talks_flush did over true so.items more p q adds flushes so.talks;
      made = record {
        first = so.items ++ more;
        which = refl;
        written =
            subst (Appends w0 w') (sym (wire-append so.items more))
            (Appends-trans w0 w w' (wire so.items) (wire more) (subst (λ is. Appends w0 w (wire is)) so.made.which so.made.written) flushed.written);
        stored = holds_more so.items more d0 d d' so.made.stored flushed.stored;
      };
      causes = causes_flush f0 f f' g0 g g' p q so.causes later sink store;
    }

    -- and behind it
    pub winds_flush : (more : List Item) → Flushed true w w' d d' more → FlushesMore r c more p q
        → Works watches opening did r c over true w0 w d0 d f0 f g0 g p → Works watches opening did r c over true w0 w' d0 d' f0 f' g0 g' q
    winds_flush more flushed flushes so = record {
      items = so.items ++ more;
      talks = talks_flush did over true so.items more p q adds flushes so.talks;
      made = record {
        first = so.made.first;
        which = (
          prefix_longer so.made.first so.items more so.made.which.0,
          closing_on r c is_flushing so.made.first p q flush_closes so.talks.drives.number so.talks.drives.stands.shown adds so.made.which.1,
        );
        written = subst (Appends w0 w') (append-nil (wire so.made.first)) (Appends-trans w0 w w' (wire so.made.first) [] so.made.written flushed.written);
        stored = holds_more so.items more d0 d d' so.made.stored flushed.stored;
      };
      causes = causes_flush f0 f f' g0 g g' p q so.causes later sink store;
    }

    written_on : (finished : Bool) (items first : List Item) → p.view.known.number ≡ 1 → made_by seat_of p.view.known.number p.view.known.seen ≡ p.view.known.mine → IsWritten r c finished items first p → IsWritten r c finished items first q
    written_on true items first number shown which = (which.0, closing_on r c is_flushing first p q flush_closes number shown adds which.1)
    written_on false items first number shown which = which

    -- it fails
    pub works_failed : (all : Progress) (dids : Progress → Did) (finished : Bool) → dids all ≡ did → FlushFails r c w w' d d' p q → Works watches opening (dids all) r c over finished w0 w d0 d f0 f g0 g p
        → HasWorked watches opening dids r c w0 w' d0 d' f0 f' g0 g' q
    works_failed all dids finished same fails so = record {
      items = so.items;
      next = fails.next;
      first = so.made.first;
      part = fails.part;
      all = all;
      finished = finished;
      talks = talks_weaker watches opening r c (dids all) (dids all) (so.items ++ fails.next) true over q (talks_flush (dids all) over true so.items fails.next p q adds fails.flushes so.talks);
      which = written_on finished so.items so.made.first so.talks.drives.number so.talks.drives.stands.shown so.made.which;
      one = fails.one;
      begun = fails.begun;
      written = Appends-trans w0 w w' (wire so.made.first) fails.part so.made.written fails.written;
      stored = fails.stored ∙ so.made.stored;
      causes = causes_flush f0 f f' g0 g g' p q so.causes later sink store;
    }

  -- it ends, and may not have said all
  pub works_ended : (all : Progress) (dids : Progress → Did) (whole over finished : Bool) (items : List Item) (w : Option (List ℕ)) (d : Option Stored) (f g : ℕ) (p : Seat)
      → Talks watches opening (dids all) r c whole over items p → Made r c finished w0 w d0 d items p → HasCauses f0 f g0 g p → HasWorked watches opening dids r c w0 w d0 d f0 f g0 g p
  works_ended all dids whole over finished items w d f g p talks made causes = record {
    items = items;
    next = [];
    first = made.first;
    part = [];
    all = all;
    finished = finished;
    talks = subst (λ is. Talks watches opening (dids all) r c false false is p) (sym (append-nil items)) (talks_weaker watches opening r c (dids all) (dids all) items whole over p talks);
    which = made.which;
    one = omega arith;
    begun = (wire [], refl);
    written = subst (Appends w0 w) (sym (append-nil (wire made.first))) made.written;
    stored = made.stored;
    causes = causes;
  }

  -- the output is told that nothing more comes, where the driver has stopped
  pub worked_kept : (dids : Progress → Did) (w w' : Option (List ℕ)) (d : Option Stored) (f f' g : ℕ) (p : Seat) → Keeps w w' → f ≤ f' → HasWorked watches opening dids r c w0 w d0 d f0 f g0 g p
      → HasWorked watches opening dids r c w0 w' d0 d f0 f' g0 g p
  worked_kept dids w w' d f f' g p kept later so = record {
    items = so.items;
    next = so.next;
    first = so.first;
    part = so.part;
    all = so.all;
    finished = so.finished;
    talks = so.talks;
    which = so.which;
    one = so.one;
    begun = so.begun;
    written = Appends-kept w0 w w' _ so.written kept;
    stored = so.stored;
    causes = causes_flush f0 f f' g0 g g p p so.causes (later, omega arith) (λ halts. inl halts) (λ halts. inl halts);
  }

-- ---- nothing is left to flush

pub halted_on : (set : Setting) (h later : List Entry) → IsPrefix h later → IsLawful set later → is_halted set h ≡ true → is_halted set later ≡ true
halted_on set h later begins lawful halted = at (halt_reason (history set h)) refl halted
  where
    at : (o : Option Why) → halt_reason (history set h) ≡ o → is_some o ≡ true → is_halted set later ≡ true
    at None is none = absurd (false≢true none)
    at (Some why) is none =
        ap is_some (subst (λ es. halt_reason (history set es) ≡ Some why) begins.1 (halt_stays set h begins.0 why (subst (IsLawful set) (sym begins.1) lawful) is))

pub rests_of : (r : Lock) (test : EntryKind → Bool) (m q : Seat) → m.view.known.number ≡ 1 → made_by seat_of m.view.known.number m.view.known.seen ≡ m.view.known.mine → NothingToFlush (history r.base m.view.known.seen) → Adds silent_rule r test m q
    → q.view.known.mine ≡ m.view.known.mine → is_halted r.base q.view.known.seen ≡ false → Rests r q
rests_of r test m q number shown nothing adds same unhalted = record {
  front = m.view.known.seen;
  back = adds.begins.0;
  seen = sym adds.begins.1;
  none =
      none_behind seat_of 1 m.view.known.seen adds.begins.0
      (ap (made_by seat_of 1) adds.begins.1
      ∙ (subst (λ n. made_by seat_of n q.view.known.seen ≡ q.view.known.mine) number adds.shown ∙ (same ∙ sym (subst (λ n. made_by seat_of n m.view.known.seen ≡ m.view.known.mine) number shown))));
  all_flushed = at nothing;
}
  where
    at : NothingToFlush (history r.base m.view.known.seen) → slice_get (items_sent (history r.base m.view.known.seen)) (flush_count (history r.base m.view.known.seen)) ≡ None
    at (inl none) = none
    at (inr halted) = absurd (true≢false (sym (halted_on r.base m.view.known.seen q.view.known.seen adds.begins adds.legal.lawful halted) ∙ unhalted))

past_end : {A : Type 0} (xs : List A) (n : ℕ) → slice_get xs n ≡ None → length xs ≤ n
past_end [] n is = omega arith
past_end (x ∷ xs) zero is = absurd (cc is)
past_end (x ∷ xs) (suc n) is = omega (arith, past_end xs n is)

-- the output is finished: what was sent up to its end was written
pub finishes : (watches : Bool) (opening : EntryKind) (r : Lock) (c : ℕ) (events : List Event) (outs : List Given) (items : List Item) (p : Seat) (cut : Option Status) → HasCut r c cut p → Drives watches opening r c events outs items p → Rests r p → IsClosing r c items p
finishes watches opening r c events outs items p cut quiet d rests =
    let own : made_by seat_of 1 p.view.known.seen ≡ p.view.known.mine = subst (λ n. made_by seat_of n p.view.known.seen ≡ p.view.known.mine) d.number d.stands.shown in
    let begins : IsPrefix rests.front p.view.known.seen = (rests.back, sym rests.seen) in
    let lawful : IsLawful r.base rests.front = beginning_is_lawful r.base rests.front p.view.known.seen begins d.stands.legal.lawful in
    let own_front : made_by seat_of 1 rests.front ≡ p.view.known.mine =
    sym (append-nil (made_by seat_of 1 rests.front)) ∙ (ap (λ es. made_by seat_of 1 rests.front ++ es) (sym rests.none) ∙ (sym (made_by-append seat_of 1 rests.front rests.back) ∙ (ap (made_by seat_of 1) (sym rests.seen) ∙ own))) in
    let many : flush_count (history r.base rests.front) ≡ length items =
    flushes_count r.base rests.front ∙ (flushes_of_seat r.base rests.front lawful ∙ (ap flushes own_front ∙ sym d.count)) in
    let sent : IsPrefix (items_sent (history r.base rests.front)) (items_sent (history r.base p.view.known.seen)) =
    subst (λ h. IsPrefix (items_sent (history r.base rests.front)) (items_sent (history r.base h))) (sym rests.seen) (items_begin r.base rests.front rests.back) in
    record {
      front = rests.front;
      back = rests.back;
      seen = rests.seen;
      begins =
          prefix_shorter (items_sent (history r.base rests.front)) items (items_sent (history r.base p.view.known.seen)) sent d.front
          (subst (λ n. length (items_sent (history r.base rests.front)) ≤ n) many (past_end (items_sent (history r.base rests.front)) (flush_count (history r.base rests.front)) rests.all_flushed));
      closing = subst (AreOf is_closing) (sym rests.none) tt;
      calmed = calm cut quiet own_front;
    }
  where
    calm : (cut : Option Status) → HasCut r c cut p → made_by seat_of 1 rests.front ≡ p.view.known.mine → IsCalmed r c rests.front rests.back
    calm None uncut own_front = inl (ap cancels own_front ∙ uncut)
    calm (Some status) quiet own_front =
        inr (rests.back, prefix_self rests.back, rests.none, subst (λ h. is_quiet (history r.base h) c ≡ true) rests.seen quiet.quiet)

pub stood : {E : Type 0} (result : Result Bool E) (b x : Bool) → OnOk result (result ≡ Ok b) → result ≡ Ok x → b ≡ x
stood (Ok a) b x same is = cc (same, is)
stood (Err e) b x same is = absurd (cc is)

pub of_is_ok : {A E X : Type 0} (result : Result A E) (a : A) → result ≡ Ok a → OnOk result X → X
of_is_ok (Ok b) a is x = x
of_is_ok (Err e) a is x = absurd (cc is)

pub neither : (a b x : Bool) → x ≡ (a || b) → x ≡ false → (a ≡ false) × (b ≡ false)
neither true b x is off = absurd (false≢true (sym off ∙ is))
neither false b x is off = (refl, sym is ∙ off)

pub says_wants : (why : Why) → is_saying (Halt why) ≡ true → is_want why ≡ true
says_wants why is = is

pub runs_wants : (why : Why) → is_running (Halt why) ≡ true → is_want why ≡ true
runs_wants why is = is

-- ---- the end of the output

pub appends_kept : (w0 w w' : Option (List ℕ)) (bytes : List ℕ) → Keeps w w' → Appends w0 w bytes → Appends w0 w' bytes
appends_kept w0 w w' bytes kept appended = Appends-kept w0 w w' bytes appended kept

pub works_over : (watches : Bool) (opening : EntryKind) (did : Did) (r : Lock) (c : ℕ) (finished : Bool) (w0 w : Option (List ℕ)) (d0 d : Option Stored) (f0 f g0 g : ℕ) (p : Seat) (o : Option Status) → is_some o ≡ true
    → ((cut : Option Status) (events : List Event) (outs : List Given) (ended : Option Status) → did cut events outs ended → o ≡ ended)
    → Works watches opening did r c false finished w0 w d0 d f0 f g0 g p → Works watches opening did r c true finished w0 w d0 d f0 f g0 g p
works_over watches opening did r c finished w0 w d0 d f0 f g0 g p o some told so =
    let t = so.talks in
    record {
      items = so.items;
      talks = record {
        cut = t.cut;
        events = t.events;
        outs = t.outs;
        lost = t.lost;
        ended = t.ended;
        drives = t.drives;
        quiet = t.quiet;
        heard = t.heard;
        none_lost = t.none_lost;
        is_over = λ _. ap is_some (sym (told t.cut t.events (t.outs ++ t.lost) t.ended t.heard)) ∙ some;
      };
      made = so.made;
      causes = so.causes;
    }

-- the output is finished
pub works_finished : (watches : Bool) (opening : EntryKind) (did : Did) (r : Lock) (c : ℕ) (over : Bool) (w0 w w' : Option (List ℕ)) (d0 d : Option Stored) (f0 f f' g0 g : ℕ) (p : Seat) → Rests r p → Keeps w w' → f ≤ f'
    → Works watches opening did r c over false w0 w d0 d f0 f g0 g p → Works watches opening did r c over true w0 w' d0 d f0 f' g0 g p
works_finished watches opening did r c over w0 w w' d0 d f0 f f' g0 g p rests kept later so = record {
  items = so.items;
  talks = so.talks;
  made = record {
    first = so.items;
    which = (prefix_self so.items, finishes watches opening r c so.talks.events so.talks.outs so.items p so.talks.cut so.talks.quiet so.talks.drives rests);
    written = appends_kept w0 w w' (wire so.items) kept (subst (λ is. Appends w0 w (wire is)) so.made.which so.made.written);
    stored = so.made.stored;
  };
  causes = causes_flush f0 f f' g0 g g p p so.causes (later, omega arith) (λ halts. inl halts) (λ halts. inl halts);
}

-- it couldn't be
pub finish_fails : (r : Lock) (c : ℕ) (w w' : Option (List ℕ)) (d : Option Stored) (p q : Seat) → Calm r c is_flushing p q → Keeps w w' → FlushFails r c w w' d d p q
finish_fails r c w w' d p q calm kept = record {
  next = [];
  part = [];
  one = omega arith;
  begun = ([], refl);
  written = appends_kept w w w' [] kept (Appends-nil w);
  stored = refl;
  flushes = λ watches opening events outs items so. subst (λ is. Drives watches opening r c events outs is q) (sym (append-nil items)) (calm.drives watches opening events outs items so);
}

-- a step that added nothing adds entries of any kind
pub look_closes : (r : Lock) (c : ℕ) (p q : Seat) → Calm r c is_saying p q → q.view.known.mine ≡ p.view.known.mine → Calm r c is_running p q
look_closes r c p q calm same = record {
  adds = record {
    same = calm.adds.same;
    own = calm.adds.own;
    legal = calm.adds.legal;
    shown = calm.adds.shown;
    begins = calm.adds.begins;
    added = [];
    mine = same ∙ sym (append-nil p.view.known.mine);
    kinds = tt;
    late = calm.adds.late;
  };
  drives = calm.drives;
}
