-- From what each thread did to what the session did.
use Rattle.std.proofs.Common.{◌≡◌, ◌⊎◌, ℕ, zero, suc, ◌+◌, ◌<◌, ◌≤◌, ◌==◌, Bool, true, false, if◌then◌else◌, List, [], ◌∷◌, ◌++◌, length, reverse, Option, Some, None, is_some, refl, ap, sym, ◌∙◌, subst, inl, inr, arith, append_assoc, length-append, eq-eqb, ne_eqb}
use Rattle.std.proofs.lemmas.Bool.{and_parts, eqb-true, false≢true, le-leb, true≢false}
use Rattle.std.proofs.lemmas.List.{append-nil, reverse-append}
use Rattle.std.specs.List.{AllByRecursion}
use mathlib.Core.List.{IsPrefix}
use mathlib.Core.Option.{some, some-injective}
use lib.ListN.{get_elem?}
use Rattle.entry_lists.specs.Entries.{AllBy, made_by}
use Rattle.entry_lists.proofs.Makers.{all_by_maker, all_second, made_by-own, none_behind}
use Rattle.entry_lists.proofs.Prefixes.{prefix_length, prefix_trans, prefix_whole}
use Rattle.link_io.specs.declared.why.Why.{Why}
use Rattle.link_io.specs.declared.why.Why.TheVariants.{JournalLimit, Memory}
use Rattle.link_io.specs.Stored.{Stored}
use Rattle.turn_cell.specs.Passes.{AllFit, AreAll, AreBack, FitsValue, IsIdle, IsNew, IsSame}
use Rattle.turn_cell.proofs.Passes.{all_back, one_more_back}
use Rattle.turn_cell.proofs.Places.{at_end}
use Rattle.rpc_handlers.specs.HandlerRule.{HandlerRule}
use Rattle.rpc_journal.specs.declared.entry.Entry.{Entry}
use Rattle.rpc_journal.specs.declared.entry.EntryKind.{EntryKind}
use Rattle.rpc_journal.specs.declared.entry.EntryKind.TheVariants.{Arrive, Start, Finish, Tick, Flush, EndIn, Halt}
use Rattle.rpc_journal.specs.declared.entry.TheConstants.{MAX_ENTRIES}
use Rattle.rpc_journal.specs.declared.item.Item.{Item}
use Rattle.rpc_journal.specs.History.{entry_by, history, deeds_of}
use Rattle.rpc_journal.specs.Items.{arrivals, flush_count, flushes, halt_reason, is_flush, items_sent, moments, reason_of}
use Rattle.rpc_journal.specs.Lawful.{IsLawful, IsLegal}
use Rattle.rpc_journal.specs.Laws.{is_serving, seat_of}
use Rattle.rpc_journal.specs.Kinds.{or_else}
use Rattle.rpc_journal.specs.Quiet.{is_settled}
use Rattle.rpc_journal.specs.CallTable.{Table}
use Rattle.rpc_journal.proofs.ItemLemmas.{arrivals_of_seat, flushes_count, flushes_of_seat, items_begin}
use Rattle.rpc_journal.proofs.StayLemmas.{halt_stays, moments_of_seat, settled_ends}
use Rattle.rpc_shared.specs.Steps.{base_of, log_of}
use Rattle.rpc_shared.specs.declared.session.item_log.ItemLog.{ItemLog}
use Rattle.rpc_shared.specs.declared.session.parcel.Parcel.{Parcel}
use Rattle.rpc_shared.specs.declared.session.parcel.Parcel.TheVariants.{End}
use Rattle.rpc_shared.specs.session.Crew.{AllWorked, AreOf, AreWorkers, IsLate, Lock, Reader, ReaderEnded, Seat, Stands, Worker, is_feeding, is_pumps, is_readers, is_stop, is_want, is_workers}
use Rattle.rpc_shared.specs.session.Leaving.{HasEnd}
use Rattle.rpc_shared.specs.session.Ring.{HaltsFor, MakesSome, PumpEnded, Takes, WriterEnded, closed, parcels}
use Rattle.rpc_shared.specs.session.Sessions.{AreLate, AreOfSession, is_entry_of, is_halted, is_halting, runs_handlers}
use Rattle.rpc_shared.proofs.session.PassLemmas.{late_still, own_there}

at_last : (l : List Seat) (x : Seat) (k : ℕ) → k ≡ length l → get_elem? (l ++ x ∷ []) k ≡ some x
at_last [] x k is = subst (λ n. get_elem? (x ∷ []) n ≡ some x) (sym is) refl
at_last (y ∷ l) x k is = subst (λ n. get_elem? ((y ∷ l) ++ x ∷ []) n ≡ some x) (sym is) (at_last l x (length l) refl)

-- ---- passes that are new

pub new_stands : (rule : HandlerRule) (r : Lock) (k : ℕ) (p : Seat) → IsNew r k p → Stands rule r p
new_stands rule r k p new = record {
  own = record { table = new.pass.table; base = new.pass.base; idle = new.idle };
  legal = subst (IsLegal rule r.base) (sym new.seen) (record { lawful = record { allowed = tt }; answered = tt });
  shown = ap (made_by seat_of p.view.known.number) new.seen ∙ sym new.mine;
  late = subst (IsLate p.view.known.number) (sym new.seen) (λ front back is. absurd (omega (arith, ap length is, length-append front (entry_by p.view.known.number (Halt JournalLimit) ∷ back))));
}

pub new_reader : (rule : HandlerRule) (r : Lock) (p : Seat) → IsNew r 0 p → Reader rule r p
new_reader rule r p new = record { stands = new_stands rule r 0 p new; number = new.pass.number; kinds = subst (AreOf is_feeding) (sym new.mine) tt }

pub new_pump : (rule : HandlerRule) (r : Lock) (p : Seat) → IsNew r 1 p → Takes rule r [] p
new_pump rule r p new = record {
  stands = new_stands rule r 1 p new;
  number = new.pass.number;
  kinds = subst (AreOf is_pumps) (sym new.mine) tt;
  front = (items_sent (history r.base p.view.known.seen), refl);
  count = sym (ap flushes new.mine);
}

new_workers : (rule : HandlerRule) (r : Lock) (k : ℕ) (ps rest : List Seat) → ((i : ℕ) (p : Seat) → get_elem? (ps ++ rest) i ≡ some p → IsNew r (k + i) p) → AreWorkers rule r ps
new_workers rule r k [] rest new = tt
new_workers rule r k (p ∷ ps) rest new = (
  record { stands = new_stands rule r (k + 0) p (new 0 p refl); kinds = subst (AreOf is_workers) (sym (new 0 p refl).mine) tt },
  new_workers rule r (k + 1) ps rest (λ i q at. subst (λ n. IsNew r n q) (omega arith) (new (suc i) q at)),
)

-- the passes of a table that was just made
pub record AreNew (r : Lock) (p0 p1 pw : Seat) (ps : List Seat) (rule : HandlerRule) : Type 0 where
  pub reader : IsNew r 0 p0
  pub pump : IsNew r 1 p1
  pub workers : AreWorkers rule r ps
  pub writer : IsNew r (length ps + 2) pw

pub given_out : (rule : HandlerRule) (r : Lock) (p0 p1 pw : Seat) (ps : List Seat) → AreAll r (IsNew r) (p0 ∷ p1 ∷ (ps ++ pw ∷ [])) → AreNew r p0 p1 pw ps rule
given_out rule r p0 p1 pw ps all = record {
  reader = all.each 0 p0 refl;
  pump = all.each 1 p1 refl;
  workers = new_workers rule r 2 ps (pw ∷ []) (λ i p at. subst (λ n. IsNew r n p) (omega arith) (all.each (suc (suc i)) p at));
  writer = subst (λ n. IsNew r n pw) (omega arith) (all.each (suc (suc (length ps))) pw (at_last ps pw (length ps) refl));
}

-- ---- and back

worked_back : (rule : HandlerRule) (r : Lock) (ps qs : List Seat) → AllWorked rule r ps qs → AreBack ps qs
worked_back rule r [] [] worked = record { count = refl; each = λ k p at. absurd (cc at) }
worked_back rule r [] (q ∷ qs) worked = absurd worked
worked_back rule r (p ∷ ps) [] worked = absurd worked
worked_back rule r (p ∷ ps) (q ∷ qs) worked =
    let rest = worked_back rule r ps qs worked.1 in
    record { count = ap suc rest.count; each = each rest }
  where
    each : AreBack ps qs → (k : ℕ) (x : Seat) → get_elem? (p ∷ ps) k ≡ some x → (y : Seat) × (get_elem? (q ∷ qs) k ≡ some y) × IsSame x y × (y.view.holds ≡ false)
    each rest zero x at = (q, refl, subst (λ z. IsSame z q) (some-injective p x at) worked.0.1, worked.0.0.stands.own.idle)
    each rest (suc k) x at = rest.each k x at

in_front : (p q : Seat) (ps qs : List Seat) → AreBack ps qs → IsSame p q → q.view.holds ≡ false → AreBack (p ∷ ps) (q ∷ qs)
in_front p q ps qs back same idle = record { count = ap suc back.count; each = each }
  where
    each : (k : ℕ) (x : Seat) → get_elem? (p ∷ ps) k ≡ some x → (y : Seat) × (get_elem? (q ∷ qs) k ≡ some y) × IsSame x y × (y.view.holds ≡ false)
    each zero x at = (q, refl, subst (λ z. IsSame z q) (some-injective p x at) same, idle)
    each (suc k) x at = back.each k x at

pub all_worked : (rule : HandlerRule) (r : Lock) (ps qs : List Seat) → AllWorked rule r ps qs → AreWorkers rule r qs
all_worked rule r [] [] worked = tt
all_worked rule r [] (q ∷ qs) worked = absurd worked
all_worked rule r (p ∷ ps) [] worked = absurd worked
all_worked rule r (p ∷ ps) (q ∷ qs) worked = (worked.0.0, all_worked rule r ps qs worked.1)

pub all_idle_again : (rule : HandlerRule) (r : Lock) (p0 p1 pw q0 q1 qw : Seat) (ps qs : List Seat) → AreAll r (IsNew r) (p0 ∷ p1 ∷ (ps ++ pw ∷ []))
    → IsSame p0 q0 → q0.view.holds ≡ false → IsSame p1 q1 → q1.view.holds ≡ false → AllWorked rule r ps qs → IsSame pw qw → qw.view.holds ≡ false
    → AreAll r (IsIdle r) (q0 ∷ q1 ∷ (qs ++ qw ∷ []))
all_idle_again rule r p0 p1 pw q0 q1 qw ps qs all same0 idle0 same1 idle1 worked samew idlew =
    all_back r (p0 ∷ p1 ∷ (ps ++ pw ∷ [])) (q0 ∷ q1 ∷ (qs ++ qw ∷ [])) all
    (in_front p0 q0 (p1 ∷ (ps ++ pw ∷ [])) (q1 ∷ (qs ++ qw ∷ []))
    (in_front p1 q1 (ps ++ pw ∷ []) (qs ++ qw ∷ []) (one_more_back ps qs pw qw (worked_back rule r ps qs worked) samew idlew) same1 idle1) same0 idle0)

-- ---- a place in a list of passes

there_or_past : (l : List Seat) (k : ℕ) → ((q : Seat) × (get_elem? l k ≡ some q)) ⊎ (length l ≤ k)
there_or_past [] k = inr (omega arith)
there_or_past (q ∷ l) zero = inl (q, refl)
there_or_past (q ∷ l) (suc k) = at (there_or_past l k)
  where
    at : ((x : Seat) × (get_elem? l k ≡ some x)) ⊎ (length l ≤ k) → ((x : Seat) × (get_elem? (q ∷ l) (suc k) ≡ some x)) ⊎ (length (q ∷ l) ≤ suc k)
    at (inl there) = inl there
    at (inr past) = inr (omega (arith, past))

place_below : (l : List Seat) (k : ℕ) (q : Seat) → get_elem? l k ≡ some q → k < length l
place_below [] k q at = absurd (cc at)
place_below (x ∷ l) zero q at = omega arith
place_below (x ∷ l) (suc k) q at = omega (arith, place_below l k q at)

worker_at : (rule : HandlerRule) (r : Lock) (qs : List Seat) (k : ℕ) (q : Seat) → AreWorkers rule r qs → get_elem? qs k ≡ some q → Worker rule r q
worker_at rule r [] k q all at = absurd (cc at)
worker_at rule r (x ∷ qs) zero q all at = subst (Worker rule r) (some-injective x q at) all.0
worker_at rule r (x ∷ qs) (suc k) q all at = worker_at rule r qs k q all.1 at

-- ---- what the threads have ended with, once the table is closed

pub record Closed (rule : HandlerRule) (r : Lock) (workers : ℕ) (q0 q1 qw : Seat) (qs : List Seat) (t : Table) : Type 0 where
  pub reader : ReaderEnded rule r q0
  pub flushed : List Item
  pub pump : Takes rule r flushed q1
  pub worked : AreWorkers rule r qs
  pub writer : Stands rule r qw
  pub stops : AreOf is_stop qw.view.known.mine
  pub fits : AllFit log_of seat_of base_of (q0 ∷ q1 ∷ (qs ++ qw ∷ [])) t
  pub count : length qs ≡ workers
  pub numbers : (k : ℕ) (q : Seat) → get_elem? (q0 ∷ q1 ∷ (qs ++ qw ∷ [])) k ≡ some q → q.view.known.number ≡ k
  pub legal : IsLegal rule r.base t.entries

module _ (rule : HandlerRule) (r : Lock) (workers : ℕ) (q0 q1 qw : Seat) (qs : List Seat) (t : Table) (c : Closed rule r workers q0 q1 qw qs t) where
  abbrev seats : List Seat
  seats = q0 ∷ q1 ∷ (qs ++ qw ∷ [])

  reader_fits : FitsValue log_of seat_of base_of 0 q0 t
  reader_fits = c.fits.each 0 q0 refl

  pump_fits : FitsValue log_of seat_of base_of 1 q1 t
  pump_fits = c.fits.each 1 q1 refl

  pub pump_begins : IsPrefix q1.view.known.seen t.entries
  pump_begins = pump_fits.begins

  -- one of the passes, and what it is
  record Part (k : ℕ) (q : Seat) : Type 0 where
    stands : Stands rule r q
    fits : FitsValue log_of seat_of base_of k q t
    entries : AllByRecursion (λ e. is_entry_of workers k e.kind ≡ true) q.view.known.mine
    wants : (q ≡ qw) ⊎ ((why : Why) → HaltsFor why q.view.known.mine → is_want why ≡ true)

  want_halts : (why : Why) → is_want why ≡ true → is_halting why ≡ true
  want_halts JournalLimit is = refl
  want_halts Memory is = refl
  want_halts _ is = absurd (cc is)

  all_of : (k : ℕ) (test : EntryKind → Bool) → ((kind : EntryKind) → test kind ≡ true → is_entry_of workers k kind ≡ true) → (es : List Entry) → AreOf test es → AllByRecursion (λ e. is_entry_of workers k e.kind ≡ true) es
  all_of k test wider [] kinds = tt
  all_of k test wider (e ∷ es) kinds = (wider e.kind kinds.0, all_of k test wider es kinds.1)

  wants_of : (test : EntryKind → Bool) → ((why : Why) → test (Halt why) ≡ true → is_want why ≡ true) → (why : Why) (es : List Entry) → AreOf test es → HaltsFor why es → is_want why ≡ true
  wants_of test wants why [] kinds halts = absurd halts
  wants_of test wants why (e ∷ es) kinds (inl is) = wants why (subst (λ kind. test kind ≡ true) is kinds.0)
  wants_of test wants why (e ∷ es) kinds (inr later) = wants_of test wants why es kinds.1 later

  reads_own : (kind : EntryKind) → is_readers kind ≡ true → is_entry_of workers 0 kind ≡ true
  reads_own (Arrive p) is = refl
  reads_own EndIn is = refl
  reads_own (Start k) is = refl
  reads_own (Finish k a) is = refl
  reads_own (Halt why) is = want_halts why is
  reads_own _ is = absurd (cc is)

  pumps_own : (kind : EntryKind) → is_pumps kind ≡ true → is_entry_of workers 1 kind ≡ true
  pumps_own (Tick now) is = refl
  pumps_own Flush is = refl
  pumps_own (Halt why) is = want_halts why is
  pumps_own _ is = absurd (cc is)

  runs_own : (k : ℕ) → k < workers → runs_handlers workers (suc (suc k)) ≡ true
  runs_own k below =
      rw (ne_eqb (suc (suc k)) 0 (λ is. absurd (omega (arith, is))), le-leb 2 (suc (suc k)) (omega arith), le-leb (suc (suc k)) (workers + 1) (omega (arith, below))) refl

  works_own : (k : ℕ) → k < workers → (kind : EntryKind) → is_workers kind ≡ true → is_entry_of workers (suc (suc k)) kind ≡ true
  works_own k below (Start x) is = runs_own k below
  works_own k below (Finish x a) is = runs_own k below
  works_own k below (Halt why) is = want_halts why is
  works_own k below _ is = absurd (cc is)

  stops_own : (k : ℕ) (kind : EntryKind) → is_stop kind ≡ true → is_entry_of workers k kind ≡ true
  stops_own k (Halt why) is = is
  stops_own k _ is = absurd (cc is)

  part_at : (k : ℕ) (q : Seat) → get_elem? seats k ≡ some q → Part k q
  part_at zero q at = subst (Part 0) (some-injective q0 q at)
      (record {
        stands = c.reader.stands;
        fits = reader_fits;
        entries = all_of 0 is_readers reads_own q0.view.known.mine c.reader.kinds;
        wants = inr (λ why halts. wants_of is_readers (λ why is. is) why q0.view.known.mine c.reader.kinds halts);
      })
  part_at (suc zero) q at = subst (Part 1) (some-injective q1 q at)
      (record {
        stands = c.pump.stands;
        fits = pump_fits;
        entries = all_of 1 is_pumps pumps_own q1.view.known.mine c.pump.kinds;
        wants = inr (λ why halts. wants_of is_pumps (λ why is. is) why q1.view.known.mine c.pump.kinds halts);
      })
  part_at (suc (suc k)) q at = by_place (at_end qs qw q k at)
    where
      by_place : (get_elem? qs k ≡ some q) ⊎ ((k ≡ length qs) × (qw ≡ q)) → Part (suc (suc k)) q
      by_place (inl there) =
          let worker = worker_at rule r qs k q c.worked there in
          record {
            stands = worker.stands;
            fits = c.fits.each (suc (suc k)) q at;
            entries = all_of (suc (suc k)) is_workers (works_own k (omega (arith, place_below qs k q there, c.count))) q.view.known.mine worker.kinds;
            wants = inr (λ why halts. wants_of is_workers (λ why is. is) why q.view.known.mine worker.kinds halts);
          }
      by_place (inr last) = subst (Part (suc (suc k))) last.1
          (record {
            stands = c.writer;
            fits = c.fits.each (suc (suc k)) qw (subst (λ x. get_elem? seats (suc (suc k)) ≡ some x) (sym last.1) at);
            entries = all_of (suc (suc k)) is_stop (stops_own (suc (suc k))) qw.view.known.mine c.stops;
            wants = inl refl;
          })

  -- ---- the kinds of entries

  with_seat : (k : ℕ) (es : List Entry) → AllBy seat_of k es → AllByRecursion (λ e. is_entry_of workers k e.kind ≡ true) es → AllByRecursion (λ e. is_entry_of workers e.seat e.kind ≡ true) es
  with_seat k [] own kinds = tt
  with_seat k (e ∷ es) own kinds = (subst (λ seat. is_entry_of workers seat e.kind ≡ true) (sym own.0) kinds.0, with_seat k es own.1 kinds.1)

  pub session_kinds : AreOfSession workers t.entries
  session_kinds = all_by_maker seat_of (λ e. is_entry_of workers e.seat e.kind ≡ true) t.entries (λ k. at k (there_or_past seats k))
    where
      at : (k : ℕ) → ((q : Seat) × (get_elem? seats k ≡ some q)) ⊎ (length seats ≤ k) → AllByRecursion (λ e. is_entry_of workers e.seat e.kind ≡ true) (made_by seat_of k t.entries)
      at k (inl there) =
          let part = part_at k there.0 there.1 in
          with_seat k (made_by seat_of k t.entries) (made_by-own seat_of k t.entries)
          (subst (λ es. AllByRecursion (λ e. is_entry_of workers k e.kind ≡ true) es) (sym part.fits.own) part.entries)
      at k (inr past) = subst (λ es. AllByRecursion (λ e. is_entry_of workers e.seat e.kind ≡ true) es) (sym (c.fits.no_others k past)) tt

  -- ---- Halts

  pub all_late : AreLate t.entries
  all_late k front back is = at (there_or_past seats k)
    where
      at : ((q : Seat) × (get_elem? seats k ≡ some q)) ⊎ (length seats ≤ k) → MAX_ENTRIES ≤ length front
      at (inl there) =
          let part = part_at k there.0 there.1 in
          let late : IsLate k there.0.view.known.seen = subst (λ n. IsLate n there.0.view.known.seen) (c.numbers k there.0 there.1) part.stands.late in
          late_still k there.0.view.known.seen t.entries part.fits.begins (part.fits.own ∙ sym part.fits.shown) late front back is
      at (inr past) = absurd (own_there k (Halt JournalLimit) front back (ap (made_by seat_of k) (sym is) ∙ c.fits.no_others k past))

  halts_in : (es : List Entry) (why : Why) → halt_reason (deeds_of r.base es) ≡ Some why → HaltsFor why es
  halts_in [] why is = absurd (cc is)
  halts_in (e ∷ es) why is = at e.kind refl is (halts_in es why)
    where
      at : (kind : EntryKind) → e.kind ≡ kind → or_else (reason_of kind) (halt_reason (deeds_of r.base es)) ≡ Some why
          → (halt_reason (deeds_of r.base es) ≡ Some why → HaltsFor why es) → (e.kind ≡ Halt why) ⊎ HaltsFor why es
      at (Halt reason) same now later = inl (same ∙ ap Halt (cc now))
      at _ same now later = inr (later now)

  halts-append : (why : Why) (xs ys : List Entry) → HaltsFor why (xs ++ ys) → HaltsFor why xs ⊎ HaltsFor why ys
  halts-append why [] ys halts = inr halts
  halts-append why (x ∷ xs) ys (inl is) = inl (inl is)
  halts-append why (x ∷ xs) ys (inr later) = at (halts-append why xs ys later)
    where
      at : HaltsFor why xs ⊎ HaltsFor why ys → HaltsFor why (x ∷ xs) ⊎ HaltsFor why ys
      at (inl halts) = inl (inr halts)
      at (inr halts) = inr halts

  in_first : (why : Why) (xs ys : List Entry) → HaltsFor why xs → HaltsFor why (xs ++ ys)
  in_first why [] ys halts = absurd halts
  in_first why (x ∷ xs) ys (inl is) = inl is
  in_first why (x ∷ xs) ys (inr later) = inr (in_first why xs ys later)

  in_second : (why : Why) (xs ys : List Entry) → HaltsFor why ys → HaltsFor why (xs ++ ys)
  in_second why [] ys halts = halts
  in_second why (x ∷ xs) ys halts = inr (in_second why xs ys halts)

  halts_turned : (why : Why) (es : List Entry) → HaltsFor why (reverse es) → HaltsFor why es
  halts_turned why [] halts = halts
  halts_turned why (e ∷ es) halts = at (halts-append why (reverse es) (e ∷ []) (subst (HaltsFor why) (reverse-append (e ∷ []) es) halts)) (halts_turned why es)
    where
      at : HaltsFor why (reverse es) ⊎ HaltsFor why (e ∷ []) → (HaltsFor why (reverse es) → HaltsFor why es) → HaltsFor why (e ∷ es)
      at (inl later) turned = inr (turned later)
      at (inr (inl is)) turned = inl is
      at (inr (inr none)) turned = absurd none

  halts_by : (why : Why) (es : List Entry) → HaltsFor why es → (k : ℕ) × HaltsFor why (made_by seat_of k es)
  halts_by why [] halts = absurd halts
  halts_by why (e ∷ es) (inl is) =
      let one : made_by seat_of e.seat (e ∷ es) ≡ e ∷ made_by seat_of e.seat es = rw (eq-eqb e.seat e.seat refl) refl in
      (e.seat, subst (HaltsFor why) (sym one) (inl is))
  halts_by why (e ∷ es) (inr later) = let rest = halts_by why es later in (rest.0, at rest.0 (e.seat == rest.0) rest.1)
    where
      at : (k : ℕ) (b : Bool) → HaltsFor why (made_by seat_of k es) → HaltsFor why (if b then e ∷ made_by seat_of k es else made_by seat_of k es)
      at k true halts = inr halts
      at k false halts = halts

  -- a Halt for another reason than want is the writer's
  pub writers_halt : (why : Why) → is_want why ≡ false → halt_reason (history r.base t.entries) ≡ Some why → HaltsFor why qw.view.known.mine
  writers_halt why other is =
      let found = halts_by why t.entries (halts_turned why t.entries (halts_in (reverse t.entries) why is)) in
      at found.0 found.1 (there_or_past seats found.0)
    where
      at : (k : ℕ) → HaltsFor why (made_by seat_of k t.entries) → ((q : Seat) × (get_elem? seats k ≡ some q)) ⊎ (length seats ≤ k) → HaltsFor why qw.view.known.mine
      at k halts (inr past) = absurd (subst (HaltsFor why) (c.fits.no_others k past) halts)
      at k halts (inl there) = whose (part_at k there.0 there.1).wants (subst (HaltsFor why) (part_at k there.0 there.1).fits.own halts)
        where
          whose : (there.0 ≡ qw) ⊎ ((reason : Why) → HaltsFor reason there.0.view.known.mine → is_want reason ≡ true) → HaltsFor why there.0.view.known.mine → HaltsFor why qw.view.known.mine
          whose (inl last) own = subst (λ q. HaltsFor why q.view.known.mine) last own
          whose (inr wants) own = absurd (true≢false (sym (wants why own) ∙ other))

  halting_in : (es : List Entry) (why : Why) → AllByRecursion (λ e. is_entry_of workers e.seat e.kind ≡ true) es → HaltsFor why es → is_halting why ≡ true
  halting_in [] why kinds halts = absurd halts
  halting_in (e ∷ es) why kinds (inl is) = subst (λ kind. is_entry_of workers e.seat kind ≡ true) is kinds.0
  halting_in (e ∷ es) why kinds (inr later) = halting_in es why kinds.1 later

  pub halting_reason : (why : Why) → halt_reason (history r.base t.entries) ≡ Some why → is_halting why ≡ true
  halting_reason why is = halting_in t.entries why session_kinds (halts_turned why t.entries (halts_in (reverse t.entries) why is))

  -- what a pass saw halted is so
  halted_since : (seen : List Entry) → IsPrefix seen t.entries → is_halted r.base seen ≡ true → is_halted r.base t.entries ≡ true
  halted_since seen begins halted = at (halt_reason (history r.base seen)) refl halted
    where
      at : (o : Option Why) → halt_reason (history r.base seen) ≡ o → is_some o ≡ true → is_halted r.base t.entries ≡ true
      at None is none = absurd (false≢true none)
      at (Some why) is none =
          ap is_some
          (subst (λ h. halt_reason (history r.base h) ≡ Some why) begins.1
          (halt_stays r.base seen begins.0 why (subst (IsLawful r.base) (sym begins.1) c.legal.lawful) is))

  pub reader_halted : is_halted r.base q0.view.known.seen ≡ true → is_halted r.base t.entries ≡ true
  reader_halted halted = halted_since q0.view.known.seen reader_fits.begins halted

  pub pump_halted_too : is_halted r.base q1.view.known.seen ≡ true → is_halted r.base t.entries ≡ true
  pump_halted_too halted = halted_since q1.view.known.seen pump_fits.begins halted

  pub writer_halted_too : is_halted r.base qw.view.known.seen ≡ true → is_halted r.base t.entries ≡ true
  writer_halted_too halted =
      halted_since qw.view.known.seen (c.fits.each (suc (suc (length qs))) qw (at_last qs qw (length qs) refl)).begins halted

  -- ---- arrivals, flushes and moments

  pub session_arrivals : arrivals t.entries ≡ arrivals q0.view.known.mine
  session_arrivals = arrivals_of_seat r.base t.entries c.legal.lawful ∙ ap arrivals reader_fits.own

  pub session_flushes : flush_count (history r.base t.entries) ≡ length c.flushed
  session_flushes = flushes_count r.base t.entries ∙ (flushes_of_seat r.base t.entries c.legal.lawful ∙ (ap flushes pump_fits.own ∙ sym c.pump.count))

  pub session_moments : moments t.entries ≡ moments q1.view.known.mine
  session_moments = moments_of_seat r.base t.entries c.legal.lawful ∙ ap moments pump_fits.own

  -- the items flushed are a beginning of the journal's, and fewer than its entries
  pub flushed_begin : IsPrefix c.flushed (items_sent (history r.base t.entries))
  flushed_begin =
      prefix_trans c.flushed (items_sent (history r.base q1.view.known.seen)) (items_sent (history r.base t.entries)) c.pump.front
      (subst (λ h. IsPrefix (items_sent (history r.base q1.view.known.seen)) (items_sent (history r.base h))) pump_fits.begins.1
      (items_begin r.base q1.view.known.seen pump_fits.begins.0))

  few_flushes : (h : List Entry) → flushes h ≤ length h
  few_flushes [] = omega arith
  few_flushes (e ∷ h) = at (is_flush e.kind) (few_flushes h)
    where
      at : (b : Bool) → flushes h ≤ length h → (if b then flushes h + 1 else flushes h) ≤ length (e ∷ h)
      at true few = omega (arith, few)
      at false few = omega (arith, few)

  pub few_flushed : length c.flushed ≤ length t.entries
  few_flushed = subst (λ n. n ≤ length t.entries) (sym (flushes_count r.base t.entries) ∙ session_flushes) (few_flushes t.entries)

  -- ---- nothing follows what is settled

  serves : (seat : ℕ) (kind : EntryKind) → is_entry_of workers seat kind ≡ true → is_serving kind ≡ true
  serves seat (Arrive p) is = refl
  serves seat EndIn is = refl
  serves seat (Tick now) is = refl
  serves seat Flush is = refl
  serves seat (Start k) is = refl
  serves seat (Finish k a) is = refl
  serves seat (Halt why) is = refl
  serves seat _ is = absurd (cc is)

  all_serve : (es : List Entry) → AreOfSession workers es → AllByRecursion (λ e. is_serving e.kind ≡ true) es
  all_serve [] kinds = tt
  all_serve (e ∷ es) kinds = (serves e.seat e.kind kinds.0, all_serve es kinds.1)

  unhalted : (o : Option Why) → is_some o ≡ false → o ≡ None
  unhalted None is = refl
  unhalted (Some why) is = absurd (true≢false is)

  pub settled_whole : is_settled (history r.base q1.view.known.seen) ≡ true → is_halted r.base t.entries ≡ false → q1.view.known.seen ≡ t.entries
  settled_whole settled calm =
      let begins = pump_fits.begins in
      let none : begins.0 ≡ [] =
      settled_ends r.base q1.view.known.seen begins.0 (subst (IsLawful r.base) (sym begins.1) c.legal.lawful) settled
      (all_serve begins.0 (all_second (λ e. is_entry_of workers e.seat e.kind ≡ true) q1.view.known.seen begins.0 (subst (AreOfSession workers) (sym begins.1) session_kinds)))
      (subst (λ h. halt_reason (history r.base h) ≡ None) (sym begins.1) (unhalted (halt_reason (history r.base t.entries)) calm))
      (none_behind seat_of 1 q1.view.known.seen begins.0 (ap (made_by seat_of 1) begins.1 ∙ (pump_fits.own ∙ sym pump_fits.shown))) in
      sym (append-nil q1.view.known.seen) ∙ (ap (λ es. q1.view.known.seen ++ es) (sym none) ∙ begins.1)

  pub settled_items : is_settled (history r.base t.entries) ≡ true → c.flushed ≡ items_sent (history r.base t.entries)
  settled_items settled =
      prefix_whole c.flushed (items_sent (history r.base t.entries)) flushed_begin
      (omega (arith, sym session_flushes, eqb-true (flush_count (history r.base t.entries)) (length (items_sent (history r.base t.entries))) (and_parts _ _ settled).1))

-- ---- through the ring

pub cut_parcels : (xs ys : List Item) (rest : List Parcel) → parcels xs ++ rest ≡ parcels ys → IsPrefix xs ys
cut_parcels [] ys rest is = (ys, refl)
cut_parcels (x ∷ xs) [] rest is = absurd (cc is)
cut_parcels (x ∷ xs) (y ∷ ys) rest is = let more = cut_parcels xs ys rest (cc is) in (more.0, cc (is, more.1))

pub cut_closed : (xs ys : List Item) (rest : List Parcel) → parcels xs ++ rest ≡ closed ys → IsPrefix xs ys
cut_closed [] ys rest is = (ys, refl)
cut_closed (x ∷ xs) [] rest is = absurd (cc is)
cut_closed (x ∷ xs) (y ∷ ys) rest is = let more = cut_closed xs ys rest (cc is) in (more.0, cc (is, more.1))

all_came : (xs ys : List Item) (rest : List Parcel) → closed xs ++ rest ≡ closed ys → xs ≡ ys
all_came [] [] rest is = refl
all_came [] (y ∷ ys) rest is = absurd (cc is)
all_came (x ∷ xs) [] rest is = absurd (cc is)
all_came (x ∷ xs) (y ∷ ys) rest is = let more = all_came xs ys rest (cc is) in cc (is, more)

module _ (rule : HandlerRule) (r : Lock) (w0 w : Option (List ℕ)) (d0 d : Option Stored) (l0 l : ItemLog) (put got known : List Parcel) (done : ℕ) (q1 qw : Seat)
    (x : PumpEnded rule r put q1) (y : WriterEnded rule r w0 w d0 d l0 l got done qw) (fifo : got ++ known ≡ put) where
  abbrev m : MakesSome w0 w d0 d l0 l y.came 0 done
  m = y.makes

  -- what was received is a beginning of what was flushed
  came_begin : IsPrefix y.came x.items
  came_begin = at x.cause y.received
    where
      closing : closed y.came ++ known ≡ parcels y.came ++ (End ∷ [] ++ known)
      closing = append_assoc (parcels y.came) (End ∷ []) known

      within : (more : List Parcel) → got ++ known ≡ parcels y.came ++ more
          → ((put ≡ closed x.items) × (is_settled (history r.base q1.view.known.seen) ≡ true)) ⊎ ((hand : List Parcel) × (put ++ hand ≡ parcels x.items) × (is_halted r.base q1.view.known.seen ≡ true))
          → IsPrefix y.came x.items
      within more is (inl whole) = cut_closed y.came x.items more (sym is ∙ (fifo ∙ whole.0))
      within more is (inr cut_short) =
          cut_parcels y.came x.items (more ++ cut_short.0)
          (sym (append_assoc (parcels y.came) more cut_short.0) ∙ (ap (λ ps. ps ++ cut_short.0) (sym is ∙ fifo) ∙ cut_short.1))

      at : ((put ≡ closed x.items) × (is_settled (history r.base q1.view.known.seen) ≡ true)) ⊎ ((hand : List Parcel) × (put ++ hand ≡ parcels x.items) × (is_halted r.base q1.view.known.seen ≡ true))
          → (got ≡ parcels y.came) ⊎ (got ≡ closed y.came) → IsPrefix y.came x.items
      at cause (inl unended) = within known (ap (λ ps. ps ++ known) unended) cause
      at cause (inr end) = within (End ∷ [] ++ known) (ap (λ ps. ps ++ known) end ∙ closing) cause

  pub made_begin : IsPrefix (m.items ++ m.rest) x.items
  made_begin = subst (λ items. IsPrefix items x.items) m.parts came_begin

  pub few_made : length m.items ≤ length x.items
  few_made = omega (arith, prefix_length (m.items ++ m.rest) x.items made_begin, length-append m.items m.rest)

  -- where neither met a halt, all was made
  pub record AllMade : Type 0 where
    pub same : m.items ≡ x.items
    pub none : m.rest ≡ []
    pub settled : is_settled (history r.base q1.view.known.seen) ≡ true

  pub made_all : (is_halted r.base q1.view.known.seen ≡ true → ⊥) → (is_halted r.base qw.view.known.seen ≡ true → ⊥) → AllMade
  made_all calm1 calmw = at x.cause y.cause
    where
      at : ((put ≡ closed x.items) × (is_settled (history r.base q1.view.known.seen) ≡ true)) ⊎ ((hand : List Parcel) × (put ++ hand ≡ parcels x.items) × (is_halted r.base q1.view.known.seen ≡ true))
          → ((got ≡ closed y.came) × (m.rest ≡ [])) ⊎ (is_halted r.base qw.view.known.seen ≡ true) → AllMade
      at (inl whole) (inl end) = record {
        same =
            sym (m.parts ∙ (ap (λ rest. m.items ++ rest) end.1 ∙ append-nil m.items))
            ∙ all_came y.came x.items known (ap (λ ps. ps ++ known) (sym end.0) ∙ (fifo ∙ whole.0));
        none = end.1;
        settled = whole.1;
      }
      at (inl whole) (inr halted) = absurd (calmw halted)
      at (inr cut_short) end = absurd (calm1 cut_short.2)

-- no end stands among items
no_end : (xs ys : List Item) (rest : List Parcel) → closed xs ++ rest ≡ parcels ys → ⊥
no_end [] [] rest is = cc is
no_end [] (y ∷ ys) rest is = cc is
no_end (x ∷ xs) [] rest is = cc is
no_end (x ∷ xs) (y ∷ ys) rest is = no_end xs ys rest (cc is)

-- where the end came through the ring the table was settled
pub settled_then : (rule : HandlerRule) (r : Lock) (put got known : List Parcel) (q1 : Seat) → PumpEnded rule r put q1 → got ++ known ≡ put → HasEnd got → is_settled (history r.base q1.view.known.seen) ≡ true
settled_then rule r put got known q1 x fifo end = at x.cause
  where
    at : ((put ≡ closed x.items) × (is_settled (history r.base q1.view.known.seen) ≡ true)) ⊎ ((hand : List Parcel) × (put ++ hand ≡ parcels x.items) × (is_halted r.base q1.view.known.seen ≡ true))
        → is_settled (history r.base q1.view.known.seen) ≡ true
    at (inl whole) = whole.1
    at (inr cut) =
        absurd (no_end end.0 x.items (known ++ cut.0)
        (sym (append_assoc (closed end.0) known cut.0) ∙ (ap (λ ps. (ps ++ known) ++ cut.0) (sym end.1) ∙ (ap (λ ps. ps ++ cut.0) fifo ∙ cut.1))))
