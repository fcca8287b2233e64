-- The clauses of a session.
use Rattle.std.proofs.Common.{◌≡◌, ◌⊎◌, ℕ, ◌+◌, ◌<◌, ◌≤◌, ◌^◌, Bool, true, false, List, [], ◌∷◌, ◌++◌, length, take, drop, Option, Some, None, is_some, is_none, refl, ap, sym, ◌∙◌, subst, inl, inr, arith, append_assoc, length-append, length-take, take-append-drop}
use Rattle.std.proofs.lemmas.Bool.{false≢true, true≢false}
use Rattle.std.proofs.lemmas.List.{append-nil}
use Rattle.std.specs.Io.KnownBytes.{Appends, IsAtEnd}
use mathlib.Core.List.{IsPrefix}
use Rattle.entry_lists.proofs.Prefixes.{prefix_length, prefix_trans}
use Rattle.link_io.specs.declared.reading.Ending.{Ending}
use Rattle.link_io.specs.declared.reading.Ending.TheVariants.{AtEnd, AtLimit, Failed}
use Rattle.link_io.specs.declared.why.Why.{Why}
use Rattle.link_io.specs.declared.why.Why.TheVariants.{Settled, Source, Sink, Store, InputLimit, Memory}
use Rattle.link_io.specs.Stored.{Stored}
use Rattle.turn_cell.specs.Passes.{AllFit, AreAll, IsIdle, IsNew, IsSame}
use Rattle.rpc_ids.specs.declared.method.Role.TheVariants.{Server}
use Rattle.rpc_handlers.specs.HandlerRule.{HandlerRule}
use Rattle.rpc_frames.specs.declared.counts.Counts.{Counts}
use Rattle.rpc_frames.specs.Heard.{counts_of, heard_packets}
use Rattle.rpc_frames.specs.Listening.{HasHeard, Listening}
use Rattle.rpc_frames.proofs.Growing.{packets_begin}
use Rattle.rpc_journal.specs.History.{history}
use Rattle.rpc_journal.specs.Items.{arrivals, halt_reason, items_sent, moments}
use Rattle.rpc_journal.specs.Laws.{seat_of}
use Rattle.rpc_journal.specs.Lawful.{IsLegal}
use Rattle.rpc_journal.specs.Quiet.{is_settled}
use Rattle.rpc_journal.specs.CallTable.{Table}
use Rattle.rpc_schedule.specs.declared.stream.TheConstants.{INPUT_LIMIT}
use Rattle.rpc_schedule.specs.Kept as store
use Rattle.rpc_shared.specs.Steps.{base_of, log_of}
use Rattle.rpc_shared.specs.declared.session.item_log.ItemLog.{ItemLog}
use Rattle.rpc_shared.specs.declared.session.parcel.Parcel.{Parcel}
use Rattle.rpc_shared.specs.session.Crew.{AllWorked, AreWorkers, Fed, HasRead, Lock, ReaderEnded, Seat}
use Rattle.rpc_shared.specs.session.Leaving.{LeavesLink, WriterLeaves}
use Rattle.rpc_shared.specs.session.Reasons.{reason_of, reason_read}
use Rattle.rpc_shared.specs.session.Ring.{HaltsFor, MakesSome, PumpEnded, WriterEnded}
use Rattle.rpc_shared.specs.session.Sessions.{AreSpaced, Begins, Explains, IsSessionHistory, LeavesNoneDue, TicksBetween, is_halted, is_halting, last_from, wire}
use Rattle.rpc_crew.specs.WholeFrames.{SendsWholeFrames, WritesWholeFrames}
use Rattle.rpc_crew.proofs.WholeFrames.{frames_begin}
use Rattle.rpc_crew.proofs.PumpLemmas.{last_earlier, spaced_earlier, spaced_up}
use Rattle.rpc_shared.proofs.session.SessionLemmas.{AllMade, Closed, all_idle_again, all_late, all_worked, few_flushed, few_made, flushed_begin, halting_reason, made_all, made_begin, pump_begins, pump_halted_too, reader_halted, session_arrivals, session_kinds, session_moments, settled_items, settled_then, settled_whole, writer_halted_too, writers_halt}

-- all that the threads of a session did, once its table is closed
pub record Whole (rule : HandlerRule) (r : Lock) (workers : ℕ) (left_old left_new w0 w : Option (List ℕ)) (d0 d : Option Stored) (l0 l : ItemLog) (listener : Listening) (counts : Counts) (ending : Option Ending) (read done : ℕ) (t : Table) (q0 q1 qw : Seat) (qs : List Seat) : Type 0 where
  pub put : List Parcel
  pub got : List Parcel
  pub known : List Parcel
  pub reader : ReaderEnded rule r q0
  pub has_read : HasRead r.base left_old left_new ending read listener q0
  pub pump : PumpEnded rule r put q1
  pub worked : AreWorkers rule r qs
  pub writer : WriterEnded rule r w0 w d0 d l0 l got done qw
  pub fifo : got ++ known ≡ put
  pub fits : AllFit log_of seat_of base_of (q0 ∷ q1 ∷ (qs ++ qw ∷ [])) t
  pub idle : AreAll r (IsIdle r) (q0 ∷ q1 ∷ (qs ++ qw ∷ []))
  pub count : length qs ≡ workers
  pub legal : IsLegal rule r.base t.entries
  pub counts_are : (stream : List ℕ) → HasHeard listener stream → counts ≡ counts_of listener.role stream
  pub bound : length t.entries < 2 ^ 62

module _ (rule : HandlerRule) (r : Lock) (workers : ℕ) (left_old left_new w0 w : Option (List ℕ)) (d0 d : Option Stored) (l0 l : ItemLog) (listener : Listening) (counts : Counts) (ending : Option Ending) (read done : ℕ) (t : Table) (q0 q1 qw : Seat) (qs : List Seat)
    (s : Whole rule r workers left_old left_new w0 w d0 d l0 l listener counts ending read done t q0 q1 qw qs) where
  closed : Closed rule r workers q0 q1 qw qs t
  closed = record {
    reader = s.reader;
    flushed = s.pump.items;
    pump = s.pump.takes;
    worked = s.worked;
    writer = s.writer.stands;
    stops = s.writer.kinds;
    fits = s.fits;
    count = s.count;
    numbers = λ k q at. (s.idle.each k q at).pass.number;
    legal = s.legal;
  }

  abbrev m : MakesSome w0 w d0 d l0 l s.writer.came 0 done
  m = s.writer.makes

  few : length m.items ≤ length t.entries
  unfolding closed
  few = omega (arith, few_made rule r w0 w d0 d l0 l s.put s.got s.known done q1 qw s.pump s.writer s.fifo, few_flushed rule r workers q0 q1 qw qs t closed)

  exact : done ≡ length m.items
  exact = let h = few in let b = s.bound in omega (arith, m.counted, h, b)

  first_of_rest : IsPrefix (m.items ++ take 1 m.rest) (m.items ++ m.rest)
  first_of_rest = (drop 1 m.rest, append_assoc m.items (take 1 m.rest) (drop 1 m.rest) ∙ ap (λ items. m.items ++ items) (take-append-drop 1 m.rest))

  sent : IsPrefix (m.items ++ take 1 m.rest) (items_sent (history r.base t.entries))
  unfolding closed
  sent =
      prefix_trans (m.items ++ take 1 m.rest) (m.items ++ m.rest) (items_sent (history r.base t.entries)) first_of_rest
      (prefix_trans (m.items ++ m.rest) s.pump.items (items_sent (history r.base t.entries))
      (made_begin rule r w0 w d0 d l0 l s.put s.got s.known done q1 qw s.pump s.writer s.fifo) (flushed_begin rule r workers q0 q1 qw qs t closed))

  arrived : IsPrefix (arrivals t.entries) (heard_packets Server s.has_read.cut.fed)
  arrived =
      subst (λ ps. IsPrefix ps (heard_packets Server s.has_read.cut.fed)) (sym (session_arrivals rule r workers q0 q1 qw qs t closed)) s.has_read.cut.arrived

  pub begins : Begins r.base left_old left_new w0 w d0 d counts read done m.items t.entries
  begins =
      let cut = s.has_read.cut in
      record {
        bytes = s.has_read.bytes;
        fed = cut.fed;
        taken = s.has_read.taken;
        count = s.has_read.count;
        limit = s.has_read.within;
        within = cut.within;
        arrived = arrived;
        heard =
            prefix_trans (arrivals t.entries) (heard_packets Server cut.fed) (heard_packets Server s.has_read.bytes) arrived
            (subst (λ bytes. IsPrefix (heard_packets Server cut.fed) (heard_packets Server bytes)) cut.within.1 (packets_begin Server cut.fed cut.within.0));
        counts_are = s.counts_are cut.fed cut.listener ∙ ap (λ role. counts_of role cut.fed) cut.role;
        next = take 1 m.rest;
        part = m.part;
        sent = sent;
        one = omega (arith, length-take 1 m.rest);
        begun = (m.begun.unwritten, m.begun.begins);
        unfinished = λ whole. m.begun.unmade (none_behind m.part m.begun.unwritten (m.begun.begins ∙ sym whole));
        written = m.written;
        stored = m.stored;
        counted = exact;
      }
    where
      none_behind : (xs ys : List ℕ) → xs ++ ys ≡ xs → ys ≡ []
      none_behind [] ys is = is
      none_behind (x ∷ xs) ys is = none_behind xs ys (cc is)

  no_part : m.rest ≡ [] → m.part ≡ []
  no_part none = nothing m.part m.begun.unwritten (m.begun.begins ∙ ap (λ rest. wire (take 1 rest)) none)
    where
      nothing : (part more : List ℕ) → part ++ more ≡ [] → part ≡ []
      nothing [] more is = refl
      nothing (b ∷ part) more is = absurd (cc is)

  pub explains : is_halted r.base t.entries ≡ false → Explains r.base left_old left_new w0 w d0 d counts read done t.entries
  unfolding closed
  explains calm = at s.has_read.cause
    where
      no_halt : {A : Type 0} → is_halted r.base t.entries ≡ true → A
      no_halt halted = absurd (true≢false (sym halted ∙ calm))

      made : AllMade rule r w0 w d0 d l0 l s.put s.got s.known done q1 qw s.pump s.writer s.fifo
      made = made_all rule r w0 w d0 d l0 l s.put s.got s.known done q1 qw s.pump s.writer s.fifo
          (λ halted. no_halt (pump_halted_too rule r workers q0 q1 qw qs t closed halted))
          (λ halted. no_halt (writer_halted_too rule r workers q0 q1 qw qs t closed halted))

      settled : is_settled (history r.base t.entries) ≡ true
      settled = subst (λ h. is_settled (history r.base h) ≡ true) (settled_whole rule r workers q0 q1 qw qs t closed made.settled calm) made.settled

      items : m.items ≡ items_sent (history r.base t.entries)
      items = made.same ∙ settled_items rule r workers q0 q1 qw qs t closed settled

      bytes_written : wire m.items ++ m.part ≡ wire (items_sent (history r.base t.entries))
      bytes_written = ap (λ part. wire m.items ++ part) (no_part made.none) ∙ (append-nil (wire m.items) ∙ ap wire items)

      at : Fed listener q0 s.has_read.bytes ⊎ (is_halted r.base q0.view.known.seen ≡ true) → Explains r.base left_old left_new w0 w d0 d counts read done t.entries
      at (inr halted) = no_halt (reader_halted rule r workers q0 q1 qw qs t closed halted)
      at (inl fed) = record {
        bytes = s.has_read.bytes;
        taken = s.has_read.taken;
        count = s.has_read.count;
        arrived = session_arrivals rule r workers q0 q1 qw qs t closed ∙ fed.arrived;
        counts_are = s.counts_are s.has_read.bytes fed.listener ∙ ap (λ role. counts_of role s.has_read.bytes) fed.role;
        settled = settled;
        written = subst (Appends w0 w) bytes_written m.written;
        stored = subst (λ made. store.Holds made d0 d) items m.stored;
        all = exact ∙ ap length items;
      }

  -- ---- why it ended

  halted_by : Option Why
  halted_by = halt_reason (history r.base t.entries)

  unstopped : is_halted r.base t.entries ≡ false → (o : Option Ending) → ending ≡ o → is_none o ≡ false
  unstopped calm None is = absurd (true≢false (sym (reader_halted rule r workers q0 q1 qw qs t closed (s.has_read.stopped is)) ∙ calm))
  unstopped calm (Some end) is = refl

  none_halted : (o : Option Why) → is_none o ≡ true → is_some o ≡ false
  none_halted None is = refl
  none_halted (Some why) is = absurd (false≢true is)

  pub is_told : is_none (halt_reason (history r.base t.entries)) ≡ true → is_none ending ≡ false
  is_told none = unstopped (none_halted (halt_reason (history r.base t.entries)) none) ending refl

  reads_calm : (o : Option Ending) → is_none o ≡ false → is_halting (reason_read o) ≡ false
  reads_calm None is = absurd (true≢false is)
  reads_calm (Some AtEnd) is = refl
  reads_calm (Some AtLimit) is = refl
  reads_calm (Some Failed) is = refl

  module _ (why : Why) (why_is : why ≡ reason_of (halt_reason (history r.base t.entries)) ending) where
    pub ended_history : IsSessionHistory rule r.base workers why t.entries
    ended_history = record {
      legal = s.legal;
      kinds = session_kinds rule r workers q0 q1 qw qs t closed;
      late = all_late rule r workers q0 q1 qw qs t closed;
      halts = ap is_halting why_is ∙ at (halt_reason (history r.base t.entries)) refl;
      told = λ reason is. why_is ∙ ap (λ o. reason_of o ending) is;
    }
      where
        at : (o : Option Why) → halt_reason (history r.base t.entries) ≡ o → is_halting (reason_of o ending) ≡ is_some o
        at None is = reads_calm ending (unstopped (ap is_some is) ending refl)
        at (Some reason) is = halting_reason rule r workers q0 q1 qw qs t closed reason is

    -- a reason that no halt has is the reading's
    of_reading : (reason : Why) → why ≡ reason → is_halting reason ≡ false → reason_read ending ≡ reason
    of_reading reason is calm = at (halt_reason (history r.base t.entries)) refl
      where
        at : (o : Option Why) → halt_reason (history r.base t.entries) ≡ o → reason_read ending ≡ reason
        at None found = sym (why_is ∙ ap (λ o. reason_of o ending) found) ∙ is
        at (Some other) found =
            let same : other ≡ reason = sym (why_is ∙ ap (λ o. reason_of o ending) found) ∙ is in
            absurd (true≢false (sym (halting_reason rule r workers q0 q1 qw qs t closed other found) ∙ (ap is_halting same ∙ calm)))

    at_its_end : (o : Option Ending) → reason_read o ≡ Settled → o ≡ Some AtEnd
    at_its_end None is = absurd (cc is)
    at_its_end (Some AtEnd) is = refl
    at_its_end (Some AtLimit) is = absurd (cc is)
    at_its_end (Some Failed) is = absurd (cc is)

    at_its_limit : (o : Option Ending) → reason_read o ≡ InputLimit → o ≡ Some AtLimit
    at_its_limit None is = absurd (cc is)
    at_its_limit (Some AtEnd) is = absurd (cc is)
    at_its_limit (Some AtLimit) is = refl
    at_its_limit (Some Failed) is = absurd (cc is)

    with_fault : (o : Option Ending) → reason_read o ≡ Source → o ≡ Some Failed
    with_fault None is = absurd (cc is)
    with_fault (Some AtEnd) is = absurd (cc is)
    with_fault (Some AtLimit) is = absurd (cc is)
    with_fault (Some Failed) is = refl

    pub read_all : why ≡ Settled → IsAtEnd left_new
    read_all is = s.has_read.at_end (at_its_end ending (of_reading Settled is refl))

    pub read_limit : why ≡ InputLimit → read ≡ INPUT_LIMIT
    read_limit is = s.has_read.at_limit (at_its_limit ending (of_reading InputLimit is refl))

    pub read_below : (why ≡ Settled) ⊎ (why ≡ Source) → read < INPUT_LIMIT
    read_below (inl is) = s.has_read.below (inl (at_its_end ending (of_reading Settled is refl)))
    read_below (inr is) = s.has_read.below (inr (with_fault ending (of_reading Source is refl)))

    pub read_failed : why ≡ Source → ending ≡ Some Failed
    read_failed is = with_fault ending (of_reading Source is refl)

    read_no_fault : (o : Option Ending) (reason : Why) → reason_read o ≡ reason → is_halting reason ≡ true → reason ≡ Memory
    read_no_fault None reason is halts = sym is
    read_no_fault (Some AtEnd) reason is halts = absurd (false≢true (ap is_halting is ∙ halts))
    read_no_fault (Some AtLimit) reason is halts = absurd (false≢true (ap is_halting is ∙ halts))
    read_no_fault (Some Failed) reason is halts = absurd (false≢true (ap is_halting is ∙ halts))

    halts_of : (reason : Why) → why ≡ reason → is_halting reason ≡ true → (reason ≡ Memory → ⊥) → halt_reason (history r.base t.entries) ≡ Some reason
    halts_of reason is halts other = at (halt_reason (history r.base t.entries)) refl
      where
        at : (o : Option Why) → halt_reason (history r.base t.entries) ≡ o → halt_reason (history r.base t.entries) ≡ Some reason
        at None found = absurd (other (read_no_fault ending reason (sym (why_is ∙ ap (λ o. reason_of o ending) found) ∙ is) halts))
        at (Some found_reason) found = found ∙ ap Some (sym (why_is ∙ ap (λ o. reason_of o ending) found) ∙ is)

    pub sink_halted : why ≡ Sink → HaltsFor Sink qw.view.known.mine
    sink_halted is = writers_halt rule r workers q0 q1 qw qs t closed Sink refl (halts_of Sink is refl (λ same. cc same))

    pub store_halted : why ≡ Store → HaltsFor Store qw.view.known.mine
    store_halted is = writers_halt rule r workers q0 q1 qw qs t closed Store refl (halts_of Store is refl (λ same. cc same))

  -- its Ticks are those of the pump, which began at this moment
  pub ticks_between : (start began end : ℕ) → start ≤ began → AreSpaced began (moments q1.view.known.mine) → last_from began (moments q1.view.known.mine) ≤ end → TicksBetween start end t.entries
  ticks_between start began end after spaced past =
      let same = session_moments rule r workers q0 q1 qw qs t closed in
      let ticks = moments q1.view.known.mine in
      record {
        spaced = subst (AreSpaced start) (sym same) (spaced_earlier start began ticks after spaced);
        past = subst (λ ts. last_from start ts ≤ end) (sym same) (omega (arith, last_earlier start began ticks after, past));
      }

  pub none_left_due : (began end : ℕ) → (is_halted r.base q1.view.known.seen ≡ false → LeavesNoneDue began end (moments q1.view.known.mine))
      → is_halted r.base t.entries ≡ false → LeavesNoneDue began end (moments t.entries)
  unfolding closed
  none_left_due began end due calm =
      subst (LeavesNoneDue began end) (sym (session_moments rule r workers q0 q1 qw qs t closed)) (due (unhalted (is_halted r.base q1.view.known.seen) refl))
    where
      unhalted : (b : Bool) → is_halted r.base q1.view.known.seen ≡ b → is_halted r.base q1.view.known.seen ≡ false
      unhalted true halted = absurd (true≢false (sym (pump_halted_too rule r workers q0 q1 qw qs t closed halted) ∙ calm))
      unhalted false calm_then = calm_then

  pub began_before : (began end : ℕ) → last_from began (moments q1.view.known.mine) ≤ end → AreSpaced began (moments q1.view.known.mine) → began ≤ end
  began_before began end past spaced = omega (arith, past, spaced_up began (moments q1.view.known.mine) spaced)

  -- ---- how it left its link

  pub leaves_link : (finished : Bool) (before now : ℕ) (put got known : List Parcel) → PumpEnded rule r put q1 → got ++ known ≡ put
      → WriterLeaves r.base qw.view.known.seen got finished before now → LeavesLink r.base t.entries finished before now
  unfolding closed
  leaves_link finished before now put got known pump fifo (inl kept) = record {
    stays_open = λ _. kept.1;
    hung_up = λ _.
        inr (record { front = q1.view.known.seen; begins = pump_begins rule r workers q0 q1 qw qs t closed; settled = settled_then rule r put got known q1 pump fifo kept.0 });
  }
  leaves_link finished before now put got known pump fifo (inr hung) = record {
    stays_open = λ calm. absurd (true≢false (sym (writer_halted_too rule r workers q0 q1 qw qs t closed hung.0) ∙ calm));
    hung_up = λ _. inl hung.1;
  }

  -- ---- what its link got where it never failed

  -- the same table, by what this pump flushed
  abbrev closed_by : (put : List Parcel) → PumpEnded rule r put q1 → Closed rule r workers q0 q1 qw qs t
  closed_by put pump = record {
    reader = s.reader;
    flushed = pump.items;
    pump = pump.takes;
    worked = s.worked;
    writer = s.writer.stands;
    stops = s.writer.kinds;
    fits = s.fits;
    count = s.count;
    numbers = λ k q at. (s.idle.each k q at).pass.number;
    legal = s.legal;
  }

  pub sends_whole : (put got known : List Parcel) → PumpEnded rule r put q1 → got ++ known ≡ put → WritesWholeFrames w0 w got done → SendsWholeFrames r.base w0 w done t.entries
  sends_whole put got known pump fifo y =
      let front = frames_begin rule r w0 w put got known done q1 pump y fifo in
      record {
        items = y.items;
        sent =
            prefix_trans y.items pump.items (items_sent (history r.base t.entries)) (prefix_trans y.items (y.items ++ y.rest) pump.items (y.rest, refl) front)
            (flushed_begin rule r workers q0 q1 qw qs t (closed_by put pump));
        written = y.written;
        counted = omega (
          arith,
          y.counted,
          prefix_length (y.items ++ y.rest) pump.items front,
          length-append y.items y.rest,
          few_flushed rule r workers q0 q1 qw qs t (closed_by put pump),
          s.bound,
        );
      }

-- ---- from the passes that went out to those that came back

module _ (rule : HandlerRule) (r : Lock) (p0 p1 pw q0 q1 qw : Seat) (ps qs : List Seat) where
  pub back_idle : {put got : List Parcel} {w0 w : Option (List ℕ)} {d0 d : Option Stored} {l0 l : ItemLog} {done : ℕ} → AreAll r (IsNew r) (p0 ∷ p1 ∷ (ps ++ pw ∷ []))
      → ReaderEnded rule r q0 × IsSame p0 q0 → PumpEnded rule r put q1 × IsSame p1 q1 → AllWorked rule r ps qs → WriterEnded rule r w0 w d0 d l0 l got done qw × IsSame pw qw
      → AreAll r (IsIdle r) (q0 ∷ q1 ∷ (qs ++ qw ∷ []))
  back_idle new reader pump worked writer =
      all_idle_again rule r p0 p1 pw q0 q1 qw ps qs new reader.1 reader.0.stands.own.idle pump.1 pump.0.takes.stands.own.idle worked writer.1 writer.0.stands.own.idle

  pub whole_of : (workers : ℕ) (left_old left_new w0 w : Option (List ℕ)) (d0 d : Option Stored) (l0 l : ItemLog) (listener : Listening) (counts : Counts) (ending : Option Ending) (read done : ℕ) (t : Table) (put got known : List Parcel)
      → r.count ≡ workers + 3 → AreAll r (IsNew r) (p0 ∷ p1 ∷ (ps ++ pw ∷ []))
      → ReaderEnded rule r q0 × IsSame p0 q0 → HasRead r.base left_old left_new ending read listener q0 → PumpEnded rule r put q1 × IsSame p1 q1 → AllWorked rule r ps qs
      → WriterEnded rule r w0 w d0 d l0 l got done qw × IsSame pw qw → got ++ known ≡ put
      → AllFit log_of seat_of base_of (q0 ∷ q1 ∷ (qs ++ qw ∷ [])) t → t.setting ≡ r.base → IsLegal rule t.setting t.entries
      → ((stream : List ℕ) → HasHeard listener stream → counts ≡ counts_of listener.role stream) → length t.entries < 2 ^ 62
      → Whole rule r workers left_old left_new w0 w d0 d l0 l listener counts ending read done t q0 q1 qw qs
  whole_of workers left_old left_new w0 w d0 d l0 l listener counts ending read done t put got known many new reader has_read pump worked writer fifo fits setting legal counts_are bound =
      let idle : AreAll r (IsIdle r) (q0 ∷ q1 ∷ (qs ++ qw ∷ [])) = back_idle new reader pump worked writer in
      let size : length (q0 ∷ q1 ∷ (qs ++ qw ∷ [])) ≡ r.count = idle.count in
      record {
        put = put;
        got = got;
        known = known;
        reader = reader.0;
        has_read = has_read;
        pump = pump.0;
        worked = all_worked rule r ps qs worked;
        writer = writer.0;
        fifo = fifo;
        fits = fits;
        idle = idle;
        count = omega (arith, size, many, length-append qs (qw ∷ []));
        legal = subst (λ set. IsLegal rule set t.entries) setting legal;
        counts_are = counts_are;
        bound = bound;
      }
