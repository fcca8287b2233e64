-- The clauses of a live client, from what its two threads did.
use Rattle.std.proofs.Common.{◌≡◌, ◌⊎◌, ℕ, ◌<◌, ◌≤◌, Bool, true, false, List, [], ◌∷◌, ◌++◌, length, Option, Some, None, is_some, is_none, refl, ap, sym, ◌∙◌, subst, inl, inr}
use Rattle.std.proofs.lemmas.Bool.{false≢true, true≢false}
use Rattle.std.specs.Io.KnownBytes.{IsAtEnd}
use mathlib.Core.List.{IsPrefix}
use Rattle.entry_lists.proofs.Prefixes.{prefix_append, prefix_trans}
use Rattle.link_io.specs.Causes.{Rose}
use Rattle.link_io.specs.Stored.{Stored}
use Rattle.link_io.specs.declared.reading.Ending.{Ending}
use Rattle.link_io.specs.declared.reading.Ending.TheVariants.{AtEnd, AtLimit, Failed}
use Rattle.link_io.specs.declared.why.Why.{Why}
use Rattle.link_io.specs.declared.why.Why.TheVariants.{Settled, Source, Sink, Store, InputLimit, JournalLimit, Memory}
use Rattle.atomic_table.specs.Seated.{TableId}
use Rattle.turn_cell.specs.Passes.{AllFit}
use Rattle.rpc_ids.specs.declared.method.MethodRef.{MethodRef}
use Rattle.rpc_ids.specs.declared.method.Role.TheVariants.{Client}
use Rattle.rpc_packet.specs.declared.owned.Packet.{Packet}
use Rattle.rpc_frames.specs.Heard.{heard_packets}
use Rattle.rpc_frames.specs.Listening.{Listening}
use Rattle.rpc_frames.proofs.Growing.{packets_begin}
use Rattle.rpc_handlers.specs.declared.event.Memo.{Memo}
use Rattle.rpc_journal.specs.declared.entry.Entry.{Entry}
use Rattle.rpc_journal.specs.declared.entry.EntryKind.{EntryKind}
use Rattle.rpc_journal.specs.declared.entry.EntryKind.TheVariants.{Invoke}
use Rattle.rpc_journal.specs.declared.entry.TheConstants.{MAX_ENTRIES}
use Rattle.rpc_journal.specs.declared.item.Item.{Item}
use Rattle.rpc_journal.specs.Calls.{call_count}
use Rattle.rpc_journal.specs.CallTable.{Table}
use Rattle.rpc_journal.specs.History.{history}
use Rattle.rpc_journal.specs.Items.{arrivals, halt_reason, items_sent}
use Rattle.rpc_journal.specs.Lawful.{IsLegal}
use Rattle.rpc_journal.specs.Laws.{seat_of}
use Rattle.rpc_journal.specs.Quiet.{is_settled}
use Rattle.rpc_schedule.specs.declared.stream.TheConstants.{INPUT_LIMIT}
use Rattle.rpc_schedule.specs.Kept as store
use Rattle.rpc_shared.specs.Steps.{base_of, log_of}
use Rattle.rpc_shared.specs.session.Crew.{Lock, Seat, is_want}
use Rattle.rpc_shared.specs.session.Reasons.{reason_of, reason_read}
use Rattle.rpc_shared.specs.session.Ring.{HaltsFor}
use Rattle.rpc_shared.specs.session.Sessions.{is_halted, is_halting}
use Rattle.live_client.specs.Ask.{live_setting}
use Rattle.live_client.specs.Driving.{CanEnd, DriverEnded, HasWorked, Talks, Works}
use Rattle.live_client.specs.Feeding.{Fed, HasRead, Reader, is_readers}
use Rattle.live_client.specs.Histories.{AreSaid, events_run, utterances_of}
use Rattle.live_client.specs.Live.{Begins, Explains, IsHistoryOf}
use Rattle.live_client.specs.asks.Telling.{Progress, said_all}
use Rattle.live_client.specs.Silent.{silent_rule}
use Rattle.live_client.specs.Told.{HasTold}
use Rattle.live_client.proofs.TalkLemmas.{Did}
use Rattle.live_client.proofs.WholeLemmas.{Closed, Opened, all_late, arrived_whole, call_zero, count_one, cut_whole, driver_halted, driver_reason, events_are, front_whole, full_whole, halting_reason, live_lock, opened, reader_halted, said_whole, settled_items, settled_whole}
use Rattle.live_client.proofs.WholeReplies.{late_items}

-- a table that knows this method alone
module _ (method : MethodRef) where
  -- all that the threads of a live client did, once its table is closed
  pub record Whole (watches : Bool) (opening : EntryKind) (did : Progress → Did) (r : Lock) (c : ℕ) (left_old left_new w0 w : Option (List ℕ)) (d0 d : Option Stored) (f0 f g0 g : ℕ) (ending : Option Ending) (read : ℕ) (listener : Listening) (q0 q1 : Seat) (t : Table) : Type 0 where
    pub reader : Reader is_readers r q0
    pub has_read : HasRead r.base left_old left_new ending read listener q0
    pub ended : DriverEnded watches opening did r c w0 w d0 d f0 f g0 g q1
    pub fits : AllFit log_of seat_of base_of (q0 ∷ q1 ∷ []) t
    pub legal : IsLegal silent_rule r.base t.entries

  -- what it did
  pub record Ends (watches : Bool) (opening : EntryKind) (did : Progress → Did) (left_old left_new w0 w : Option (List ℕ)) (d0 d : Option Stored) (f0 f g0 g : ℕ) (ending : Option Ending) (read : ℕ) (h : List Entry) : Type 0 where
    pub begins : Begins method left_old left_new w0 w d0 d read h
    pub explains : is_halted (live_setting method) h ≡ false → Explains method left_old left_new w0 w d0 d read h
    pub told : HasTold method did h
    pub known : is_none (halt_reason (history (live_setting method) h)) ≡ true → is_none ending ≡ false
    pub historic : (why : Why) → why ≡ reason_of (halt_reason (history (live_setting method) h)) ending → IsHistoryOf method watches opening why h
    pub at_end : (why : Why) → why ≡ reason_of (halt_reason (history (live_setting method) h)) ending → why ≡ Settled → IsAtEnd left_new
    pub at_limit : (why : Why) → why ≡ reason_of (halt_reason (history (live_setting method) h)) ending → why ≡ InputLimit → read ≡ INPUT_LIMIT
    pub below : (why : Why) → why ≡ reason_of (halt_reason (history (live_setting method) h)) ending → (why ≡ Settled) ⊎ (why ≡ Source) → read < INPUT_LIMIT
    pub full : (why : Why) → why ≡ reason_of (halt_reason (history (live_setting method) h)) ending → why ≡ JournalLimit → MAX_ENTRIES ≤ length h
    pub failed : (why : Why) → why ≡ reason_of (halt_reason (history (live_setting method) h)) ending → why ≡ Source → ending ≡ Some Failed
    pub sink : (why : Why) → why ≡ reason_of (halt_reason (history (live_setting method) h)) ending → why ≡ Sink → Rose f0 f
    pub store : (why : Why) → why ≡ reason_of (halt_reason (history (live_setting method) h)) ending → why ≡ Store → Rose g0 g

  -- ---- how a reading ends

  reads_calm : (o : Option Ending) → is_none o ≡ false → is_halting (reason_read o) ≡ false
  reads_calm None is = absurd (true≢false is)
  reads_calm (Some AtEnd) is = refl
  reads_calm (Some AtLimit) is = refl
  reads_calm (Some Failed) is = refl

  at_its_end : (o : Option Ending) → reason_read o ≡ Settled → o ≡ Some AtEnd
  at_its_end None is = absurd (cc is)
  at_its_end (Some AtEnd) is = refl
  at_its_end (Some AtLimit) is = absurd (cc is)
  at_its_end (Some Failed) is = absurd (cc is)

  at_its_limit : (o : Option Ending) → reason_read o ≡ InputLimit → o ≡ Some AtLimit
  at_its_limit None is = absurd (cc is)
  at_its_limit (Some AtEnd) is = absurd (cc is)
  at_its_limit (Some AtLimit) is = refl
  at_its_limit (Some Failed) is = absurd (cc is)

  with_fault : (o : Option Ending) → reason_read o ≡ Source → o ≡ Some Failed
  with_fault None is = absurd (cc is)
  with_fault (Some AtEnd) is = absurd (cc is)
  with_fault (Some AtLimit) is = absurd (cc is)
  with_fault (Some Failed) is = refl

  read_no_fault : (o : Option Ending) (reason : Why) → reason_read o ≡ reason → is_halting reason ≡ true → reason ≡ Memory
  read_no_fault None reason is halts = sym is
  read_no_fault (Some AtEnd) reason is halts = absurd (false≢true (ap is_halting is ∙ halts))
  read_no_fault (Some AtLimit) reason is halts = absurd (false≢true (ap is_halting is ∙ halts))
  read_no_fault (Some Failed) reason is halts = absurd (false≢true (ap is_halting is ∙ halts))

  none_halted : (o : Option Why) → is_none o ≡ true → is_some o ≡ false
  none_halted None is = refl
  none_halted (Some why) is = absurd (false≢true is)

  -- ---- the clauses

  module _ (table : TableId) (count : ℕ) (watches : Bool) (packet : Packet) (memo : Memo) (did : Progress → Did) (c : ℕ) (left_old left_new w0 w : Option (List ℕ)) (d0 d : Option Stored) (f0 f g0 g : ℕ) (ending : Option Ending) (read : ℕ) (listener : Listening) (q0 q1 : Seat) (t : Table)
      (s : Whole watches (Invoke packet memo) did ((live_lock method) table count) c left_old left_new w0 w d0 d f0 f g0 g ending read listener q0 q1 t) where
    abbrev h : List Entry
    h = t.entries

    abbrev worked : HasWorked watches (Invoke packet memo) did ((live_lock method) table count) c w0 w d0 d f0 f g0 g q1
    worked = s.ended.worked

    -- with what the driver knows
    closed_with : (now : Did) (whole over : Bool) (items : List Item) → (k : Talks watches (Invoke packet memo) now ((live_lock method) table count) c whole over items q1) → (Closed method) watches (Invoke packet memo) ((live_lock method) table count) c k.events k.outs items q0 q1 t
    closed_with now whole over items k = record { reader = s.reader; drives = k.drives; fits = s.fits; legal = s.legal }

    abbrev made : List Item
    made = worked.items ++ worked.next

    closed : (Closed method) watches (Invoke packet memo) ((live_lock method) table count) c worked.talks.events worked.talks.outs made q0 q1 t
    closed = closed_with (did worked.all) false false made worked.talks

    zero_is : c ≡ 0
    zero_is = (call_zero method) table count watches packet memo c worked.talks.events worked.talks.outs made q0 q1 t closed

    few : call_count (history (live_setting method) h) ≤ 1
    few = (count_one method) table count watches packet memo c worked.talks.events worked.talks.outs made q0 q1 t closed

    arrived : arrivals h ≡ arrivals q0.view.known.mine
    arrived = (arrived_whole method) table count watches packet memo c worked.talks.events worked.talks.outs made q0 q1 t closed

    begins : Begins method left_old left_new w0 w d0 d read h
    begins =
        let cut = s.has_read.cut in
        let all : IsPrefix made (items_sent (history (live_setting method) h)) = (front_whole method) table count watches packet memo c worked.talks.events worked.talks.outs made q0 q1 t closed in
        let some : IsPrefix worked.items (items_sent (history (live_setting method) h)) = prefix_trans worked.items made (items_sent (history (live_setting method) h)) (prefix_append worked.items worked.next) all in
        let late = (late_items method) table count watches packet memo c worked.talks.events worked.talks.outs made q0 q1 t closed worked.finished worked.items worked.first zero_is few worked.which some in
        record {
          bytes = s.has_read.bytes;
          taken = s.has_read.taken;
          count = s.has_read.count;
          limit = s.has_read.within;
          heard =
              prefix_trans (arrivals h) (heard_packets Client cut.fed) (heard_packets Client s.has_read.bytes)
              (subst (λ ps. IsPrefix ps (heard_packets Client cut.fed)) (sym arrived) cut.arrived)
              (subst (λ bytes. IsPrefix (heard_packets Client cut.fed) (heard_packets Client bytes)) cut.within.1 (packets_begin Client cut.fed cut.within.0));
          first = worked.first;
          late = late.late;
          next = worked.next;
          part = worked.part;
          sent = subst (λ xs. IsPrefix (xs ++ worked.next) (items_sent (history (live_setting method) h))) late.is all;
          replies = late.replies;
          one = worked.one;
          begun = worked.begun;
          written = worked.written;
          stored = subst (λ xs. store.Holds xs d0 d) late.is worked.stored;
        }

    reader_stops : is_halted (live_setting method) q0.view.known.seen ≡ true → is_halted (live_setting method) h ≡ true
    reader_stops = (reader_halted method) table count watches packet memo c worked.talks.events worked.talks.outs made q0 q1 t closed

    pub driver_stops : is_halted (live_setting method) q1.view.known.seen ≡ true → is_halted (live_setting method) h ≡ true
    driver_stops = (driver_halted method) table count watches packet memo c worked.talks.events worked.talks.outs made q0 q1 t closed

    explains : is_halted (live_setting method) h ≡ false → Explains method left_old left_new w0 w d0 d read h
    explains calm = at s.ended.cause s.has_read.cause
      where
        no_halt : {A : Type 0} → is_halted (live_setting method) h ≡ true → A
        no_halt halted = absurd (true≢false (sym halted ∙ calm))

        at : (Works watches (Invoke packet memo) (did said_all) ((live_lock method) table count) c true true w0 w d0 d f0 f g0 g q1 × (is_settled (history (live_setting method) q1.view.known.seen) ≡ true)) ⊎ (is_halted (live_setting method) q1.view.known.seen ≡ true)
            → Fed listener q0 s.has_read.bytes ⊎ (is_halted (live_setting method) q0.view.known.seen ≡ true) → Explains method left_old left_new w0 w d0 d read h
        at (inr halted) fed = no_halt (driver_stops halted)
        at (inl ended) (inr halted) = no_halt (reader_stops halted)
        at (inl ended) (inl fed) =
            let k = ended.0.talks in
            let items = ended.0.items in
            let x = closed_with (did said_all) true true items k in
            let settled : is_settled (history (live_setting method) h) ≡ true =
            subst (λ es. is_settled (history (live_setting method) es) ≡ true) ((settled_whole method) table count watches packet memo c k.events k.outs items q0 q1 t x ended.1 calm) ended.1 in
            let all : items ≡ items_sent (history (live_setting method) h) = (settled_items method) table count watches packet memo c k.events k.outs items q0 q1 t x settled in
            let late = (late_items method) table count watches packet memo c k.events k.outs items q0 q1 t x true items ended.0.made.first zero_is few ended.0.made.which ((front_whole method) table count watches packet memo c k.events k.outs items q0 q1 t x) in
            record {
              bytes = s.has_read.bytes;
              taken = s.has_read.taken;
              count = s.has_read.count;
              arrived = arrived ∙ fed.arrived;
              settled = settled;
              first = ended.0.made.first;
              late = late.late;
              sent = sym all ∙ late.is;
              replies = late.replies;
              written = ended.0.made.written;
              stored = subst (λ xs. store.Holds xs d0 d) all ended.0.made.stored;
            }

    -- ---- the errand

    told_by : (all : Progress) (whole over : Bool) (items : List Item) → (k : Talks watches (Invoke packet memo) (did all) ((live_lock method) table count) c whole over items q1)
        → (is_halted (live_setting method) h ≡ false → k.lost ≡ []) → (is_halted (live_setting method) h ≡ false → all ≡ said_all) → (is_halted (live_setting method) h ≡ false → is_some k.ended ≡ true) → HasTold method did h
    told_by all whole over items k none_lost all_said is_over =
        let x = closed_with (did all) whole over items k in
        let events : k.events ≡ events_run (live_setting method) h 0 = sym ((events_are method) table count watches packet memo c k.events k.outs items q0 q1 t x) ∙ ap (events_run (live_setting method) h) zero_is in
        record {
          cut = k.cut;
          outs = k.outs;
          lost = k.lost;
          ended = k.ended;
          all = all;
          is_cut = (cut_whole method) table count watches packet memo c k.events k.outs items q0 q1 t x k.cut k.quiet;
          said = λ may. subst (λ n. AreSaid (live_setting method) n h k.outs (utterances_of h)) zero_is ((said_whole method) table count watches packet memo c k.events k.outs items q0 q1 t x (subst (λ n. CanEnd (live_setting method) n k.outs) (sym zero_is) may));
          heard = subst (λ events. did all k.cut events (k.outs ++ k.lost) k.ended) events k.heard;
          none_lost = none_lost;
          all_said = all_said;
          is_over = is_over;
        }

    told : HasTold method did h
    told = at s.ended.cause
      where
        at : (Works watches (Invoke packet memo) (did said_all) ((live_lock method) table count) c true true w0 w d0 d f0 f g0 g q1 × (is_settled (history (live_setting method) q1.view.known.seen) ≡ true)) ⊎ (is_halted (live_setting method) q1.view.known.seen ≡ true) → HasTold method did h
        at (inl ended) = let k = ended.0.talks in told_by said_all true true ended.0.items k (λ calm. k.none_lost refl) (λ calm. refl) (λ calm. k.is_over refl)
        at (inr halted) =
            told_by worked.all false false made worked.talks (λ calm. absurd (true≢false (sym (driver_stops halted) ∙ calm))) (λ calm. absurd (true≢false (sym (driver_stops halted) ∙ calm)))
            (λ calm. absurd (true≢false (sym (driver_stops halted) ∙ calm)))

    -- ---- why it ended

    unstopped : is_halted (live_setting method) h ≡ false → (o : Option Ending) → ending ≡ o → is_none o ≡ false
    unstopped calm None is = absurd (true≢false (sym (reader_stops (s.has_read.stopped is)) ∙ calm))
    unstopped calm (Some end) is = refl

    known : is_none (halt_reason (history (live_setting method) h)) ≡ true → is_none ending ≡ false
    known none = unstopped (none_halted (halt_reason (history (live_setting method) h)) none) ending refl

    halting : (why : Why) → halt_reason (history (live_setting method) h) ≡ Some why → is_halting why ≡ true
    halting = (halting_reason method) table count watches packet memo c worked.talks.events worked.talks.outs made q0 q1 t closed

    module _ (why : Why) (why_is : why ≡ reason_of (halt_reason (history (live_setting method) h)) ending) where
      historic : IsHistoryOf method watches (Invoke packet memo) why h
      historic =
          let first : (Opened method) table count watches packet memo c worked.talks.events worked.talks.outs made q0 q1 t closed = (opened method) table count watches packet memo c worked.talks.events worked.talks.outs made q0 q1 t closed in
          record {
            legal = s.legal;
            rest = first.more;
            begins = first.is;
            kinds = first.kinds;
            late = (all_late method) table count watches packet memo c worked.talks.events worked.talks.outs made q0 q1 t closed;
            halts = ap is_halting why_is ∙ at (halt_reason (history (live_setting method) h)) refl;
            told = λ reason is. why_is ∙ ap (λ o. reason_of o ending) is;
          }
        where
          at : (o : Option Why) → halt_reason (history (live_setting method) h) ≡ o → is_halting (reason_of o ending) ≡ is_some o
          at None is = reads_calm ending (unstopped (ap is_some is) ending refl)
          at (Some reason) is = halting reason is

      -- a reason that no halt has is the reading's
      of_reading : (reason : Why) → why ≡ reason → is_halting reason ≡ false → reason_read ending ≡ reason
      of_reading reason is calm = at (halt_reason (history (live_setting method) h)) refl
        where
          at : (o : Option Why) → halt_reason (history (live_setting method) h) ≡ o → reason_read ending ≡ reason
          at None found = sym (why_is ∙ ap (λ o. reason_of o ending) found) ∙ is
          at (Some other) found =
              let same : other ≡ reason = sym (why_is ∙ ap (λ o. reason_of o ending) found) ∙ is in
              absurd (true≢false (sym (halting other found) ∙ (ap is_halting same ∙ calm)))

      halts_of : (reason : Why) → why ≡ reason → is_halting reason ≡ true → (reason ≡ Memory → ⊥) → halt_reason (history (live_setting method) h) ≡ Some reason
      halts_of reason is halts other = at (halt_reason (history (live_setting method) h)) refl
        where
          at : (o : Option Why) → halt_reason (history (live_setting method) h) ≡ o → halt_reason (history (live_setting method) h) ≡ Some reason
          at None found = absurd (other (read_no_fault ending reason (sym (why_is ∙ ap (λ o. reason_of o ending) found) ∙ is) halts))
          at (Some found_reason) found = found ∙ ap Some (sym (why_is ∙ ap (λ o. reason_of o ending) found) ∙ is)

      read_below : (why ≡ Settled) ⊎ (why ≡ Source) → read < INPUT_LIMIT
      read_below (inl is) = s.has_read.below (inl (at_its_end ending (of_reading Settled is refl)))
      read_below (inr is) = s.has_read.below (inr (with_fault ending (of_reading Source is refl)))

      driver_halts : (reason : Why) → why ≡ reason → is_halting reason ≡ true → (reason ≡ Memory → ⊥) → is_want reason ≡ false → HaltsFor reason q1.view.known.mine
      driver_halts reason is halts other unwanted =
          (driver_reason method) table count watches packet memo c worked.talks.events worked.talks.outs made q0 q1 t closed reason unwanted (halts_of reason is halts other)

    pub live_ends : Ends watches (Invoke packet memo) did left_old left_new w0 w d0 d f0 f g0 g ending read h
    live_ends = record {
      begins = begins;
      explains = explains;
      told = told;
      known = known;
      historic = historic;
      at_end = λ why why_is is. s.has_read.at_end (at_its_end ending (of_reading why why_is Settled is refl));
      at_limit = λ why why_is is. s.has_read.at_limit (at_its_limit ending (of_reading why why_is InputLimit is refl));
      below = read_below;
      full = λ why why_is is. (full_whole method) table count watches packet memo c worked.talks.events worked.talks.outs made q0 q1 t closed (halts_of why why_is JournalLimit is refl (λ same. cc same));
      failed = λ why why_is is. with_fault ending (of_reading why why_is Source is refl);
      sink = λ why why_is is. worked.causes.sink (driver_halts why why_is Sink is refl (λ same. cc same) refl);
      store = λ why why_is is. worked.causes.store (driver_halts why why_is Store is refl (λ same. cc same) refl);
    }

  -- of any table with the setting of a live client
  lock_is : (r : Lock) → r.base ≡ (live_setting method) → r ≡ (live_lock method) r.table r.count
  lock_is r is = ap (λ base. record { table = r.table; base = base; count = r.count }) is

  pub ends_of : (r : Lock) → r.base ≡ (live_setting method) → (watches : Bool) (packet : Packet) (memo : Memo) (did : Progress → Did) (c : ℕ) (left_old left_new w0 w : Option (List ℕ)) (d0 d : Option Stored) (f0 f g0 g : ℕ) (ending : Option Ending) (read : ℕ) (listener : Listening) (q0 q1 : Seat) (t : Table)
      → Whole watches (Invoke packet memo) did r c left_old left_new w0 w d0 d f0 f g0 g ending read listener q0 q1 t
      → Ends watches (Invoke packet memo) did left_old left_new w0 w d0 d f0 f g0 g ending read t.entries
  ends_of r is watches packet memo did c left_old left_new w0 w d0 d f0 f g0 g ending read listener q0 q1 t s =
      live_ends r.table r.count watches packet memo did c left_old left_new w0 w d0 d f0 f g0 g ending read listener q0 q1 t
      (subst (λ lock. Whole watches (Invoke packet memo) did lock c left_old left_new w0 w d0 d f0 f g0 g ending read listener q0 q1 t) (lock_is r is) s)

  -- a halt that the driver has seen is in the whole history
  pub stops_of : (r : Lock) → r.base ≡ (live_setting method) → (watches : Bool) (packet : Packet) (memo : Memo) (did : Progress → Did) (c : ℕ) (left_old left_new w0 w : Option (List ℕ)) (d0 d : Option Stored) (f0 f g0 g : ℕ) (ending : Option Ending) (read : ℕ) (listener : Listening) (q0 q1 : Seat) (t : Table)
      → Whole watches (Invoke packet memo) did r c left_old left_new w0 w d0 d f0 f g0 g ending read listener q0 q1 t
      → is_halted r.base q1.view.known.seen ≡ true → is_halted (live_setting method) t.entries ≡ true
  stops_of r is watches packet memo did c left_old left_new w0 w d0 d f0 f g0 g ending read listener q0 q1 t s halted =
      driver_stops r.table r.count watches packet memo did c left_old left_new w0 w d0 d f0 f g0 g ending read listener q0 q1 t
      (subst (λ lock. Whole watches (Invoke packet memo) did lock c left_old left_new w0 w d0 d f0 f g0 g ending read listener q0 q1 t) (lock_is r is) s)
      (subst (λ base. is_halted base q1.view.known.seen ≡ true) is halted)
