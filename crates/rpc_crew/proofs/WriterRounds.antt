-- A round of the writer: what is gathered, written and made.
use Rattle.std.proofs.Common.{◌≡◌, ℕ, ◌+◌, ◌-◌, ◌<◌, ◌≤◌, true, false, List, [], ◌∷◌, ◌++◌, length, take, drop, Option, Some, None, Result, Ok, Err, IfErr, OnErr, OnOk, is_err, refl, ap, sym, ◌∙◌, subst, inl, inr, arith, append_assoc, length-append, take-append-drop, length-drop}
use Rattle.std.proofs.Math.Seq.{take-append-add}
use Rattle.std.proofs.lemmas.List.{append-nil, length-map, map-append, take-append-le}
use Rattle.std.specs.Io.Iter.{u64_saturate}
use Rattle.std.specs.Io.KnownBytes.{Appends}
use Rattle.link_io.specs.Stored.{Stored}
use Rattle.rpc_handlers.specs.HandlerRule.{HandlerRule}
use Rattle.rpc_packet.specs.declared.owned.Packet.{Packet}
use Rattle.rpc_journal.specs.declared.item.Act.{Act}
use Rattle.rpc_journal.specs.declared.item.Act.TheVariants.{Send}
use Rattle.rpc_journal.specs.declared.item.Item.{Item}
use Rattle.rpc_schedule.specs.Kept as store
use Rattle.rpc_shared.specs.declared.session.item_log.ItemLog.{ItemLog}
use Rattle.rpc_shared.specs.declared.session.parcel.Parcel.{Parcel}
use Rattle.rpc_shared.specs.declared.session.parcel.Parcel.TheVariants.{End, Put}
use Rattle.rpc_shared.specs.session.Crew.{Lock, Seat}
use Rattle.rpc_shared.specs.session.Log.{HasPlaces, Logs}
use Rattle.rpc_shared.specs.session.Ring.{IsUnfinished, MakesSome, Writes, parcels}
use Rattle.rpc_shared.specs.session.Sessions.{wire}
use Rattle.rpc_shared.proofs.session.WriterLemmas.{holds_more, logs_more, logs_none, wire-append, writes_more}
use Rattle.rpc_crew.specs.declared.batch.Framed.{Framed}
use Rattle.rpc_crew.specs.declared.gathering.Behind.{Behind}
use Rattle.rpc_crew.specs.declared.gathering.Behind.TheVariants as behind
use Rattle.rpc_crew.specs.declared.writing.Step.{Step}
use Rattle.rpc_crew.specs.Batches.{AreFramed, AreWithin, BatchView, CameBehind, EndsPast, FailsAtLast, FailsBehind, FailsRound, Gathers, IsBatch, IsPacket, MakesBehind, MakesRound, TakesWhole, closing, items_in, no_batch, places_for, with_frame}

-- ---- the frames in a batch

framed_more : (start : ℕ) (fs : List Framed) (f : Framed) → AreFramed start fs → IsPacket f.item → f.end ≡ (start + length (wire (items_in fs))) + length (wire (f.item ∷ [])) → AreFramed start (fs ++ f ∷ [])
framed_more start [] f framed packet is = (packet, omega (arith, is), tt)
framed_more start (g ∷ gs) f framed packet is = (
  framed.0,
  framed.1,
  framed_more g.end gs f framed.2 packet
      (omega (arith, is, framed.1, ap length (wire-append (g.item ∷ []) (items_in gs)), length-append (wire (g.item ∷ [])) (wire (items_in gs)))),
)

pub batch_more : (batch : BatchView) (item : Item) → IsBatch batch → IsPacket item → IsBatch (with_frame item batch)
batch_more batch item is packet =
    let f : Framed = record { item = item; end = length batch.bytes + length (wire (item ∷ [])) } in
    record {
      bytes =
          ap (λ bytes. bytes ++ wire (item ∷ [])) is.bytes
          ∙ (sym (wire-append (items_in batch.framed) (item ∷ [])) ∙ ap wire (sym (map-append (λ (g : Framed). g.item) batch.framed (f ∷ []))));
      framed = framed_more 0 batch.framed f is.framed packet (omega (arith, ap length is.bytes));
    }

-- where the frames behind those that end within so many bytes begin
whole_within : (start written : ℕ) (whole rest : List Framed) → start ≤ written → AreFramed start (whole ++ rest) → AreWithin written whole
    → (start + length (wire (items_in whole)) ≤ written) × AreFramed (start + length (wire (items_in whole))) rest
whole_within start written [] rest below framed within = (omega (arith, below), subst (λ n. AreFramed n rest) (omega arith) framed)
whole_within start written (f ∷ fs) rest below framed within =
    let more = whole_within f.end written fs rest within.0 framed.2 within.1 in
    let same : f.end + length (wire (items_in fs)) ≡ start + length (wire (items_in (f ∷ fs))) =
    omega (arith, framed.1, ap length (wire-append (f.item ∷ []) (items_in fs)), length-append (wire (f.item ∷ [])) (wire (items_in fs))) in
    (subst (λ n. n ≤ written) same more.0, subst (λ n. AreFramed n rest) same more.1)

-- ---- what packets leave as it is

framed_front : (start : ℕ) (xs ys : List Framed) → AreFramed start (xs ++ ys) → AreFramed start xs
framed_front start [] ys framed = tt
framed_front start (x ∷ xs) ys framed = (framed.0, framed.1, framed_front x.end xs ys framed.2)

packet_keeps : (call : Option ℕ) (act : Act) (p : Packet) (s : Stored) → act ≡ Send p → store.change_of call act s ≡ s
packet_keeps None act p s is = refl
packet_keeps (Some c) act p s is = ap (λ a. store.change_of (Some c) a s) is

packets_keep : (start : ℕ) (fs : List Framed) (s : Stored) → AreFramed start fs → store.kept (items_in fs) s ≡ s
packets_keep start [] s framed = refl
packets_keep start (f ∷ fs) s framed =
    ap (store.kept (items_in fs)) (packet_keeps f.item.call f.item.act framed.0.0 s framed.0.1) ∙ packets_keep f.end fs s framed.2

holds_sent : (start : ℕ) (fs : List Framed) (d : Option Stored) → AreFramed start fs → store.Holds (items_in fs) d d
holds_sent start fs None framed = refl
holds_sent start fs (Some s) framed = ap Some (sym (packets_keep start fs s framed))

-- ---- items that are taken out of a batch

pub takes_none : (written : ℕ) (framed : List Framed) (l : ItemLog) → TakesWhole written framed framed l l 0 0
takes_none written framed l = record { whole = []; parts = refl; within = tt; logged = logs_none l; counted = refl }

within_more : (written : ℕ) (whole : List Framed) (f : Framed) → AreWithin written whole → f.end ≤ written → AreWithin written (whole ++ f ∷ [])
within_more written [] f within below = (below, tt)
within_more written (x ∷ xs) f within below = (within.0, within_more written xs f within.1 below)

pub takes_more : (written : ℕ) (framed old rest : List Framed) (f : Framed) (l0 l l' : ItemLog) (count now : ℕ) → TakesWhole written framed old l0 l 0 count → old ≡ f ∷ rest → f.end ≤ written → Logs l l' (f.item ∷ [])
    → now ≡ u64_saturate (count + 1) → TakesWhole written framed rest l0 l' 0 now
takes_more written framed old rest f l0 l l' count now takes first below logs counted = record {
  whole = takes.whole ++ f ∷ [];
  parts = takes.parts ∙ (ap (λ fs. takes.whole ++ fs) first ∙ sym (append_assoc takes.whole (f ∷ []) rest));
  within = within_more written takes.whole f takes.within below;
  logged = subst (Logs l0 l') (sym (map-append (λ (g : Framed). g.item) takes.whole (f ∷ []))) (logs_more (items_in takes.whole) (f.item ∷ []) l0 l l' takes.logged logs);
  counted = omega (arith, counted, takes.counted, length-append takes.whole (f ∷ []));
}

-- counted from another number on
pub takes_from : (written : ℕ) (framed rest : List Framed) (l0 l : ItemLog) (count before done : ℕ) → TakesWhole written framed rest l0 l 0 count → done ≡ u64_saturate (before + count) → TakesWhole written framed rest l0 l before done
takes_from written framed rest l0 l count before done takes is = record {
  whole = takes.whole;
  parts = takes.parts;
  within = takes.within;
  logged = takes.logged;
  counted = omega (arith, is, takes.counted);
}

-- ---- a batch that was written, whole or in part

part_of : (k : ℕ) (frame : List ℕ) → k < length frame → drop k frame ≡ [] → take k frame ≡ []
part_of k frame below none = absurd (omega (arith, below, ap length none, length-drop k frame))

module _ (batch : BatchView) (written : ℕ) (rest : List Framed) (l0 l : ItemLog) (before done : ℕ) (is : IsBatch batch) (takes : TakesWhole written batch.framed rest l0 l before done) (past : EndsPast written rest) where
  abbrev made : List Item
  made = items_in takes.whole

  places : (length (wire made) ≤ written) × AreFramed (length (wire made)) rest
  places =
      let at = whole_within 0 written takes.whole rest (omega arith) (subst (AreFramed 0) takes.parts is.framed) takes.within in
      (omega (arith, at.0), subst (λ n. AreFramed n rest) (omega arith) at.1)

  all_items : items_in batch.framed ≡ made ++ items_in rest
  all_items = ap items_in takes.parts ∙ map-append (λ (g : Framed). g.item) takes.whole rest

  all_bytes : batch.bytes ≡ wire made ++ wire (items_in rest)
  all_bytes = is.bytes ∙ (ap wire all_items ∙ wire-append made (items_in rest))

  -- all of it: nothing is left
  pub none_left : written ≡ length batch.bytes → rest ≡ []
  none_left whole = at rest refl
    where
      at : (fs : List Framed) → rest ≡ fs → rest ≡ []
      at [] same = same
      at (f ∷ fs) same =
          let framed : AreFramed (length (wire made)) (f ∷ fs) = subst (AreFramed (length (wire made))) same places.1 in
          let beyond : EndsPast written (f ∷ fs) = subst (EndsPast written) same past in
          absurd (omega (
            arith,
            whole,
            beyond,
            framed.1,
            ap length (all_bytes ∙ ap (λ gs. wire made ++ wire (items_in gs)) same),
            length-append (wire made) (wire (items_in (f ∷ fs))),
            ap length (wire-append (f.item ∷ []) (items_in fs)),
            length-append (wire (f.item ∷ [])) (wire (items_in fs)),
          ))

  pub all_taken : written ≡ length batch.bytes → takes.whole ≡ batch.framed
  all_taken whole = sym (takes.parts ∙ (ap (λ fs. takes.whole ++ fs) (none_left whole) ∙ append-nil takes.whole))

  -- a part of it: the next frame isn't whole
  pub some_part : (w0 w : Option (List ℕ)) (d : Option Stored) → written < length batch.bytes → Appends w0 w (take written batch.bytes) → MakesSome w0 w d d l0 l (items_in batch.framed) before done
  some_part w0 w d below appends = at rest refl
    where
      at : (fs : List Framed) → rest ≡ fs → MakesSome w0 w d d l0 l (items_in batch.framed) before done
      at [] same = absurd (omega (arith, below, places.0, ap length (all_bytes ∙ ap (λ gs. wire made ++ wire (items_in gs)) same), length-append (wire made) (wire [])))
      at (f ∷ fs) same =
          let framed : AreFramed (length (wire made)) (f ∷ fs) = subst (AreFramed (length (wire made))) same places.1 in
          let beyond : EndsPast written (f ∷ fs) = subst (EndsPast written) same past in
          let frame = wire (f.item ∷ []) in
          let k = written - length (wire made) in
          let short : k < length frame = omega (arith, places.0, beyond, framed.1) in
          let bytes : batch.bytes ≡ wire made ++ (frame ++ wire (items_in fs)) =
          all_bytes ∙ ap (λ xs. wire made ++ xs) (ap (λ gs. wire (items_in gs)) same ∙ wire-append (f.item ∷ []) (items_in fs)) in
          let front : take written batch.bytes ≡ wire made ++ take k frame =
          ap (λ n. take n batch.bytes) (omega (arith, places.0)) ∙ (ap (take (length (wire made) + k)) bytes ∙ (take-append-add (wire made) (frame ++ wire (items_in fs)) k
          ∙ ap (λ xs. wire made ++ xs) (take-append-le k frame (wire (items_in fs)) (omega (arith, short))))) in
          record {
            items = made;
            rest = items_in rest;
            part = take k frame;
            parts = all_items;
            begun = record {
              unwritten = drop k frame;
              begins = take-append-drop k frame ∙ ap (λ gs. wire (take 1 (items_in gs))) (sym same);
              unmade = part_of k frame short;
            };
            written = subst (Appends w0 w) front appends;
            stored = holds_sent 0 takes.whole d (framed_front 0 takes.whole rest (subst (AreFramed 0) takes.parts is.framed));
            logged = takes.logged;
            counted = takes.counted ∙ ap (λ n. u64_saturate (before + n)) (sym (length-map takes.whole (λ (g : Framed). g.item)));
          }

-- ---- answers that are handed on

pub ok_out : {A E X : Type 0} (result : Result A E) → is_err result ≡ false → OnOk result X → X
ok_out (Ok a) is x = x
ok_out (Err e) is x = absurd (cc is)

pub err_out : {A E X : Type 0} (result : Result A E) → is_err result ≡ true → OnErr result X → X
err_out (Ok a) is x = absurd (cc is)
err_out (Err e) is x = x

pub on_err_map : {A E X Y : Type 0} (result : Result A E) → (X → Y) → OnErr result X → OnErr result Y
on_err_map (Ok a) f x = tt
on_err_map (Err e) f x = f x

-- what holds behind an error holds of each error
pub if_err_from : {A E X : Type 0} (P : E → Type 0) (result : Result A E) → OnErr result X → (X → (e : E) → P e) → IfErr result P
if_err_from P (Ok a) x from = tt
if_err_from P (Err e) x from = from x e

-- ---- a round

pub places_behind : (next : Behind) (n : ℕ) → places_for next n ≡ n + places_for next 0
places_behind behind.Full n = omega arith
places_behind behind.Nothing n = omega arith
places_behind behind.Close n = omega arith
places_behind (behind.Act item) n = omega arith
places_behind behind.Unfit n = omega arith

-- the places for the frames alone
pub places_framed : (next : Behind) (n : ℕ) (l : ItemLog) → HasPlaces l (places_for next n) → HasPlaces l n
places_framed next n l has = λ keeps. omega (arith, has keeps, places_behind next n)

came_unended : (before now : List Parcel) (w0 w : Option (List ℕ)) (d0 d : Option Stored) (l0 l : ItemLog) (start done : ℕ) (step : Step) (m : MakesRound before now w0 w d0 d l0 l start done step) → closing step ≡ [] → now ≡ before ++ parcels m.items
came_unended before now w0 w d0 d l0 l start done step m none = m.received ∙ ap (λ ps. before ++ ps) (ap (λ ps. parcels m.items ++ ps) none ∙ append-nil (parcels m.items))

-- a round without the end: all that came was made
pub writes_round : (rule : HandlerRule) (r : Lock) (w0 w w' : Option (List ℕ)) (d0 d d' : Option Stored) (l0 l l' : ItemLog) (before now : List Parcel) (start done : ℕ) (p : Seat) (step : Step) → Writes rule r w0 w d0 d l0 l before start p
    → MakesRound before now w w' d d' l l' start done step → closing step ≡ [] → Writes rule r w0 w' d0 d' l0 l' now done p
writes_round rule r w0 w w' d0 d d' l0 l l' before now start done p step writes m none =
    writes_more rule r w0 w w' d0 d d' l0 l l' before now start done p p m.items writes (came_unended before now w w' d d' l l' start done step m none) m.made m.counted

pub came_ended : (before now : List Parcel) (w0 w : Option (List ℕ)) (d0 d : Option Stored) (l0 l : ItemLog) (start done : ℕ) (step : Step) (m : MakesRound before now w0 w d0 d l0 l start done step) → closing step ≡ End ∷ [] → now ≡ (before ++ parcels m.items) ++ End ∷ []
came_ended before now w0 w d0 d l0 l start done step m end = m.received ∙ (ap (λ ps. before ++ (parcels m.items ++ ps)) end ∙ sym (append_assoc before (parcels m.items) (End ∷ [])))

unfinished_more : (part : List ℕ) (rest : List Item) (item : Item) → IsUnfinished part rest → IsUnfinished part (rest ++ item ∷ [])
unfinished_more [] [] item begun = record { unwritten = wire (item ∷ []); begins = refl; unmade = λ none. refl }
unfinished_more (b ∷ part) [] item begun = absurd (cc (begun.begins))
unfinished_more part (x ∷ xs) item begun = record { unwritten = begun.unwritten; begins = begun.begins; unmade = begun.unmade }

-- an item more came, and wasn't made
some_more : (w0 w : Option (List ℕ)) (d0 d : Option Stored) (l0 l : ItemLog) (all : List Item) (before done : ℕ) (item : Item) → MakesSome w0 w d0 d l0 l all before done → MakesSome w0 w d0 d l0 l (all ++ item ∷ []) before done
some_more w0 w d0 d l0 l all before done item m = record {
  items = m.items;
  rest = m.rest ++ item ∷ [];
  part = m.part;
  parts = ap (λ xs. xs ++ item ∷ []) m.parts ∙ append_assoc m.items m.rest (item ∷ []);
  begun = unfinished_more m.part m.rest item m.begun;
  written = m.written;
  stored = m.stored;
  logged = m.logged;
  counted = m.counted;
}

-- the log was only given room before
some_roomy : (w0 w : Option (List ℕ)) (d0 d : Option Stored) (l0 l1 l : ItemLog) (all : List Item) (before done : ℕ) → Logs l0 l1 [] → MakesSome w0 w d0 d l1 l all before done → MakesSome w0 w d0 d l0 l all before done
some_roomy w0 w d0 d l0 l1 l all before done room m = record {
  items = m.items;
  rest = m.rest;
  part = m.part;
  parts = m.parts;
  begun = m.begun;
  written = m.written;
  stored = m.stored;
  logged = logs_more [] m.items l0 l1 l room m.logged;
  counted = m.counted;
}

-- where no place is needed there is room
no_places : (l : ItemLog) → HasPlaces l 0
no_places l keeps = omega arith

pub gathers_none : (got : List Parcel) (batch : BatchView) (l : ItemLog) → batch ≡ no_batch → Gathers got got batch behind.Full l l
gathers_none got batch l none = subst (λ b. Gathers got got b behind.Full l l) (sym none)
    (record {
      batch_is = record { bytes = refl; framed = tt };
      came = [];
      behind = refl;
      received = sym (append-nil got);
      logged = logs_none l;
      places = no_places l;
    })

module _ (before now now' : List Parcel) (batch : BatchView) (l0 l l' : ItemLog) (g : Gathers before now batch behind.Full l0 l) where
  abbrev in_batch : List Parcel
  in_batch = parcels (items_in batch.framed)

  came_none : now ≡ before ++ (in_batch ++ [])
  came_none = g.received ∙ ap (λ ps. before ++ (in_batch ++ ps)) g.behind

  -- a packet came
  pub gathers_more : (item : Item) → now' ≡ now ++ Put item ∷ [] → IsPacket item → Logs l l' [] → HasPlaces l' (length batch.framed + 1) → Gathers before now' (with_frame item batch) behind.Full l0 l'
  gathers_more item is packet logs places =
      let f : Framed = record { item = item; end = length batch.bytes + length (wire (item ∷ [])) } in
      let grown : parcels (items_in (batch.framed ++ f ∷ [])) ≡ in_batch ++ Put item ∷ [] =
      ap parcels (map-append (λ (g : Framed). g.item) batch.framed (f ∷ [])) ∙ map-append Put (items_in batch.framed) (item ∷ []) in
      record {
        batch_is = batch_more batch item g.batch_is packet;
        came = [];
        behind = refl;
        received =
            is ∙ (ap (λ ps. ps ++ Put item ∷ []) came_none ∙ (append_assoc before (in_batch ++ []) (Put item ∷ [])
            ∙ ap (λ ps. before ++ ps) (ap (λ ps. ps ++ Put item ∷ []) (append-nil in_batch) ∙ (sym grown ∙ sym (append-nil (parcels (items_in (batch.framed ++ f ∷ []))))))));
        logged = logs_more [] [] l0 l l' g.logged logs;
        places = subst (HasPlaces l') (sym (length-append batch.framed (f ∷ []))) places;
      }

  -- something else came, or nothing
  pub gathers_end : (next : Behind) (came : List Parcel) → now' ≡ now ++ came → CameBehind next came → Logs l l' [] → HasPlaces l' (places_for next (length batch.framed)) → Gathers before now' batch next l0 l'
  gathers_end next came is came_is logs places = record {
    batch_is = g.batch_is;
    came = came;
    behind = came_is;
    received =
        is ∙ (ap (λ ps. ps ++ came) came_none ∙ (append_assoc before (in_batch ++ []) came ∙ ap (λ ps. before ++ ps) (ap (λ ps. ps ++ came) (append-nil in_batch))));
    logged = logs_more [] [] l0 l l' g.logged logs;
    places = places;
  }

module _ (before now : List Parcel) (batch : BatchView) (next : Behind) (w0 w : Option (List ℕ)) (d0 d : Option Stored) (l0 l1 l2 l3 : ItemLog) (start middle done : ℕ) (g : Gathers before now batch next l0 l1) where
  -- the batch wasn't written whole
  pub round_cut : MakesSome w0 w d0 d0 l1 l2 (items_in batch.framed) start middle → FailsRound before now w0 w d0 d0 l0 l2 start middle
  round_cut makes = at next g.came g.behind g.received
    where
      roomy : MakesSome w0 w d0 d0 l0 l2 (items_in batch.framed) start middle
      roomy = some_roomy w0 w d0 d0 l0 l1 l2 (items_in batch.framed) start middle g.logged makes

      alone : (came : List Parcel) → came ≡ [] → now ≡ before ++ (parcels (items_in batch.framed) ++ came) → FailsRound before now w0 w d0 d0 l0 l2 start middle
      alone came none received = record {
        came = items_in batch.framed;
        received = inl (received ∙ ap (λ ps. before ++ ps) (ap (λ ps. parcels (items_in batch.framed) ++ ps) none ∙ append-nil (parcels (items_in batch.framed))));
        makes = roomy;
      }

      with_item : (item : Item) (came : List Parcel) → came ≡ Put item ∷ [] → now ≡ before ++ (parcels (items_in batch.framed) ++ came) → FailsRound before now w0 w d0 d0 l0 l2 start middle
      with_item item came is received = record {
        came = items_in batch.framed ++ item ∷ [];
        received = inl (received ∙ ap (λ ps. before ++ ps) (ap (λ ps. parcels (items_in batch.framed) ++ ps) is ∙ sym (map-append Put (items_in batch.framed) (item ∷ []))));
        makes = some_more w0 w d0 d0 l0 l2 (items_in batch.framed) start middle item roomy;
      }

      at : (next : Behind) (came : List Parcel) → CameBehind next came → now ≡ before ++ (parcels (items_in batch.framed) ++ came) → FailsRound before now w0 w d0 d0 l0 l2 start middle
      at behind.Full came is received = alone came is received
      at behind.Nothing came is received = alone came is received
      at behind.Close came is received = record {
        came = items_in batch.framed;
        received = inr (received ∙ ap (λ ps. before ++ (parcels (items_in batch.framed) ++ ps)) is);
        makes = roomy;
      }
      at (behind.Act item) came is received = with_item item came is.1 received
      at behind.Unfit came is received = with_item is.0 came is.1 received

  module _ (written : Appends w0 w batch.bytes) (logged : Logs l1 l2 (items_in batch.framed)) (counted : middle ≡ u64_saturate (start + length batch.framed)) where
    abbrev first : List Item
    first = items_in batch.framed

    frames : Appends w0 w (wire first)
    frames = subst (Appends w0 w) g.batch_is.bytes written

    count : (n : ℕ) → done ≡ u64_saturate (middle + n) → done ≡ u64_saturate (start + (length first + n))
    count n is = let same = length-map batch.framed (λ (f : Framed). f.item) in omega (arith, is, counted, same)

    -- all of it was written, and what came behind was made
    pub round_made : (step : Step) → MakesBehind g.came d0 d l2 l3 middle done step → MakesRound before now w0 w d0 d l0 l3 start done step
    round_made step b = record {
      items = first ++ b.items;
      received =
          g.received ∙ ap (λ ps. before ++ ps)
          (ap (λ ps. parcels first ++ ps) b.received ∙ (sym (append_assoc (parcels first) (parcels b.items) (closing step)) ∙ ap (λ ps. ps ++ closing step) (sym (map-append Put first b.items))));
      made = record {
        written = subst (Appends w0 w) (sym (append-nil (wire first)) ∙ (ap (λ bytes. wire first ++ bytes) (sym b.silent) ∙ sym (wire-append first b.items))) frames;
        stored = holds_more first b.items d0 d0 d (holds_sent 0 batch.framed d0 g.batch_is.framed) b.stored;
        logged = logs_more first b.items l0 l2 l3 (logs_more [] first l0 l1 l2 g.logged logged) b.logged;
      };
      counted = count (length b.items) b.counted ∙ ap (λ n. u64_saturate (start + n)) (sym (length-append first b.items));
    }

    came_last : (b : FailsBehind g.came d0 d l2 l3 middle done) → now ≡ before ++ parcels (first ++ b.item ∷ [])
    came_last b = g.received ∙ ap (λ ps. before ++ ps) (ap (λ ps. parcels first ++ ps) b.received ∙ sym (map-append Put first (b.item ∷ [])))

    count_first : FailsBehind g.came d0 d l2 l3 middle done → done ≡ u64_saturate (start + length first)
    count_first b = b.counted ∙ (counted ∙ ap (λ n. u64_saturate (start + n)) (sym (length-map batch.framed (λ (f : Framed). f.item))))

    pub round_last : FailsBehind g.came d0 d l2 l3 middle done → FailsAtLast before now w0 w start done
    round_last b = record { made = first; item = b.item; received = came_last b; written = frames; counted = count_first b }

    -- and what came behind wasn't made
    pub round_failed : FailsBehind g.came d0 d l2 l3 middle done → FailsRound before now w0 w d0 d l0 l3 start done
    round_failed b = record {
      came = first ++ b.item ∷ [];
      received = inl (came_last b);
      makes = record {
        items = first;
        rest = b.item ∷ [];
        part = [];
        parts = refl;
        begun = record { unwritten = wire (b.item ∷ []); begins = refl; unmade = λ none. refl };
        written = subst (Appends w0 w) (sym (append-nil (wire first))) frames;
        stored = b.kept ∙ holds_sent 0 batch.framed d0 g.batch_is.framed;
        logged = subst (Logs l0 l3) (append-nil first) (logs_more first [] l0 l2 l3 (logs_more [] first l0 l1 l2 g.logged logged) b.logged);
        counted = count_first b;
      };
    }
