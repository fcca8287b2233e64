-- Pieces of a stream, and what a loop over them answers.
use Rattle.std.proofs.Common.{◌≡◌, ◌⊎◌, ℕ, ◌+◌, ◌-◌, ◌<◌, ◌≤◌, true, false, List, [], ◌++◌, length, take, drop, Option, Result, Ok, Err, OnOk, IsErr, IsErrAnd, refl, sym, ◌∙◌, ap, subst, inl, inr, append_assoc, arith, length-append, length-take}
use Rattle.std.proofs.Math.Seq.{take-append-add}
use Rattle.std.proofs.lemmas.Bool.{true≢false}
use Rattle.std.proofs.lemmas.List.{append-nil, take-append-drop, take-append-le, take-take}
use Rattle.std.specs.Io.KnownBytes.{Consumes}
use Rattle.std.proofs.KnownBytes.{Consumes-trans}
use Rattle.link_io.specs.Reading.{ConsumesUpTo}
use Rattle.link_io.specs.declared.reading.Ending as reading
use Rattle.link_io.specs.declared.store.StoreRefused.{StoreRefused}
use Rattle.link_io.specs.declared.store.StoreRefused.TheVariants.{Failed}
use Rattle.link_io.specs.declared.store.StoreRefused.TheVariants as store
use Rattle.rpc_packet.specs.declared.owned.Packet.{Packet}
use Rattle.rpc_handlers.specs.HandlerRule.{HandlerRule}
use Rattle.rpc_journal.specs.declared.answers.StartRefused.{StartRefused}
use Rattle.rpc_journal.specs.declared.answers.StartRefused.TheVariants.{JournalFull}
use Rattle.rpc_journal.specs.declared.answers.StartRefused.TheVariants as start
use Rattle.rpc_journal.specs.declared.item.Item.{Item}
use Rattle.rpc_journal.specs.Items.{input_ended}
use Rattle.rpc_journal.proofs.PlaceLemmas.{below_or_not}
use Rattle.rpc_frames.proofs.Pieces.{piece_parts}
use Rattle.rpc_schedule.specs.declared.stop.Stop.{Stop}
use Rattle.rpc_schedule.specs.declared.stop.Stop.TheVariants as stop
use Rattle.rpc_schedule.specs.declared.stream.TheConstants.{INPUT_LIMIT}
use Rattle.rpc_schedule.specs.OneThread.{IsFullBeginning, IsStoreStop}
use Rattle.rpc_schedule.specs.Replays.{Reads, StopsBehind}
use Rattle.rpc_schedule.specs.Serving.{EndsWithPacket, FedBy, HasHeard, Serving, deeds}
use Rattle.rpc_schedule.specs.Settling.{IsFullFor, IsStoreStopFor, StopsIn}
use Rattle.rpc_schedule.specs.Stops.{stop_by_store, stop_of}

pub on_ok_and : {T E P Q R : Type 0} (r : Result T E) → (P → Q → R) → OnOk r P → OnOk r Q → OnOk r R
on_ok_and (Ok x) f p q = f p q
on_ok_and (Err e) f p q = tt

-- one more read
pub reads_more :
    (limit : ℕ) (a b c : Option (List ℕ)) (bytes buf : List ℕ) (total room count : ℕ) → Consumes a b bytes → length bytes ≡ total →
    Consumes b c (take count buf) → length buf ≤ room → total + room ≤ limit → ConsumesUpTo limit a c
reads_more limit a b c bytes buf total room count taken long next short within = record {
  bytes = bytes ++ take count buf;
  within = omega (arith, length-append bytes (take count buf), length-take count buf);
  consumed = Consumes-trans a b c bytes (take count buf) taken next;
}

-- the refusal that stopped a server for a full journal
pub journal_full : {T : Type 0} (res : Result T Stop) (r : StartRefused) → IsErr res × IsErrAnd res (λ e. e ≡ stop_of r) → res ≡ Err stop.Journal → r ≡ JournalFull
journal_full (Ok x) r is same = absurd cc
journal_full (Err e) JournalFull is same = refl
journal_full (Err e) start.Memory is same = absurd cc

-- it isn't one of the store
pub not_store : {T : Type 0} (res : Result T Stop) (r : StartRefused) → IsErr res × IsErrAnd res (λ e. e ≡ stop_of r) → res ≡ Err stop.Store → ⊥
not_store (Ok x) r is same = cc
not_store (Err e) JournalFull is same = cc
not_store (Err e) start.Memory is same = cc

-- the refusal that stopped a server for a fault of the store
pub store_failed : {T : Type 0} (res : Result T Stop) (r : StoreRefused) → IsErr res × IsErrAnd res (λ e. e ≡ stop_by_store r) → res ≡ Err stop.Store → r ≡ Failed
store_failed (Ok x) r is same = absurd cc
store_failed (Err e) Failed is same = refl
store_failed (Err e) store.Memory is same = absurd cc

-- it isn't one of the journal
pub not_full : {T : Type 0} (res : Result T Stop) (r : StoreRefused) → IsErr res × IsErrAnd res (λ e. e ≡ stop_by_store r) → res ≡ Err stop.Journal → ⊥
not_full (Ok x) r is same = cc
not_full (Err e) Failed is same = cc
not_full (Err e) store.Memory is same = cc

-- an error that is handed on
pub handed_on : {T U E : Type 0} (res : Result T E) (old : Result U E) (e x : E) → old ≡ Err e → IsErr res × IsErrAnd res (λ y. y ≡ e) → res ≡ Err x → old ≡ Err x
handed_on (Ok y) old e x was is same = absurd cc
handed_on {T} {U} {E} (Err y) old e x was is same = was ∙ ap Err (sym is.1 ∙ error_is y x same)
  where
    error_is : (y x : E) → ◌≡◌ {A = Result T E} (Err y) (Err x) → y ≡ x
    error_is y x is = cc

-- where one packet more is heard with the last byte, the bytes end with a packet
pub ends_with_packet : (heard : List ℕ → List Packet) (bytes piece : List ℕ) (count : ℕ) → ((s t : List ℕ) → length (heard s) ≤ length (heard (s ++ t)))
    → count ≤ length piece → ((n : ℕ) → n < count → heard (bytes ++ take n piece) ≡ heard bytes) → length (heard bytes) < length (heard (bytes ++ take count piece))
    → EndsWithPacket heard (bytes ++ take count piece)
ends_with_packet heard bytes piece count more within none larger n below = at (below_or_not n (length bytes))
  where
    at : (n < length bytes) ⊎ (length bytes ≤ n) → length (heard (take n (bytes ++ take count piece))) < length (heard (bytes ++ take count piece))
    at (inl inside) =
        let front : take n (bytes ++ take count piece) ≡ take n bytes = take-append-le n bytes (take count piece) (omega (arith, inside)) in
        let fewer : length (heard (take n bytes)) ≤ length (heard bytes) =
        subst (λ all. length (heard (take n bytes)) ≤ length (heard all)) (take-append-drop n bytes) (more (take n bytes) (drop n bytes)) in
        subst (λ part. length (heard part) < length (heard (bytes ++ take count piece))) (sym front) (omega (arith, fewer, larger))
    at (inr behind) =
        let k = n - length bytes in
        let few : k < count = omega (arith, behind, below, length-append bytes (take count piece), length-take count piece) in
        let number : length bytes + k ≡ n = omega (arith, behind) in
        let part : take n (bytes ++ take count piece) ≡ bytes ++ take k piece =
        subst (λ m. take m (bytes ++ take count piece) ≡ bytes ++ take k piece) number
        (take-append-add bytes (take count piece) k ∙ ap (λ rest. bytes ++ rest) (take-take k count piece (omega (arith, few)))) in
        subst (λ xs. length (heard xs) < length (heard (bytes ++ take count piece))) (sym part)
        (subst (λ ps. length ps < length (heard (bytes ++ take count piece))) (sym (none k few)) larger)

-- a server stopped at a packet in a piece
pub stops_in : (heard : List ℕ → List Packet) (stood mid fed stands : List ℕ → Type 0) (piece : List ℕ) (done count : ℕ) (s : Serving)
    → ((a b : List ℕ) → length (heard a) ≤ length (heard (a ++ b))) → done ≤ length piece → ((bytes : List ℕ) → stood bytes → mid (bytes ++ take done piece))
    → FedBy heard mid fed (take (length piece - done) (drop done piece)) count → ((bytes : List ℕ) → fed bytes → stands bytes)
    → ((before now : List ℕ) → mid before → stands now → length (heard before) < length (heard now)) → input_ended (deeds s) ≡ false
    → StopsIn heard stood stands piece s
stops_in heard stood mid fed stands piece done count s more within before part behind larger unended =
    let rest = take (length piece - done) (drop done piece) in
    let now : (bytes : List ℕ) → stood bytes → stands ((bytes ++ take done piece) ++ take count rest) =
    λ bytes stood. behind ((bytes ++ take done piece) ++ take count rest) (part.fed (bytes ++ take done piece) (before bytes stood)) in
    record {
      unended = unended;
      count = done + count;
      within = omega (arith, part.within, within, length-take (length piece - done) (drop done piece));
      fed = λ bytes stood. subst stands (piece_parts bytes piece done count) (now bytes stood);
      last = λ bytes stood. subst (EndsWithPacket heard) (piece_parts bytes piece done count)
          (ends_with_packet heard (bytes ++ take done piece) rest count more part.within (part.none_before (bytes ++ take done piece) (before bytes stood))
          (larger (bytes ++ take done piece) ((bytes ++ take done piece) ++ take count rest) (before bytes stood) (now bytes stood)));
    }

-- a server stopped within a piece that was read behind these bytes
pub stops_behind_piece : (heard : List ℕ → List Packet) (stood stands : List ℕ → Type 0) (a b c : Option (List ℕ)) (bytes buf piece : List ℕ)
    (total room count : ℕ) (s : Serving) (Is : List ℕ → Type 0)
    → stood bytes → Consumes a b bytes → length bytes ≡ total → piece ≡ take count buf → Consumes b c (take count buf) → length buf ≤ room
    → total + room ≤ INPUT_LIMIT → StopsIn heard stood stands piece s → ((fed : List ℕ) → stands fed → Is fed)
    → (read : StopsBehind heard stands a c s.table) × Is read.bytes
stops_behind_piece heard stood stands a b c bytes buf piece total room count s Is before taken long is next short within part there =
    let parts : (bytes ++ take part.count piece) ++ drop part.count piece ≡ bytes ++ take count buf =
    append_assoc bytes (take part.count piece) (drop part.count piece) ∙ (ap (λ more. bytes ++ more) (take-append-drop part.count piece) ∙ ap (λ more. bytes ++ more) is) in
    let fed : stands (bytes ++ take part.count piece) = part.fed bytes before in (
      record {
        bytes = bytes ++ take part.count piece;
        unfed = drop part.count piece;
        taken = subst (Consumes a c) (sym parts) (Consumes-trans a b c bytes (take count buf) taken next);
        within = subst (λ all. length all ≤ INPUT_LIMIT) (sym parts) (omega (arith, length-append bytes (take count buf), length-take count buf));
        fed = fed;
        last = λ unended. part.last bytes before;
        all = λ ended. absurd (true≢false (sym ended ∙ part.unended));
      },
      there (bytes ++ take part.count piece) fed,
    )

-- a server stopped when all was fed, and the input had ended
pub stops_behind_all : (heard : List ℕ → List Packet) (stood stands : List ℕ → Type 0) (a c : Option (List ℕ)) (ending : reading.Ending) (s : Serving) (Is : List ℕ → Type 0)
    → Reads stood a c ending → ((bytes : List ℕ) → stood bytes → stands bytes) → input_ended (deeds s) ≡ true → ((fed : List ℕ) → stands fed → Is fed)
    → (read : StopsBehind heard stands a c s.table) × Is read.bytes
stops_behind_all heard stood stands a c ending s Is reads later ended there = (
  record {
    bytes = reads.bytes;
    unfed = [];
    taken = subst (Consumes a c) (sym (append-nil reads.bytes)) reads.taken;
    within = subst (λ all. length all ≤ INPUT_LIMIT) (sym (append-nil reads.bytes)) reads.within;
    fed = later reads.bytes reads.fed;
    last = λ unended. absurd (true≢false (sym ended ∙ unended));
    all = λ _. refl;
  },
  there reads.bytes (later reads.bytes reads.fed),
)

-- what the table has then
pub full_there : (rule : HandlerRule) (heard : List ℕ → List Packet) (stands : List ℕ → Type 0) (s : Serving) → ((fed : List ℕ) → stands fed → HasHeard (heard fed) s)
    → IsFullFor rule s → (fed : List ℕ) → stands fed → IsFullBeginning rule s.table.setting (heard fed) s.table.entries
full_there rule heard stands s arrived full fed there = full (heard fed) (arrived fed there)

pub store_there : (rule : HandlerRule) (heard : List ℕ → List Packet) (stands : List ℕ → Type 0) (s : Serving) (items : List Item)
    → ((fed : List ℕ) → stands fed → HasHeard (heard fed) s) → IsStoreStopFor rule s items → (fed : List ℕ) → stands fed
    → IsStoreStop rule s.table.setting (heard fed) s.table.entries items
store_there rule heard stands s items arrived stop fed there = stop (heard fed) (arrived fed there)
