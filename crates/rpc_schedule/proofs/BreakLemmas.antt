-- How far a server came where memory was wanting.
use Rattle.std.proofs.Common.{◌≡◌, ℕ, ◌≤◌, ◌+◌, ◌-◌, List, [], ◌∷◌, ◌++◌, length, take, drop, Option, Some, None, is_some, refl, ap, sym, ◌∙◌, subst, arith, append_assoc, length-append, length-take}
use Rattle.std.proofs.lemmas.List.{append-nil, take-append-drop}
use Rattle.std.specs.Io.KnownBytes.{Consumes}
use Rattle.std.proofs.KnownBytes.{Consumes-trans}
use mathlib.Core.List.{IsPrefix}
use Rattle.entry_lists.proofs.Prefixes.{prefix_self}
use Rattle.link_io.specs.declared.reading.Ending as reading
use Rattle.rpc_packet.specs.declared.owned.Packet.{Packet}
use Rattle.rpc_journal.specs.declared.answers.StartRefused.{StartRefused}
use Rattle.rpc_journal.specs.declared.item.Item.{Item}
use Rattle.rpc_journal.specs.Items.{arrivals, items_sent}
use Rattle.rpc_schedule.specs.declared.stream.TheConstants.{INPUT_LIMIT}
use Rattle.rpc_schedule.specs.Replays.{BreaksOff, Reads}
use Rattle.rpc_schedule.specs.Serving.{FedBy, HasHeard, Serving, deeds}
use Rattle.rpc_schedule.specs.Settling.{BreaksWithin}
use Rattle.rpc_frames.proofs.Pieces.{piece_parts}

-- what arrived begins what was heard
pub arrived_begin : (packets : List Packet) (s : Serving) → HasHeard packets s → IsPrefix (arrivals s.table.entries) packets
arrived_begin packets s heard = at s.refused refl
  where
    at : (o : Option StartRefused) → s.refused ≡ o → IsPrefix (arrivals s.table.entries) packets
    at None is = subst (IsPrefix (arrivals s.table.entries)) (sym (heard.all is)) (prefix_self (arrivals s.table.entries))
    at (Some why) is = let last = heard.but_one (ap is_some is) in (last.0 ∷ [], sym last.1)

-- a server broke off within a piece
pub breaks_in : (heard : List ℕ → List Packet) (stood mid fed stands : List ℕ → Type 0) (piece : List ℕ) (done count : ℕ) (s : Serving) (items : List Item)
    → done ≤ length piece → ((bytes : List ℕ) → stood bytes → mid (bytes ++ take done piece))
    → FedBy heard mid fed (take (length piece - done) (drop done piece)) count → ((bytes : List ℕ) → fed bytes → stands bytes)
    → IsPrefix items (items_sent (deeds s)) → BreaksWithin stood stands piece s items
breaks_in heard stood mid fed stands piece done count s items within before part behind sent = record {
  count = done + count;
  within = omega (arith, part.within, within, length-take (length piece - done) (drop done piece));
  fed = λ bytes stood. subst stands (piece_parts bytes piece done count) (behind _ (part.fed (bytes ++ take done piece) (before bytes stood)));
  sent = sent;
}

-- within a piece that was read behind these bytes
pub breaks_behind : (heard : List ℕ → List Packet) (stood stands : List ℕ → Type 0) (a b c : Option (List ℕ)) (bytes buf piece : List ℕ)
    (total room count : ℕ) (s : Serving) (items : List Item)
    → stood bytes → Consumes a b bytes → length bytes ≡ total → piece ≡ take count buf → Consumes b c (take count buf) → length buf ≤ room
    → total + room ≤ INPUT_LIMIT → BreaksWithin stood stands piece s items → ((fed : List ℕ) → stands fed → HasHeard (heard fed) s)
    → BreaksOff heard stands a c s.table items
breaks_behind heard stood stands a b c bytes buf piece total room count s items before taken long is next short within part arrived =
    let parts : (bytes ++ take part.count piece) ++ drop part.count piece ≡ bytes ++ take count buf =
    append_assoc bytes (take part.count piece) (drop part.count piece) ∙ (ap (λ more. bytes ++ more) (take-append-drop part.count piece) ∙ ap (λ more. bytes ++ more) is) in
    let fed : stands (bytes ++ take part.count piece) = part.fed bytes before in record {
      bytes = bytes ++ take part.count piece;
      unfed = drop part.count piece;
      taken = subst (Consumes a c) (sym parts) (Consumes-trans a b c bytes (take count buf) taken next);
      within = subst (λ all. length all ≤ INPUT_LIMIT) (sym parts) (omega (arith, length-append bytes (take count buf), length-take count buf));
      fed = fed;
      arrived = arrived_begin (heard (bytes ++ take part.count piece)) s (arrived (bytes ++ take part.count piece) fed);
      sent = part.sent;
    }

-- when all was fed
pub breaks_at_end : (heard : List ℕ → List Packet) (stood stands : List ℕ → Type 0) (a c : Option (List ℕ)) (ending : reading.Ending) (s : Serving) (items : List Item)
    → Reads stood a c ending → ((bytes : List ℕ) → stood bytes → stands bytes) → IsPrefix items (items_sent (deeds s))
    → ((fed : List ℕ) → stands fed → HasHeard (heard fed) s) → BreaksOff heard stands a c s.table items
breaks_at_end heard stood stands a c ending s items reads later sent arrived = record {
  bytes = reads.bytes;
  unfed = [];
  taken = subst (Consumes a c) (sym (append-nil reads.bytes)) reads.taken;
  within = subst (λ all. length all ≤ INPUT_LIMIT) (sym (append-nil reads.bytes)) reads.within;
  fed = later reads.bytes reads.fed;
  arrived = arrived_begin (heard reads.bytes) s (arrived reads.bytes (later reads.bytes reads.fed));
  sent = sent;
}
