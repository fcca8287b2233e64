-- How a dump ends.
use Rattle.std.proofs.Common.{◌≡◌, ◌⊎◌, ℕ, ◌+◌, ◌<◌, ◌≤◌, List, [], ◌∷◌, ◌++◌, length, take, Option, inl, inr, refl, sym, ap, ◌∙◌, subst, arith, append-nil, length-append}
use Rattle.std.specs.Prelude.{◌≢◌}
use Rattle.std.specs.Io.KnownBytes.{Appends, Consumes, IsAtEnd, Keeps}
use Rattle.std.proofs.KnownBytes.{Consumes-kept, Consumes-trans}
use Rattle.link_io.specs.declared.why.Why.{Why}
use Rattle.link_io.specs.declared.why.Why.TheVariants as why
use Rattle.link_io.specs.Device.{AppendsSome}
use Rattle.stream_dump.specs.Dump.{dump_text}
use Rattle.stream_dump.specs.Dumps.{Dumps, DumpsBy}
use Rattle.stream_dump.specs.Names.{Name}
use Rattle.stream_dump.specs.Progress.{DumpsOn, HasTaken, Progress, StopsIn}
use Rattle.stream_dump.specs.Steps.{last_lines}
use Rattle.stream_dump.proofs.DumpLemmas.{dumped_part, dumped_whole}

-- so many bytes more
pub taken_more : (names : List Name) (old new : Progress) (left_old left_mid left_new first w v : Option (List ℕ)) (total count : ℕ) (piece : List ℕ)
    → HasTaken names (record { dumper = old; written = w }) left_old left_mid first total → Consumes left_mid left_new piece → length piece ≡ count
    → DumpsOn names (record { dumper = old; written = w }) (record { dumper = new; written = v }) piece
    → HasTaken names (record { dumper = new; written = v }) left_old left_new first (total + count)
taken_more names old new left_old left_mid left_new first w v total count piece has more size on =
    let was = has.count in
    let long = length-append has.bytes piece in
    record {
      bytes = has.bytes ++ piece;
      taken = Consumes-trans left_old left_mid left_new has.bytes piece has.taken more;
      count = omega arith;
      dumped = on first has.bytes has.dumped;
    }

pub not_whole : (w : Why) → (w ≡ why.Sink) ⊎ (w ≡ why.InputLimit) → (w ≡ why.Settled) ⊎ (w ≡ why.Source) → ⊥
not_whole w (inl sink) (inl settled) = absurd (cc)
not_whole w (inl sink) (inr source) = absurd (cc)
not_whole w (inr limit) (inl settled) = absurd (cc)
not_whole w (inr limit) (inr source) = absurd (cc)

-- a write failed in a piece
pub dumps_to_stop : (names : List Name) (old : Progress) (left_old left_mid left_new first w v : Option (List ℕ)) (total count : ℕ) (piece : List ℕ)
    → HasTaken names (record { dumper = old; written = w }) left_old left_mid first total → Consumes left_mid left_new piece → length piece ≡ count
    → total + count ≤ 67108864 → StopsIn names (record { dumper = old; written = w }) v piece
    → Dumps names left_old left_new first v why.Sink
dumps_to_stop names old left_old left_mid left_new first w v total count piece has more size within stops =
    let was = has.count in
    let long = length-append has.bytes piece in
    record {
      bytes = has.bytes ++ piece;
      taken = Consumes-trans left_old left_mid left_new has.bytes piece has.taken more;
      within = omega arith;
      at_limit = λ limit. absurd (cc);
      below = λ ended. absurd (not_whole why.Sink (inl refl) ended);
      at_end = λ settled. absurd (cc);
      wrote = stops first has.bytes has.dumped;
    }

-- the last lines were written, or not
ends_whole : (w : Why) (names : List Name) (bytes : List ℕ) (old new : Option (List ℕ)) → w ≢ why.Sink → w ≢ why.Store → w ≢ why.JournalLimit → w ≢ why.Memory
    → Appends old new (dump_text names bytes) → DumpsBy w names bytes old new
ends_whole why.Settled names bytes old new a b c d wrote = wrote
ends_whole why.Source names bytes old new a b c d wrote = wrote
ends_whole why.InputLimit names bytes old new a b c d wrote = wrote
ends_whole why.Sink names bytes old new a b c d wrote = absurd (a refl)
ends_whole why.Store names bytes old new a b c d wrote = absurd (b refl)
ends_whole why.JournalLimit names bytes old new a b c d wrote = absurd (c refl)
ends_whole why.Memory names bytes old new a b c d wrote = absurd (d refl)

-- the stream is over for a reason, and the last lines were begun
pub dumps_to_end : (names : List Name) (p : Progress) (left_old left_new first w v : Option (List ℕ)) (total : ℕ) (own result : Why)
    → HasTaken names (record { dumper = p; written = w }) left_old left_new first total → total ≤ 67108864
    → (own ≡ why.InputLimit → 67108864 ≤ total) → ((own ≡ why.Settled) ⊎ (own ≡ why.Source) → total < 67108864) → (own ≡ why.Settled → IsAtEnd left_new)
    → own ≢ why.Sink → own ≢ why.Store → own ≢ why.JournalLimit → own ≢ why.Memory
    → (result ≡ own) ⊎ (result ≡ why.Sink) → (result ≢ why.Sink → Appends w v (last_lines p)) → AppendsSome w v (last_lines p)
    → Dumps names left_old left_new first v result
dumps_to_end names p left_old left_new first w v total own result has within at_limit below at_end a b c d (inl is) whole begun =
    let was = has.count in
    let loud : result ≢ why.Sink = λ e. a (sym is ∙ e) in
    subst (Dumps names left_old left_new first v) (sym is) (record {
      bytes = has.bytes;
      taken = has.taken;
      within = omega arith;
      at_limit = λ e. let most = at_limit e in omega arith;
      below = λ e. let few = below e in omega arith;
      at_end = at_end;
      wrote = ends_whole own names has.bytes first v a b c d (dumped_whole names p w v first has.bytes has.dumped (whole loud));
    })
dumps_to_end names p left_old left_new first w v total own result has within at_limit below at_end a b c d (inr is) whole begun =
    let was = has.count in
    subst (Dumps names left_old left_new first v) (sym is) (record {
      bytes = has.bytes;
      taken = has.taken;
      within = omega arith;
      at_limit = λ limit. absurd (cc);
      below = λ ended. absurd (not_whole why.Sink (inl refl) ended);
      at_end = λ settled. absurd (cc);
      wrote = dumped_part names p w v first has.bytes has.dumped begun;
    })

-- nothing more was read
pub kept_taken : (names : List Name) (p : Progress) (left_old left_mid left_new first w : Option (List ℕ)) (total : ℕ)
    → HasTaken names (record { dumper = p; written = w }) left_old left_mid first total → Keeps left_mid left_new
    → HasTaken names (record { dumper = p; written = w }) left_old left_new first total
kept_taken names p left_old left_mid left_new first w total has keeps = record {
  bytes = has.bytes;
  taken = Consumes-kept left_old left_mid left_new has.bytes has.taken keeps;
  count = has.count;
  dumped = has.dumped;
}

pub none_taken : (names : List Name) (p : Progress) (left_old left_mid left_new first w : Option (List ℕ)) (total : ℕ) (rest : List ℕ)
    → HasTaken names (record { dumper = p; written = w }) left_old left_mid first total → Consumes left_mid left_new rest → rest ≡ []
    → HasTaken names (record { dumper = p; written = w }) left_old left_new first total
none_taken names p left_old left_mid left_new first w total rest has more none = record {
  bytes = has.bytes;
  taken =
      subst (Consumes left_old left_new) (ap (λ xs. has.bytes ++ xs) none ∙ append-nil has.bytes)
      (Consumes-trans left_old left_mid left_new has.bytes rest has.taken more);
  count = has.count;
  dumped = has.dumped;
}

pub take_none : (xs : List ℕ) → take 0 xs ≡ []
take_none [] = refl
take_none (x ∷ xs) = refl
