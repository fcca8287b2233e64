-- How often a receiver asks while all pieces come, in order and whole.
use Rattle.std.proofs.Common.{◌≡◌, ℕ, zero, suc, ◌+◌, ◌-◌, ◌*◌, ◌/◌, ◌<◌, ◌≤◌, ◌==◌, ◌&&◌, nat_lt, nat_le, min, ◌⊎◌, inl, inr, Bool, true, false, if◌then◌else◌, List, [], ◌∷◌, length, Some, None, refl, sym, ap, ◌∙◌, subst, arith}
use Rattle.std.proofs.lemmas.Bool.{leb-true}
use Rattle.std.proofs.lemmas.Bool.Decides.{nat_tests}
use Rattle.std.proofs.Math.Nat.{le_of_mul-le-mul_right}
use Rattle.rpc_ids.specs.declared.Status.TheVariants.{Okay, Internal, OutOfRange}
use Rattle.transfer_base.specs.declared.Piece.{Piece}
use Rattle.transfer_base.specs.declared.limits.TheConstants.{MAX_RESOURCE}
use Rattle.transfer_base.specs.PieceLists.{AreConsecutive, OnlyTheLastEnds, end_of}
use Rattle.transfer_receiver.specs.declared.answers.Received.TheVariants.{Kept}
use Rattle.transfer_receiver.specs.Phase.{is_open}
use Rattle.transfer_receiver.specs.Receiver.{Receiver, new_receiver, asking, ask_of, span_of_ask}
use Rattle.transfer_receiver.specs.PieceRules.{PieceOutcome, ignoring, ending, keeping, is_half_used, going_on, taking, open_outcome, piece_outcome, active_at}
use Rattle.transfer_receiver.specs.Run.{outcome_of}
use Rattle.transfer_laws.specs.cores.Asks.{AreWhole, asks_in, asks_over, AsksAreFew}

abbrev doubled : ℕ → ℕ
doubled zero = 1
doubled (suc q) = 2 * doubled q

one_low : (q : ℕ) → 1 ≤ doubled q
one_low zero = omega arith
one_low (suc q) = omega (arith, one_low q)

at_most_5 : (q : ℕ) → doubled q < 64 → q ≤ 5
at_most_5 zero h = omega arith
at_most_5 (suc zero) h = omega arith
at_most_5 (suc (suc zero)) h = omega arith
at_most_5 (suc (suc (suc zero))) h = omega arith
at_most_5 (suc (suc (suc (suc zero)))) h = omega arith
at_most_5 (suc (suc (suc (suc (suc zero))))) h = omega arith
at_most_5 (suc (suc (suc (suc (suc (suc q)))))) h = absurd (omega (arith, h, one_low q))

five_or_less : (q : ℕ) → q ≤ 5 → (q ≤ 4) ⊎ (doubled q ≡ 32)
five_or_less zero h = inl (omega arith)
five_or_less (suc zero) h = inl (omega arith)
five_or_less (suc (suc zero)) h = inl (omega arith)
five_or_less (suc (suc (suc zero))) h = inl (omega arith)
five_or_less (suc (suc (suc (suc zero)))) h = inl (omega arith)
five_or_less (suc (suc (suc (suc (suc zero))))) h = inr refl
five_or_less (suc (suc (suc (suc (suc (suc q)))))) h = absurd (omega (arith, h))

-- So many asks came, at a span, with a window up to the end of piece e.
pub record Counted (q s e : ℕ) : Type 0 where
  pub over : s ≤ e
  pub small : s < 64 → doubled q ≤ s
  pub early : s < 64 → (q ≡ 0) ⊎ (doubled q + 2 * s ≤ 2 * e)
  pub wide : s ≡ 64 → 32 * q ≤ 96 + e

pub few_so_far : (q s e big : ℕ) → s ≤ 64 → Counted q s e → e + 1 ≤ big + s → q ≤ 5 + big / 32
few_so_far q s e big high c near = by_span (nat_lt s 64) refl
  where
    by_span : (b : Bool) → nat_lt s 64 ≡ b → q ≤ 5 + big / 32
    by_span true t = let less : s < 64 = grind (arith, nat_tests) in omega (arith, at_most_5 q (omega (arith, c.small less, less)))
    by_span false t = let full : s ≡ 64 = grind (arith, nat_tests) in omega (arith, c.wide full, near, full)

-- one ask more, at piece i + 1, where at most half of the window was left
pub wider : (q s i w : ℕ) → 1 ≤ s → s ≤ 64 → Counted q s (i + suc w) → 2 * w ≤ s → Counted (suc q) (min 64 (2 * s)) (i + 1 + min 64 (2 * s))
wider q s i w low high c half = record { over = omega arith; small = small; early = early; wide = wide }
  where
    less : min 64 (2 * s) < 64 → s < 64
    less h = omega (arith, h, low)

    small : min 64 (2 * s) < 64 → 2 * doubled q ≤ min 64 (2 * s)
    small h = omega (arith, h, c.small (less h))

    early_by : min 64 (2 * s) < 64 → (q ≡ 0) ⊎ (doubled q + 2 * s ≤ 2 * (i + suc w)) → 2 * doubled q + 2 * min 64 (2 * s) ≤ 2 * (i + 1 + min 64 (2 * s))
    early_by h (inl none) = let one : doubled q ≡ 1 = ap doubled none in omega (arith, one)
    early_by h (inr more) = omega (arith, h, more, half, c.small (less h))

    early : min 64 (2 * s) < 64 → (suc q ≡ 0) ⊎ (2 * doubled q + 2 * min 64 (2 * s) ≤ 2 * (i + 1 + min 64 (2 * s)))
    early h = inr (early_by h (c.early (less h)))

    wide_five : (q ≤ 4) ⊎ (doubled q ≡ 32) → q ≤ 5 → (q ≡ 0) ⊎ (doubled q + 2 * s ≤ 2 * (i + suc w)) → 64 ≤ 2 * s → 32 * suc q ≤ 96 + (i + 1 + 64)
    wide_five (inl few) five more big = omega (arith, few)
    wide_five (inr all) five (inl none) big = omega (arith, none)
    wide_five (inr all) five (inr more) big = omega (arith, all, more, half, big, five)

    wide_by : (b : Bool) → nat_lt s 64 ≡ b → 64 ≤ 2 * s → 32 * suc q ≤ 96 + (i + 1 + 64)
    wide_by true t big =
        let under : s < 64 = grind (arith, nat_tests) in
        let five = at_most_5 q (omega (arith, c.small under, under)) in
        wide_five (five_or_less q five) five (c.early under) big
    wide_by false t big =
        let full : s ≡ 64 = grind (arith, nat_tests) in
        omega (arith, c.wide full, half, full)

    wide : min 64 (2 * s) ≡ 64 → 32 * suc q ≤ 96 + (i + 1 + min 64 (2 * s))
    wide h = omega (arith, h, wide_by (nat_lt s 64) refl (omega (arith, h)))

-- the same window, one piece further on
pub further : (q s i w : ℕ) → Counted q s (i + suc w) → Counted q s (i + 1 + w)
further q s i w c = subst (Counted q s) (next i w) c
  where
    next : (i w : ℕ) → i + suc w ≡ i + 1 + w
    next i w = omega arith

-- What comes of one piece.

pub not_less : (n : ℕ) → nat_lt n n ≡ false
not_less n = grind (arith, nat_tests)

pub fits : (a b : ℕ) → a ≤ b → nat_lt b a ≡ false
fits a b h = grind (arith, nat_tests)

pub some_bytes : (c : ℕ) → 1 ≤ c → (c == 0) ≡ false
some_bytes c h = grind (arith, nat_tests)

middle : (x : Receiver) (c : ℕ) → is_open x.phase ≡ true → 1 ≤ c → x.next + c ≤ x.window_end → x.next + c ≤ MAX_RESOURCE →
    piece_outcome x x.next c false ≡ going_on (keeping x (x.next + c))
middle x c opens some window within = rw (opens, not_less x.next, some_bytes c some, fits (x.next + c) x.window_end window, fits (x.next + c) MAX_RESOURCE within) refl

range_none : (x : Receiver) (end : ℕ) (b : Bool) → asks_in (if b then ending x OutOfRange else ending (keeping x end) Okay).answer ≡ 0
range_none x end true = refl
range_none x end false = refl

window_none : (x : Receiver) (end : ℕ) (b : Bool) → asks_in (if b then ending x Internal else if nat_lt MAX_RESOURCE end then ending x OutOfRange else ending (keeping x end) Okay).answer ≡ 0
window_none x end true = refl
window_none x end false = range_none x end (nat_lt MAX_RESOURCE end)

empty_none : (x : Receiver) (size : ℕ) (b : Bool) → asks_in (if b && false then ignoring x else taking x (x.next + size) true).answer ≡ 0
empty_none x size true = window_none x (x.next + size) (nat_lt x.window_end (x.next + size))
empty_none x size false = window_none x (x.next + size) (nat_lt x.window_end (x.next + size))

open_none : (x : Receiver) (size : ℕ) → asks_in (open_outcome x x.next size true).answer ≡ 0
open_none x size = rw (not_less x.next) (empty_none x size (size == 0))

closed_none : (x : Receiver) (size : ℕ) (b : Bool) → asks_in (if b then open_outcome x x.next size true else ignoring x).answer ≡ 0
closed_none x size true = open_none x size
closed_none x size false = refl

-- the last piece asks nothing
last_none : (x : Receiver) (size : ℕ) → asks_in (piece_outcome x x.next size true).answer ≡ 0
last_none x size = closed_none x size (is_open x.phase)

-- A receiver with so many chunks of its window left.
pub record Asking (c : ℕ) (r : Receiver) (w : ℕ) : Type 0 where
  pub opens : is_open r.phase ≡ true
  pub window : r.window_end ≡ r.next + w * c
  pub low : 1 ≤ w
  pub high : w ≤ r.span
  pub span_low : 1 ≤ r.span
  pub span_high : r.span ≤ 64
  pub chunk : r.chunk ≡ c
  pub calm : r.shrunk ≡ false

pub one_more : (w c : ℕ) → suc w * c ≡ w * c + c
one_more w c = omega arith

-- where the piece is in the middle, half of the window is used exactly where twice the chunks that are left are at most the span
half_left : (s w c : ℕ) → 1 ≤ c → 2 * (w * c) ≤ s * c → 2 * w ≤ s
half_left s w c some h = le_of_mul-le-mul_right {m = 2 * w} {n = s} {k = c} (subst (λ n. n ≤ s * c) (twice w c) h) some
  where
    twice : (w c : ℕ) → 2 * (w * c) ≡ 2 * w * c
    twice w c = omega arith

all_used : (s c : ℕ) → 2 * (0 * c) ≤ s * c
all_used s c = omega arith

pub outcome_is : (c now : ℕ) → 1 ≤ c → (r : Receiver) (p : Piece) (w : ℕ) → Asking c r (suc w) → p.offset ≡ r.next → length p.bytes ≡ c → p.last ≡ false →
    r.next + c ≤ MAX_RESOURCE → outcome_of r p now ≡ going_on (keeping (active_at now r) (r.next + c))
outcome_is c now some r p w a at size more within =
    ap (λ o. piece_outcome (active_at now r) o (length p.bytes) p.last) at
    ∙ (ap (λ n. piece_outcome (active_at now r) r.next n p.last) size
    ∙ (ap (piece_outcome (active_at now r) r.next c) more
    ∙ middle (active_at now r) c a.opens some (omega (arith, a.window, one_more w c)) within))

-- the receiver behind such a piece
abbrev pub behind : ℕ → ℕ → Receiver → Receiver
behind c now r = keeping (active_at now r) (r.next + c)

left_of : (c now : ℕ) (r : Receiver) (w : ℕ) → Asking c r (suc w) → (behind c now r).window_end - (behind c now r).next ≡ w * c
left_of c now r w a = omega (arith, a.window, one_more w c)

pub used : (c now : ℕ) → 1 ≤ c → (r : Receiver) (w : ℕ) → Asking c r (suc w) → is_half_used (behind c now r) ≡ true → 2 * w ≤ r.span
used c now some r w a t =
    half_left r.span w c some
    (subst (λ k. 2 * (w * c) ≤ r.span * k) a.chunk
    (subst (λ n. 2 * n ≤ r.span * r.chunk) (left_of c now r w a) (leb-true (2 * (r.window_end - (r.next + c))) (r.span * r.chunk) t)))

some_left : (c b w : ℕ) → b < 2 * (w * c) → 1 ≤ w
some_left c b zero h = absurd (omega (arith, h))
some_left c b (suc w) h = omega arith

above : (a b : ℕ) → nat_le a b ≡ false → b < a
above a b e = grind (arith, nat_tests)

pub unused : (c now : ℕ) (r : Receiver) (w : ℕ) → Asking c r (suc w) → is_half_used (behind c now r) ≡ false → 1 ≤ w
unused c now r w a t =
    some_left c (r.span * r.chunk) w (subst (λ n. r.span * r.chunk < 2 * n) (left_of c now r w a) (above (2 * (r.window_end - (r.next + c))) (r.span * r.chunk) t))

pub grown : (c now : ℕ) (r : Receiver) → r.shrunk ≡ false → span_of_ask false (behind c now r) ≡ min 64 (2 * r.span)
grown c now r calm = rw calm refl

-- it has asked for more, or not
pub asking_more : (c now : ℕ) (r : Receiver) (w : ℕ) → Asking c r (suc w) → Asking c (asking false (behind c now r)) (min 64 (2 * r.span))
asking_more c now r w a =
    let g = grown c now r a.calm in
    record {
      opens = refl;
      window = ap (λ n. r.next + c + n * r.chunk) g ∙ ap (λ k. r.next + c + min 64 (2 * r.span) * k) a.chunk;
      low = omega (arith, a.span_low);
      high = omega (arith, g);
      span_low = omega (arith, g, a.span_low);
      span_high = omega (arith, g);
      chunk = a.chunk;
      calm = refl;
    }

pub asking_still : (c now : ℕ) (r : Receiver) (w : ℕ) → Asking c r (suc w) → 1 ≤ w → Asking c (behind c now r) w
asking_still c now r w a low = record {
  opens = refl;
  window = omega (arith, a.window, one_more w c);
  low = low;
  high = omega (arith, a.high);
  span_low = a.span_low;
  span_high = a.span_high;
  chunk = a.chunk;
  calm = a.calm;
}

end_grows : (ps : List Piece) (o : ℕ) → o ≤ end_of o ps
end_grows [] o = omega arith
end_grows (p ∷ ps) o = omega (arith, end_grows ps (o + length p.bytes))

-- a piece in the middle, by what holds of those behind it
step :
    (c now : ℕ) → 1 ≤ c → (r : Receiver) (i w q n : ℕ) (asks : Receiver → ℕ) → Asking c r (suc w) → Counted q r.span (i + suc w) →
    ((x : Receiver) (v k : ℕ) → x.next ≡ r.next + c → Asking c x v → Counted k x.span (i + 1 + v) → k + asks x ≤ 5 + (i + 1 + n) / 32) →
    (b : Bool) → is_half_used (behind c now r) ≡ b →
    let t : PieceOutcome = if b then record { after = asking false (behind c now r); answer = Kept (Some (ask_of false (asking false (behind c now r)))) } else record { after = behind c now r; answer = Kept None } in
    q + (asks_in t.answer + asks t.after) ≤ 5 + (i + 1 + n) / 32
step c now some r i w q n asks a counted more true e =
    let x = asking false (behind c now r) in
    let g = grown c now r a.calm in
    let here : Counted (suc q) x.span (i + 1 + min 64 (2 * r.span))
    = subst (λ s. Counted (suc q) s (i + 1 + min 64 (2 * r.span))) (sym g) (wider q r.span i w a.span_low a.span_high counted (used c now some r w a e)) in
    omega (arith, more x (min 64 (2 * r.span)) (suc q) refl (asking_more c now r w a) here)
step c now some r i w q n asks a counted more false e =
    omega (arith, more (behind c now r) w q refl (asking_still c now r w a (unused c now r w a e)) (further q r.span i w counted))

few : (c now : ℕ) → 1 ≤ c → (ps : List Piece) (p : Piece) (r : Receiver) (i w q : ℕ) → Asking c r w → Counted q r.span (i + w) →
    AreConsecutive r.next (p ∷ ps) → AreWhole c (p ∷ ps) → OnlyTheLastEnds (p ∷ ps) → end_of r.next (p ∷ ps) ≤ MAX_RESOURCE →
    q + asks_over now r (p ∷ ps) ≤ 5 + (i + 1 + length ps) / 32
few c now some [] p r i w q a counted consecutive whole last within =
    let none : asks_in (outcome_of r p now).answer ≡ 0
    = ap (λ o. asks_in (piece_outcome (active_at now r) o (length p.bytes) p.last).answer) consecutive.0
    ∙ (ap (λ l. asks_in (piece_outcome (active_at now r) r.next (length p.bytes) l).answer) last ∙ last_none (active_at now r) (length p.bytes)) in
    omega (arith, none, few_so_far q r.span (i + w) (i + 1) a.span_high counted (omega (arith, a.high)))
few c now some (p2 ∷ ps) p r i zero q a counted consecutive whole last within = absurd (omega (arith, a.low))
few c now some (p2 ∷ ps) p r i (suc w) q a counted consecutive whole last within =
    let next : AreConsecutive (r.next + c) (p2 ∷ ps) = subst (λ n. AreConsecutive (r.next + n) (p2 ∷ ps)) whole.0 consecutive.1 in
    let end : end_of (r.next + c) (p2 ∷ ps) ≤ MAX_RESOURCE = subst (λ n. end_of (r.next + n) (p2 ∷ ps) ≤ MAX_RESOURCE) whole.0 within in
    let is = outcome_is c now some r p w a consecutive.0 whole.0 last.0 (omega (arith, end, end_grows (p2 ∷ ps) (r.next + c))) in
    let later : (x : Receiver) (v k : ℕ) → x.next ≡ r.next + c → Asking c x v → Counted k x.span (i + 1 + v) → k + asks_over now x (p2 ∷ ps) ≤ 5 + (i + 1 + suc (length ps)) / 32
    = λ x v k at ax cx. omega (arith, few c now some ps p2 x (i + 1) v k ax cx (subst (λ o. AreConsecutive o (p2 ∷ ps)) (sym at) next) whole.1 last.1 (subst (λ o. end_of o (p2 ∷ ps) ≤ MAX_RESOURCE) (sym at) end)) in
    subst (λ t. q + (asks_in t.answer + asks_over now t.after (p2 ∷ ps)) ≤ 5 + (i + 1 + length (p2 ∷ ps)) / 32) (sym is)
    (step c now some r i w q (suc (length ps)) (λ x. asks_over now x (p2 ∷ ps)) a counted later (is_half_used (behind c now r)) refl)

pub first_asking : (offset window chunk now : ℕ) → 1 ≤ window → window ≤ 64 → Asking chunk (new_receiver offset window chunk now) window
first_asking offset window chunk now low high =
    record { opens = refl; window = refl; low = low; high = omega arith; span_low = low; span_high = high; chunk = refl; calm = refl }

pub first_counted : (window : ℕ) → 1 ≤ window → window ≤ 64 → Counted 0 window (0 + window)
first_counted window low high = record { over = omega arith; small = λ h. low; early = λ h. inl refl; wide = λ h. omega arith }

pub asks_are_few : AsksAreFew
asks_are_few offset window chunk now [] low high some comes = absurd comes.last
asks_are_few offset window chunk now (p ∷ ps) low high some comes =
    omega (
      arith,
      few chunk now some ps p (new_receiver offset window chunk now) 0 window 0 (first_asking offset window chunk now low high) (first_counted window low high)
          comes.consecutive comes.whole comes.last comes.within,
    )
