-- What a receiver makes of the pieces of a transfer that loses nothing.
use Rattle.std.proofs.Common.{◌≡◌, ℕ, zero, suc, ◌+◌, ◌-◌, ◌*◌, ◌/◌, ◌<◌, ◌≤◌, ◌==◌, ◌&&◌, ◌⊎◌, inl, inr, min, Bool, true, false, if◌then◌else◌, List, [], ◌∷◌, ◌++◌, length, Some, None, refl, sym, ap, ◌∙◌, subst, arith}
use Rattle.std.proofs.Math.Nat.{mul-le-mul_right}
use Rattle.std.proofs.lemmas.Bool.Decides.{nat_tests}
use Rattle.rpc_ids.specs.declared.Status.TheVariants.{Okay}
use Rattle.transfer_base.specs.declared.limits.TheConstants.{MAX_CHUNK, MAX_RESOURCE}
use Rattle.transfer_receiver.specs.declared.answers.Received.{Received}
use Rattle.transfer_receiver.specs.declared.answers.Received.TheVariants.{Kept}
use Rattle.transfer_receiver.specs.Phase.{is_open}
use Rattle.transfer_receiver.specs.Receiver.{Receiver, new_receiver, asking, ask_of}
use Rattle.transfer_receiver.specs.PieceRules.{ending, keeping, going_on, is_half_used, piece_outcome, active_at}
use Rattle.transfer_receiver.specs.Run.{outcome_of}
use Rattle.transfer_laws.proofs.cores.AskLaws.{Asking, Counted, asking_more, asking_still, behind, few_so_far, first_asking, first_counted, fits, further, grown, not_less, outcome_is, unused, used, wider}
use Rattle.transfer_words.specs.Word.{Word, parameters, completion}
use Rattle.transfer_words.specs.Saying.{says, appends, commits}
use Rattle.transfer_words.specs.CoreAnswers.{of_piece}
use Rattle.transfer_laws.specs.pairs.Pair.{words_of}
use Rattle.transfer_laws.proofs.pairs.Grid.{Grid, one_more}
use Rattle.transfer_laws.proofs.pairs.Parts.{part, begins_within, size_of}
use Rattle.transfer_laws.proofs.pairs.Sending.{ask_to}

not_last : (b : Bool) → (b && false) ≡ false
not_last true = refl
not_last false = refl

-- the last piece ends it well
last_piece : (x : Receiver) (size : ℕ) → is_open x.phase ≡ true → x.next + size ≤ x.window_end → x.next + size ≤ MAX_RESOURCE →
    piece_outcome x x.next size true ≡ ending (keeping x (x.next + size)) Okay
last_piece x size opens window within = rw (opens, not_less x.next, not_last (size == 0), fits (x.next + size) x.window_end window, fits (x.next + size) MAX_RESOURCE within) refl

spread : (i s c o : ℕ) → o + i * c + c + s * c ≡ o + (i + 1 + s) * c
spread i s c o = omega arith

kept_end : (b : Bool) (bs : List ℕ) → words_of ((if b then [] else appends bs ∷ []) ++ commits ∷ []) ≡ []
kept_end true bs = refl
kept_end false bs = refl

-- the end OK of the last piece is the only word of its answer
pub end_words : (b : Bool) (bs : List ℕ) → words_of (((if b then [] else appends bs ∷ []) ++ commits ∷ []) ++ says (completion Okay) ∷ []) ≡ completion Okay ∷ []
end_words true bs = refl
end_words false bs = refl

module _ (bytes : List ℕ) (o c big : ℕ) (some : 1 ≤ c) (small : c ≤ MAX_CHUNK) (size : length bytes ≤ MAX_RESOURCE) (g : Grid (length bytes) o c big) where
  -- A receiver that has kept i pieces, has asked for all up to the end of piece e, and has asked q times since it began.
  pub record Receives (r : Receiver) (i e q : ℕ) : Type 0 where
    pub w : ℕ
    pub end : e ≡ i + w
    pub next : r.next ≡ o + i * c
    pub asking : Asking c r w
    pub counted : Counted q r.span e
    pub few : q ≤ i

  -- it has asked for more, or not
  abbrev pub Told : ℕ → ℕ → ℕ → ℕ → List Word → Type 0
  Told e q e2 q2 asks =
      ((asks ≡ []) × ((e2 ≡ e) × (q2 ≡ q)))
      ⊎ ((at : ℕ) × ((asks ≡ parameters (ask_to bytes o c big some small g at e2) ∷ []) × ((e ≤ e2) × (q2 ≡ suc q))))

  pub record KeepsOn (now : ℕ) (r : Receiver) (i e q : ℕ) : Type 0 where
    pub after : Receiver
    pub answer : Received
    pub asks : List Word
    pub end : ℕ
    pub asked : ℕ
    pub is : outcome_of r (part bytes o c i) now ≡ record { after = after; answer = answer }
    pub words : (bs : List ℕ) → words_of (of_piece bs answer) ≡ asks
    pub receives : Receives after (suc i) end asked
    pub told : Told e q end asked asks

  -- a piece in the middle is whole, and isn't the last one
  keeps_by : (now : ℕ) (r : Receiver) (i w q : ℕ) → r.next ≡ o + i * c → Asking c r (suc w) → Counted q r.span (i + suc w) → q ≤ i →
      outcome_of r (part bytes o c i) now ≡ going_on (behind c now r) →
      (b : Bool) → is_half_used (behind c now r) ≡ b → KeepsOn now r i (i + suc w) q
  keeps_by now r i w q next a counted few is true t =
      let x = asking false (behind c now r) in
      let s = min 64 (2 * r.span) in
      let more = asking_more c now r w a in
      let half = used c now some r w a t in
      let wide = wider q r.span i w a.span_low a.span_high counted half in
      let end : suc i + s ≡ i + 1 + s = omega arith in
      let window : x.window_end ≡ o + (i + 1 + s) * c = more.window ∙ (ap (λ n. n + c + s * c) next ∙ spread i s c o) in
      record {
        after = x;
        answer = Kept (Some (ask_of false x));
        asks = parameters (ask_of false x) ∷ [];
        end = i + 1 + s;
        asked = suc q;
        is = is ∙ ap (λ (h : Bool). if h then (record { after = x; answer = Kept (Some (ask_of false x)) }) else (record { after = behind c now r; answer = Kept None })) t;
        words = λ bs. refl;
        receives = record {
          w = s;
          end = sym end;
          next = omega (arith, next, one_more i c);
          asking = more;
          counted = subst (λ n. Counted (suc q) n (i + 1 + s)) (sym (grown c now r a.calm)) wide;
          few = omega (arith, few);
        };
        told = inr (
          r.next + c,
          (
            ap (λ n. parameters (record { again = false; offset = r.next + c; window_end = n; max_chunk = r.chunk }) ∷ []) window
                ∙ ap (λ k. parameters (record { again = false; offset = r.next + c; window_end = o + (i + 1 + s) * c; max_chunk = k }) ∷ []) a.chunk,
            (omega (arith, half, a.high, a.span_high), refl),
          ),
        );
      }
  keeps_by now r i w q next a counted few is false t =
      let still = asking_still c now r w a (unused c now r w a t) in
      let end : i + 1 + w ≡ suc i + w = omega arith in
      let same : i + 1 + w ≡ i + suc w = omega arith in
      let x = asking false (behind c now r) in
      record {
        after = behind c now r;
        answer = Kept None;
        asks = [];
        end = i + 1 + w;
        asked = q;
        is = is ∙ ap (λ (h : Bool). if h then (record { after = x; answer = Kept (Some (ask_of false x)) }) else (record { after = behind c now r; answer = Kept None })) t;
        words = λ bs. refl;
        receives = record {
          w = w;
          end = end;
          next = omega (arith, next, one_more i c);
          asking = still;
          counted = further q r.span i w counted;
          few = omega (arith, few);
        };
        told = inl (refl, (same, refl));
      }

  goes_with : (now : ℕ) (r : Receiver) (i w e q : ℕ) → e ≡ i + w → r.next ≡ o + i * c → Asking c r w → Counted q r.span e → q ≤ i → suc i < big → KeepsOn now r i e q
  goes_with now r i zero e q is_end next a counted few more = absurd (omega (arith, a.low))
  goes_with now r i (suc w) e q is_end next a counted few more =
      let after = g.inner (suc i) (omega arith) more in
      let up = one_more i c in
      let long : length (part bytes o c i).bytes ≡ c = omega (arith, size_of bytes o c big some g i (omega (arith, more)), after, up) in
      let open_last : (o + i * c + min c (length bytes - (o + i * c)) == length bytes) ≡ false = (let differ : o + i * c + min c (length bytes - (o + i * c)) < length bytes = omega (arith, after, up) in grind (arith, nat_tests)) in
      let is = outcome_is c now some r (part bytes o c i) w a (sym next) long open_last (omega (arith, next, after, up, size)) in
      subst (λ n. KeepsOn now r i n q) (sym is_end)
      (keeps_by now r i w q next a (subst (λ n. Counted q r.span n) is_end counted) few is (is_half_used (behind c now r)) refl)

  -- a piece that isn't the last is kept
  pub keeps_on : (now : ℕ) (r : Receiver) (i e q : ℕ) → Receives r i e q → suc i < big → KeepsOn now r i e q
  keeps_on now r i e q x more = goes_with now r i x.w e q x.end x.next x.asking x.counted x.few more

  mul_room : (w : ℕ) → 1 ≤ w → c ≤ w * c
  mul_room w low = let up : 1 * c ≤ w * c = mul-le-mul_right c low in omega (arith, up)

  -- the last one ends it well
  pub keeps_last : (now : ℕ) (r : Receiver) (i e q : ℕ) → Receives r i e q → suc i ≡ big →
      outcome_of r (part bytes o c i) now ≡ ending (keeping (active_at now r) (r.next + min c (length bytes - (o + i * c)))) Okay
  keeps_last now r i e q x more =
      let rest = min c (length bytes - (o + i * c)) in
      let here = begins_within bytes o c big some g i (omega (arith, more)) in
      let long : length (part bytes o c i).bytes ≡ rest = size_of bytes o c big some g i (omega (arith, more)) in
      let all : length bytes ≤ o + i * c + c = (let out = g.outer in let turned : big * c ≡ i * c + c = ap (λ n. n * c) (sym more) ∙ one_more i c in omega (arith, out, turned)) in
      let whole : o + i * c + rest ≡ length bytes = omega (arith, here, all) in
      let last : (o + i * c + rest == length bytes) ≡ true = grind (arith, nat_tests) in
      let a = x.asking in
      let room : c ≤ x.w * c = mul_room x.w a.low in
      let window : r.next + rest ≤ r.window_end = omega (arith, a.window, room) in
      ap (λ n. piece_outcome (active_at now r) (o + i * c) n (o + i * c + rest == length bytes)) long
      ∙ (ap (λ l. piece_outcome (active_at now r) (o + i * c) rest l) last
      ∙ (ap (λ p. piece_outcome (active_at now r) p rest true) (sym x.next)
      ∙ last_piece (active_at now r) rest a.opens window (omega (arith, x.next, whole, size))))

  pub few_asked : (r : Receiver) (i e q : ℕ) → Receives r i e q → suc i ≡ big → q ≤ 5 + big / 32
  few_asked r i e q x more = few_so_far q r.span e big x.asking.span_high x.counted (let h = x.asking.high in let ends = x.end in omega (arith, h, ends, more))

  pub first_receives : (window now : ℕ) → 1 ≤ window → window ≤ 64 → Receives (new_receiver o window c now) 0 window 0
  first_receives window now low high = record {
    w = window;
    end = omega arith;
    next = omega arith;
    asking = first_asking o window c now low high;
    counted = subst (λ n. Counted 0 window n) (the_same window) (first_counted window low high);
    few = omega arith;
  }
    where
      the_same : (n : ℕ) → 0 + n ≡ n
      the_same n = omega arith
