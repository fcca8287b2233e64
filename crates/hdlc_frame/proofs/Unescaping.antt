-- Octets read behind an escape, without a search for each next one.
use Rattle.std.proofs.Common.{◌≡◌, ◌≢◌, ℕ, ◌+◌, ◌<◌, ◌≤◌, zero, suc, Bool, true, false, List, [], ◌∷◌, ◌++◌, length, get_or, take, drop, refl, sym, ap, ◌∙◌, append_assoc, subst, bit_xor, arith}
use Rattle.std.specs.List.{All}
use Rattle.std.proofs.lemmas.Bool.{le-ltb, ltb-false}
use Rattle.std.proofs.lemmas.List.{append-nil, length-append, take_all, take_more}
use Rattle.std.proofs.lemmas.List.Elements.{All-append}
use Rattle.std.proofs.Math.Seq.{take-add}
use Rattle.hdlc_frame.specs.declared.octets.TheConstants.{ESCAPE, ESCAPE_BIT, FLAG}
use Rattle.hdlc_frame.specs.declared.phase.Phase.{Phase}
use Rattle.hdlc_frame.specs.declared.phase.Phase.TheVariants.{Escaped}
use Rattle.hdlc_frame.specs.Content.{unescaped}
use Rattle.hdlc_frame.specs.Machine.{HasRead, HasReadText, Reading, content_behind}
use Rattle.hdlc_frame.specs.Steps.{IsOrdinary, Moves, Unescapes, phase_in_text}
use Rattle.hdlc_frame.proofs.Contents.{neq-eqb, walk_escape, walk_escaped}
use Rattle.hdlc_frame.proofs.Texts.{behind_escaped, behind_plain, grown, has_more, onto_content, onto_nothing, onto_twice, run_told}
use Rattle.hdlc_frame.proofs.Runs.{moves_text}
use Rattle.hdlc_frame.proofs.Parting.{NoFlag}

one_flag_free : (x : ℕ) → x ≢ FLAG → All (λ octet. octet ≢ FLAG) (x ∷ [])
one_flag_free x f zero d below = f
one_flag_free x f (suc k) d below = absurd (omega arith)

-- one octet more
snoc :
    (e e1 e2 : Bool) (bytes old middle new added : List ℕ) (x : ℕ) → Unescapes e bytes e1 old middle → x ≢ FLAG → length added ≤ 1 →
    new ≡ middle ++ added → ((rest : List ℕ) → unescaped e1 (x ∷ rest) ≡ onto_content added (unescaped e2 rest)) →
    Unescapes e (bytes ++ x ∷ []) e2 old new
snoc e e1 e2 bytes old middle new added x u f short en law = record {
  more = u.more ++ added;
  grown = en ∙ ap (λ l. l ++ added) u.grown ∙ append_assoc old u.more added;
  few = let few = u.few in omega (arith, length-append u.more added, length-append bytes (x ∷ []));
  no_flag = All-append (λ octet. octet ≢ FLAG) bytes (x ∷ []) u.no_flag (one_flag_free x f);
  told = λ rest.
      ap (unescaped e) (append_assoc bytes (x ∷ []) rest) ∙ u.told (x ∷ rest) ∙ ap (onto_content u.more) (law rest) ∙
      onto_twice u.more added (unescaped e2 rest);
}

-- the same with the octet in its place
snoc_at :
    (e e1 e2 : Bool) (xs old middle new added : List ℕ) (i : ℕ) → i < length xs → Unescapes e (take i xs) e1 old middle → get_or xs i 0 ≢ FLAG →
    length added ≤ 1 → new ≡ middle ++ added → ((rest : List ℕ) → unescaped e1 (get_or xs i 0 ∷ rest) ≡ onto_content added (unescaped e2 rest)) →
    Unescapes e (take (i + 1) xs) e2 old new
snoc_at e e1 e2 xs old middle new added i below u f short en law =
    let P : List ℕ → Type 0 = λ l. Unescapes e l e2 old new in
    subst P (sym (take_more xs i 0 below)) (snoc e e1 e2 (take i xs) old middle new added (get_or xs i 0) u f short en law)

pub more_escape :
    (e : Bool) (xs old new : List ℕ) (i : ℕ) → i < length xs → Unescapes e (take i xs) false old new → get_or xs i 0 ≡ ESCAPE →
    Unescapes e (take (i + 1) xs) true old new
more_escape e xs old new i below u escape =
    let x = get_or xs i 0 in
    snoc_at e false true xs old new new [] i below u (omega arith) (omega arith) (sym (append-nil new))
    (λ rest. walk_escape x rest escape ∙ onto_nothing (unescaped true rest))

more_turned :
    (e : Bool) (xs old middle new : List ℕ) (i : ℕ) → i < length xs → Unescapes e (take i xs) true old middle → get_or xs i 0 ≢ FLAG →
    get_or xs i 0 ≢ ESCAPE → new ≡ middle ++ bit_xor (get_or xs i 0) ESCAPE_BIT ∷ [] → Unescapes e (take (i + 1) xs) false old new
more_turned e xs old middle new i below u f other en =
    let x = get_or xs i 0 in
    snoc_at e true false xs old middle new (bit_xor x ESCAPE_BIT ∷ []) i below u f (omega arith) en (λ rest. walk_escaped x rest f other)

-- ordinary octets
more_run :
    (e : Bool) (xs rest old middle new : List ℕ) (i n : ℕ) → rest ≡ drop i xs → IsOrdinary (take n rest) → Unescapes e (take i xs) false old middle →
    new ≡ middle ++ take n rest → Unescapes e (take (i + n) xs) false old new
more_run e xs rest old middle new i n er ordinary u en =
    let run = take n rest in
    let few = u.few in
    let P : List ℕ → Type 0 = λ l. Unescapes e l false old new in
    subst P (ap (λ l. take i xs ++ take n l) er ∙ sym (take-add i n xs)) (record {
      more = u.more ++ run;
      grown = en ∙ ap (λ l. l ++ run) u.grown ∙ append_assoc old u.more run;
      few = omega (arith, length-append u.more run, length-append (take i xs) run);
      no_flag = All-append (λ octet. octet ≢ FLAG) (take i xs) run u.no_flag (λ k d below. (ordinary k d below).0);
      told = λ more.
          ap (unescaped e) (append_assoc (take i xs) run more) ∙ u.told (run ++ more) ∙ ap (onto_content u.more) (run_told run more ordinary) ∙
          onto_twice u.more run (unescaped false more);
    })

-- behind an escape, the octet that it changed and ordinary ones
pub more_behind :
    (e : Bool) (xs rest old middle first new : List ℕ) (i n : ℕ) → i < length xs → Unescapes e (take i xs) true old middle → get_or xs i 0 ≢ FLAG →
    get_or xs i 0 ≢ ESCAPE → first ≡ middle ++ bit_xor (get_or xs i 0) ESCAPE_BIT ∷ [] → rest ≡ drop (i + 1) xs → IsOrdinary (take n rest) →
    new ≡ first ++ take n rest → Unescapes e (take (i + (1 + n)) xs) false old new
more_behind e xs rest old middle first new i n below u f other ef er ordinary en =
    let same : i + 1 + n ≡ i + (1 + n) = omega arith in
    let P : ℕ → Type 0 = λ k. Unescapes e (take k xs) false old new in
    subst P same (more_run e xs rest old first new (i + 1) n er ordinary (more_turned e xs old middle first i below u f other ef) en)

flag_free : (bytes : List ℕ) → All (λ octet. octet ≢ FLAG) bytes → NoFlag bytes
flag_free bytes none = λ k d below. neq-eqb (get_or bytes k d) FLAG (none k d below)

behind_either : (after : Bool) (rest : List ℕ) → content_behind (phase_in_text after) rest ≡ unescaped after rest
behind_either true rest = behind_escaped rest
behind_either false rest = behind_plain rest

-- the whole, as one move of the decoder
read_unescaped :
    (r : Reading) (text bytes new : List ℕ) (after : Bool) → r.phase ≡ Escaped → r.is_long ≡ false → length r.content + length bytes ≤ r.limit →
    Unescapes true bytes after r.content new → HasReadText r text →
    HasReadText (record r { phase = phase_in_text after; content = new }) (text ++ bytes)
read_unescaped r text bytes new after escaped short room u t =
    let whole_fits : length t.whole ≤ r.limit = ltb-false r.limit (length t.whole) (sym t.long ∙ short) in
    let kept : r.content ≡ t.whole = t.content ∙ take_all r.limit t.whole whole_fits in
    let same : new ≡ t.whole ++ u.more = u.grown ∙ ap (λ l. l ++ u.more) kept in
    let few = u.few in
    let len : length r.content ≡ length t.whole = ap length kept in
    let fits : length (t.whole ++ u.more) ≤ r.limit = omega (arith, length-append t.whole u.more) in
    record {
      whole = t.whole ++ u.more;
      told = λ rest.
          ap (unescaped false) (append_assoc text bytes rest) ∙ t.told (bytes ++ rest) ∙
          ap (onto_content t.whole) (ap (λ p. content_behind p (bytes ++ rest)) escaped ∙ behind_escaped (bytes ++ rest) ∙ u.told rest) ∙
          onto_twice t.whole u.more (unescaped after rest) ∙ ap (onto_content (t.whole ++ u.more)) (sym (behind_either after rest));
      content = same ∙ sym (take_all r.limit (t.whole ++ u.more) fits);
      long = short ∙ sym (le-ltb r.limit (length (t.whole ++ u.more)) fits);
    }

unescaped_reads :
    (limit : ℕ) (is_long : Bool) (content bytes new stream : List ℕ) (after : Bool) → is_long ≡ false → length content + length bytes ≤ limit →
    Unescapes true bytes after content new →
    let before : Reading = record { limit = limit; phase = Escaped; is_long = is_long; content = content } in
    HasRead before stream → HasRead (record before { phase = phase_in_text after; content = new }) (stream ++ bytes)
unfolding HasRead
unescaped_reads limit is_long content bytes new stream true short room u h =
    let before : Reading = record { limit = limit; phase = Escaped; is_long = is_long; content = content } in (
      h.0 ++ bytes,
      grown stream h.0 bytes (flag_free bytes u.no_flag) h.1,
      has_more h.0 bytes h.2,
      read_unescaped before h.0 bytes new true refl short room u h.3,
    )
unescaped_reads limit is_long content bytes new stream false short room u h =
    let before : Reading = record { limit = limit; phase = Escaped; is_long = is_long; content = content } in (
      h.0 ++ bytes,
      grown stream h.0 bytes (flag_free bytes u.no_flag) h.1,
      has_more h.0 bytes h.2,
      read_unescaped before h.0 bytes new false refl short room u h.3,
    )

moves_text_at :
    (limit : ℕ) (phase : Phase) (is_long : Bool) (content bytes new : List ℕ) (after : Bool) → phase ≡ Escaped → is_long ≡ false →
    length content + length bytes ≤ limit → Unescapes true bytes after content new →
    let before : Reading = record { limit = limit; phase = phase; is_long = is_long; content = content } in
    Moves before (record before { phase = phase_in_text after; content = new }) bytes []
moves_text_at limit phase is_long content bytes new after escaped short room u =
    let make : Phase → Reading = λ p. record { limit = limit; phase = p; is_long = is_long; content = content } in
    let P : Phase → Type 0 = λ p. Moves (make p) (record (make Escaped) { phase = phase_in_text after; content = new }) bytes [] in
    subst P (sym escaped)
    (moves_text (make Escaped) (record (make Escaped) { phase = phase_in_text after; content = new }) bytes refl (flag_free bytes u.no_flag)
    (λ stream h. unescaped_reads limit is_long content bytes new stream after short room u h))

pub moves_unescaped :
    (old : Reading) (limit : ℕ) (phase : Phase) (is_long : Bool) (content bytes new : List ℕ) (after : Bool) →
    let before : Reading = record { limit = limit; phase = phase; is_long = is_long; content = content } in
    before ≡ old → old.phase ≡ Escaped → old.is_long ≡ false → length content + length bytes ≤ limit → Unescapes true bytes after content new →
    Moves old (record before { phase = phase_in_text after; content = new }) bytes []
moves_unescaped old limit phase is_long content bytes new after same escaped short room u =
    let before : Reading = record { limit = limit; phase = phase; is_long = is_long; content = content } in
    let P : Reading → Type 0 = λ r. Moves r (record before { phase = phase_in_text after; content = new }) bytes [] in
    subst P same
    (moves_text_at limit phase is_long content bytes new after (ap (λ r. r.phase) same ∙ escaped) (ap (λ r. r.is_long) same ∙ short) room u)
