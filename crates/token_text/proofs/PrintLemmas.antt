-- How a message is printed part by part.
use Rattle.std.proofs.Common.{◌≡◌, ℕ, ℤ, Bool, ◌+◌, ◌-◌, ◌≤◌, List, [], ◌∷◌, ◌++◌, length, refl, ap, sym, ◌∙◌, arith, subst, inl, inr, length-append, append_assoc}
use Rattle.std.specs.Prelude.{◌≢◌}
use Rattle.std.proofs.lemmas.List.{append-nil}
use Rattle.token_text.specs.Arguments.{Argument, Number, Text}
use Rattle.proto_wire.specs.Varint.{IsVarint}
use Rattle.token_text.specs.Printing.{number_text, prints, shown_text, text_of}
use Rattle.token_text.specs.Spelling.{HasNoArgument, IsShortText, IsWrongAt, Spells, StartsWith, text_head, zigzag}
use Rattle.token_text.specs.Steps.{CannotRead, Reads, ReadsOne}
use Rattle.token_text.specs.declared.part.Notation.{Notation}
use Rattle.token_text.specs.declared.part.Padding.{Padding}
use Rattle.token_text.specs.declared.part.Part.{Part}
use Rattle.token_text.specs.declared.part.Part.TheVariants as part

-- the message of which some parts were printed, and these are left
pub record PrintsTo (parts : List Part) (bytes : List ℕ) (ps : List Part) (rest printed : List ℕ) : Type 0 where
  pub forth : (tail : List Argument) → Spells ps rest tail → (args : List Argument) × Spells parts bytes args × (text_of parts args ≡ printed ++ text_of ps tail)
  pub back : (args : List Argument) → Spells parts bytes args → (tail : List Argument) × Spells ps rest tail × (text_of parts args ≡ printed ++ text_of ps tail)
  pub wrong : (k : ℕ) → IsWrongAt ps rest k → IsWrongAt parts bytes ((length bytes - length rest) + k)
  pub shorter : length rest ≤ length bytes

-- what a part that takes an argument does with the parts behind it
record TakesOne (p : Part) : Type 0 where
  spelled : (ps : List Part) (bytes rest : List ℕ) (a : Argument) (tail : List Argument) → StartsWith p bytes a rest → Spells ps rest tail → Spells (p ∷ ps) bytes (a ∷ tail)
  parted : (ps : List Part) (bytes : List ℕ) (args : List Argument) → Spells (p ∷ ps) bytes args →
      (a : Argument) × (tail : List Argument) × (rest : List ℕ) × (args ≡ a ∷ tail) × StartsWith p bytes a rest × Spells ps rest tail
  printed : (ps : List Part) (a : Argument) (tail : List Argument) → text_of (p ∷ ps) (a ∷ tail) ≡ prints p a ++ text_of ps tail
  none : (ps : List Part) (bytes : List ℕ) → HasNoArgument p bytes → IsWrongAt (p ∷ ps) bytes 0
  later : (ps : List Part) (bytes rest : List ℕ) (a : Argument) (k : ℕ) (s : StartsWith p bytes a rest) → IsWrongAt ps rest k → IsWrongAt (p ∷ ps) bytes (length s.front + k)
  reads : (bytes rest printed : List ℕ) → ReadsOne p bytes rest printed → (a : Argument) × Reads p bytes rest a × (printed ≡ prints p a)
  stuck : (bytes : List ℕ) → CannotRead p bytes → HasNoArgument p bytes

number_parted : (p : Part) (ps : List Part) (bytes : List ℕ) (args : List Argument) →
    ((bytes : List ℕ) → Spells (p ∷ ps) bytes [] → ⊥) →
    ((bytes : List ℕ) (a : Argument) (tail : List Argument) → Spells (p ∷ ps) bytes (a ∷ tail) → (rest : List ℕ) × StartsWith p bytes a rest × Spells ps rest tail) →
    Spells (p ∷ ps) bytes args →
    (a : Argument) × (tail : List Argument) × (rest : List ℕ) × (args ≡ a ∷ tail) × StartsWith p bytes a rest × Spells ps rest tail
number_parted p ps bytes [] empty one h = absurd (empty bytes h)
number_parted p ps bytes (a ∷ tail) empty one h = let r = one bytes a tail h in (a, tail, r.0, refl, r.1, r.2)

takes_one_number : (filled : _) (written : _) → TakesOne (part.Number filled written)
takes_one_number filled written = record {
  spelled = λ ps bytes rest a tail s h. (rest, s, h);
  parted = λ ps bytes args h. number_parted (part.Number filled written) ps bytes args (λ bs e. e) (λ bs a tail r. r) h;
  printed = λ ps a tail. refl;
  none = λ ps bytes h. inl (h, refl);
  later = λ ps bytes rest a k s h. inr (a, rest, k, s, refl, h);
  reads = λ bytes rest printed h. h;
  stuck = λ bytes h. h;
}

takes_one_text : TakesOne part.Text
takes_one_text = record {
  spelled = λ ps bytes rest a tail s h. (rest, s, h);
  parted = λ ps bytes args h. number_parted part.Text ps bytes args (λ bs e. e) (λ bs a tail r. r) h;
  printed = λ ps a tail. refl;
  none = λ ps bytes h. inl (h, refl);
  later = λ ps bytes rest a k s h. inr (a, rest, k, s, refl, h);
  reads = λ bytes rest printed h. h;
  stuck = λ bytes h. h;
}

start_long : (p : Part) (bytes rest : List ℕ) (a : Argument) (s : StartsWith p bytes a rest) → length bytes ≡ length s.front + length rest
start_long p bytes rest a s = ap length s.whole ∙ length-append s.front rest

argument_step : (parts : List Part) (bytes : List ℕ) (p : Part) (ps : List Part) (rest behind printed text : List ℕ) → TakesOne p →
    PrintsTo parts bytes (p ∷ ps) rest printed → ReadsOne p rest behind text → PrintsTo parts bytes ps behind (printed ++ text)
argument_step parts bytes p ps rest behind printed text one prints h =
    let read = one.reads rest behind text h in
    let a = read.0 in
    let size = start_long p rest behind a read.1.first in
    let joined : (tail : List Argument) → printed ++ text_of (p ∷ ps) (a ∷ tail) ≡ (printed ++ text) ++ text_of ps tail =
    λ tail. ap (λ l. printed ++ l) (one.printed ps a tail ∙ ap (λ l. l ++ text_of ps tail) (sym read.2)) ∙ sym (append_assoc printed text (text_of ps tail)) in
    record {
      forth = λ tail s. let r = prints.forth (a ∷ tail) (one.spelled ps rest behind a tail read.1.first s) in (r.0, r.1, r.2 ∙ joined tail);
      back = λ args s.
          let r = prints.back args s in
          let q = one.parted ps rest r.0 r.1 in
          let same = read.1.only q.0 q.2 q.4 in
          let P : List ℕ → Type 0 = λ l. Spells ps l q.1 in
          (q.1, subst P same.1 q.5, r.2 ∙ (ap (λ l. printed ++ text_of (p ∷ ps) l) (q.3 ∙ ap (λ b. b ∷ q.1) same.0) ∙ joined q.1));
      wrong = λ k w.
          let e : (length bytes - length rest) + (length read.1.first.front + k) ≡ (length bytes - length behind) + k = omega (arith, size, prints.shorter) in
          subst (IsWrongAt parts bytes) e (prints.wrong _ (one.later ps rest behind a k read.1.first w));
      shorter = omega (arith, size, prints.shorter);
    }

byte_step : (parts : List Part) (bytes : List ℕ) (b : ℕ) (ps : List Part) (rest behind printed text : List ℕ) →
    PrintsTo parts bytes (part.Byte b ∷ ps) rest printed → behind ≡ rest → text ≡ b ∷ [] → PrintsTo parts bytes ps behind (printed ++ text)
byte_step parts bytes b ps rest behind printed text prints same is =
    let joined : (tail : List Argument) → printed ++ (b ∷ text_of ps tail) ≡ (printed ++ text) ++ text_of ps tail =
    λ tail. sym (append_assoc printed (b ∷ []) (text_of ps tail)) ∙ ap (λ l. (printed ++ l) ++ text_of ps tail) (sym is) in
    let size : length behind ≡ length rest = ap length same in
    record {
      forth = λ tail s.
          let P : List ℕ → Type 0 = λ l. Spells ps l tail in
          let r = prints.forth tail (subst P same s) in (r.0, r.1, r.2 ∙ joined tail);
      back = λ args s.
          let r = prints.back args s in
          let P : List ℕ → Type 0 = λ l. Spells ps l r.0 in
          (r.0, subst P (sym same) r.1, r.2 ∙ joined r.0);
      wrong = λ k w.
          let P : List ℕ → Type 0 = λ l. IsWrongAt ps l k in
          let e : (length bytes - length rest) + k ≡ (length bytes - length behind) + k = ap (λ n. (length bytes - n) + k) (sym size) in
          subst (IsWrongAt parts bytes) e (prints.wrong k (subst P same w));
      shorter = omega (arith, size, prints.shorter);
    }

-- one more part was printed
pub prints_more : (parts : List Part) (bytes : List ℕ) (p : Part) (ps : List Part) (rest behind printed text : List ℕ) →
    PrintsTo parts bytes (p ∷ ps) rest printed → ReadsOne p rest behind text → PrintsTo parts bytes ps behind (printed ++ text)
prints_more parts bytes (part.Byte b) ps rest behind printed text prints h = byte_step parts bytes b ps rest behind printed text prints h.0 h.1
prints_more parts bytes (part.Number filled written) ps rest behind printed text prints h =
    argument_step parts bytes (part.Number filled written) ps rest behind printed text (takes_one_number filled written) prints h
prints_more parts bytes part.Text ps rest behind printed text prints h = argument_step parts bytes part.Text ps rest behind printed text takes_one_text prints h

-- a part takes at most 128 bytes
pub part_short : (p : Part) (bytes rest printed : List ℕ) → ReadsOne p bytes rest printed → length bytes ≤ length rest + 128
part_short (part.Byte b) bytes rest printed h = let e : length rest ≡ length bytes = ap length h.0 in omega (arith, e)
part_short (part.Number filled written) bytes rest printed h = h.1.short
part_short part.Text bytes rest printed h = h.1.short

stuck_wrong : (parts : List Part) (bytes : List ℕ) (p : Part) (ps : List Part) (rest printed : List ℕ) → TakesOne p →
    PrintsTo parts bytes (p ∷ ps) rest printed → CannotRead p rest → IsWrongAt parts bytes (length bytes - length rest)
stuck_wrong parts bytes p ps rest printed one prints h =
    let e : (length bytes - length rest) + 0 ≡ length bytes - length rest = omega arith in
    subst (IsWrongAt parts bytes) e (prints.wrong 0 (one.none ps rest (one.stuck rest h)))

-- an argument that can't be read
pub prints_wrong : (parts : List Part) (bytes : List ℕ) (p : Part) (ps : List Part) (rest printed : List ℕ) →
    PrintsTo parts bytes (p ∷ ps) rest printed → CannotRead p rest → IsWrongAt parts bytes (length bytes - length rest)
prints_wrong parts bytes (part.Byte b) ps rest printed prints h = absurd h
prints_wrong parts bytes (part.Number filled written) ps rest printed prints h = stuck_wrong parts bytes _ ps rest printed (takes_one_number filled written) prints h
prints_wrong parts bytes part.Text ps rest printed prints h = stuck_wrong parts bytes _ ps rest printed takes_one_text prints h

stuck_by : (parts : List Part) (bytes : List ℕ) (p : Part) (ps : List Part) (rest printed : List ℕ) (args : List Argument) → TakesOne p →
    PrintsTo parts bytes (p ∷ ps) rest printed → CannotRead p rest → Spells parts bytes args → ⊥
stuck_by parts bytes p ps rest printed args one prints h s =
    let r = prints.back args s in
    let q = one.parted ps rest r.0 r.1 in
    one.stuck rest h q.0 q.2 q.4

-- and then the bytes spell no arguments
pub prints_stuck : (parts : List Part) (bytes : List ℕ) (p : Part) (ps : List Part) (rest printed : List ℕ) (args : List Argument) →
    PrintsTo parts bytes (p ∷ ps) rest printed → CannotRead p rest → Spells parts bytes args → ⊥
prints_stuck parts bytes (part.Byte b) ps rest printed args prints h s = h
prints_stuck parts bytes (part.Number filled written) ps rest printed args prints h s = stuck_by parts bytes _ ps rest printed args (takes_one_number filled written) prints h s
prints_stuck parts bytes part.Text ps rest printed args prints h s = stuck_by parts bytes _ ps rest printed args takes_one_text prints h s

-- all parts were printed, and bytes are left
pub prints_left : (parts : List Part) (bytes rest printed : List ℕ) → PrintsTo parts bytes [] rest printed → rest ≢ [] → IsWrongAt parts bytes (length bytes - length rest)
prints_left parts bytes rest printed prints more =
    let e : (length bytes - length rest) + 0 ≡ length bytes - length rest = omega arith in
    subst (IsWrongAt parts bytes) e (prints.wrong 0 (more, refl))

pub prints_left_stuck : (parts : List Part) (bytes rest printed : List ℕ) (args : List Argument) → PrintsTo parts bytes [] rest printed → rest ≢ [] → Spells parts bytes args → ⊥
prints_left_stuck parts bytes rest printed args prints more s = let r = prints.back args s in more r.1.0

-- all is printed
pub prints_done : (parts : List Part) (bytes rest printed : List ℕ) → PrintsTo parts bytes [] rest printed → rest ≡ [] →
    (args : List Argument) × Spells parts bytes args × (text_of parts args ≡ printed)
prints_done parts bytes rest printed prints none =
    let r = prints.forth [] (none, refl) in (r.0, r.1, r.2 ∙ append-nil printed)

pub prints_only : (parts : List Part) (bytes rest printed : List ℕ) (args : List Argument) → PrintsTo parts bytes [] rest printed → Spells parts bytes args → text_of parts args ≡ printed
prints_only parts bytes rest printed args prints s = let r = prints.back args s in r.2 ∙ append-nil printed

number_only : (filled : Padding) (written : Notation) (bytes rest : List ℕ) (n : ℤ) →
    ((m : ℤ) (front behind : List ℕ) → IsVarint front (zigzag m) → bytes ≡ front ++ behind → (n ≡ m) × (rest ≡ behind)) →
    (b : Argument) (behind : List ℕ) → StartsWith (part.Number filled written) bytes b behind → (b ≡ Number n) × (behind ≡ rest)
number_only filled written bytes rest n only (Number m) behind s =
    let r = only m s.front behind s.spelled s.whole in (ap Number (sym r.0), sym r.1)
number_only filled written bytes rest n only (Text text cut) behind s = absurd s.spelled

-- a number that was read
pub number_reads : (filled : Padding) (written : Notation) (bytes rest : List ℕ) (n : ℤ) →
    ((front : List ℕ) × IsVarint front (zigzag n) × (bytes ≡ front ++ rest)) →
    ((m : ℤ) (front behind : List ℕ) → IsVarint front (zigzag m) → bytes ≡ front ++ behind → (n ≡ m) × (rest ≡ behind)) →
    length bytes ≤ length rest + 128 → ReadsOne (part.Number filled written) bytes rest (number_text filled written n)
number_reads filled written bytes rest n some only short = (
  Number n,
  record {
    first = record { front = some.0; spelled = some.1; whole = some.2 };
    only = number_only filled written bytes rest n only;
    short = short;
  },
  refl,
)

text_only : (bytes rest text : List ℕ) (cut : Bool) →
    ((t r : List ℕ) (k : Bool) → IsShortText t → bytes ≡ text_head (length t) k ∷ (t ++ r) → (text ≡ t) × (cut ≡ k) × (rest ≡ r)) →
    (b : Argument) (behind : List ℕ) → StartsWith part.Text bytes b behind → (b ≡ Text text cut) × (behind ≡ rest)
text_only bytes rest text cut only (Number m) behind s = absurd s.spelled
text_only bytes rest text cut only (Text t k) behind s =
    let r = only t behind k s.spelled.0 (s.whole ∙ ap (λ l. l ++ behind) s.spelled.1) in
    (sym (ap (λ x. Text x cut) r.0 ∙ ap (λ x. Text t x) r.1), sym r.2)

-- a text that was read
pub text_reads : (bytes rest text : List ℕ) (cut : Bool) → IsShortText text → bytes ≡ text_head (length text) cut ∷ (text ++ rest) →
    ((t r : List ℕ) (k : Bool) → IsShortText t → bytes ≡ text_head (length t) k ∷ (t ++ r) → (text ≡ t) × (cut ≡ k) × (rest ≡ r)) →
    length bytes ≤ length rest + 128 → ReadsOne part.Text bytes rest (shown_text text cut)
text_reads bytes rest text cut good whole only short = (
  Text text cut,
  record {
    first = record { front = text_head (length text) cut ∷ text; spelled = (good, refl); whole = whole };
    only = text_only bytes rest text cut only;
    short = short;
  },
  refl,
)
