-- Words that are added, some behind others.
use Rattle.std.proofs.Common.{◌≡◌, ℕ, ◌+◌, ◌≤◌, List, ◌++◌, Result, Ok, Err, ap, ◌∙◌, subst, arith, append_assoc}
use Rattle.std.specs.Prelude.{OnOk, OnErr}
use Rattle.arrayvec.specs.ArrayVec.{ArrayVec}
use Rattle.stream_dump.specs.declared.words.Word.{Word}
use Rattle.stream_dump.specs.Words.{Adds, texts}

pub adds_then : (m n : ℕ) (a b c : ArrayVec Word) (x y : List (List ℕ)) → Adds m a b x → Adds n b c y → Adds (m + n) a c (x ++ y)
adds_then m n a b c x y p q = record {
  words = q.words ∙ ap (λ l. l ++ y) p.words ∙ append_assoc (texts a.items) x y;
  few = omega (arith, p.few, q.few);
}

pub adds_as : (m : ℕ) (a b : ArrayVec Word) (x y : List (List ℕ)) → Adds m a b x → x ≡ y → Adds m a b y
adds_as m a b x y p e = subst (Adds m a b) e p

pub adds_more : (m n : ℕ) (a b : ArrayVec Word) (x : List (List ℕ)) → m ≤ n → Adds m a b x → Adds n a b x
adds_more m n a b x le p = record { words = p.words; few = omega (arith, p.few, le) }

pub on_ok : {T E : Type 0} (r : Result T E) (P : Type 0) → P → OnOk r P
on_ok (Ok x) P p = p
on_ok (Err e) P p = tt

pub on_err : {T E : Type 0} (r : Result T E) (P : Type 0) → P → OnErr r P
on_err (Ok x) P p = tt
on_err (Err e) P p = p
