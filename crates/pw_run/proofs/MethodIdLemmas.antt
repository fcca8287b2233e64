-- Which id a word tells.
use Rattle.std.proofs.Common.{◌≡◌, ℕ, List, ◌++◌, codes, Option, Some, None, refl, sym, ◌∙◌, ap, inl, inr}
use Rattle.rpc_ids.specs.Names.{name_id}
use Rattle.pw_run.specs.MethodId.{IsId, id_of_digits}

pub digits_id : (word digits : List ℕ) (id : ℕ) → word ≡ codes "0x" ++ digits → id_of_digits digits ≡ Some id → IsId word id
digits_id word digits id is tells = inl (digits, is, tells)

pub name_id_of : (word : List ℕ) → ((digits : List ℕ) → word ≡ codes "0x" ++ digits → ⊥) → IsId word (name_id word)
name_id_of word none = inr (none, refl)

append_same : (xs ys : List ℕ) → codes "0x" ++ xs ≡ codes "0x" ++ ys → xs ≡ ys
append_same xs ys is = cc is

pub only_digits : (word digits : List ℕ) (id : ℕ) → word ≡ codes "0x" ++ digits → IsId word id → id_of_digits digits ≡ Some id
only_digits word digits id is (inl told) = ap id_of_digits (append_same digits told.0 (sym is ∙ told.1)) ∙ told.2
only_digits word digits id is (inr told) = absurd (told.0 digits is)

pub only_name : (word : List ℕ) (id : ℕ) → ((digits : List ℕ) → word ≡ codes "0x" ++ digits → ⊥) → IsId word id → Some (name_id word) ≡ Some id
only_name word id none (inl told) = absurd (none told.0 told.1)
only_name word id none (inr told) = ap Some told.1
