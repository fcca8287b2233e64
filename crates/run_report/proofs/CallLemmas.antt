-- One more call, and its line.
use Rattle.std.proofs.Common.{◌≡◌, ℕ, ◌+◌, ◌<◌, List, [], ◌∷◌, ◌++◌, length, take, get_or, slice_get, Option, Some, None, option_map, refl, sym, ◌∙◌, ap, arith}
use Rattle.std.specs.List.{flat_map, enumerate_from}
use Rattle.std.proofs.lemmas.List.{flat_map_more, take_more}
use Rattle.std.proofs.lemmas.List.FromFn.{length-enumerate_from, get_or-enumerate_from}
use Rattle.std.proofs.lemmas.Option.{get_or_from_slice_get, slice_get_within}
use Rattle.rpc_ids.specs.declared.method.MethodRef.{MethodRef}
use Rattle.rpc_ids.specs.declared.status.Status.{Status}
use Rattle.rpc_packet.specs.declared.call_name.CallName.{CallName}
use Rattle.rpc_journal.specs.Calls.{end_of}
use Rattle.rpc_journal.specs.Effect.{Deed, Opening}
use Rattle.run_report.specs.Lines.{call_line}
use Rattle.run_report.specs.Report.{line_of_call}

-- the opening that has this name and this method
pub opening_of :
    (o : Option Opening) (name : CallName) (method : MethodRef) → option_map (λ x. x.name) o ≡ Some name →
    option_map (λ x. x.method) o ≡ Some method → (opening : Opening) × (o ≡ Some opening) × (opening.name ≡ name) × (opening.method ≡ method)
opening_of None name method named of = cc
opening_of (Some opening) name method named of = (opening, refl, cc, cc)

-- the line of a call is that of its opening and its end
pub line_of_opening :
    (ds : List Deed) (number : ℕ) (opening : Opening) (name : CallName) (method : MethodRef) (end : Option Status) →
    opening.name ≡ name → opening.method ≡ method → end ≡ end_of ds number →
    call_line number name method.kind end ≡ line_of_call ds (number, opening)
line_of_opening ds number opening name method end named of is = rw (← named, ← of, is) refl

-- what the numbered elements up to one are made into, and that one
pub flat_map-numbered :
    {X : Type 0} (f : ℕ × X → List ℕ) (front : List ℕ) (xs : List X) (i : ℕ) (x : X) → slice_get xs i ≡ Some x →
    (front ++ flat_map f (take i (enumerate_from 0 xs))) ++ f (i, x) ≡ front ++ flat_map f (take (i + 1) (enumerate_from 0 xs))
flat_map-numbered {X} f front xs i x is =
    let there : i < length xs = slice_get_within xs i x is in
    let numbered : i < length (enumerate_from 0 xs) = omega (arith, length-enumerate_from 0 xs) in
    let number : 0 + i ≡ i = omega arith in
    let same : get_or (enumerate_from 0 xs) i (0, x) ≡ (i, x) =
    get_or-enumerate_from 0 xs i (0, x) there ∙ ap (λ (n : ℕ). (n, get_or xs i x)) number ∙ ap (λ (y : X). (i, y)) (get_or_from_slice_get xs i x x is) in
    flat_map_more f front (take i (enumerate_from 0 xs)) (i, x) ∙
    ap (λ part. front ++ flat_map f part)
    (sym (take_more (enumerate_from 0 xs) i (0, x) numbered ∙ ap (λ y. take i (enumerate_from 0 xs) ++ y ∷ []) same))
