-- The laws of the service.
use Rattle.std.proofs.Common.{◌≡◌, ℕ, zero, suc, ◌+◌, add-zero, zero-add, ◌%◌, ◌^◌, ◌<◌, ◌≤◌, false, List, [], ◌∷◌, length, map, sum, sum_by, slice_get, All, Some, refl, sym, ap, ◌∙◌, arith, codes}
use Rattle.std.proofs.Math.Nat.{mod-add-mod}
use Rattle.std.proofs.lemmas.Bool.{le-leb}
use Rattle.std.proofs.lemmas.List.{append-nil}
use Rattle.std.proofs.lemmas.List.Elements.{All-head, All-tail}
use Rattle.std.proofs.lemmas.List.FromFn.{length-map-range_with_len}
use Rattle.std.proofs.lemmas.List.Sums.{sum_by-cons}
use Rattle.std.specs.List.{range_with_len}
use Rattle.rpc_ids.specs.declared.method.Kind.TheVariants.{ServerStream}
use Rattle.rpc_handlers.specs.declared.answer.Out.TheVariants.{Say}
use Rattle.rpc_handlers.specs.declared.event.Event.TheVariants.{Request, Message}
use Rattle.rpc_handlers.specs.declared.event.Memo.{Memo}
use Rattle.rpc_handlers.specs.Limits.{is_long}
use Rattle.demo_services.specs.Count.{count_to}
use Rattle.demo_services.specs.DemoCall.{numbers}
use Rattle.demo_services.specs.DemoRule.{first}
use Rattle.demo_services.specs.Methods.{demo_method}
use Rattle.demo_services.specs.Laws.{said, state_after, KeepsLimits, CountsFromOne, SumsAllBytes, SaysBack}
use Rattle.demo_services.proofs.FirstStates.{first_count, first_sum, first_chat}
use Rattle.demo_services.proofs.Limits.{answer_limits}

-- Sum

regroup : (t a b : ℕ) → t + a + b ≡ t + (a + b)
regroup t a b = omega arith

-- the total after these messages
sum_state_after : (t : ℕ) (messages : List (List ℕ)) → state_after (numbers (2 ∷ (t % 2 ^ 64) ∷ [])) (map Message messages) ≡ numbers (2 ∷ ((t + sum_by sum messages) % 2 ^ 64) ∷ [])
sum_state_after t [] = ap (λ total. numbers (2 ∷ (total % 2 ^ 64) ∷ [])) (sym (add-zero t))
sum_state_after t (payload ∷ messages) =
    ap (λ total. state_after (numbers (2 ∷ total ∷ [])) (map Message messages)) (mod-add-mod t (2 ^ 64) (sum payload))
    ∙ (sum_state_after (t + sum payload) messages
    ∙ ap (λ total. numbers (2 ∷ (total % 2 ^ 64) ∷ [])) (regroup t (sum payload) (sum_by sum messages) ∙ ap (λ s. t + s) (sym (sum_by-cons sum payload messages))))

pub sums_all_bytes : SumsAllBytes
sums_all_bytes seed messages = rw (first_sum seed, sum_state_after 0 messages, zero-add (sum_by sum messages)) refl

-- Chat

pub chat_state : (messages : List (List ℕ)) → All (λ payload. is_long payload ≡ false) messages → said (numbers (3 ∷ [])) (map Message messages) ≡ map Say messages
chat_state [] short = refl
chat_state (payload ∷ messages) short =
    rw (All-head (λ p. is_long p ≡ false) payload messages short) (ap (λ rest. Say payload ∷ rest) (chat_state messages (All-tail (λ p. is_long p ≡ false) payload messages short)))

pub says_back : SaysBack
says_back seed messages short = rw (first_chat seed) (chat_state messages short)

-- Count

one_first : (i : ℕ) → 1 + i ≡ i + 1
one_first i = omega arith

shifted : (a i : ℕ) → a + 1 + i ≡ a + suc i
shifted a i = omega arith

counted_at : (a n i : ℕ) → i < n → slice_get (map (λ byte. Say (byte ∷ [])) (range_with_len a n)) i ≡ Some (Say ((a + i) ∷ []))
counted_at a zero i inside = absurd (omega arith)
counted_at a (suc n) zero inside = ap (λ k. Some (Say (k ∷ []))) (sym (add-zero a))
counted_at a (suc n) (suc i) inside = counted_at (a + 1) n i (omega arith) ∙ ap (λ k. Some (Say (k ∷ []))) (shifted a i)

counted_items : (seed : Memo) (n : ℕ) → n ≤ 64 → said (first seed (demo_method (codes "Count") ServerStream)) (Request (n ∷ []) ∷ []) ≡ count_to n
counted_items seed n small = rw (first_count seed, le-leb n 64 small) (append-nil (count_to n))

pub counts_from_one : CountsFromOne
counts_from_one seed n small =
    let counted = counted_items seed n small in (
      ap length counted ∙ length-map-range_with_len (λ byte. Say (byte ∷ [])) 1 n,
      λ i inside. ap (λ items. slice_get items i) counted ∙ (counted_at 1 n i inside ∙ ap (λ k. Some (Say (k ∷ []))) (one_first i)),
    )

-- the limits

pub keeps_limits : KeepsLimits
keeps_limits call ev few = answer_limits call ev few
