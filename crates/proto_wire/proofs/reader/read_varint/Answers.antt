use Rattle.std.proofs.Common.{◌≡◌, ℕ, ◌+◌, ◌*◌, ◌%◌, ◌^◌, sym, ◌∙◌, ap, refl, get_or, arith, ◌<◌, ◌≤◌, zero-le, length, ◌-◌, List, Option, Some, drop, subst}
use Rattle.proto_wire.specs.Varint.{Number, groups_front}
use Rattle.proto_wire.proofs.VarintLemmas.{finish, finish_start, finish_full, reads_cut, reads_large, reads_last, reads_more, next_weight}
use Rattle.std.proofs.lemmas.List.{take_rest}
use Rattle.proto_wire.proofs.reader.read_varint.Goals as goal

some_number : {a b : ℕ} {xs ys : List ℕ} → a ≡ b → xs ≡ ys → ◌≡◌ {A = Option Number} (Some (record { value = a; rest = xs })) (Some (record { value = b; rest = ys }))
some_number p q = rw (p, q) refl

pub loop-index-init : goal.loop-index-init
loop-index-init c = record { leads_on = finish_start c.args.bytes.now; within = zero-le; weight = refl }

pub returns-in_err-byte : goal.returns-in_err-byte
returns-in_err-byte c =
    let inv = c.loop-index.invariant in
    let past : length c.args.bytes.now ≤ c.loop-index.index = c.in_err-byte.ensures.lookup.3 in
    rw c.from_residual.ensures (sym (reads_cut c.loop-index.value c.loop-index.index c.loop-index.weight c.args.bytes.now c.loop-index-test.true inv.weight past) ∙ inv.leads_on)

pub returns-in_err-group : goal.returns-in_err-group
returns-in_err-group c =
    let inv = c.loop-index.invariant in
    let bytes = c.args.bytes.now in
    let byte : get_or bytes c.loop-index.index 0 < 256 = omega (arith, c.type_inv.bytes c.loop-index.index) in
    let same : c.from.result ≡ get_or bytes c.loop-index.index 0 % 128 = c.from.ensures ∙ ap (λ b. b % 128) (c.in_ok-byte.ensures.lookup.3.1 0) in
    let no : c.from.result * c.loop-index.weight < 2 ^ 64 → ⊥ = c.in_err-group.ensures in
    let large : 2 ^ 64 ≤ c.loop-index.value + c.from.result * c.loop-index.weight = omega (arith, no) in
    rw c.from_residual-in_err-group.ensures (sym (reads_large c.loop-index.value c.loop-index.index c.loop-index.weight bytes c.loop-index-test.true inv.weight c.in_ok-byte.ensures.lookup.3.0 byte (subst (λ g. 2 ^ 64 ≤ c.loop-index.value + g * c.loop-index.weight) same large)) ∙ inv.leads_on)

pub returns-in_err-value : goal.returns-in_err-value
returns-in_err-value c =
    let inv = c.loop-index.invariant in
    let bytes = c.args.bytes.now in
    let byte : get_or bytes c.loop-index.index 0 < 256 = omega (arith, c.type_inv.bytes c.loop-index.index) in
    let same : c.from.result ≡ get_or bytes c.loop-index.index 0 % 128 = c.from.ensures ∙ ap (λ b. b % 128) (c.in_ok-byte.ensures.lookup.3.1 0) in
    let group : c.in_ok-group.group ≡ (get_or bytes c.loop-index.index 0 % 128) * c.loop-index.weight = c.in_ok-group.ensures.1 ∙ ap (λ g. g * c.loop-index.weight) same in
    let no : c.loop-index.value + c.in_ok-group.group < 2 ^ 64 → ⊥ = c.in_err-value.ensures in
    let large : 2 ^ 64 ≤ c.loop-index.value + c.in_ok-group.group = omega (arith, no) in
    rw c.from_residual-in_err-value.ensures (sym (reads_large c.loop-index.value c.loop-index.index c.loop-index.weight bytes c.loop-index-test.true inv.weight c.in_ok-byte.ensures.lookup.3.0 byte (subst (λ g. 2 ^ 64 ≤ c.loop-index.value + g) group large)) ∙ inv.leads_on)

pub returns : goal.returns
returns c =
    let inv = c.loop-index.invariant in
    let full : 10 - c.loop-index.index ≡ 0 = omega arith in
    sym (ap (λ n. finish c.loop-index.value c.loop-index.index (groups_front n (drop c.loop-index.index c.args.bytes.now))) full ∙ finish_full _ _ _) ∙ inv.leads_on

pub returns-then-byte-lt128 : goal.returns-then-byte-lt128
returns-then-byte-lt128 c =
    let inv = c.loop-index.invariant in
    let bytes = c.args.bytes.now in
    let index = c.loop-index.index in
    let is : c.in_ok-byte.field-0.now ≡ get_or bytes index 0 = c.in_ok-byte.ensures.lookup.3.1 0 in
    let small : get_or bytes index 0 < 128 = subst (λ b. b < 128) is c.if-byte-lt128.true in
    let group : c.in_ok-group.group ≡ (get_or bytes index 0 % 128) * c.loop-index.weight = c.in_ok-group.ensures.1 ∙ ap (λ g. g * c.loop-index.weight) (c.from.ensures ∙ ap (λ b. b % 128) is) in
    let fits : c.loop-index.value + (get_or bytes index 0 % 128) * c.loop-index.weight < 2 ^ 64 = subst (λ g. c.loop-index.value + g < 2 ^ 64) group c.in_ok-value.ensures.0 in
    let value : c.in_ok-value.value ≡ c.loop-index.value + (get_or bytes index 0 % 128) * c.loop-index.weight = c.in_ok-value.ensures.1 ∙ ap (λ g. c.loop-index.value + g) group in
    some_number value (take_rest bytes (index + 1)) ∙ (sym (reads_last c.loop-index.value index c.loop-index.weight bytes c.loop-index-test.true inv.weight c.in_ok-byte.ensures.lookup.3.0 small fits) ∙ inv.leads_on)

pub loop-index-preserved : goal.loop-index-preserved
loop-index-preserved c =
    let inv = c.loop-index.invariant in
    let bytes = c.args.bytes.now in
    let index = c.loop-index.index in
    let is : c.in_ok-byte.field-0.now ≡ get_or bytes index 0 = c.in_ok-byte.ensures.lookup.3.1 0 in
    let byte : get_or bytes index 0 < 256 = omega (arith, c.type_inv.bytes index) in
    let inside : index < length bytes = c.in_ok-byte.ensures.lookup.3.0 in
    let big : 128 ≤ get_or bytes index 0 = subst (λ b. 128 ≤ b) is c.if-byte-lt128.false in
    let group : c.in_ok-group.group ≡ (get_or bytes index 0 % 128) * c.loop-index.weight = c.in_ok-group.ensures.1 ∙ ap (λ g. g * c.loop-index.weight) (c.from.ensures ∙ ap (λ b. b % 128) is) in
    let value : c.in_ok-value.value ≡ c.loop-index.value + (get_or bytes index 0 % 128) * c.loop-index.weight = c.in_ok-value.ensures.1 ∙ ap (λ g. c.loop-index.value + g) group in
    record {
      leads_on = ap (λ v. finish v (index + 1) (groups_front (10 - (index + 1)) (drop (index + 1) bytes))) value ∙ (sym (reads_more c.loop-index.value index c.loop-index.weight bytes c.loop-index-test.true inv.weight c.in_ok-byte.ensures.lookup.3.0 byte big) ∙ inv.leads_on);
      within = omega (arith, inside);
      weight = next_weight c.loop-index.value index c.loop-index.weight bytes c.loop-index-test.true inv.weight;
    }
