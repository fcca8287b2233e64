use Rattle.std.proofs.Common.{rules, ◌≡◌, IfSome, IsSomeAnd, codes, sym, ◌∙◌, subst}
use Rattle.hex.specs.Hex.{IsBytes, encode_lower}
use Rattle.pw_run.specs.Payload.{IsPayload}
use Rattle.pw_run.proofs.PayloadLemmas.{dash_only, none_read, one_payload, read_tells}
use Rattle.pw_run.proofs.payload.read_payload.Goals as goal

pub returns-then-eq-clause-only : goal.returns-then-eq-clause-only
returns-then-eq-clause-only c = λ bytes told.
    let dash : c.args.word.now ≡ codes "-" = search rules in
    c.new.ensures ∙ dash_only c.args.word.now bytes dash told

pub unreachable-requires : goal.unreachable-requires
unreachable-requires c =
    let other : c.args.word.now ≡ codes "-" → ⊥ = search rules in
    none_read c.args.word.now c.requires.0 other c.requires.1 (λ bytes octets is.
    subst (λ o. IsSomeAnd o (λ read. read.items ≡ bytes)) c.in-None.is (c.in_ok-bytes.ensures.only bytes octets (c.as_bytes.ensures.value ∙ is)))

pub returns-clause-told : goal.returns-clause-told
returns-clause-told c =
    let other : c.args.word.now ≡ codes "-" → ⊥ = search rules in
    let spelled = subst (λ o. IfSome o (λ read. c.as_bytes.result.now ≡ encode_lower read.items)) c.in-Some.is c.in_ok-bytes.ensures.some in
    let octets = subst (λ o. IfSome o (λ read. IsBytes read.items)) c.in-Some.is c.in_ok-bytes.ensures.bytes in
    subst (IsPayload c.args.word.now) (sym c.in_ok-from_vec-in-Some.ensures.ok)
    (read_tells c.args.word.now c.in-Some.bytes.items other (sym c.as_bytes.ensures.value ∙ spelled) octets c.requires.0 c.requires.1)

pub returns-clause-only : goal.returns-clause-only
returns-clause-only c = λ bytes told. one_payload c.args.word.now c.in_ok-from_vec-in-Some.field-0 bytes (returns-clause-told c) told
