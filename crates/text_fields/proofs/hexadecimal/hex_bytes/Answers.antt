use Rattle.std.proofs.Common.{sym, ap, inl, inr, ◌∙◌, ◌≡◌}
use Rattle.hex.specs.Hex.{decode_of}
use Rattle.hex.proofs.HexLemmas.{decode_of-encode_lower, decode_of-ok, decode_of-same}
use Rattle.text_fields.proofs.HexTexts.{encoded_has_no_capital, lower_text}
use Rattle.text_fields.proofs.hexadecimal.hex_bytes.Goals as goal

pub returns-then-has_capital-clause-only : goal.returns-then-has_capital-clause-only
returns-then-has_capital-clause-only c bytes octets spelled =
    let small = encoded_has_no_capital bytes octets in
    let h = c.has_capital.ensures in
    let k = c.if-has_capital.true in
    let e : _ ≡ _ = rw spelled at h in
    cc

pub returns-in-Ok-clause-some : goal.returns-in-Ok-clause-some
returns-in-Ok-clause-some c =
    lower_text c.args.text.now c.in-Ok.bytes.items c.in-Ok.ensures.ok (sym c.has_capital.ensures ∙ c.if-has_capital.false)

pub returns-in-Ok-clause-bytes : goal.returns-in-Ok-clause-bytes
returns-in-Ok-clause-bytes c = (decode_of-ok c.args.text.now c.in-Ok.bytes.items c.in-Ok.ensures.ok).3

pub returns-in-Ok-clause-only : goal.returns-in-Ok-clause-only
returns-in-Ok-clause-only c bytes octets spelled =
    decode_of-same c.args.text.now c.in-Ok.bytes.items bytes c.in-Ok.ensures.ok (ap decode_of spelled ∙ decode_of-encode_lower bytes octets)

pub returns-in_default : goal.returns-in_default
returns-in_default c = record {
  some = tt;
  bytes = tt;
  only = λ bytes octets spelled.
      let read = ap decode_of spelled ∙ decode_of-encode_lower bytes octets in
      elim c.in-Err.ensures.err [
        | inl memory ↦ c.in_default.not-OutOfMemory memory
        | inr other ↦ cc (sym read ∙ other)
      ];
}
