use Rattle.std.proofs.Common.{◌≡◌, ℕ, ◌∙◌, ◌++◌, ◌+◌, [], Option, take, drop, get_or, ap, sym, subst, arith}
use Rattle.std.specs.List.{flat_map}
use Rattle.std.proofs.lemmas.List.{drop_all, drop_more}
use Rattle.hdlc_frame.specs.Encoded.{text_of, text_of_octet}
use Rattle.hdlc_frame.specs.Laid.{Lays}
use Rattle.hdlc_frame.proofs.Laying.{part_none, whole_laid}
use Rattle.hdlc_frame.proofs.text.put_text.Goals as goal

pub returns-in_err-end : goal.returns-in_err-end
unfolding text_of
returns-in_err-end c =
    let l = c.loop-octet in
    let content = c.args.content.now in
    let i = l.octet-index in
    let part = text_of_octet (get_or content i 0) in
    let P : Option ℕ → Type 0 = λ r. Lays l.out l.end part r c.put_octet.new.out in
    let full = subst P c.in_err-end.was c.put_octet.ensures in
    let more = drop_more content i 0 c.loop-octet-test.true in
    rw c.from_residual.ensures
    (part_none c.args.out.now l.out part (flat_map text_of_octet (drop (i + 1) content)) (flat_map text_of_octet content) c.args.at l.end
    l.invariant.same l.invariant.within c.requires (ap (λ xs. take l.end l.out ++ flat_map text_of_octet xs) (sym more) ∙ l.invariant.leads_on) full)

pub returns : goal.returns
unfolding text_of
returns c =
    let l = c.loop-octet in
    let content = c.args.content.now in
    let none : drop l.octet-index content ≡ [] = drop_all l.octet-index content (omega (arith, c.loop-octet-test.false)) in
    whole_laid c.args.out.now l.out (flat_map text_of_octet (drop l.octet-index content)) (flat_map text_of_octet content) c.args.at l.end l.invariant.same
    l.invariant.within c.requires (ap (flat_map text_of_octet) none) l.invariant.leads_on
