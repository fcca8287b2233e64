-- The relation of text and content, and the walk that computes it.
use Rattle.std.proofs.Common.{◌≡◌, ◌≢◌, ℕ, ◌==◌, Bool, true, false, List, [], ◌∷◌, Option, Some, None, refl, sym, ap, ◌∙◌, subst, inl, inr, bit_xor, arith}
use Rattle.std.specs.Option.{option_map}
use Rattle.std.proofs.lemmas.Bool.{eq-eqb}
use Rattle.std.proofs.lemmas.Bool.Decides.{eqb_tells}
use Rattle.hdlc_frame.specs.declared.octets.TheConstants.{ESCAPE, ESCAPE_BIT, FLAG}
use Rattle.hdlc_frame.specs.Content.{StandsFor, unescaped}
use Rattle.hdlc_frame.specs.Content.StandsFor.{nothing, itself, escaped}

pub neq-eqb : (a b : ℕ) → a ≢ b → (a == b) ≡ false
neq-eqb a b h = elim (eqb_tells a b) [ inl w ↦ absurd (h w.1) | inr w ↦ w.0 ]

pub walk_end : unescaped false [] ≡ Some []
unfolding unescaped
walk_end = refl

pub walk_cut : unescaped true [] ≡ None
unfolding unescaped
walk_cut = refl

pub walk_flag : (is_escaped : Bool) (octet : ℕ) (text : List ℕ) → octet ≡ FLAG → unescaped is_escaped (octet ∷ text) ≡ None
unfolding unescaped
walk_flag false octet text e = rw (eq-eqb octet FLAG e) refl
walk_flag true octet text e = rw (eq-eqb octet FLAG e) refl

pub walk_escape : (octet : ℕ) (text : List ℕ) → octet ≡ ESCAPE → unescaped false (octet ∷ text) ≡ unescaped true text
unfolding unescaped
walk_escape octet text e =
    let other : (octet == FLAG) ≡ false = neq-eqb octet FLAG (omega arith) in
    rw (other, eq-eqb octet ESCAPE e) refl

pub walk_twice : (octet : ℕ) (text : List ℕ) → octet ≡ ESCAPE → unescaped true (octet ∷ text) ≡ None
unfolding unescaped
walk_twice octet text e =
    let other : (octet == FLAG) ≡ false = neq-eqb octet FLAG (omega arith) in
    rw (other, eq-eqb octet ESCAPE e) refl

pub walk_itself :
    (octet : ℕ) (text : List ℕ) → octet ≢ FLAG → octet ≢ ESCAPE →
    unescaped false (octet ∷ text) ≡ option_map (λ content. octet ∷ content) (unescaped false text)
unfolding unescaped
walk_itself octet text f e = rw (neq-eqb octet FLAG f, neq-eqb octet ESCAPE e) refl

pub walk_escaped :
    (octet : ℕ) (text : List ℕ) → octet ≢ FLAG → octet ≢ ESCAPE →
    unescaped true (octet ∷ text) ≡ option_map (λ content. bit_xor octet ESCAPE_BIT ∷ content) (unescaped false text)
unfolding unescaped
walk_escaped octet text f e = rw (neq-eqb octet FLAG f, neq-eqb octet ESCAPE e) refl

-- a content that the relation names is the one that the walk finds
pub stands_walk : (text content : List ℕ) → StandsFor text content → unescaped false text ≡ Some content
stands_walk _ _ nothing = walk_end
stands_walk _ _ (itself octet text content f e rest) =
    walk_itself octet text f e ∙ ap (option_map (λ content. octet ∷ content)) (stands_walk text content rest)
stands_walk _ _ (escaped escape octet meant text content is f e means rest) =
    walk_escape escape (octet ∷ text) is ∙ walk_escaped octet text f e ∙
    ap (option_map (λ content. bit_xor octet ESCAPE_BIT ∷ content)) (stands_walk text content rest) ∙
    ap (λ x. Some (x ∷ content)) (sym means)

mapped :
    (x : ℕ) (found : Option (List ℕ)) (content : List ℕ) → option_map (λ rest. x ∷ rest) found ≡ Some content →
    (rest : List ℕ) × (found ≡ Some rest) × (content ≡ x ∷ rest)
mapped x None content h = absurd (cc)
mapped x (Some rest) content h = (rest, refl, cc)

walk_escaped_stands :
    (escape octet : ℕ) (text content : List ℕ) → escape ≡ ESCAPE → ((rest : List ℕ) → unescaped false text ≡ Some rest → StandsFor text rest) →
    unescaped true (octet ∷ text) ≡ Some content → StandsFor (escape ∷ octet ∷ text) content
walk_escaped_stands escape octet text content is below h =
    elim (eqb_tells octet FLAG) [
      | inl w ↦ absurd (let n = walk_flag true octet text w.1 in cc)
      | inr w ↦
          elim (eqb_tells octet ESCAPE) [
            | inl v ↦ absurd (let n = walk_twice octet text v.1 in cc)
            | inr v ↦
                let found = mapped (bit_xor octet ESCAPE_BIT) (unescaped false text) content (sym (walk_escaped octet text w.1 v.1) ∙ h) in
                let P : List ℕ → Type 0 = λ x. StandsFor (escape ∷ octet ∷ text) x in
                subst P (sym found.2) (escaped escape octet (bit_xor octet ESCAPE_BIT) text found.0 is w.1 v.1 refl (below found.0 found.1))
          ]
    ]

-- what the walk finds, the relation names
pub walk_stands : (text content : List ℕ) → unescaped false text ≡ Some content → StandsFor text content
walk_stands [] content h =
    let e : content ≡ [] = let n = walk_end in cc in
    let P : List ℕ → Type 0 = λ x. StandsFor [] x in
    subst P (sym e) nothing
walk_stands (octet ∷ []) content h =
    let P : List ℕ → Type 0 = λ x. StandsFor (octet ∷ []) x in
    elim (eqb_tells octet FLAG) [
      | inl w ↦ absurd (let n = walk_flag false octet [] w.1 in cc)
      | inr w ↦
          elim (eqb_tells octet ESCAPE) [
            | inl v ↦ absurd (let n = walk_escape octet [] v.1 in let m = walk_cut in cc)
            | inr v ↦
                let found = mapped octet (unescaped false []) content (sym (walk_itself octet [] w.1 v.1) ∙ h) in
                subst P (sym found.2) (itself octet [] found.0 w.1 v.1 (walk_stands [] found.0 found.1))
          ]
    ]
walk_stands (octet ∷ next ∷ text) content h =
    let P : List ℕ → Type 0 = λ x. StandsFor (octet ∷ next ∷ text) x in
    elim (eqb_tells octet FLAG) [
      | inl w ↦ absurd (let n = walk_flag false octet (next ∷ text) w.1 in cc)
      | inr w ↦
          elim (eqb_tells octet ESCAPE) [
            | inl v ↦ walk_escaped_stands octet next text content v.1 (walk_stands text) (sym (walk_escape octet (next ∷ text) v.1) ∙ h)
            | inr v ↦
                let found = mapped octet (unescaped false (next ∷ text)) content (sym (walk_itself octet (next ∷ text) w.1 v.1) ∙ h) in
                subst P (sym found.2) (itself octet (next ∷ text) found.0 w.1 v.1 (walk_stands (next ∷ text) found.0 found.1))
          ]
    ]
