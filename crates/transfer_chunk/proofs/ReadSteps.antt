-- The steps of reading a chunk, field by field.
use Rattle.std.proofs.Common.{◌≡◌, ℕ, Bool, true, false, cond, List, [], ◌∷◌, ◌⊎◌, Some, None, Result, Ok, Err, refl, sym, ap, ◌∙◌, subst}
use Rattle.proto_wire.specs.declared.field.Field.{Field}
use Rattle.proto_wire.specs.declared.fields.Malformed.{Malformed}
use Rattle.proto_wire.specs.Field.{WireField}
use Rattle.proto_wire.specs.Message.{Message, fields_of, with_field}
use Rattle.proto_wire.specs.Reading.{Reading, unread}
use Rattle.proto_wire.specs.Gives.{GivesField, GivesFault, Gives}
use Rattle.proto_wire.specs.Typed.{may_have}
use Rattle.proto_wire.specs.Views.{wire_field}
use Rattle.proto_wire.proofs.UnreadLaws.{unread_field, unread_fault, unread_end}
use Rattle.transfer_chunk.specs.Chunk.{Chunk, chunk_after, taken, declared, no_chunk}
use Rattle.transfer_chunk.specs.Reading.{chunk_of, read_after}

-- with these fields still to come, the chunk so far leads to this answer
abbrev pub LeadsTo : Message → Chunk → Result Chunk ℕ → Type 0
LeadsTo coming c answer = read_after c coming ≡ answer

pub starts : (r : Reading) (bytes : List ℕ) (c : Chunk) → unread r ≡ fields_of bytes → c ≡ no_chunk → LeadsTo (unread r) c (chunk_of bytes)
unfolding chunk_of
starts r bytes c new empty = ap (λ m. read_after c m) new ∙ ap (λ d. read_after d (fields_of bytes)) empty

pub ends : (r : Reading) (c : Chunk) (answer : Result Chunk ℕ) → (r.failed ≡ true) ⊎ (r.left ≡ []) → LeadsTo (unread r) c answer → Ok c ≡ answer
ends r c answer ended so_far = sym (ap (read_after c) (unread_end r ended)) ∙ so_far

pub fails : (old new : Reading) (at : ℕ) (c : Chunk) (answer : Result Chunk ℕ) → GivesFault old at new → LeadsTo (unread old) c answer → Err at ≡ answer
fails old new at c answer given so_far = sym (ap (read_after c) (unread_fault old at new given)) ∙ so_far

refused : (b : Bool) (c : Chunk) → cond b (Some c) None ≡ None → b ≡ false
refused true c e = cc
refused false c e = refl

accepted : (b : Bool) (c d : Chunk) → cond b (Some c) None ≡ Some d → (b ≡ true) × (c ≡ d)
accepted true c d e = (refl, cc)
accepted false c d e = cc

fault_first : (at : ℕ) (f : WireField) (m : Message) (c : Chunk) → may_have (declared f.number) f.value ≡ false → read_after c (with_field at f m) ≡ Err at
fault_first at f m c e = rw e refl

field_first : (at : ℕ) (f : WireField) (m : Message) (c : Chunk) → may_have (declared f.number) f.value ≡ true → read_after c (with_field at f m) ≡ read_after (chunk_after c (f ∷ [])) m
field_first at f m c e = rw e refl

pub refuses : (old new : Reading) (f : WireField) (c : Chunk) (answer : Result Chunk ℕ) → GivesField old f new → taken c f ≡ None → LeadsTo (unread old) c answer → Err old.at ≡ answer
refuses old new f c answer given none so_far =
    sym (ap (read_after c) (unread_field old f new given) ∙ fault_first old.at f (unread new) c (refused (may_have (declared f.number) f.value) (chunk_after c (f ∷ [])) none)) ∙ so_far

pub goes_on : (old new : Reading) (f : WireField) (c more : Chunk) (answer : Result Chunk ℕ) → GivesField old f new → taken c f ≡ Some more → LeadsTo (unread old) c answer → LeadsTo (unread new) more answer
goes_on old new f c more answer given some so_far =
    let both = accepted (may_have (declared f.number) f.value) (chunk_after c (f ∷ [])) more some in
    ap (λ d. read_after d (unread new)) (sym both.1)
    ∙ (sym (ap (read_after c) (unread_field old f new given) ∙ field_first old.at f (unread new) c both.0) ∙ so_far)

pub given_field : (old new : Reading) (next : Result Field Malformed) (f : Field) → next ≡ Ok f → Gives old (Some next) new → GivesField old (wire_field f) new
given_field old new next f is gives = subst (λ (n : Result Field Malformed). Gives old (Some n) new) is gives

pub given_fault : (old new : Reading) (next : Result Field Malformed) (e : Malformed) → next ≡ Err e → Gives old (Some next) new → GivesFault old e.at new
given_fault old new next e is gives = subst (λ (n : Result Field Malformed). Gives old (Some n) new) is gives
