-- What goes out in one session, as items of an answer.
use Rattle.std.proofs.Common.{◌≡◌, ℕ, List, [], ◌∷◌, refl, ap}
use Rattle.transfer_words.specs.Saying.{Saying, outs_of, out_of}
use Rattle.transfer_resume.specs.Book.{in_session, spelled_all}

pub spelled_in : (id : ℕ) (sayings : List Saying) → spelled_all (in_session id sayings) ≡ outs_of id sayings
spelled_in id [] = refl
spelled_in id (s ∷ sayings) = ap (λ outs. out_of id s ∷ outs) (spelled_in id sayings)
