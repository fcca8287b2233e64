-- What is said in a session.
use Rattle.std.specs.Prelude.{◌≡◌, ℕ, Bool, true, List, Option, Some, None}
use Rattle.rpc_ids.specs.declared.Status.TheVariants.{Okay}
use Rattle.transfer_base.specs.declared.Piece.{Piece}
use Rattle.transfer_base.specs.PieceLists.{IsPartOf}
use Rattle.transfer_words.specs.Word.{Word, data_comes, completion}
use Rattle.transfer_words.specs.Spoken.{FitsChunk}
use Rattle.transfer_words.specs.Saying.{Saying, says}

-- a word that is said fits a chunk
abbrev pub FitsSaying : Saying → Type 0
FitsSaying (says w) = FitsChunk w
FitsSaying _ = Unit {0}

-- a piece of this resource, of which there is none where it isn't there
abbrev pub IsPieceOf : Option (List ℕ) → Piece → Type 0
IsPieceOf None p = ⊥
IsPieceOf (Some bytes) p = IsPartOf bytes p

-- data that is said is of this resource
abbrev pub SaysPiecesOf : Option (List ℕ) → Saying → Type 0
SaysPiecesOf resource (says (data_comes p)) = IsPieceOf resource p
SaysPiecesOf resource _ = Unit {0}

-- the end OK is said only where it may be
abbrev pub OkayWhere : Bool → Word → Type 0
OkayWhere may (completion status) = status ≡ Okay → may ≡ true
OkayWhere may _ = Unit {0}

abbrev pub SaysOkayWhere : Bool → Saying → Type 0
SaysOkayWhere may (says w) = OkayWhere may w
SaysOkayWhere may _ = Unit {0}
