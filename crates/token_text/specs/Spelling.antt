-- How bytes spell the arguments of a format.
use Rattle.std.specs.Prelude.{◌≡◌, ◌≢◌, ℕ, ◌+◌, ◌*◌, ◌^◌, ◌<◌, ◌≤◌, ◌⊎◌, if◌then◌else◌, Bool, List, [], ◌∷◌, ◌++◌, ℤ, pos, negsuc, length, All}
use Rattle.proto_wire.specs.Varint.{IsVarint, varint_text}
use Rattle.token_text.specs.Arguments.{Argument, Number, Text}
use Rattle.token_text.specs.Format.{IsPrintable}
use Rattle.token_text.specs.declared.part.Part.{Part}
use Rattle.token_text.specs.declared.part.Part.TheVariants as part

-- 2n for n of at least 0, and -2n - 1 below
abbrev pub zigzag : ℤ → ℕ
zigzag (pos n) = 2 * n
zigzag (negsuc n) = 2 * n + 1

-- the byte in front of a text: its length, and in the top bit whether it was cut
abbrev pub text_head : ℕ → Bool → ℕ
text_head size cut = size + (if cut then 128 else 0)

-- a text that a message may have
pub record IsShortText (bytes : List ℕ) : Type 0 where
  pub short : length bytes ≤ 127
  pub printable : All IsPrintable bytes

-- the bytes spell the argument of this part
abbrev pub IsArgumentOf : Part → Argument → List ℕ → Type 0
IsArgumentOf (part.Number filled written) (Number n) front = IsVarint front (zigzag n)
IsArgumentOf part.Text (Text bytes cut) front = IsShortText bytes × (front ≡ text_head (length bytes) cut ∷ bytes)
IsArgumentOf p a front = ⊥

-- an argument of this part stands at the front of some bytes
pub record StartsWith (p : Part) (bytes : List ℕ) (a : Argument) (rest : List ℕ) : Type 0 where
  pub front : List ℕ
  pub spelled : IsArgumentOf p a front
  pub whole : bytes ≡ front ++ rest

-- the bytes spell the arguments of these parts
abbrev pub Spells : List Part → List ℕ → List Argument → Type 0
Spells [] bytes args = (bytes ≡ []) × (args ≡ [])
Spells (part.Byte b ∷ ps) bytes args = Spells ps bytes args
Spells (p ∷ ps) bytes [] = ⊥
Spells (p ∷ ps) bytes (a ∷ args) = (rest : List ℕ) × StartsWith p bytes a rest × Spells ps rest args

-- no argument of this part can be read
abbrev pub HasNoArgument : Part → List ℕ → Type 0
HasNoArgument p bytes = (a : Argument) (rest : List ℕ) → StartsWith p bytes a rest → ⊥

-- the arguments of these parts can be read up to this offset, where one can't, or where bytes are left
abbrev pub IsWrongAt : List Part → List ℕ → ℕ → Type 0
IsWrongAt [] bytes at = (bytes ≢ []) × (at ≡ 0)
IsWrongAt (part.Byte b ∷ ps) bytes at = IsWrongAt ps bytes at
IsWrongAt (p ∷ ps) bytes at =
    (HasNoArgument p bytes × (at ≡ 0))
    ⊎ ((a : Argument) × (rest : List ℕ) × (behind : ℕ) × (s : StartsWith p bytes a rest) × (at ≡ length s.front + behind) × IsWrongAt ps rest behind)

-- a number of 64 bits with sign
abbrev pub IsWord : Argument → Type 0
IsWord (Number n) = zigzag n < 2 ^ 64
IsWord (Text bytes cut) = Unit {0}

abbrev pub AreWords : List Argument → Type 0
AreWords [] = Unit {0}
AreWords (a ∷ args) = IsWord a × AreWords args

-- the spelling that is written, with shortest varints
abbrev pub argument_text : Argument → List ℕ
argument_text (Number n) = varint_text (zigzag n)
argument_text (Text bytes cut) = text_head (length bytes) cut ∷ bytes

abbrev pub arguments_text : List Argument → List ℕ
arguments_text [] = []
arguments_text (a ∷ args) = argument_text a ++ arguments_text args
