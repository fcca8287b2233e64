-- Methods that are named by words.
use Rattle.std.specs.Prelude.{◌≡◌, ℕ, ◌≤◌, ◌==◌, ◌&&◌, ◌||◌, not, Bool, true, List, ◌∷◌, ◌++◌, length, map}
use Rattle.std.specs.Char.{is_ascii_alphanumeric}
use Rattle.std.specs.List.{list_all}
use Rattle.stream_dump.specs.declared.named.TheConstants.{MAX_NAMED, SLASH}
use Rattle.stream_dump.specs.Names.{Name}

-- a letter, a digit, an underscore or a dot
abbrev pub is_name_octet : ℕ → Bool
is_name_octet octet = is_ascii_alphanumeric octet || ((octet == 95) || (octet == 46))

-- a name is of such bytes, and isn't empty
abbrev pub is_name : List ℕ → Bool
is_name text = not (length text == 0) && list_all is_name_octet text

abbrev pub has_good_names : Name → Bool
has_good_names name = is_name name.service && is_name name.method

-- the word of a method: its service and its own name, and a slash between the two
abbrev pub word_of : Name → List ℕ
word_of name = name.service ++ SLASH ∷ name.method

-- The word names this method.
pub record IsNamed (word : List ℕ) (name : Name) : Type 0 where
  pub spelled : word ≡ word_of name
  pub good : has_good_names name ≡ true

-- The words name these methods, one each, in order.
pub record AreNamed (words : List (List ℕ)) (names : List Name) : Type 0 where
  pub few : length names ≤ MAX_NAMED
  pub spelled : words ≡ map word_of names
  pub good : list_all has_good_names names ≡ true
