-- What `detoken` tells of a text.
use Rattle.std.specs.Prelude.{ℕ, Bool, true, false, List, [], codes}
use Rattle.text_fields.specs.Lines.{lines_of}
use Rattle.token_text.specs.lines.Lines.{HasBadLine, IsPrinted}
use Rattle.pw_run.specs.Texts.{TellsBadLine}

-- what is printed of the messages by the formats in front of them; or the first bad line
abbrev pub TellsMessages : List ℕ → List ℕ → Bool → Type 0
TellsMessages text told true = IsPrinted [] (lines_of text) told
TellsMessages text told false = TellsBadLine (codes "token") (HasBadLine [] (lines_of text)) told
