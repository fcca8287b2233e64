-- What `route` tells of a text.
use Rattle.std.specs.Prelude.{ℕ, Bool, true, false, List, [], codes}
use Rattle.text_fields.specs.Lines.{lines_of}
use Rattle.frame_router.specs.text.Lines.{HasBadLine, IsPrinted}
use Rattle.pw_run.specs.Texts.{TellsBadLine}

-- what is printed of a router by its routes and the steps behind them; or the first bad line
abbrev pub TellsRoutes : List ℕ → List ℕ → Bool → Type 0
TellsRoutes text told true = IsPrinted [] (lines_of text) told
TellsRoutes text told false = TellsBadLine (codes "route") (HasBadLine [] (lines_of text)) told
