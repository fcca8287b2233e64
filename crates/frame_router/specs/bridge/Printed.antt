-- What is printed of a bridge.
use Rattle.std.specs.Prelude.{ℕ, List, [], ◌++◌, codes}
use Rattle.text_fields.specs.Lines.{ended}
use Rattle.link_io.specs.declared.why.Why.{Why}
use Rattle.link_io.specs.declared.why.Why.TheVariants.{Settled, Source, Sink, InputLimit}
use Rattle.frame_router.specs.declared.port.Port.TheVariants.{Left, Right}
use Rattle.frame_router.specs.text.Printed.{tally_line}
use Rattle.frame_router.specs.declared.bridge.bridged.Bridged.{Bridged}
use Rattle.frame_router.specs.bridge.Bridges.{reason_of}

-- why it ended; want of memory has no line
abbrev pub last_line : Why → List ℕ
last_line Settled = ended (codes "done")
last_line Source = ended (codes "source fault")
last_line Sink = ended (codes "sink fault")
last_line InputLimit = ended (codes "limit input 67108864")
last_line _ = []

-- how the segments from each side were counted, the left one first, and why the bridge ended
unfoldable pub bridge_text : Bridged → List ℕ
bridge_text done = tally_line Left done.from_left.tally ++ (tally_line Right done.from_right.tally ++ last_line (reason_of done))
