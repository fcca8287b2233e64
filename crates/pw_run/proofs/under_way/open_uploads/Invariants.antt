use Rattle.std.proofs.Common.{◌≡◌, take}
use Rattle.pw_run.specs.UnderWay.{under_way}
use Rattle.pw_run.proofs.under_way.open_uploads.Given as goal

abbrev pub invariant-loop-item : goal.invariant-loop-item
invariant-loop-item l = l.uploads.keys ≡ under_way (take l.item-index l.items)
