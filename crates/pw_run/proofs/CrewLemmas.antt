-- What a crew takes of its input.
use Rattle.std.proofs.Common.{ℕ, List, [], Option, Some, None, refl, sym, subst, inl, inr, arith}
use Rattle.link_io.specs.declared.why.Why.{Why}
use Rattle.link_io.specs.Reading.{ConsumesUpTo}
use Rattle.rpc_frames.specs.declared.counts.Counts.{Counts}
use Rattle.rpc_journal.specs.declared.item.Item.{Item}
use Rattle.rpc_journal.specs.CallTable.{Table}
use Rattle.rpc_schedule.specs.declared.stream.TheConstants.{INPUT_LIMIT}
use Rattle.pw_run.specs.declared.outcome.Outcome.{Outcome}
use Rattle.pw_run.specs.Crew.{DidCrew}
use Rattle.pw_run.specs.Devices.{Devices, LinkDevices, with_link}
use Rattle.pw_run.specs.LinkServed.{ServesLink}

reads_nothing : (left : Option (List ℕ)) → ConsumesUpTo INPUT_LIMIT left left
reads_nothing None = record { bytes = []; within = omega arith; consumed = tt }
reads_nothing (Some bytes) = record { bytes = []; within = omega arith; consumed = refl }

-- at most as many bytes as an input may have are taken of a link
link_reads : (workers : ℕ) (before after : LinkDevices) (why : Why) (counts : Counts) (table : Table) (items : List Item)
    → ServesLink workers before after why counts table items → ConsumesUpTo INPUT_LIMIT before.left after.left
link_reads workers before after why counts table items (inl listed) =
    let begins = listed.serves.begins in
    record { bytes = begins.bytes; within = omega (arith, begins.count, begins.limit); consumed = begins.taken }
link_reads workers before after why counts table items (inr nothing) =
    subst (λ (d : LinkDevices). ConsumesUpTo INPUT_LIMIT before.left d.left) (sym nothing.same) (reads_nothing before.left)

pub crew_reads : (workers : ℕ) (before after : Devices) (outcome : Outcome) → DidCrew workers before after outcome
    → ConsumesUpTo INPUT_LIMIT before.left after.left
crew_reads workers before after outcome (inl ran) =
    link_reads workers (with_link before before.left None) (with_link after after.left None) ran.why ran.counts ran.table ran.items ran.serves
crew_reads workers before after outcome (inr nothing) =
    subst (λ (d : Devices). ConsumesUpTo INPUT_LIMIT before.left d.left) (sym nothing.same) (reads_nothing before.left)
