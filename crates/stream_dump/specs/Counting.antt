-- How one more segment is counted.
use Rattle.std.specs.Prelude.{cond, List, [], ◌∷◌}
use Rattle.hdlc_frame.specs.Counted.{one_more}
use Rattle.hdlc_frame.specs.Found.{Found}
use Rattle.rpc_frames.specs.declared.counts.Counts.{Counts}
use Rattle.stream_dump.specs.Dump.{is_frame, is_bad, is_other, is_dropped}

-- of no segment
abbrev pub no_counts : Counts
no_counts = record { valid = 0; bad = 0; other = 0; dropped = 0 }

abbrev pub counted : Counts → Found → Counts
counted counts one = record {
  valid = cond (is_frame one) (one_more counts.valid) counts.valid;
  bad = cond (is_bad one) (one_more counts.bad) counts.bad;
  other = cond (is_other one) (one_more counts.other) counts.other;
  dropped = cond (is_dropped one) (one_more counts.dropped) counts.dropped;
}

abbrev pub counted_all : Counts → List Found → Counts
counted_all counts [] = counts
counted_all counts (one ∷ more) = counted_all (counted counts one) more
