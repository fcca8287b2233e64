-- How one more segment is counted.
use Rattle.hdlc_frame.specs.Counted.{one_more}
use Rattle.rpc_frames.specs.declared.counts.Counts.{Counts}
use Rattle.rpc_frames.specs.declared.heard.Heard.{Heard}
use Rattle.rpc_frames.specs.declared.heard.Heard.TheVariants.{Fault, Other, Dropped, Packet}

-- the counts with one more segment, in which this is heard
abbrev pub with_segment : Counts → Heard → Counts
with_segment counts Fault = record counts { bad = one_more counts.bad }
with_segment counts Other = record counts { valid = one_more counts.valid; other = one_more counts.other }
with_segment counts Dropped = record counts { valid = one_more counts.valid; dropped = one_more counts.dropped }
with_segment counts (Packet ptype packet) = record counts { valid = one_more counts.valid }
