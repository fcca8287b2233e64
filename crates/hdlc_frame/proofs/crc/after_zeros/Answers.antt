use Rattle.std.proofs.Common.{◌∙◌, ℕ, [], ap, get_or, arith}
use Rattle.hdlc_frame.specs.declared.lanes.TheConstants.{LANES}
use Rattle.hdlc_frame.proofs.Tables.{lane_at}
use Rattle.hdlc_frame.proofs.crc.after_zeros.Goals as goal

pub returns : goal.returns
returns c = ap (λ (x : ℕ). get_or (get_or LANES c.args.lane []) x 0) c.from.ensures ∙ lane_at c.args.lane c.args.octet c.requires (omega arith)
