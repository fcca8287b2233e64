use Rattle.rpc_frames.proofs.HeardBack.{is_heard_back}
use Rattle.rpc_frames.proofs.written.write_frame.Goals as goal

pub returns-in_err-write-clause-heard : goal.returns-in_err-write-clause-heard
returns-in_err-write-clause-heard c role hears fits = is_heard_back role c.args.packet.now (record { hears = hears; reads = c.write.ensures.again; fits = fits })

pub returns-clause-heard : goal.returns-clause-heard
returns-clause-heard c role hears fits = is_heard_back role c.args.packet.now (record { hears = hears; reads = c.write.ensures.again; fits = fits })
