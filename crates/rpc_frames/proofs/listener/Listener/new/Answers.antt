use Rattle.std.proofs.Common.{◌∙◌, sym}
use Rattle.rpc_frames.proofs.Growing.{nothing_counted_in}
use Rattle.rpc_frames.proofs.listener.Listener.new.Goals as goal

pub returns-clause-heard : goal.returns-clause-heard
returns-clause-heard c = record {
  limit = c.in_ok-new.ensures.limit;
  read = c.in_ok-new.ensures.read;
  counts = c.none.ensures ∙ sym (nothing_counted_in c.args.role);
}
