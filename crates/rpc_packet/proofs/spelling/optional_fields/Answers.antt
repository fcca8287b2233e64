use Rattle.std.proofs.Common.{arith}
use Rattle.rpc_packet.specs.Message.{message_with}
use Rattle.rpc_packet.proofs.SpellingLaws.{spelling_reads}
use Rattle.rpc_packet.proofs.spelling.optional_fields.Goals as goal

pub returns-clause-again : goal.returns-clause-again
returns-clause-again c = spelling_reads (message_with c.args.ptype c.args.name c.args.payload.now c.args.status) (record {
  ptype = omega arith;
  channel = omega arith;
  service = omega arith;
  method = omega arith;
  call = omega arith;
  payload = omega arith;
  status = omega arith;
})
