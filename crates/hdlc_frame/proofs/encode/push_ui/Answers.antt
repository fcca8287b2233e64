use Rattle.std.proofs.Common.{take}
use Rattle.hdlc_frame.proofs.Headers.{frame_steps}
use Rattle.hdlc_frame.proofs.encode.push_ui.Goals as goal

pub returns-clause-ok : goal.returns-clause-ok
returns-clause-ok c =
    frame_steps c.args.address c.check_of.result (take c.spell_header-len.result c.spell_header-len.new.octets) c.args.payload.now c.to_le_bytes-check.result
    c.args.out.now.items c.push.new.self.items c.push_text.new.out.items c.push_text-2.new.out.items c.push_text-3.new.out.items c.push-2.new.self.items
    c.in_ok-push.ensures.items c.in_ok-push_text.ensures.ok c.in_ok-push_text-2.ensures.ok c.in_ok-push_text-3.ensures.ok c.in_ok-push-2.ensures.items
    c.spell_header-len.ensures.header c.check_of.ensures c.to_le_bytes-check.ensures
