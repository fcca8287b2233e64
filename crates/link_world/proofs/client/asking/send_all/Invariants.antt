use Rattle.std.proofs.Common.{ℕ, List, take}
use Rattle.rpc_ids.specs.declared.method.Role.TheVariants.{Client as client_role}
use Rattle.rpc_schedule.specs.ends.EndState.{WasFed}
use Rattle.link_laws.specs.world.Starts.{all_added}
use Rattle.link_world.specs.client.Asking.{CanSpeak, ClientAdds, byte_messages}
use Rattle.link_world.proofs.client.asking.send_all.Given as goal

abbrev pub invariant-bytes : goal.invariant-bytes
invariant-bytes l = record {
  adds : ClientAdds l.fn.client.serving (all_added (byte_messages l.call (take l.byte-index l.bytes)) l.fn.client.serving.table.entries) l.client.serving;
  speaks : CanSpeak l.client.serving l.call;
  fed : (bytes : List ℕ) → WasFed client_role l.fn.client bytes → WasFed client_role l.client bytes;
}
