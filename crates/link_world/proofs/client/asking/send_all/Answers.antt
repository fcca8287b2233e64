use Rattle.std.proofs.Common.{◌≡◌, ◌∷◌, [], List, true, take, sym, subst}
use Rattle.rpc_handlers.specs.declared.answer.Out.TheVariants.{Say as Message}
use Rattle.rpc_journal.specs.declared.entry.EntryKind.{EntryKind}
use Rattle.rpc_journal.specs.declared.entry.EntryKind.TheVariants.{Say}
use Rattle.rpc_journal.specs.Refusals.{is_full}
use Rattle.link_laws.specs.world.Starts.{all_added}
use Rattle.link_world.specs.client.Asking.{ClientAdds, byte_messages}
use Rattle.link_world.proofs.client.AskLemmas.{adds_then, kinds_more, stops_sending}
use Rattle.link_world.proofs.client.asking.send_all.Goals as goal

pub bytes-preserved : goal.bytes-preserved
bytes-preserved c =
    let i = c.bytes.byte-index in
    let bytes = c.args.bytes.now in
    record {
      adds = subst (λ (ks : List EntryKind). ClientAdds c.args.client.now.serving (all_added ks c.args.client.now.serving.table.entries) c.send.new.client.serving)
          (sym (kinds_more c.args.call bytes i c.bytes-test.true c.in_ok-copy_from_slice.field-0 c.in_ok-copy_from_slice.ensures))
          (adds_then c.args.client.now.serving c.bytes.client.serving c.send.new.client.serving (byte_messages c.args.call (take i bytes)) (Say c.args.call (Message c.in_ok-copy_from_slice.field-0) ∷ [])
          c.bytes.invariant.adds c.in-Ok.ensures.adds);
      speaks = c.in-Ok.ensures.speaks;
      fed = λ fed was. c.send.ensures.fed fed (c.bytes.invariant.fed fed was);
    }

pub returns-in-Err-clause-full : goal.returns-in-Err-clause-full
returns-in-Err-clause-full c = λ is.
    stops_sending c.args.call c.args.bytes.now c.bytes.byte-index c.args.client.now.serving.table.entries c.bytes-test.true
    (subst (λ h. is_full h ≡ true) c.bytes.invariant.adds.added (c.in-Err.ensures.full is))
