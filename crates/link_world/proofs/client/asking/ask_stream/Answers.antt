use Rattle.std.proofs.Common.{◌≡◌, ◌∙◌, ◌∷◌, ◌++◌, [], true, false, ap, subst, arith}
use Rattle.demo_services.specs.Methods.{demo_id}
use Rattle.rpc_journal.specs.declared.entry.EntryKind.TheVariants.{Done}
use Rattle.std.proofs.lemmas.Bool.{or_left}
use Rattle.rpc_journal.specs.Calls.{call_count}
use Rattle.rpc_journal.specs.History.{adding}
use Rattle.rpc_journal.specs.Refusals.{is_full}
use Rattle.rpc_schedule.specs.Schedule.{run_seat}
use Rattle.rpc_schedule.specs.Serving.{deeds}
use Rattle.link_laws.specs.world.Starts.{adding_stops, all_added, opens_with}
use Rattle.link_world.specs.client.Asking.{ClientAdds, byte_messages, method_id}
use Rattle.link_world.proofs.client.AskLemmas.{adds_then, stops_after, stops_first, few_added, messages_length}
use Rattle.link_world.proofs.client.asking.ask_stream.Goals as goal

pub returns-in-Ok-complete-clause-adds : goal.returns-in-Ok-complete-clause-adds
returns-in-Ok-complete-clause-adds c =
    let old = c.args.client.now.serving in
    let opening = opens_with demo_id (method_id c.args.plain) [] (deeds old) in
    let messages = byte_messages c.in-Ok.call c.args.bytes.now in
    adds_then old c.send_all.new.client.serving c.complete.new.client.serving (opening ∷ messages) (Done c.in-Ok.call ∷ [])
    (adds_then old c.ask_call.new.client.serving c.send_all.new.client.serving (opening ∷ []) messages
    (subst (λ payload. ClientAdds old (adding old.table.entries run_seat (opens_with demo_id (method_id c.args.plain) payload (deeds old))) c.ask_call.new.client.serving) c.new.ensures c.in-Ok.ensures.adds)
    c.in-Ok-send_all.ensures.adds)
    c.in-Ok-complete.ensures.adds

pub returns-in-Err-send_all-clause-full : goal.returns-in-Err-send_all-clause-full
returns-in-Err-send_all-clause-full c = λ is.
    let old = c.args.client.now.serving in
    let opening = opens_with demo_id (method_id c.args.plain) [] (deeds old) in
    let n = call_count (deeds old) in
    let opened : c.ask_call.new.client.serving.table.entries ≡ adding old.table.entries run_seat opening =
    c.in-Ok.ensures.adds.added ∙ ap (λ payload. adding old.table.entries run_seat (opens_with demo_id (method_id c.args.plain) payload (deeds old))) c.new.ensures in
    let stops = subst (λ h. adding_stops (byte_messages c.in-Ok.call c.args.bytes.now) h ≡ true) opened (c.in-Err-send_all.ensures.full is) in
    let own = subst (λ k. adding_stops (byte_messages k c.args.bytes.now) (adding old.table.entries run_seat opening) ≡ true) c.in-Ok.ensures.call stops in
    stops_after (opening ∷ []) (byte_messages n c.args.bytes.now ++ Done n ∷ []) old.table.entries
    (stops_first (byte_messages n c.args.bytes.now) (Done n ∷ []) (adding old.table.entries run_seat opening) own)

pub returns-in-Err-complete-clause-full : goal.returns-in-Err-complete-clause-full
returns-in-Err-complete-clause-full c = λ is.
    let old = c.args.client.now.serving in
    let opening = opens_with demo_id (method_id c.args.plain) [] (deeds old) in
    let n = call_count (deeds old) in
    let opened : c.ask_call.new.client.serving.table.entries ≡ adding old.table.entries run_seat opening =
    c.in-Ok.ensures.adds.added ∙ ap (λ payload. adding old.table.entries run_seat (opens_with demo_id (method_id c.args.plain) payload (deeds old))) c.new.ensures in
    let said : c.send_all.new.client.serving.table.entries ≡ all_added (opening ∷ byte_messages n c.args.bytes.now) old.table.entries =
    c.in-Ok-send_all.ensures.adds.added ∙ (ap (all_added (byte_messages c.in-Ok.call c.args.bytes.now)) opened
    ∙ ap (λ k. all_added (byte_messages k c.args.bytes.now) (adding old.table.entries run_seat opening)) c.in-Ok.ensures.call) in
    stops_after (opening ∷ byte_messages n c.args.bytes.now) (Done n ∷ []) old.table.entries
    (or_left (is_full (all_added (opening ∷ byte_messages n c.args.bytes.now) old.table.entries)) false (subst (λ h. is_full h ≡ true) said (c.in-Err-complete.ensures.full is)))

pub returns-in-Ok-complete-clause-few : goal.returns-in-Ok-complete-clause-few
returns-in-Ok-complete-clause-few c =
    omega (
      arith,
      c.in-Ok.ensures.few,
      messages_length c.in-Ok.call c.args.bytes.now,
      few_added c.ask_call.new.client.serving c.send_all.new.client.serving (byte_messages c.in-Ok.call c.args.bytes.now) c.in-Ok-send_all.ensures.adds,
      few_added c.send_all.new.client.serving c.complete.new.client.serving (Done c.in-Ok.call ∷ []) c.in-Ok-complete.ensures.adds,
    )
