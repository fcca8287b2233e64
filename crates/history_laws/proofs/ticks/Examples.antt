-- A closed Tick, computed from the definitions: of four calls the second doesn't tick, and the third has ended.
use Rattle.std.proofs.Common.{◌≡◌, ℕ, List, [], ◌∷◌, Some, None, Bool, true, false, refl}
use Rattle.rpc_ids.specs.declared.status.Status.TheVariants.{Okay}
use Rattle.rpc_ids.specs.declared.method.Kind.TheVariants.{Bidi}
use Rattle.rpc_handlers.specs.declared.answer.Answer.{Answer}
use Rattle.rpc_handlers.specs.declared.answer.Out.TheVariants.{Say}
use Rattle.rpc_handlers.specs.declared.event.Event.{Event}
use Rattle.rpc_handlers.specs.declared.event.Event.TheVariants.{Tick as Ticked}
use Rattle.rpc_handlers.specs.HandlerRule.{HandlerRule, empty_memo}
use Rattle.rpc_packet.specs.declared.packet_type.PacketType.TheVariants.{Request}
use Rattle.rpc_journal.specs.declared.entry.EntryKind.TheVariants.{Arrive, Finish, Start}
use Rattle.rpc_journal.specs.Effect.{Deed, Opening}
use Rattle.rpc_journal.specs.Entries.{message_item}
use Rattle.rpc_journal.specs.History.{deed_by, entry_by}
use Rattle.rpc_journal.specs.Rows.{no_effect}
use Rattle.rpc_journal.proofs.DemoTable.{server}
use Rattle.history_laws.specs.ticks.Ticks.{all_tick_items, all_tick_runs, ticking_calls}

-- a Tick is answered with its moment
abbrev told : Event → Answer
told (Ticked t) = record { items = Say (t ∷ []) ∷ []; end = None }
told _ = record { items = []; end = None }

abbrev telling : HandlerRule
telling = record { ruled = true; answer = λ state event. told event; next = λ state event. state; first = λ seed method. empty_memo }

abbrev opened : ℕ → Bool → Opening
opened number ticks =
    record {
      name = record { channel = 1; service = 2; method = 3; call = number };
      method = record { service = 2; method = 3; kind = Bidi; ticks = ticks };
      given = None;
    }

abbrev opens : Opening → Deed
opens o = deed_by 0 (Arrive (record { ptype = Request; name = o.name; payload = []; status = 0 })) (record no_effect { opens = Some o })

-- the newest first
abbrev before : List Deed
before =
    deed_by 2 (Finish 2 (told (Ticked 1))) (record no_effect { ends = (2, Okay) ∷ [] })
    ∷ opens (opened 14 true) ∷ opens (opened 13 true) ∷ opens (opened 12 false) ∷ opens (opened 11 true) ∷ []

two_tick : ticking_calls before ≡ (0, opened 11 true) ∷ (3, opened 14 true) ∷ []
two_tick = refl

each_runs : all_tick_runs telling server before 5
    ≡ entry_by 2 (Start 0) ∷ entry_by 2 (Finish 0 (told (Ticked 5))) ∷ entry_by 2 (Start 3) ∷ entry_by 2 (Finish 3 (told (Ticked 5))) ∷ []
each_runs = refl

said_in_order : all_tick_items telling server before 5
    ≡ message_item server.role 0 (opened 11 true).name (5 ∷ []) ∷ message_item server.role 3 (opened 14 true).name (5 ∷ []) ∷ []
said_in_order = refl
