-- Closed examples of the reports, by computing: what calls and uploads come to.
use Rattle.std.proofs.Common.{◌≡◌, ℕ, false, List, [], ◌∷◌, ◌++◌, codes, Option, Some, None, refl}
use Rattle.std.specs.Fmt.{digits}
use Rattle.std.specs.List.{flat_map}
use Rattle.hex.specs.Hex.{encode_with}
use Rattle.hdlc_frame.specs.CheckSequence.{after_bits, after_octet, check_sequence_of}
use Rattle.hdlc_frame.specs.Encoded.{address_groups, text_of, ui_content}
use Rattle.proto_wire.specs.Spelling.{field_text}
use Rattle.proto_wire.specs.Varint.{groups_of, varint_text}
use Rattle.link_io.specs.declared.why.Why.TheVariants as why
use Rattle.rpc_ids.specs.declared.method.Kind.TheVariants.{Unary}
use Rattle.rpc_ids.specs.declared.method.Role.TheVariants.{Server}
use Rattle.rpc_ids.specs.declared.status.Status.TheVariants.{Okay}
use Rattle.rpc_packet.specs.declared.call_name.CallName.{CallName}
use Rattle.rpc_packet.specs.declared.owned.Packet.{Packet}
use Rattle.rpc_packet.specs.declared.packet_type.PacketType.TheVariants.{Request, Response, ServerError}
use Rattle.rpc_packet.specs.Spelling.{packet_entries, spelling_of}
use Rattle.rpc_frames.specs.declared.counts.Counts.{Counts}
use Rattle.rpc_handlers.specs.HandlerRule.{empty_memo}
use Rattle.rpc_handlers.specs.declared.answer.Answer.{Answer}
use Rattle.rpc_handlers.specs.declared.answer.Out.{Out}
use Rattle.rpc_handlers.specs.declared.answer.Out.TheVariants.{Begin, Append, Commit}
use Rattle.rpc_journal.specs.declared.entry.EntryKind.TheVariants.{Arrive, Start, Finish, Flush, EndIn}
use Rattle.rpc_journal.specs.declared.item.Act.TheVariants.{Send, Keep}
use Rattle.rpc_journal.specs.declared.item.Item.{Item}
use Rattle.rpc_journal.specs.declared.setting.Setting.{Setting}
use Rattle.rpc_journal.specs.CallTable.{Table, past}
use Rattle.rpc_journal.specs.Entries.{arrive_row}
use Rattle.rpc_journal.specs.History.{entry_by}
use Rattle.rpc_journal.specs.Items.{items_sent}
use Rattle.run_report.specs.ConnectionReport.{connection_report}
use Rattle.run_report.specs.CrewReport.{crew_report, lines_by_call}
use Rattle.run_report.specs.Lines.{call_line, connection_line, frames_line, numbered_out_line, numbered_stored_line}

-- the text of these lines
abbrev lines : List (List ℕ) → List ℕ
lines texts = flat_map (λ text. text ++ 10 ∷ []) texts

-- Calls of Echo. Of two calls, the second is answered before the first.

abbrev echo : ℕ → CallName
echo call = record { channel = 1; service = 0x70F45CFB; method = 0x8B470EE9; call = call }

abbrev asks : ℕ → Packet
asks call = record { ptype = Request; name = echo call; payload = codes "abc"; status = 0 }

abbrev echoed : Answer
echoed = record { items = []; end = Some (record { status = Okay; payload = codes "abc" }) }

abbrev echo_table : Setting
echo_table =
    record {
      role = Server;
      channels = 1 ∷ [];
      registry = record { service = 0x70F45CFB; method = 0x8B470EE9; kind = Unary; ticks = false } ∷ [];
      seed = empty_memo;
    }

abbrev two_calls : Table
two_calls =
    record {
      setting = echo_table;
      entries =
          entry_by 0 (Arrive (asks 1)) ∷ entry_by 0 (Arrive (asks 2)) ∷ entry_by 2 (Start 0) ∷ entry_by 3 (Start 1)
          ∷ entry_by 3 (Finish 1 echoed) ∷ entry_by 2 (Finish 0 echoed) ∷ entry_by 1 Flush ∷ entry_by 1 Flush ∷ entry_by 0 EndIn ∷ [];
    }

abbrev two_frames : Counts
two_frames = record { valid = 2; bad = 0; other = 0; dropped = 0 }

-- the first call's packet is told first all the same
two_calls_by_number :
    crew_report two_calls two_frames (items_sent (past two_calls)) why.Settled
    ≡ lines
    (codes "frames 2 bad 0 other 0 dropped 0"
    ∷ codes "call 0 1 70f45cfb 8b470ee9 1 unary OK"
    ∷ codes "call 1 1 70f45cfb 8b470ee9 2 unary OK"
    ∷ codes "out 0 7ea503080110011dfb5cf47025e90e478b2a0361626338019794283c7e"
    ∷ codes "out 1 7ea503080110011dfb5cf47025e90e478b2a0361626338022dc521a57e"
    ∷ codes "done" ∷ [])
unfolding arrive_row frames_line call_line numbered_out_line digits encode_with ui_content address_groups text_of check_sequence_of after_octet after_bits spelling_of packet_entries field_text varint_text groups_of
two_calls_by_number = refl

abbrev one_call : Table
one_call =
    record {
      setting = echo_table;
      entries =
          entry_by 0 (Arrive (asks 1)) ∷ entry_by 2 (Start 0) ∷ entry_by 2 (Finish 0 echoed) ∷ entry_by 1 Flush ∷ entry_by 0 EndIn ∷ [];
    }

abbrev one_frame : Counts
one_frame = record two_frames { valid = 1 }

one_call_alone :
    crew_report one_call one_frame (items_sent (past one_call)) why.Source
    ≡ lines
    (codes "frames 1 bad 0 other 0 dropped 0"
    ∷ codes "call 0 1 70f45cfb 8b470ee9 1 unary OK"
    ∷ codes "out 0 7ea503080110011dfb5cf47025e90e478b2a0361626338019794283c7e"
    ∷ codes "source fault" ∷ [])
unfolding arrive_row frames_line call_line numbered_out_line digits encode_with ui_content address_groups text_of check_sequence_of after_octet after_bits spelling_of packet_entries field_text varint_text groups_of
one_call_alone = refl

-- a connection has its number, and what went out isn't told
connection_of_two_calls :
    connection_report 3 two_calls two_frames why.Sink
    ≡ lines
    (codes "conn 3"
    ∷ codes "frames 2 bad 0 other 0 dropped 0"
    ∷ codes "call 0 1 70f45cfb 8b470ee9 1 unary OK"
    ∷ codes "call 1 1 70f45cfb 8b470ee9 2 unary OK"
    ∷ codes "sink fault" ∷ [])
unfolding arrive_row connection_line frames_line call_line digits encode_with
connection_of_two_calls = refl

-- Session 1 of two calls, each with an upload of its own, and a reply to a packet of no call between them.

abbrev acts : ℕ → Out → Item
acts call out = record { call = Some call; act = Keep out }

-- with FAILED_PRECONDITION
abbrev refused : Item
refused = record { call = None; act = Send (record { ptype = ServerError; name = echo 1; payload = []; status = 9 }) }

uploads_by_call :
    lines_by_call 2
    (acts 1 (Begin 1 8 0) ∷ acts 0 (Begin 1 7 2) ∷ acts 1 (Append 1 (codes "abc")) ∷ acts 0 (Append 1 (codes "abcde")) ∷ acts 1 (Commit 1) ∷ refused
    ∷ acts 0 (Commit 1) ∷ acts 0 (Commit 1) ∷ [])
    ≡ lines
    (codes "out - 7ea503080510011dfb5cf47025e90e478b30093801f920d5df7e"
    ∷ codes "stored 0 7 7"
    ∷ codes "stored 1 8 3" ∷ [])
unfolding numbered_out_line numbered_stored_line digits encode_with ui_content address_groups text_of check_sequence_of after_octet after_bits spelling_of packet_entries field_text varint_text groups_of
uploads_by_call = refl
