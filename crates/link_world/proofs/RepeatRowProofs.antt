-- The rows of repeated transfers, by computing their runs.
use Rattle.std.proofs.Common.{refl}
use Rattle.hdlc_frame.specs.CheckSequence.{after_bits, after_octet, check_sequence_of}
use Rattle.hdlc_frame.specs.Content.{unescaped}
use Rattle.hdlc_frame.specs.Encoded.{address_groups, text_of, ui_content}
use Rattle.hdlc_frame.specs.Found.{found, found_in_content, number_at}
use Rattle.hdlc_frame.specs.Segments.{open_text, segments, texts_behind_flags}
use Rattle.proto_wire.specs.Front.{field_front, value_front}
use Rattle.proto_wire.specs.Message.{fields_from, fields_within}
use Rattle.proto_wire.specs.Reading.{unread}
use Rattle.proto_wire.specs.Spelling.{field_text}
use Rattle.proto_wire.specs.Varint.{groups_front, groups_of, varint_front, varint_text}
use Rattle.rpc_ids.specs.Names.{name_id}
use Rattle.rpc_packet.specs.Hearing.{heard_as}
use Rattle.rpc_packet.specs.Reading.{packet_of}
use Rattle.rpc_packet.specs.Spelling.{packet_entries, spelling_of}
use Rattle.rpc_packet.specs.Steps.{read_on, with_field}
use Rattle.rpc_frames.specs.Heard.{heard_packets}
use Rattle.rpc_journal.specs.Entries.{arrive_row}
use Rattle.transfer_chunk.specs.Chunk.{declared}
use Rattle.transfer_chunk.specs.ChunkText.{chunk_text}
use Rattle.transfer_chunk.specs.Reading.{chunk_of}
use Rattle.transfer_sender.specs.Cut.{pieces_up_to}
use Rattle.link_laws.specs.world.Rows.{IsRow}
use Rattle.link_laws.proofs.world.Running.{client_takes, has_run, run_from, server_takes}
use Rattle.link_laws.proofs.world.Working.{all_flushed, all_run, first_below}
use Rattle.link_world.specs.RepeatRows.{read_twice, written_read_and_written}

pub read_twice-runs : IsRow read_twice
unfolding first_below all_run all_flushed server_takes client_takes run_from name_id arrive_row heard_packets after_bits after_octet check_sequence_of unescaped address_groups text_of ui_content found found_in_content number_at open_text segments texts_behind_flags field_front value_front fields_from fields_within unread field_text groups_front groups_of varint_front varint_text heard_as packet_of packet_entries spelling_of read_on with_field declared chunk_text chunk_of pieces_up_to
read_twice-runs = has_run 60 100 read_twice.script read_twice.report refl

pub written_read_and_written-runs : IsRow written_read_and_written
unfolding first_below all_run all_flushed server_takes client_takes run_from name_id arrive_row heard_packets after_bits after_octet check_sequence_of unescaped address_groups text_of ui_content found found_in_content number_at open_text segments texts_behind_flags field_front value_front fields_from fields_within unread field_text groups_front groups_of varint_front varint_text heard_as packet_of packet_entries spelling_of read_on with_field declared chunk_text chunk_of pieces_up_to
written_read_and_written-runs = has_run 60 100 written_read_and_written.script written_read_and_written.report refl
