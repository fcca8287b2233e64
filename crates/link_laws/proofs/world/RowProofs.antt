-- The rows, by computing their runs. The small ones come first: the others are looked at where these stand, so that what a
-- small row refuses costs no more than that row.
use Rattle.std.proofs.Common.{refl}
use Rattle.hdlc_frame.specs.CheckSequence.{after_bits, after_octet, check_sequence_of}
use Rattle.hdlc_frame.specs.Content.{unescaped}
use Rattle.hdlc_frame.specs.Encoded.{address_groups, text_of, ui_content}
use Rattle.hdlc_frame.specs.Found.{found, found_in_content, number_at}
use Rattle.hdlc_frame.specs.Segments.{open_text, segments, texts_behind_flags}
use Rattle.proto_wire.specs.Front.{field_front, value_front}
use Rattle.proto_wire.specs.Message.{fields_from, fields_within}
use Rattle.proto_wire.specs.Reading.{unread}
use Rattle.proto_wire.specs.Spelling.{field_text}
use Rattle.proto_wire.specs.Varint.{groups_front, groups_of, varint_front, varint_text}
use Rattle.rpc_ids.specs.Names.{name_id}
use Rattle.rpc_packet.specs.Hearing.{heard_as}
use Rattle.rpc_packet.specs.Reading.{packet_of}
use Rattle.rpc_packet.specs.Spelling.{packet_entries, spelling_of}
use Rattle.rpc_packet.specs.Steps.{read_on, with_field}
use Rattle.rpc_frames.specs.Heard.{heard_packets}
use Rattle.rpc_journal.specs.Entries.{arrive_row}
use Rattle.transfer_chunk.specs.Chunk.{declared}
use Rattle.transfer_chunk.specs.ChunkText.{chunk_text}
use Rattle.transfer_chunk.specs.Reading.{chunk_of}
use Rattle.transfer_sender.specs.Cut.{pieces_up_to}
use Rattle.link_laws.specs.world.Rows.{IsRow, channel_closed, chat_called, completion_told_again, completions_lost, confirmation_lost, echo_called, idle_channel_closed, last_piece_lost, nothing_left_to_read, nothing_to_read, nothing_to_write, piece_damaged, piece_swapped, read_and_written, read_without_what_was_left, request_repeated, response_kept_back, response_lost, small_window, span_shrinks, start_always_lost, start_lost_thrice, start_repeated, sum_called, whole_read, whole_write, write_resumed, written_and_not_listed}
use Rattle.link_laws.proofs.world.Running.{client_takes, has_run, run_from, server_takes}
use Rattle.link_laws.proofs.world.Working.{all_flushed, all_run, first_below}

pub echo_called-runs : IsRow echo_called
unfolding first_below all_run all_flushed server_takes client_takes run_from name_id arrive_row heard_packets after_bits after_octet check_sequence_of unescaped address_groups text_of ui_content found found_in_content number_at open_text segments texts_behind_flags field_front value_front fields_from fields_within unread field_text groups_front groups_of varint_front varint_text heard_as packet_of packet_entries spelling_of read_on with_field declared chunk_text chunk_of pieces_up_to
echo_called-runs = has_run 60 100 echo_called.script echo_called.report refl

pub request_repeated-runs : IsRow request_repeated
unfolding first_below all_run all_flushed server_takes client_takes run_from name_id arrive_row heard_packets after_bits after_octet check_sequence_of unescaped address_groups text_of ui_content found found_in_content number_at open_text segments texts_behind_flags field_front value_front fields_from fields_within unread field_text groups_front groups_of varint_front varint_text heard_as packet_of packet_entries spelling_of read_on with_field declared chunk_text chunk_of pieces_up_to
request_repeated-runs = has_run 60 100 request_repeated.script request_repeated.report refl

pub response_lost-runs : IsRow response_lost
unfolding first_below all_run all_flushed server_takes client_takes run_from name_id arrive_row heard_packets after_bits after_octet check_sequence_of unescaped address_groups text_of ui_content found found_in_content number_at open_text segments texts_behind_flags field_front value_front fields_from fields_within unread field_text groups_front groups_of varint_front varint_text heard_as packet_of packet_entries spelling_of read_on with_field declared chunk_text chunk_of pieces_up_to
response_lost-runs = has_run 60 100 response_lost.script response_lost.report refl

pub response_kept_back-runs : IsRow response_kept_back
unfolding first_below all_run all_flushed server_takes client_takes run_from name_id arrive_row heard_packets after_bits after_octet check_sequence_of unescaped address_groups text_of ui_content found found_in_content number_at open_text segments texts_behind_flags field_front value_front fields_from fields_within unread field_text groups_front groups_of varint_front varint_text heard_as packet_of packet_entries spelling_of read_on with_field declared chunk_text chunk_of pieces_up_to
response_kept_back-runs = has_run 60 100 response_kept_back.script response_kept_back.report refl

pub idle_channel_closed-runs : IsRow idle_channel_closed
unfolding first_below all_run all_flushed server_takes client_takes run_from name_id arrive_row heard_packets after_bits after_octet check_sequence_of unescaped address_groups text_of ui_content found found_in_content number_at open_text segments texts_behind_flags field_front value_front fields_from fields_within unread field_text groups_front groups_of varint_front varint_text heard_as packet_of packet_entries spelling_of read_on with_field declared chunk_text chunk_of pieces_up_to
idle_channel_closed-runs = has_run 60 100 idle_channel_closed.script idle_channel_closed.report refl

pub write_resumed-runs : IsRow write_resumed
unfolding first_below all_run all_flushed server_takes client_takes run_from name_id arrive_row heard_packets after_bits after_octet check_sequence_of unescaped address_groups text_of ui_content found found_in_content number_at open_text segments texts_behind_flags field_front value_front fields_from fields_within unread field_text groups_front groups_of varint_front varint_text heard_as packet_of packet_entries spelling_of read_on with_field declared chunk_text chunk_of pieces_up_to
write_resumed-runs = has_run 60 100 write_resumed.script write_resumed.report refl

small_rows : IsRow echo_called × IsRow request_repeated × IsRow response_lost × IsRow response_kept_back × IsRow idle_channel_closed × IsRow write_resumed
small_rows = (echo_called-runs, request_repeated-runs, response_lost-runs, response_kept_back-runs, idle_channel_closed-runs, write_resumed-runs)

-- the second, where the first stands
behind : {A B : Type 0} → A → B → B
behind first second = second

pub channel_closed-runs : IsRow channel_closed
unfolding first_below all_run all_flushed server_takes client_takes run_from name_id arrive_row heard_packets after_bits after_octet check_sequence_of unescaped address_groups text_of ui_content found found_in_content number_at open_text segments texts_behind_flags field_front value_front fields_from fields_within unread field_text groups_front groups_of varint_front varint_text heard_as packet_of packet_entries spelling_of read_on with_field declared chunk_text chunk_of pieces_up_to
channel_closed-runs = behind small_rows (has_run 60 100 channel_closed.script channel_closed.report refl)

pub chat_called-runs : IsRow chat_called
unfolding first_below all_run all_flushed server_takes client_takes run_from name_id arrive_row heard_packets after_bits after_octet check_sequence_of unescaped address_groups text_of ui_content found found_in_content number_at open_text segments texts_behind_flags field_front value_front fields_from fields_within unread field_text groups_front groups_of varint_front varint_text heard_as packet_of packet_entries spelling_of read_on with_field declared chunk_text chunk_of pieces_up_to
chat_called-runs = behind small_rows (has_run 60 100 chat_called.script chat_called.report refl)

pub completion_told_again-runs : IsRow completion_told_again
unfolding first_below all_run all_flushed server_takes client_takes run_from name_id arrive_row heard_packets after_bits after_octet check_sequence_of unescaped address_groups text_of ui_content found found_in_content number_at open_text segments texts_behind_flags field_front value_front fields_from fields_within unread field_text groups_front groups_of varint_front varint_text heard_as packet_of packet_entries spelling_of read_on with_field declared chunk_text chunk_of pieces_up_to
completion_told_again-runs = behind small_rows (has_run 60 100 completion_told_again.script completion_told_again.report refl)

pub completions_lost-runs : IsRow completions_lost
unfolding first_below all_run all_flushed server_takes client_takes run_from name_id arrive_row heard_packets after_bits after_octet check_sequence_of unescaped address_groups text_of ui_content found found_in_content number_at open_text segments texts_behind_flags field_front value_front fields_from fields_within unread field_text groups_front groups_of varint_front varint_text heard_as packet_of packet_entries spelling_of read_on with_field declared chunk_text chunk_of pieces_up_to
completions_lost-runs = behind small_rows (has_run 60 100 completions_lost.script completions_lost.report refl)

pub confirmation_lost-runs : IsRow confirmation_lost
unfolding first_below all_run all_flushed server_takes client_takes run_from name_id arrive_row heard_packets after_bits after_octet check_sequence_of unescaped address_groups text_of ui_content found found_in_content number_at open_text segments texts_behind_flags field_front value_front fields_from fields_within unread field_text groups_front groups_of varint_front varint_text heard_as packet_of packet_entries spelling_of read_on with_field declared chunk_text chunk_of pieces_up_to
confirmation_lost-runs = behind small_rows (has_run 60 100 confirmation_lost.script confirmation_lost.report refl)

pub last_piece_lost-runs : IsRow last_piece_lost
unfolding first_below all_run all_flushed server_takes client_takes run_from name_id arrive_row heard_packets after_bits after_octet check_sequence_of unescaped address_groups text_of ui_content found found_in_content number_at open_text segments texts_behind_flags field_front value_front fields_from fields_within unread field_text groups_front groups_of varint_front varint_text heard_as packet_of packet_entries spelling_of read_on with_field declared chunk_text chunk_of pieces_up_to
last_piece_lost-runs = behind small_rows (has_run 60 100 last_piece_lost.script last_piece_lost.report refl)

pub nothing_left_to_read-runs : IsRow nothing_left_to_read
unfolding first_below all_run all_flushed server_takes client_takes run_from name_id arrive_row heard_packets after_bits after_octet check_sequence_of unescaped address_groups text_of ui_content found found_in_content number_at open_text segments texts_behind_flags field_front value_front fields_from fields_within unread field_text groups_front groups_of varint_front varint_text heard_as packet_of packet_entries spelling_of read_on with_field declared chunk_text chunk_of pieces_up_to
nothing_left_to_read-runs = behind small_rows (has_run 60 100 nothing_left_to_read.script nothing_left_to_read.report refl)

pub nothing_to_read-runs : IsRow nothing_to_read
unfolding first_below all_run all_flushed server_takes client_takes run_from name_id arrive_row heard_packets after_bits after_octet check_sequence_of unescaped address_groups text_of ui_content found found_in_content number_at open_text segments texts_behind_flags field_front value_front fields_from fields_within unread field_text groups_front groups_of varint_front varint_text heard_as packet_of packet_entries spelling_of read_on with_field declared chunk_text chunk_of pieces_up_to
nothing_to_read-runs = behind small_rows (has_run 60 100 nothing_to_read.script nothing_to_read.report refl)

pub nothing_to_write-runs : IsRow nothing_to_write
unfolding first_below all_run all_flushed server_takes client_takes run_from name_id arrive_row heard_packets after_bits after_octet check_sequence_of unescaped address_groups text_of ui_content found found_in_content number_at open_text segments texts_behind_flags field_front value_front fields_from fields_within unread field_text groups_front groups_of varint_front varint_text heard_as packet_of packet_entries spelling_of read_on with_field declared chunk_text chunk_of pieces_up_to
nothing_to_write-runs = behind small_rows (has_run 60 100 nothing_to_write.script nothing_to_write.report refl)

pub piece_damaged-runs : IsRow piece_damaged
unfolding first_below all_run all_flushed server_takes client_takes run_from name_id arrive_row heard_packets after_bits after_octet check_sequence_of unescaped address_groups text_of ui_content found found_in_content number_at open_text segments texts_behind_flags field_front value_front fields_from fields_within unread field_text groups_front groups_of varint_front varint_text heard_as packet_of packet_entries spelling_of read_on with_field declared chunk_text chunk_of pieces_up_to
piece_damaged-runs = behind small_rows (has_run 60 100 piece_damaged.script piece_damaged.report refl)

pub piece_swapped-runs : IsRow piece_swapped
unfolding first_below all_run all_flushed server_takes client_takes run_from name_id arrive_row heard_packets after_bits after_octet check_sequence_of unescaped address_groups text_of ui_content found found_in_content number_at open_text segments texts_behind_flags field_front value_front fields_from fields_within unread field_text groups_front groups_of varint_front varint_text heard_as packet_of packet_entries spelling_of read_on with_field declared chunk_text chunk_of pieces_up_to
piece_swapped-runs = behind small_rows (has_run 60 100 piece_swapped.script piece_swapped.report refl)

pub read_and_written-runs : IsRow read_and_written
unfolding first_below all_run all_flushed server_takes client_takes run_from name_id arrive_row heard_packets after_bits after_octet check_sequence_of unescaped address_groups text_of ui_content found found_in_content number_at open_text segments texts_behind_flags field_front value_front fields_from fields_within unread field_text groups_front groups_of varint_front varint_text heard_as packet_of packet_entries spelling_of read_on with_field declared chunk_text chunk_of pieces_up_to
read_and_written-runs = behind small_rows (has_run 60 100 read_and_written.script read_and_written.report refl)

pub read_without_what_was_left-runs : IsRow read_without_what_was_left
unfolding first_below all_run all_flushed server_takes client_takes run_from name_id arrive_row heard_packets after_bits after_octet check_sequence_of unescaped address_groups text_of ui_content found found_in_content number_at open_text segments texts_behind_flags field_front value_front fields_from fields_within unread field_text groups_front groups_of varint_front varint_text heard_as packet_of packet_entries spelling_of read_on with_field declared chunk_text chunk_of pieces_up_to
read_without_what_was_left-runs = behind small_rows (has_run 60 100 read_without_what_was_left.script read_without_what_was_left.report refl)

pub small_window-runs : IsRow small_window
unfolding first_below all_run all_flushed server_takes client_takes run_from name_id arrive_row heard_packets after_bits after_octet check_sequence_of unescaped address_groups text_of ui_content found found_in_content number_at open_text segments texts_behind_flags field_front value_front fields_from fields_within unread field_text groups_front groups_of varint_front varint_text heard_as packet_of packet_entries spelling_of read_on with_field declared chunk_text chunk_of pieces_up_to
small_window-runs = behind small_rows (has_run 60 100 small_window.script small_window.report refl)

pub span_shrinks-runs : IsRow span_shrinks
unfolding first_below all_run all_flushed server_takes client_takes run_from name_id arrive_row heard_packets after_bits after_octet check_sequence_of unescaped address_groups text_of ui_content found found_in_content number_at open_text segments texts_behind_flags field_front value_front fields_from fields_within unread field_text groups_front groups_of varint_front varint_text heard_as packet_of packet_entries spelling_of read_on with_field declared chunk_text chunk_of pieces_up_to
span_shrinks-runs = behind small_rows (has_run 60 100 span_shrinks.script span_shrinks.report refl)

pub start_always_lost-runs : IsRow start_always_lost
unfolding first_below all_run all_flushed server_takes client_takes run_from name_id arrive_row heard_packets after_bits after_octet check_sequence_of unescaped address_groups text_of ui_content found found_in_content number_at open_text segments texts_behind_flags field_front value_front fields_from fields_within unread field_text groups_front groups_of varint_front varint_text heard_as packet_of packet_entries spelling_of read_on with_field declared chunk_text chunk_of pieces_up_to
start_always_lost-runs = behind small_rows (has_run 60 100 start_always_lost.script start_always_lost.report refl)

pub start_lost_thrice-runs : IsRow start_lost_thrice
unfolding first_below all_run all_flushed server_takes client_takes run_from name_id arrive_row heard_packets after_bits after_octet check_sequence_of unescaped address_groups text_of ui_content found found_in_content number_at open_text segments texts_behind_flags field_front value_front fields_from fields_within unread field_text groups_front groups_of varint_front varint_text heard_as packet_of packet_entries spelling_of read_on with_field declared chunk_text chunk_of pieces_up_to
start_lost_thrice-runs = behind small_rows (has_run 60 100 start_lost_thrice.script start_lost_thrice.report refl)

pub start_repeated-runs : IsRow start_repeated
unfolding first_below all_run all_flushed server_takes client_takes run_from name_id arrive_row heard_packets after_bits after_octet check_sequence_of unescaped address_groups text_of ui_content found found_in_content number_at open_text segments texts_behind_flags field_front value_front fields_from fields_within unread field_text groups_front groups_of varint_front varint_text heard_as packet_of packet_entries spelling_of read_on with_field declared chunk_text chunk_of pieces_up_to
start_repeated-runs = behind small_rows (has_run 60 100 start_repeated.script start_repeated.report refl)

pub sum_called-runs : IsRow sum_called
unfolding first_below all_run all_flushed server_takes client_takes run_from name_id arrive_row heard_packets after_bits after_octet check_sequence_of unescaped address_groups text_of ui_content found found_in_content number_at open_text segments texts_behind_flags field_front value_front fields_from fields_within unread field_text groups_front groups_of varint_front varint_text heard_as packet_of packet_entries spelling_of read_on with_field declared chunk_text chunk_of pieces_up_to
sum_called-runs = behind small_rows (has_run 60 100 sum_called.script sum_called.report refl)

pub whole_read-runs : IsRow whole_read
unfolding first_below all_run all_flushed server_takes client_takes run_from name_id arrive_row heard_packets after_bits after_octet check_sequence_of unescaped address_groups text_of ui_content found found_in_content number_at open_text segments texts_behind_flags field_front value_front fields_from fields_within unread field_text groups_front groups_of varint_front varint_text heard_as packet_of packet_entries spelling_of read_on with_field declared chunk_text chunk_of pieces_up_to
whole_read-runs = behind small_rows (has_run 60 100 whole_read.script whole_read.report refl)

pub whole_write-runs : IsRow whole_write
unfolding first_below all_run all_flushed server_takes client_takes run_from name_id arrive_row heard_packets after_bits after_octet check_sequence_of unescaped address_groups text_of ui_content found found_in_content number_at open_text segments texts_behind_flags field_front value_front fields_from fields_within unread field_text groups_front groups_of varint_front varint_text heard_as packet_of packet_entries spelling_of read_on with_field declared chunk_text chunk_of pieces_up_to
whole_write-runs = behind small_rows (has_run 60 100 whole_write.script whole_write.report refl)

pub written_and_not_listed-runs : IsRow written_and_not_listed
unfolding first_below all_run all_flushed server_takes client_takes run_from name_id arrive_row heard_packets after_bits after_octet check_sequence_of unescaped address_groups text_of ui_content found found_in_content number_at open_text segments texts_behind_flags field_front value_front fields_from fields_within unread field_text groups_front groups_of varint_front varint_text heard_as packet_of packet_entries spelling_of read_on with_field declared chunk_text chunk_of pieces_up_to
written_and_not_listed-runs = behind small_rows (has_run 60 100 written_and_not_listed.script written_and_not_listed.report refl)
