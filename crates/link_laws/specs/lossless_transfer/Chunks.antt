-- Which session a chunk is of.
use Rattle.std.specs.Prelude.{ℕ, ◌&&◌, ◌||◌, Bool, false, Result, Ok, Err}
use Rattle.rpc_packet.specs.declared.owned.Packet.{Packet}
use Rattle.rpc_journal.specs.Items.{is_for}
use Rattle.transfer_chunk.specs.Chunk.{Chunk}
use Rattle.transfer_chunk.specs.Reading.{chunk_of}
use Rattle.link_laws.specs.world.Reports.{carries_chunk}

-- the chunk is of this session, or wants to open it
abbrev pub names_session : ℕ → Result Chunk ℕ → Bool
names_session session (Ok c) = is_for session c.session || is_for session c.desired
names_session session (Err at) = false

abbrev pub is_chunk_of : ℕ → Packet → Bool
is_chunk_of session p = carries_chunk p && names_session session (chunk_of p.payload)
