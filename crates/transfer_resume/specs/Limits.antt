-- What goes out at once is within the limits on answers.
use Rattle.std.specs.Prelude.{◌≡◌, ℕ, ◌≤◌, false, List, length}
use Rattle.std.specs.List.{list_any}
use Rattle.rpc_handlers.specs.declared.answer.Out.{Out}
use Rattle.rpc_handlers.specs.Limits.{is_long_out}
use Rattle.transfer_chunk.specs.Chunk.{Chunk}
use Rattle.transfer_resume.specs.Book.{Book, HasFew, spelled_all, chunk_step, tick_step, end_step}

-- at most 512 items, of which each message has at most 8,000 bytes
pub record IsWithin (outs : List Out) : Type 0 where
  pub few : length outs ≤ 512
  pub short : list_any is_long_out outs ≡ false

-- whatever comes, while there are no more sessions than a call may have
pub record KeepsLimits : Type 0 where
  pub at_chunk : (b : Book) (c : Chunk) → IsWithin (spelled_all (chunk_step b c).outs)
  pub at_tick : (b : Book) (now : ℕ) → HasFew b → IsWithin (spelled_all (tick_step b now).outs)
  pub at_end : (b : Book) → HasFew b → IsWithin (spelled_all (end_step b).outs)
