-- The computed rows of whole transfers keep within the bound of chunks.
use Rattle.std.specs.Prelude.{ℕ, ◌≤◌}
use Rattle.transfer_laws.specs.pairs.Bound.{bound}
use Rattle.link_laws.specs.world.Rows.{Row, nothing_left_to_read, read_without_what_was_left, small_window, whole_read, whole_write, write_resumed}

-- what is told of the row are no more chunks than the bound of a resource of this size, from an offset on, in chunks of so many
-- bytes
abbrev pub IsWithin : Row → ℕ → ℕ → ℕ → Type 0
IsWithin row size offset chunk = row.report.chunks ≤ bound size offset chunk

abbrev pub RowsAreWithin : Type 0
RowsAreWithin =
    IsWithin whole_read 1000 0 256 × IsWithin nothing_left_to_read 1000 1000 256 × IsWithin read_without_what_was_left 10 0 256 × IsWithin small_window 10 0 4
    × IsWithin whole_write 1000 0 256 × IsWithin write_resumed 10 4 256
