use Rattle.link_laws.proofs.world.RowProofs.{last_piece_lost-runs, nothing_left_to_read-runs, nothing_to_read-runs, piece_damaged-runs, piece_swapped-runs, read_without_what_was_left-runs, small_window-runs, span_shrinks-runs, start_always_lost-runs, start_lost_thrice-runs, start_repeated-runs, whole_read-runs}
use Rattle.link_laws.proofs.world.laws.rows_of_reads.Goals as goal

pub returns-clause-whole : goal.returns-clause-whole
returns-clause-whole c = whole_read-runs

pub returns-clause-empty : goal.returns-clause-empty
returns-clause-empty c = nothing_left_to_read-runs

pub returns-clause-small_window : goal.returns-clause-small_window
returns-clause-small_window c = small_window-runs

pub returns-clause-last_lost : goal.returns-clause-last_lost
returns-clause-last_lost c = last_piece_lost-runs

pub returns-clause-start_repeated : goal.returns-clause-start_repeated
returns-clause-start_repeated c = start_repeated-runs

pub returns-clause-swapped : goal.returns-clause-swapped
returns-clause-swapped c = piece_swapped-runs

pub returns-clause-damaged : goal.returns-clause-damaged
returns-clause-damaged c = piece_damaged-runs

pub returns-clause-start_lost : goal.returns-clause-start_lost
returns-clause-start_lost c = start_lost_thrice-runs

pub returns-clause-given_up : goal.returns-clause-given_up
returns-clause-given_up c = start_always_lost-runs

pub returns-clause-span : goal.returns-clause-span
returns-clause-span c = span_shrinks-runs

pub returns-clause-not_found : goal.returns-clause-not_found
returns-clause-not_found c = nothing_to_read-runs

pub returns-clause-from_start : goal.returns-clause-from_start
returns-clause-from_start c = read_without_what_was_left-runs
