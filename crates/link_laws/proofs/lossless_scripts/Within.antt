-- The rows are compared with their bounds.
use Rattle.std.proofs.Common.{arith}
use Rattle.link_laws.specs.lossless_scripts.Within.{RowsAreWithin}

pub rows_are_within : RowsAreWithin
rows_are_within = (omega arith, omega arith, omega arith, omega arith, omega arith, omega arith)
