-- Scripts that have a transfer of one resource more than once, with what is told of their runs.
use Rattle.std.specs.Prelude.{ℕ, [], ◌∷◌}
use Rattle.link_script.specs.declared.command.Command.TheVariants.{Read, Write}
use Rattle.link_script.specs.declared.report.ReportLine.TheVariants as line
use Rattle.link_script.specs.declared.stock.Stock.{Stock}
use Rattle.link_script.specs.Script.{new_script}
use Rattle.rpc_ids.specs.declared.status.Status.TheVariants.{Okay}
use Rattle.link_laws.specs.world.Rows.{Row, resource_7}

-- ten bytes of resource 7, other ones by another seed
abbrev pub ten_bytes_of : ℕ → Stock
ten_bytes_of seed = record { id = 7; len = 10; seed = seed }

-- each end has bytes of its own: the client writes them, reads those that the server had listed, and writes these back
abbrev pub written_read_and_written : Row
written_read_and_written = record {
  script = record new_script { server = ten_bytes_of 2 ∷ []; client = ten_bytes_of 1 ∷ []; commands = Write 7 0 ∷ Read 7 0 ∷ Write 7 0 ∷ [] };
  report = record {
    lines = line.Write 7 0 Okay 10 ∷ line.Read 7 0 Okay 10 ∷ line.Write 7 0 Okay 10 ∷ [];
    frames = 22;
    delivered = 22;
    chunks = 20;
    server = resource_7 10;
    client = resource_7 10;
  };
}

-- the second read has chunks of its own, and opens no call
abbrev pub read_twice : Row
read_twice = record {
  script = record new_script { server = ten_bytes_of 1 ∷ []; commands = Read 7 0 ∷ Read 7 0 ∷ [] };
  report = record {
    lines = line.Read 7 0 Okay 10 ∷ line.Read 7 0 Okay 10 ∷ [];
    frames = 13;
    delivered = 13;
    chunks = 12;
    server = resource_7 10;
    client = resource_7 10;
  };
}
