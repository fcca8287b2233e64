use Rattle.std.proofs.Common.{refl, sym, ◌∙◌, ap, ne_eqb}
use Rattle.rpc_journal.specs.Lawful.{has_zero}
use Rattle.ends_use.proofs.reports.table_with_call.Goals as goal

pub arrive-requires : goal.arrive-requires
arrive-requires c = record {
  input = record { feeder = refl; not_ended = rw c.in_ok-calls.ensures.entries refl };
  heard = record {
    heard = rw c.in_ok-calls.ensures.role refl;
    named = ap has_zero c.name_of.ensures ∙ ne_eqb c.args.method 0 c.requires;
  };
  seed = sym c.in_ok-calls.ensures.seed;
}
