use Rattle.std.proofs.Common.{refl, sym, ◌∙◌, ap}
use Rattle.rpc_journal.specs.Lawful.{has_zero}
use Rattle.ends_use.proofs.reports.by_calls.table_with_two_calls.Goals as goal

pub arrive-requires : goal.arrive-requires
arrive-requires c = record {
  input = record { feeder = refl; not_ended = rw c.in_ok-calls.ensures.entries refl };
  heard = record {
    heard = rw (c.in_ok-calls.ensures.role, c.asks.ensures.ptype) refl;
    named = ap has_zero c.asks.ensures.name;
  };
  seed = sym c.in_ok-calls.ensures.seed;
}

pub arrive-requires-2 : goal.arrive-requires-2
arrive-requires-2 c = record {
  input = record { feeder = refl; not_ended = rw (c.in_ok-arrive.ensures.did.adds, c.in_ok-calls.ensures.entries) refl };
  heard = record {
    heard = rw (c.in_ok-arrive.ensures.setting, c.in_ok-calls.ensures.role, c.asks-2.ensures.ptype) refl;
    named = ap has_zero c.asks-2.ensures.name;
  };
  seed = sym (ap (λ set. set.seed) c.in_ok-arrive.ensures.setting ∙ c.in_ok-calls.ensures.seed);
}
