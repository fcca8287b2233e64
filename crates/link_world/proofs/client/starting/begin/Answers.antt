use Rattle.std.proofs.Common.{ℕ, [], IfOk, sym, subst}
use Rattle.link_laws.specs.world.World.{Setup, World}
use Rattle.link_world.specs.client.Asking.{HasBegun, IsClientOf}
use Rattle.link_world.proofs.client.starting.begin.Goals as goal

pub returns-in-Read-clause-begins : goal.returns-in-Read-clause-begins
returns-in-Read-clause-begins c =
    subst (λ command. IfOk c.begin_read.result (λ way. (k : Setup) (w : World) (at : ℕ) → IsClientOf k w (record { end = c.args.client.now; stored = c.args.store.now; items = []; events = [] }) c.args.sessions.now c.args.tuning at
    → HasBegun k w command c.begin_read.new.client.serving.table.entries way c.begin_read.new.sessions))
    (sym c.in-Read.is) c.begin_read.ensures.begins

pub returns-in-Write-clause-begins : goal.returns-in-Write-clause-begins
returns-in-Write-clause-begins c =
    subst (λ command. IfOk c.begin_write.result (λ way. (k : Setup) (w : World) (at : ℕ) → IsClientOf k w (record { end = c.args.client.now; stored = c.args.store.now; items = []; events = [] }) c.args.sessions.now c.args.tuning at
    → HasBegun k w command c.begin_write.new.client.serving.table.entries way c.begin_write.new.sessions))
    (sym c.in-Write.is) c.begin_write.ensures.begins
