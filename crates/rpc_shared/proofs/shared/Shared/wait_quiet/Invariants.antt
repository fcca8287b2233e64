use Rattle.std.proofs.Common.{◌≡◌, true}
use Rattle.rpc_journal.specs.Calls.{is_cancelled}
use Rattle.rpc_journal.specs.Conditions.{IsCall}
use Rattle.rpc_journal.specs.History.{history}
use Rattle.rpc_shared.specs.Steps.{IsOwn}
use Rattle.rpc_shared.specs.Waits.{SeesMore}
use Rattle.rpc_shared.proofs.shared.Shared.wait_quiet.Given as goal

abbrev pub invariant-looks : goal.invariant-looks
invariant-looks g l = record {
  can : (goal.iterator-looks g).can_next l.iterator';
  ends : (goal.iterator-looks g).is_finite l.iterator';
  own : IsOwn l.self l.pass;
  there : IsCall l.self.base l.pass.view.known.seen l.call;
  cancelled : is_cancelled (history l.self.base l.pass.view.known.seen) l.call ≡ true;
  more : SeesMore g.H.Handler.rule l.self l.fn.pass l.pass;
}
