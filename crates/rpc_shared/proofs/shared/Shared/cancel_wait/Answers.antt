use Rattle.std.proofs.Common.{subst}
use Rattle.rpc_journal.specs.Changes.{CancelDid}
use Rattle.rpc_shared.specs.Steps.{Steps}
use Rattle.rpc_shared.proofs.Cancelling.{call_after, cut_in, ends_quiet, sees_itself}
use Rattle.rpc_shared.proofs.shared.Shared.cancel_wait.Goals as goal

pub wait_quiet-requires-clause-call : goal.wait_quiet-requires-clause-call
wait_quiet-requires-clause-call g c = call_after g.H.Handler.rule c.args.self.now c.args.call c.args.pass.now c.cancel.new.pass _ c.cancel.ensures.did c.requires.call

pub wait_quiet-requires-clause-cancelled : goal.wait_quiet-requires-clause-cancelled
wait_quiet-requires-clause-cancelled g c = cut_in g.H.Handler.rule c.args.self.now c.args.call c.args.pass.now c.cancel.new.pass c.cancel.result c.cancel.ensures.did

pub returns-in-Quiet : goal.returns-in-Quiet
returns-in-Quiet g c =
    let did = c.cancel.ensures.did in
    record {
      did = record {
        middle = c.cancel.new.pass;
        answer = c.cancel.result;
        cancels = did;
        waits = sees_itself g.H.Handler.rule c.args.self.now c.args.call c.cancel.new.pass did.legal_after did.own_still;
        ends =
            ends_quiet g.H.Handler.rule c.args.self.now c.args.call c.args.pass.now c.cancel.new.pass c.in-Quiet.status c.requires.call
            (subst (λ a. Steps g.H.Handler.rule c.args.self.now c.args.pass.now c.cancel.new.pass (λ set seat. CancelDid set seat c.args.call a)) c.in-Quiet.is did);
      };
    }
