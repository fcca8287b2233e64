use Rattle.std.proofs.Common.{subst}
use Rattle.rpc_journal.specs.Changes.{CancelDid}
use Rattle.rpc_shared.specs.Steps.{Steps}
use Rattle.rpc_shared.proofs.Cancelling.{call_after, cut_in, ends_quiet, looks_again, sees_itself}
use Rattle.rpc_shared.proofs.shared.Shared.wait_quiet.Goals as goal

pub looks-init : goal.looks-init
looks-init g c = record {
  can = tt;
  ends = tt;
  own = c.requires.own;
  there = c.requires.call;
  cancelled = c.requires.cancelled;
  more = sees_itself g.H.Handler.rule c.args.self.now c.args.call c.args.pass.now c.requires.legal c.requires.own;
}

pub returns-in-Quiet-clause-waits : goal.returns-in-Quiet-clause-waits
returns-in-Quiet-clause-waits g c =
    looks_again g.H.Handler.rule c.args.self.now c.args.call c.args.pass.now c.looks.pass c.cancel.new.pass c.cancel.result c.looks.invariant.more c.looks.invariant.cancelled
    c.cancel.ensures.did

pub returns-in-Quiet-clause-ends : goal.returns-in-Quiet-clause-ends
returns-in-Quiet-clause-ends g c =
    ends_quiet g.H.Handler.rule c.args.self.now c.args.call c.looks.pass c.cancel.new.pass c.in-Quiet.status c.looks.invariant.there
    (subst (λ a. Steps g.H.Handler.rule c.args.self.now c.looks.pass c.cancel.new.pass (λ set seat. CancelDid set seat c.args.call a)) c.in-Quiet.is c.cancel.ensures.did)

pub looks-preserved : goal.looks-preserved
looks-preserved g c =
    let did = c.cancel.ensures.did in
    record {
      can = tt;
      ends = tt;
      own = did.own_still;
      there = call_after g.H.Handler.rule c.args.self.now c.args.call c.looks.pass c.cancel.new.pass _ did c.looks.invariant.there;
      cancelled = cut_in g.H.Handler.rule c.args.self.now c.args.call c.looks.pass c.cancel.new.pass c.cancel.result did;
      more =
          looks_again g.H.Handler.rule c.args.self.now c.args.call c.args.pass.now c.looks.pass c.cancel.new.pass c.cancel.result c.looks.invariant.more
          c.looks.invariant.cancelled did;
    }
