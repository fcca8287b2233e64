use Rattle.std.proofs.Common.{rules, ◌≡◌, ◌++◌, [], refl, ap, ◌∙◌, true, is_none}
use Rattle.task_core.specs.Context.{Context}
use Rattle.transfer_words.specs.Saying.{outs_of}
use Rattle.transfer_client.specs.Polling.{takes}
use Rattle.transfer_client.proofs.TakeLemmas.{empty_is_all, ended_is_all, none_of, takes_begins, takes_more, uses_more}
use Rattle.transfer_client.proofs.polling.take_mail.Goals as goal

pub mails-init : goal.mails-init
mails-init g c = record {
  takes = takes_begins g.M.Machine.rules c.args.session c.args.cx.now.moment c.args.outs.now c.args.machine.now c.args.cx.now.mail;
  rest = refl;
  uses = record { key = refl; moment = refl; earlier = refl; mail = ([], refl) };
}

pub returns-in_err-take-clause-uses : goal.returns-in_err-take-clause-uses
returns-in_err-take-clause-uses g c =
    uses_more c.args.cx.now c.mails.cx c.mail.new.self c.in-Some.mail c.mails.invariant.uses c.in-Some.ensures.mail c.in-Some.ensures.rest

pub mails-preserved : goal.mails-preserved
mails-preserved g c =
    let k = g.M.Machine.rules in
    let goes : is_none (k.end_of c.mails.machine) ≡ true = search rules in
    let next : c.take.new.machine ≡ (takes k c.args.session c.mails.machine c.in-Some.mail c.args.cx.now.moment).after = search rules in
    let said : c.take.new.outs ≡ c.mails.outs ++ outs_of c.args.session (takes k c.args.session c.mails.machine c.in-Some.mail c.args.cx.now.moment).sayings = search rules in
    record {
      takes = takes_more k c.args.session c.args.cx.now.moment _ c.args.outs.now c.mails.machine c.take.new.machine c.in-Some.mail
          c.mails.cx.mail c.mail.new.self.mail c.mails.outs c.take.new.outs c.mails.invariant.takes c.in-Some.ensures.mail
          (none_of (k.end_of c.mails.machine) goes) next said;
      rest = c.in-Some.ensures.rest ∙ ap {A = Context} (λ x. record x { mail = c.mail.new.self.mail }) c.mails.invariant.rest;
      uses = uses_more c.args.cx.now c.mails.cx c.mail.new.self c.in-Some.mail c.mails.invariant.uses c.in-Some.ensures.mail c.in-Some.ensures.rest;
    }

pub returns-clause-after : goal.returns-clause-after
returns-clause-after g c =
    (ended_is_all g.M.Machine.rules c.args.session c.args.cx.now.moment _ c.args.outs.now c.mails.machine c.mails.cx.mail c.mails.outs
    c.mails.invariant.takes (search rules)).after

pub returns-clause-outs : goal.returns-clause-outs
returns-clause-outs g c =
    (ended_is_all g.M.Machine.rules c.args.session c.args.cx.now.moment _ c.args.outs.now c.mails.machine c.mails.cx.mail c.mails.outs
    c.mails.invariant.takes (search rules)).outs_are

pub returns-clause-left : goal.returns-clause-left
returns-clause-left g c =
    (ended_is_all g.M.Machine.rules c.args.session c.args.cx.now.moment _ c.args.outs.now c.mails.machine c.mails.cx.mail c.mails.outs
    c.mails.invariant.takes (search rules)).left

pub returns-in_default-clause-after : goal.returns-in_default-clause-after
returns-in_default-clause-after g c =
    (empty_is_all g.M.Machine.rules c.args.session c.args.cx.now.moment _ c.args.outs.now c.mails.machine c.mails.cx.mail c.mails.outs
    c.mails.invariant.takes (search rules)).after

pub returns-in_default-clause-outs : goal.returns-in_default-clause-outs
returns-in_default-clause-outs g c =
    (empty_is_all g.M.Machine.rules c.args.session c.args.cx.now.moment _ c.args.outs.now c.mails.machine c.mails.cx.mail c.mails.outs
    c.mails.invariant.takes (search rules)).outs_are

pub returns-in_default-clause-left : goal.returns-in_default-clause-left
returns-in_default-clause-left g c =
    let left = (empty_is_all g.M.Machine.rules c.args.session c.args.cx.now.moment _ c.args.outs.now c.mails.machine c.mails.cx.mail c.mails.outs
    c.mails.invariant.takes (search rules)).left in
    search rules
