use Rattle.std.proofs.Common.{◌≡◌, length}
use Rattle.task_core.specs.Visit.{Uses}
use Rattle.transfer_client.specs.Polling.{takes_all}
use Rattle.transfer_client.proofs.TakeLemmas.{TakesOn}
use Rattle.transfer_client.proofs.polling.take_mail.Given as goal

abbrev pub invariant-mails : goal.invariant-mails
invariant-mails g l = record {
  takes : TakesOn g.M.Machine.rules l.session l.fn.cx.moment (takes_all g.M.Machine.rules l.session l.fn.machine l.fn.cx.mail l.fn.cx.moment) l.fn.outs l.machine l.cx.mail l.outs;
  rest : l.cx ≡ record l.fn.cx { mail = l.cx.mail };
  uses : Uses l.fn.cx l.cx;
}

abbrev pub decreases-mails : goal.decreases-mails
decreases-mails g l = length l.cx.mail
