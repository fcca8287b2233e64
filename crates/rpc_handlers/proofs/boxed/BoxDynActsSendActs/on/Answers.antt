-- Where the object is as it was, the box is.
use Rattle.std.proofs.Common.{ap}
use Rattle.std.proofs.lemmas.Result.{on_err_weaker}
use Rattle.rpc_handlers.proofs.boxed.BoxDynActsSendActs.on.Goals as goal

pub returns-clause-err : goal.returns-clause-err
returns-clause-err g c =
    on_err_weaker c.on.result
    (λ same. rw same (ap (λ p. record { ptr = c.args.self.now.ptr; vtable = p.0; alloc = c.args.self.now.alloc; value = p.1 }) c.deref_box_mut-1.ensures.value.1))
    c.on.ensures.1.1.1.1
