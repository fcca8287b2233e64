-- What a call of the transfer service answers to an event, and how it moves, from what its sessions do.
use Rattle.std.proofs.Common.{◌≡◌, ℕ, List, [], sym, ap, ◌∙◌}
use Rattle.rpc_ids.specs.declared.status.Status.{Status}
use Rattle.rpc_ids.specs.declared.status.Status.TheVariants.{Okay}
use Rattle.rpc_handlers.specs.declared.answer.Answer.{Answer}
use Rattle.rpc_handlers.specs.declared.answer.Out.{Out}
use Rattle.rpc_handlers.specs.declared.event.Event.{Event}
use Rattle.rpc_handlers.specs.declared.event.Event.TheVariants.{Completion, Ended, Tick}
use Rattle.transfer_resume.specs.Book.{Book, spelled_all, tick_step, end_step}
use Rattle.demo_services.specs.Answers.{ends}
use Rattle.demo_services.specs.Transfer.{giving, transfer_answer, transfer_after}

pub completed_answer : (b x : Book) (ev : Event) → x ≡ b → (outs : List Out) (a : Answer) → ev ≡ Completion → outs ≡ spelled_all (end_step x).outs → a ≡ record (ends Okay []) { items = outs } → a ≡ transfer_answer b ev
completed_answer b x ev same outs a is said made =
    made
    ∙ (ap (λ items. record (ends Okay []) { items = items }) (said ∙ ap (λ y. spelled_all (end_step y).outs) same)
    ∙ sym (ap (transfer_answer b) is))

pub completed_after : (b x : Book) (ev : Event) → x ≡ b → (new : Book) → ev ≡ Completion → new ≡ (end_step x).after → new ≡ transfer_after b ev
completed_after b x ev same new is moved = moved ∙ (ap (λ y. (end_step y).after) same ∙ sym (ap (transfer_after b) is))

pub ended_answer : (b x : Book) (ev : Event) → x ≡ b → (status : Status) (outs : List Out) (a : Answer) → ev ≡ Ended status → outs ≡ spelled_all (end_step x).outs → a ≡ giving outs → a ≡ transfer_answer b ev
ended_answer b x ev same status outs a is said made = made ∙ (ap giving (said ∙ ap (λ y. spelled_all (end_step y).outs) same) ∙ sym (ap (transfer_answer b) is))

pub ended_after : (b x : Book) (ev : Event) → x ≡ b → (status : Status) (new : Book) → ev ≡ Ended status → new ≡ (end_step x).after → new ≡ transfer_after b ev
ended_after b x ev same status new is moved = moved ∙ (ap (λ y. (end_step y).after) same ∙ sym (ap (transfer_after b) is))

pub ticked_answer : (b x : Book) (ev : Event) → x ≡ b → (now : ℕ) (outs : List Out) (a : Answer) → ev ≡ Tick now → outs ≡ spelled_all (tick_step x now).outs → a ≡ giving outs → a ≡ transfer_answer b ev
ticked_answer b x ev same now outs a is said made = made ∙ (ap giving (said ∙ ap (λ y. spelled_all (tick_step y now).outs) same) ∙ sym (ap (transfer_answer b) is))

pub ticked_after : (b x : Book) (ev : Event) → x ≡ b → (now : ℕ) (new : Book) → ev ≡ Tick now → new ≡ (tick_step x now).after → new ≡ transfer_after b ev
ticked_after b x ev same now new is moved = moved ∙ (ap (λ y. (tick_step y now).after) same ∙ sym (ap (transfer_after b) is))
