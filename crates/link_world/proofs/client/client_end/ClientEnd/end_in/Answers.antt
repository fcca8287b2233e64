use Rattle.std.proofs.Common.{refl, sym, subst}
use Rattle.rpc_journal.specs.declared.entry.EntryKind.TheVariants.{EndIn}
use Rattle.rpc_schedule.specs.Schedule.{input_seat}
use Rattle.link_world.specs.client.ClientSide.{ClientRests, ClientState, state_of}
use Rattle.link_world.specs.client.Working.{IsKept}
use Rattle.link_world.proofs.client.EndLemmas.{entered_kept, kept_by}
use Rattle.std.proofs.Common.{◌<◌}
use Rattle.rpc_journal.specs.Items.{items_waiting}
use Rattle.rpc_schedule.specs.Serving.{Serving, deeds}
use Rattle.link_world.proofs.client.IdleLemmas.{few_ended}
use Rattle.link_world.proofs.client.client_end.ClientEnd.end_in.Goals as goal

pub work_alone-requires-clause-kept : goal.work_alone-requires-clause-kept
work_alone-requires-clause-kept c =
    let before : ClientState = state_of c.self.inside.desk in
    let rest : ClientRests before = subst ClientRests (sym c.self.view_is) c.requires.rest in
    subst (λ s. IsKept s c.self.inside.desk.items.items c.self.inside.desk.events.items) (sym c.end_in.ensures.step)
    (entered_kept c.self.inside.desk.client.serving c.self.inside.desk.items.items c.self.inside.desk.events.items input_seat EndIn (kept_by before rest) refl (λ k. refl) (λ k. refl) (λ k. refl) refl refl refl refl)

pub work_alone-requires-clause-few : goal.work_alone-requires-clause-few
work_alone-requires-clause-few c =
    let before : ClientState = state_of c.self.inside.desk in
    let rest : ClientRests before = subst ClientRests (sym c.self.view_is) c.requires.rest in
    subst (λ (s : Serving). items_waiting (deeds s) < 65536) (sym c.end_in.ensures.step) (few_ended c.self.inside.desk.client.serving input_seat rest.resting)
