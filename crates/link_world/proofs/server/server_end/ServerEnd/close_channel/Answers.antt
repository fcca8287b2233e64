use Rattle.std.proofs.Common.{◌≡◌, None, false, refl, sym, ◌∙◌, subst}
use Rattle.demo_services.specs.DemoRule.{demo_rule}
use Rattle.rpc_journal.specs.declared.entry.EntryKind.TheVariants.{Close}
use Rattle.rpc_journal.specs.Items.{input_ended}
use Rattle.rpc_schedule.specs.Serving.{Serving, deeds}
use Rattle.rpc_schedule.specs.Settling.{IsOrderly}
use Rattle.link_world.specs.Room.{StaysWithin}
use Rattle.link_world.specs.server.Resting.{IsResting}
use Rattle.link_world.proofs.RoomLemmas.{closed_unfull, within_adding}
use Rattle.link_world.specs.server.ServerSide.{ServerMoves, ServerRests, ServerState}
use Rattle.link_world.proofs.server.OutLemmas.{moves_by}
use Rattle.link_world.proofs.server.RestLemmas.{entered, entered_is, resting_after, unentered_is}
use Rattle.link_world.proofs.server.server_end.ServerEnd.close_channel.Goals as goal
use Rattle.link_world.proofs.server.server_end.ServerEnd.close_channel.Goals.{in-Ok, in-Err-NotIn}

pub settle-requires-clause-orderly : goal.settle-requires-clause-orderly
settle-requires-clause-orderly c =
    let rest : ServerRests (record { end = c.self.inside.server; stored = c.self.inside.store; items = c.self.inside.items.items }) = subst ServerRests (sym c.self.view_is) c.requires in
    elim c.match-close_channel.branch [
      | in-Ok w ↦
          (entered c.self.inside.server c.close_channel.new.self 2 (Close c.args.channel) c.close_channel.ensures.aside w.in-Ok.ensures.did.adds rest.resting.orderly (λ k. refl) (λ k. refl) refl refl).orderly
      | in-Err-NotIn w ↦
          subst IsOrderly (sym (unentered_is c.self.inside.server c.close_channel.new.self c.close_channel.ensures.aside w.in-Err-NotIn.ensures.did.kept)) rest.resting.orderly
    ]

pub returns-clause-moves : goal.returns-clause-moves
returns-clause-moves c =
    let before : ServerState = record { end = c.self.inside.server; stored = c.self.inside.store; items = c.self.inside.items.items } in
    let after : ServerState = record { end = c.settle.new.server; stored = c.settle.new.store; items = c.settle.new.items.items } in
    subst (λ s. ServerMoves s c.args.wires.now after c.settle.new.wires) c.self.view_is
    (moves_by before after c.args.wires.now c.settle.new.wires (c.in-Ok-settle.ensures.ok.stays.setting ∙ c.close_channel.ensures.aside.setting) c.in-Ok-settle.ensures.out c.in-Ok-settle.ensures.holds)

pub returns-clause-rest : goal.returns-clause-rest
returns-clause-rest c =
    let old = c.self.inside.server in
    let mid = c.close_channel.new.self in
    let rest : ServerRests (record { end = old; stored = c.self.inside.store; items = c.self.inside.items.items }) = subst ServerRests (sym c.self.view_is) c.requires in
    let rests : (mid.serving.refused ≡ None) → (input_ended (deeds mid.serving) ≡ false) → StaysWithin mid.serving.table.entries → IsResting c.settle.new.server.serving =
    resting_after demo_rule mid.serving c.settle.new.server.serving c.in-Ok-settle.ensures.ok in
    record {
      resting = elim c.match-close_channel.branch [
        | in-Ok w ↦
            let is = entered_is old mid 2 (Close c.args.channel) c.close_channel.ensures.aside w.in-Ok.ensures.did.adds in
            let enter = entered old mid 2 (Close c.args.channel) c.close_channel.ensures.aside w.in-Ok.ensures.did.adds rest.resting.orderly (λ k. refl) (λ k. refl) refl refl in
            rests (c.close_channel.ensures.aside.refused ∙ rest.resting.accepts) (enter.input ∙ rest.resting.unended)
            (subst (λ (s : Serving). StaysWithin s.table.entries) (sym is)
            (within_adding old.serving.table.entries 2 (Close c.args.channel) rest.resting.room
            (closed_unfull old.serving.table.setting old.serving.table.entries c.args.channel w.in-Ok.ensures.did.unrefused)))
        | in-Err-NotIn w ↦
            let same = sym (unentered_is old mid c.close_channel.ensures.aside w.in-Err-NotIn.ensures.did.kept) in
            rests (subst (λ (s : Serving). s.refused ≡ None) same rest.resting.accepts) (subst (λ (s : Serving). input_ended (deeds s) ≡ false) same rest.resting.unended)
            (subst (λ (s : Serving). StaysWithin s.table.entries) same rest.resting.room)
      ];
      items = c.in-Ok-settle.ensures.items;
    }
