-- A channel that is closed isn't in.
use Rattle.std.proofs.Common.{◌≡◌, true, false, not, ◌&&◌, ap, sym, subst, ◌∙◌}
use Rattle.rpc_channel.specs.Rising.{has_id}
use Rattle.rpc_journal.specs.table.Agrees.{Agrees}
use Rattle.rpc_journal.proofs.table.CloseLemmas.{in_now}
use Rattle.rpc_calls.proofs.call_records.CallRecords.is_in.Goals as goal

pub returns-then-is_in : goal.returns-then-is_in
returns-then-is_in g c = λ set ds is agrees.
    let has : has_id c.args.channels.now c.args.channel ≡ true = sym c.is_in.ensures ∙ c.if-is_in.true in
    let kept : c.contains.result ≡ has_id c.self.inside.closed.items c.args.channel =
    c.contains.ensures.value ∙ ap (λ xs. has_id xs c.args.channel) c.deref.ensures.value in
    sym (in_now set ds c.args.channels.now _ c.args.channel is (subst (λ t. Agrees ds t.states) (sym c.self.view_is) agrees)
    ∙ (ap (λ b. b && not (has_id c.self.inside.closed.items c.args.channel)) has ∙ ap not (sym kept)))

pub returns-else-is_in : goal.returns-else-is_in
returns-else-is_in g c = λ set ds is agrees.
    let has : has_id c.args.channels.now c.args.channel ≡ false = sym c.is_in.ensures ∙ c.if-is_in.false in
    c.if-is_in.false ∙ sym (in_now set ds c.args.channels.now _ c.args.channel is (subst (λ t. Agrees ds t.states) (sym c.self.view_is) agrees)
    ∙ ap (λ b. b && not (has_id c.self.inside.closed.items c.args.channel)) has)
