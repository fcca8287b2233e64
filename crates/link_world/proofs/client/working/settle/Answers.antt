use Rattle.std.proofs.Common.{◌<◌, subst}
use Rattle.std.proofs.Common.{ℕ, List, ◌∙◌, ◌-◌, sym, ap, drop, length, take}
use Rattle.rpc_handlers.specs.declared.event.Event.{Event}
use Rattle.link_world.specs.client.Working.{IsKept}
use Rattle.link_world.proofs.client.SettleLemmas.{kept_then, rest_is, settled}
use Rattle.link_laws.specs.world.Setup.{quiet_rule}
use Rattle.link_world.proofs.client.IdleLemmas.{idle_then}
use Rattle.link_world.proofs.client.working.settle.Goals as goal

pub returns-clause-settled : goal.returns-clause-settled
returns-clause-settled c =
    let before = c.args.desk.now.events.items in
    let after = c.run_all.new.events.items in
    let value = c.as_slice.ensures.value in
    let len = c.len-from.ensures in
    let says = c.in-Ok-speak.ensures.says in
    settled c.args.now c.args.desk.now.client.serving c.run_all.new.client.serving before after c.in-Ok.ensures.ran c.requires.kept.setting (idle_then quiet_rule c.run_all.new.client.serving c.calls-legal.ensures.legal c.calls-legal.ensures.own c.in-Ok.ensures.ran.orderly
    (subst (λ n. n < 65536) (sym c.in-Ok.ensures.ran.same_waiting) c.requires.few) c.in-Ok.ensures.ran.none_ready)
    (take (length c.as_slice.result.now - c.len-from.result) (drop c.len-from.result c.as_slice.result.now))
    (rest_is c.as_slice.result.now c.len-from.result ∙ (ap (drop c.len-from.result) value ∙ ap (λ n. drop n after) (len ∙ c.args.desk.now.events.ok.0))) c.args.under.now c.speak.new.under c.speak.new.client.serving c.flush_all.new.desk.client.serving
    says c.in_ok-flush_all.ensures.flushes c.in-Ok-speak.ensures.under

pub returns-clause-kept : goal.returns-clause-kept
returns-clause-kept c =
    let before = c.args.desk.now.events.items in
    subst (λ (events : List (ℕ × Event)). IsKept c.flush_all.new.desk.client.serving c.flush_all.new.desk.items.items events)
    (sym c.flush_all.ensures.same)
    (kept_then c.args.now c.args.desk.now.client.serving c.run_all.new.client.serving before c.run_all.new.events.items c.in-Ok.ensures.ran c.args.desk.now.items.items c.flush_all.new.desk.items.items c.requires.kept
    (take (length c.as_slice.result.now - c.len-from.result) (drop c.len-from.result c.as_slice.result.now)) c.speak.new.client.serving c.flush_all.new.desk.client.serving _ c.in-Ok-speak.ensures.says c.in_ok-flush_all.ensures.flushes c.in_ok-flush_all.ensures.items)
