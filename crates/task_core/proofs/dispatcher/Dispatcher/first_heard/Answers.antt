use Rattle.std.proofs.Common.{◌≡◌, ◌≢◌, false, sym, ap, ◌∙◌, arith, rules, below_more}
use Rattle.slab.specs.Slab.{get}
use Rattle.task_core.specs.Places.{due_in}
use Rattle.task_core.proofs.HeardLemmas.{scanned_more}
use Rattle.task_core.proofs.dispatcher.Dispatcher.first_heard.Goals as goal

pub hear_at-requires-clause-own : goal.hear_at-requires-clause-own
hear_at-requires-clause-own g c = c.keys.invariant.ear.table ∙ c.requires.own

pub hear_at-requires-clause-keys : goal.hear_at-requires-clause-keys
hear_at-requires-clause-keys g c = λ has. c.requires.keys c.keys.key (sym (c.keys.invariant.keeps.keys c.keys.key) ∙ has)

pub keys-preserved : goal.keys-preserved
keys-preserved g c =
    let so_far = c.keys.invariant in
    let now = c.hear_at.new.self in
    let own = c.if-hear_at.ensures in record {
      scanned = scanned_more c.keys.key c.args.self.now c.keys.self now c.args.ear.now.looks c.keys.ear.looks c.hear_at.new.ear.looks so_far.scanned own.hears;
      calm = below_more (λ k. due_in (get now.places k) ≡ false) c.keys.key
          (λ k below. let differs : k ≢ c.keys.key = omega arith in ap due_in (own.others k differs) ∙ so_far.calm k below)
          (sym own.due);
      ear = search rules;
      keeps = search rules;
    }
