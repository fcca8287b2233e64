use Rattle.std.proofs.Common.{rules, ◌≡◌, ◌∙◌, ap, Some}
use Rattle.std.specs.Map.{lookup, set_value}
use Rattle.std.proofs.lemmas.Map.Steps.{set_value_same}
use Rattle.link_io.specs.Stored.{is_key}
use Rattle.link_io.proofs.mem_store.content.Content.append.Goals as goal

pub returns-in_err-append-clause-err : goal.returns-in_err-append-clause-err
returns-in_err-append-clause-err c =
    let written : (c.get_mut.follows.lender c.append.new.self).entries ≡ set_value (is_key c.args.key) c.self.inside.work.entries c.append.new.self = (c.get_mut.follows.holds c.append.new.self).0 in
    let there : lookup (is_key c.args.key) c.self.inside.work.entries ≡ Some c.in-Some.work.now = search rules in
    let same : (c.get_mut.follows.lender c.append.new.self).entries ≡ c.self.inside.work.entries = written ∙ (ap (set_value (is_key c.args.key) c.self.inside.work.entries) c.in_err-append.ensures.err ∙ set_value_same _ _ _ there) in
    rw (same, c.self.view_is) (search rules)
