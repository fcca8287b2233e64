use Rattle.std.proofs.Common.{rules, ◌≡◌, ◌==◌, not, refl}
use Rattle.std.proofs.lemmas.Map.Made.{filter_same_pairs}
use Rattle.link_io.specs.Stored.{left_by_call, other_works}
use Rattle.link_io.proofs.mem_store.content.Content.leave_call.Goals as goal

pub returns-clause-ok : goal.returns-clause-ok
returns-clause-ok c =
    let works : c.retain.new.self.entries ≡ other_works c.args.call c.self.inside.work.entries = filter_same_pairs _ (λ e. not (e.0.call == c.args.call)) _ (λ k v b w f' t. search rules) _ _ c.retain.ensures.filtered in
    let left : c.works.left.entries ≡ left_by_call c.args.call c.self.inside.work.entries c.self.inside.left.entries = search rules in
    rw (← c.self.view_is, works, left) refl
