use Rattle.std.proofs.Common.{rules, ◌≡◌, ◌==◌, not, ◌∙◌, ap}
use Rattle.std.proofs.lemmas.Map.Made.{filter_same_pairs}
use Rattle.run_report.specs.Uploads.{all_ended}
use Rattle.run_report.proofs.uploads.Uploads.end_call.Goals as goal

pub returns : goal.returns
returns c =
    let entries : c.retain.new.self.entries ≡ all_ended c.args.call c.self.inside.under_way.entries =
    filter_same_pairs _ (λ e. not (e.0.call == c.args.call)) _ (λ k v b w f' t. search rules) _ _ c.retain.ensures.filtered in
    entries ∙ ap (all_ended c.args.call) c.self.view_is
