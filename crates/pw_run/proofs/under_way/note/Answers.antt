use Rattle.std.proofs.Common.{rules, ◌≡◌, ◌==◌, not, ap, sym, ◌∙◌}
use Rattle.std.proofs.lemmas.Fn.{filter_same}
use Rattle.std.specs.Prelude.{filter}
use Rattle.link_io.specs.declared.store.StoreKey.{StoreKey}
use Rattle.pw_run.proofs.UnderWayLemmas.{all_abandoned_keys}
use Rattle.pw_run.proofs.under_way.note.Goals as goal

pub returns-in-LeaveCall : goal.returns-in-LeaveCall
returns-in-LeaveCall c =
    let others : c.retain.new.self.keys ≡ filter (λ (k : StoreKey). not (k.call == c.in-Some.call)) c.args.uploads.now.keys = filter_same _ (λ (k : StoreKey). not (k.call == c.in-Some.call)) _ (λ k b f' t. search rules) _ _ c.retain.ensures.filtered in
    λ s is.
    rw (c.in-Some.is, c.in-LeaveCall.is) (others ∙ (ap (filter (λ (k : StoreKey). not (k.call == c.in-Some.call))) is ∙ sym (all_abandoned_keys c.in-Some.call s)))
