use Rattle.std.proofs.Common.{ap, sym, ◌∙◌}
use Rattle.std.specs.BTreeSet.{insert_key}
use Rattle.std.specs.Set.{remove_key}
use Rattle.link_io.specs.Stored.{is_key, key_cmp}
use Rattle.rpc_schedule.specs.Kept.{key}
use Rattle.pw_run.proofs.UnderWayLemmas.{abandoned_keys, appended_keys, begun_keys, committed_keys}
use Rattle.pw_run.proofs.under_way.note_out.Goals as goal

pub returns-in_ok-insert-in-Begin : goal.returns-in_ok-insert-in-Begin
returns-in_ok-insert-in-Begin c =
    let at = key c.args.call c.in-Begin.session in
    λ s is.
    rw c.in-Begin.is (c.in_ok-insert-in-Begin.ensures.keys ∙ (ap (λ ks. insert_key key_cmp ks at) is ∙ sym (begun_keys at c.in-Begin.resource c.in-Begin.offset s)))

pub returns-in-Append : goal.returns-in-Append
returns-in-Append c = λ s is. rw c.in-Append.is (is ∙ sym (appended_keys (key c.args.call _) _ s))

pub returns-in-Commit : goal.returns-in-Commit
returns-in-Commit c =
    let at = key c.args.call c.in-Commit.session in
    λ s is. rw c.in-Commit.is (c.remove.ensures.keys ∙ (ap (remove_key (is_key at)) is ∙ sym (committed_keys at s)))

pub returns-in-Leave : goal.returns-in-Leave
returns-in-Leave c =
    let at = key c.args.call c.in-Leave.session in
    λ s is. rw c.in-Leave.is (c.remove-in-Leave.ensures.keys ∙ (ap (remove_key (is_key at)) is ∙ sym (abandoned_keys at s)))
