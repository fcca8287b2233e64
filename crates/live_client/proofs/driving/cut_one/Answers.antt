use Rattle.std.proofs.Common.{true, false, sym, ◌∙◌}
use Rattle.live_client.proofs.TalkLemmas.{talks_cut}
use Rattle.live_client.proofs.driving.cut_one.Goals as goal

pub returns-then-cuts-clause-talks : goal.returns-then-cuts-clause-talks
returns-then-cuts-clause-talks g c = λ opening all start upto items t.
    talks_cut g.W.Errand.watches opening c.args.table.now c.args.call (g.W.Errand.did c.args.errand.now all start upto) (g.W.Errand.did c.cut.new.self all start upto) items true false c.cancel.result
    c.args.pass.now c.cancel.new.pass (c.cuts.ensures.watches c.if-cuts.true) c.cancel.ensures.cuts (λ cut events outs ended so. c.cut.ensures.did (sym c.cuts.ensures.cuts ∙ c.if-cuts.true) all start upto cut events outs ended so) t
