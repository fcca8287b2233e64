-- What is still on its way once the line was told: the server takes the words in silence, and what older sessions tell again comes
-- to nothing at the client.
use Rattle.std.proofs.Common.{◌≡◌, ℕ, ◌+◌, ◌<◌, ◌^◌, List, [], ◌∷◌, ◌++◌, length, map, true, Option, sym, ◌∙◌, subst, arith}
use Rattle.std.proofs.lemmas.List.{append-nil}
use Rattle.link_script.specs.declared.report.ReportLine.{ReportLine}
use Rattle.transfer_base.specs.declared.limits.TheConstants.{TIMEOUT}
use Rattle.transfer_words.specs.Word.{Word}
use Rattle.transfer_resume.specs.declared.stage.Stage.{Stage}
use Rattle.transfer_resume.specs.Session.{Row}
use Rattle.transfer_resume.specs.Hears.{session_hears}
use Rattle.transfer_laws.specs.pairs.Pair.{TakesInSilence, words_of}
use Rattle.transfer_laws.specs.losses.Drops.{kept}
use Rattle.link_laws.specs.world.World.{Setup, World}
use Rattle.link_laws.specs.lossless_transfer.Finishes.{Passes, RunsOut}
use Rattle.link_laws.specs.lossless_transfer.Shows.{Places, moment_at, up_packet}
use Rattle.link_laws.proofs.lossless_transfer.Chain.{Begun, down_first, further, goes_on, here, up_first}
use Rattle.link_laws.proofs.lossless_transfer.Linking.{finished_idle}
use Rattle.link_laws.proofs.lossless_transfer.ServiceWords.{SessionFits}
use Rattle.link_laws.specs.dropped_transfer.Dropped.{loses}
use Rattle.link_laws.specs.dropped_transfer.Passing.{Passing, own, other, own_words, passing_packet, stray_packet}
use Rattle.link_laws.specs.dropped_transfer.Sessions.{IsSetForDrops}
use Rattle.link_laws.specs.dropped_transfer.Shows.{LeftDropping, StandsDropping}
use Rattle.link_laws.proofs.dropped_transfer.ServerStep.{ServerTurned, server_turned}
use Rattle.link_laws.proofs.dropped_transfer.StrayStep.{StrayTurned, stray_idle}

module _ (k : Setup) (x : Places) (older : List Row) (set : IsSetForDrops k x older) (early : moment_at x + TIMEOUT < 2 ^ 63) (lines : List ReportLine) (far : World) where
  one_silent : (big : World) (stage : Option Stage) (c : Word) (rest : List Word) (downs : List Passing) (n : ℕ) (f : Begun k big far) → words_of (session_hears x.service true stage c).sayings ≡ [] → SessionFits stage
      → LeftDropping k x older lines big stage (c ∷ rest) downs n
      → LeftDropping k x older lines f.next (session_hears x.service true stage c).after rest downs n × SessionFits (session_hears x.service true stage c).after
  one_silent big stage c rest downs n f quiet fits left =
      let t : ServerTurned k x older set early big f.next far stage c rest downs n =
      server_turned k x older set early big f.next far stage c rest downs n left.stands fits f.turn.turn f.run in
      let after : Option Stage = (session_hears x.service true stage c).after in
      let stands : StandsDropping k x older t.world after rest downs n = by_none (words_of (session_hears x.service true stage c).sayings) quiet t.world t.stands in
      let idle = t.under ∙ left.idle in
      let same : f.next ≡ t.world = t.ends ∙ finished_idle k t.world (map (up_packet x) rest) (map (passing_packet x) downs) stands.to_server stands.to_client idle in
      (subst (λ w. LeftDropping k x older lines w after rest downs n) (sym same) (record { stands = stands; idle = idle; told = t.lines ∙ left.told }), t.fits)
    where
      by_none : (ws : List Word) → ws ≡ [] → (w : World) → StandsDropping k x older w (session_hears x.service true stage c).after rest (downs ++ map own (kept (loses k x.session far) n ws)) (n + length ws)
          → StandsDropping k x older w (session_hears x.service true stage c).after rest downs n
      by_none [] none w stands =
          subst (λ ps. StandsDropping k x older w (session_hears x.service true stage c).after rest ps n) (append-nil downs)
          (subst (λ m. StandsDropping k x older w (session_hears x.service true stage c).after rest (downs ++ []) m) (omega arith) stands)
      by_none (w ∷ ws) none _ stands = absurd cc

  -- just what older sessions tell again is on its way
  strays_pass : (downs : List Passing) (big : World) (stage : Option Stage) (n : ℕ) → own_words downs ≡ [] → LeftDropping k x older lines big stage [] downs n → RunsOut k big far
      → Passes k big far (λ mid. LeftDropping k x older lines mid stage [] [] n)
  strays_pass [] big stage n none left run = here k big far (λ mid. LeftDropping k x older lines mid stage [] [] n) run left
  strays_pass (own w ∷ rest) big stage n none left run = absurd cc
  strays_pass (other s ∷ rest) big stage n none left run =
      let f : Begun k big far = goes_on k big far (down_first k big (stray_packet s) (map (passing_packet x) rest) left.stands.to_server left.stands.to_client) run in
      let t : StrayTurned k x older big f.next stage rest n = stray_idle k x older set.only big f.next stage s rest n left.stands left.idle f.turn.turn in
      let idle = t.under ∙ left.idle in
      let same : f.next ≡ t.world = t.ends ∙ finished_idle k t.world [] (map (passing_packet x) rest) t.stands.to_server t.stands.to_client idle in
      further k big far (λ mid. LeftDropping k x older lines mid stage [] [] n) f
      (strays_pass rest f.next stage n none
      (subst (λ w. LeftDropping k x older lines w stage [] rest n) (sym same) (record { stands = t.stands; idle = idle; told = t.lines ∙ left.told })) f.run)

  pub drains : (ups : List Word) (downs : List Passing) (big : World) (stage after : Option Stage) (n : ℕ) → TakesInSilence x.service stage ups after → own_words downs ≡ [] → SessionFits stage
      → LeftDropping k x older lines big stage ups downs n → RunsOut k big far → Passes k big far (λ mid. LeftDropping k x older lines mid after [] [] n)
  drains [] downs big stage after n silent none fits left run =
      strays_pass downs big after n none (subst (λ s. LeftDropping k x older lines big s [] downs n) silent left) run
  drains (c ∷ rest) downs big stage after n silent none fits left run =
      let f : Begun k big far = goes_on k big far (up_first k big (up_packet x c) (map (up_packet x) rest) left.stands.to_server) run in
      let done = one_silent big stage c rest downs n f silent.0 fits left in
      further k big far (λ mid. LeftDropping k x older lines mid after [] [] n) f
      (drains rest downs f.next (session_hears x.service true stage c).after after n silent.1 none done.1 done.0 f.run)
