-- The lines that were told stay so, in their order, as a run goes on.
use Rattle.std.proofs.Common.{◌≡◌, ℕ, Bool, true, false, if◌then◌else◌, List, [], ◌∷◌, ◌++◌, Option, Some, None, refl, ap, sym, ◌∙◌}
use Rattle.std.proofs.lemmas.List.{append-nil}
use Rattle.link_script.specs.declared.report.ReportLine.{ReportLine}
use Rattle.link_script.specs.lossy.Link.{released}
use Rattle.link_laws.specs.world.Lines.{command_ended, finished, is_still, line_of, with_line, with_released}
use Rattle.link_laws.specs.world.Turns.{Turns}
use Rattle.link_laws.specs.world.World.{Setup, Under, World}
use Rattle.link_laws.proofs.one_run.Along.{Grows, LeadsAlong, grows_same, grows_then, turns_lead}

-- the lines told so far begin those of the later world
abbrev pub TellsMore : World → World → Type 0
TellsMore = Grows (λ (w : World). w.lines)

module _ (k : Setup) where
  same_lines : (v : World) → TellsMore v v
  same_lines v = grows_same (λ w. w.lines) v

  with_more : (v : World) (o : Option ReportLine) → TellsMore v (with_line v o)
  with_more v None = same_lines v
  with_more v (Some told) = (told ∷ [], refl)

  ended_more : (v : World) (u : Option Under) → TellsMore v (command_ended k v u)
  ended_more v None = same_lines v
  ended_more v (Some under) = with_more v (line_of k v under)

  released_lines : (v : World) → (with_released v).lines ≡ v.lines
  released_lines v = at (is_still v)
    where
      at : (b : Bool) → (if b then record v { to_server = released v.to_server; to_client = released v.to_client } else v).lines ≡ v.lines
      at true = refl
      at false = refl

  -- the end of a turn tells a line at most
  finished_more : (v : World) → TellsMore v (finished k v)
  finished_more v =
      let ended : TellsMore (with_released v) (finished k v) = ended_more (with_released v) v.under in
      (ended.0, ended.1 ∙ ap (λ ls. ls ++ ended.0) (released_lines v))

  along : LeadsAlong k TellsMore
  along = record {
    none = same_lines;
    both = grows_then (λ w. w.lines);
    server = λ v after. same_lines v;
    client = λ v after. same_lines v;
    ends = finished_more;
    command = λ v rest s. same_lines v;
    task = λ v task. same_lines v;
    up = λ v frame rest. same_lines v;
    down = λ v frame rest. same_lines v;
    time = same_lines;
  }

  pub turns_tell_more : (n : ℕ) (w now : World) → Turns k n w now → TellsMore w now
  turns_tell_more = turns_lead k TellsMore along
