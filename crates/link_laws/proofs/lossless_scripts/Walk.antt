-- The commands of a script end one after another, where each leads from one world between two commands to the next.
use Rattle.std.proofs.Common.{◌≡◌, ℕ, zero, suc, ◌+◌, List, [], ◌∷◌, ◌++◌, length, slice_get, Some, None, refl, ap, sym, ◌∙◌, subst, arith, append_assoc}
use Rattle.std.proofs.lemmas.List.{append-nil, length-append}
use Rattle.link_script.specs.declared.command.Command.{Command}
use Rattle.link_script.specs.declared.report.ReportLine.{ReportLine}
use Rattle.link_script.specs.declared.script.Script.{Script}
use Rattle.rpc_journal.specs.Lawful.{IsLegal}
use Rattle.demo_services.specs.DemoRule.{demo_rule}
use Rattle.link_laws.specs.world.Setup.{quiet_rule, setup_of}
use Rattle.link_laws.specs.world.Sound.{NoFlips}
use Rattle.link_laws.specs.world.Turns.{Turned, Turns, TurnOf, kind_at_rest, next_kind}
use Rattle.link_laws.specs.world.World.{Setup, World, first_world, with_server}
use Rattle.link_laws.proofs.one_run.Parts.{client_keeps, ends_on, server_keeps}
use Rattle.link_laws.proofs.transfers_fit.OfScripts.{is_demo}
use Rattle.link_laws.proofs.transfers_fit.Sent.{runs_are_heard}
use Rattle.link_laws.specs.plain_calls.Commands.{HasGoneWell, IsLineOf, RunsOn}
use Rattle.link_laws.specs.plain_calls.Ended.{HasEnded}
use Rattle.link_laws.proofs.plain_calls.Commands.{well_before}
use Rattle.link_laws.proofs.plain_calls.Ending.{ends_are_quiet}
use Rattle.link_laws.proofs.plain_calls.EndsRest.{ends_rest}
use Rattle.link_laws.proofs.plain_calls.Spared.{get_seam}
use Rattle.link_laws.specs.lossless_scripts.Scripts.{IsOpenScript}
use Rattle.link_laws.proofs.lossless_scripts.Starting.{IsSetup}

-- so many turns, and then so many more
pub turns_join : (k : Setup) (n m : ℕ) (a b c : World) → Turns k n a b → Turns k m b c → (total : ℕ) × Turns k total a c
turns_join k zero m a b c first more = (m, subst (λ w. Turns k m w c) (sym first) more)
turns_join k (suc n) m a b c first more = (let rest = turns_join k n m first.0 b c first.2 more in (suc rest.0, (first.0, first.1, rest.1)))

-- A WORLD ON THE WAY, where none is under way and these are to come
pub record IsOnWay (k : Setup) (commands : List Command) (end : World) (cs : List Command) (w : World) : Type 0 where
  pub kind : next_kind w ≡ kind_at_rest None cs
  pub count : ℕ
  pub way : Turns k count (first_world commands) w
  pub run : RunsOn k w end

-- the command leads from this world to one between two commands, in which it ends so
pub record Leads (k : Setup) (Between : List Command → World → Type 0) (EndsSo : Command → World → World → ReportLine → Type 0) (command : Command) (rest : List Command) (w : World) : Type 0 where
  pub mid : World
  pub turns : ℕ
  pub goes : Turns k turns w mid
  pub told : ReportLine
  pub lines : mid.lines ≡ w.lines ++ told ∷ []
  pub is_of : IsLineOf command told
  pub ends : EndsSo command w mid told
  pub between : Between rest mid

module _ (k : Setup) (commands : List Command) (end : World) (Between : List Command → World → Type 0)
    (on_way : (cs : List Command) (w : World) → Between cs w → IsOnWay k commands end cs w) where
  -- none is left
  pub none_left : (w : World) → Between [] w → end ≡ w
  none_left w b = at s.run.count s.run.turns
    where
      s : IsOnWay k commands end [] w
      s = on_way [] w b

      at : (count : ℕ) → Turns k count w end → end ≡ w
      at zero same = sym same
      at (suc count) turns = absurd (subst (λ kind. TurnOf k w kind turns.0) s.kind turns.1.turn)

  module _ (EndsSo : Command → World → World → ReportLine → Type 0) where
    -- the command with this number has ended
    abbrev Ended : ℕ → Command → Type 0
    Ended number command = HasEnded k commands end number command (EndsSo command)

    -- all commands to come end, and these lines are told
    pub record AllEnd (cs : List Command) (w : World) : Type 0 where
      pub told : List ReportLine
      pub lines_are : end.lines ≡ w.lines ++ told
      pub ended : (i : ℕ) (command : Command) → slice_get cs i ≡ Some command → Ended (length w.lines + i) command

    -- the command ends, and then all others
    ends_then : (command : Command) (rest : List Command) (w : World) → Between (command ∷ rest) w → (p : Leads k Between EndsSo command rest w) → AllEnd rest p.mid → AllEnd (command ∷ rest) w
    ends_then command rest w b p later = record { told = p.told ∷ later.told; lines_are = lines; ended = at }
      where
        lines : end.lines ≡ w.lines ++ (p.told ∷ later.told)
        lines = later.lines_are ∙ (ap (λ ls. ls ++ later.told) p.lines ∙ append_assoc w.lines (p.told ∷ []) later.told)

        s : IsOnWay k commands end (command ∷ rest) w
        s = on_way (command ∷ rest) w b

        here : Ended (length w.lines) command
        here = record {
          start = w;
          end = p.mid;
          count = s.count;
          way = s.way;
          coming = rest;
          before = refl;
          starts = s.kind;
          turns = p.turns;
          goes = p.goes;
          over = (on_way rest p.mid p.between).kind;
          told = p.told;
          is_of = p.is_of;
          line_is = ap (λ ls. slice_get ls (length w.lines)) lines ∙ get_seam w.lines p.told later.told;
          ends = p.ends;
        }

        number : (i : ℕ) → length p.mid.lines + i ≡ length w.lines + suc i
        number i = omega (arith, ap length p.lines, length-append w.lines (p.told ∷ []))

        at : (i : ℕ) (other : Command) → slice_get (command ∷ rest) i ≡ Some other → Ended (length w.lines + i) other
        at zero other is = subst (Ended (length w.lines + zero)) (same command other is) (subst (λ n. Ended n command) (omega arith) here)
          where
            same : (a b : Command) → Some a ≡ Some b → a ≡ b
            same a b e = cc
        at (suc i) other is = subst (λ n. Ended n other) (number i) (later.ended i other is)

    -- ALL COMMANDS TO COME END
    pub all_end : ((command : Command) (rest : List Command) (w : World) → Between (command ∷ rest) w → Leads k Between EndsSo command rest w) → (cs : List Command) (w : World) → Between cs w → AllEnd cs w
    all_end leads [] w b = record {
      told = [];
      lines_are = ap (λ (v : World). v.lines) (none_left w b) ∙ sym (append-nil w.lines);
      ended = λ i command is. absurd cc;
    }
    all_end leads (command ∷ rest) w b =
        let p : Leads k Between EndsSo command rest w = leads command rest w b in
        ends_then command rest w b p (all_end leads rest p.mid p.between)

-- THE RUN OF A SCRIPT that damages no frame, and the world before its end
module _ (s : Script) (o : IsOpenScript s) (calm : NoFlips s.losses) (now : World) (run : Turned (setup_of s) s.commands now)
    (server : IsLegal demo_rule (setup_of s).server now.server) (client : IsLegal quiet_rule (setup_of s).client now.client) where
  abbrev k : Setup
  k = setup_of s

  pub script_setup : IsSetup k
  script_setup = record { demo = is_demo s o.script; window = o.window; chunk = o.chunk }

  well_before_end : HasGoneWell k run.before
  well_before_end =
      well_before k run.before now (ends_on k run.before now run.ends)
      (record { server = server.lawful; client = client.lawful; heard = runs_are_heard k s.commands now refl refl calm o.script.few run server client })

  -- the run leads there
  pub runs_to_end : RunsOn k (first_world s.commands) run.before
  runs_to_end = record { count = run.count; turns = run.turns; is_last = run.ends.is_last; well = well_before_end }

  -- nothing more is numbered, and no line is told
  pub same_numbered : now.numbered ≡ run.before.numbered
  same_numbered =
      ends_are_quiet k run.before now (ends_rest k s.commands run.count run.before calm run.turns well_before_end.server well_before_end.client) run.ends server.lawful client.lawful

  -- and no session is begun
  pub same_sessions : now.sessions ≡ run.before.sessions
  same_sessions =
      ap (λ (x : World). x.sessions) run.ends.is
      ∙ (client_keeps k (λ x. x.sessions) (λ x p. refl) (with_server k run.before run.ends.server) run.ends.client ∙ server_keeps k (λ x. x.sessions) (λ x p. refl) run.before run.ends.server)

  -- and no time passes
  pub same_times : now.times ≡ run.before.times
  same_times =
      ap (λ (x : World). x.times) run.ends.is
      ∙ (client_keeps k (λ x. x.times) (λ x p. refl) (with_server k run.before run.ends.server) run.ends.client ∙ server_keeps k (λ x. x.times) (λ x p. refl) run.before run.ends.server)

  same_lines : now.lines ≡ run.before.lines
  same_lines =
      ap (λ (x : World). x.lines) run.ends.is
      ∙ (client_keeps k (λ x. x.lines) (λ x p. refl) (with_server k run.before run.ends.server) run.ends.client ∙ server_keeps k (λ x. x.lines) (λ x p. refl) run.before run.ends.server)

  -- what has ended before the end of the run has ended in it
  pub ended_now : (number : ℕ) (command : Command) (EndsSo : World → World → ReportLine → Type 0) → HasEnded k s.commands run.before number command EndsSo → HasEnded k s.commands now number command EndsSo
  ended_now number command EndsSo e = record {
    start = e.start;
    end = e.end;
    count = e.count;
    way = e.way;
    coming = e.coming;
    before = e.before;
    starts = e.starts;
    turns = e.turns;
    goes = e.goes;
    over = e.over;
    told = e.told;
    is_of = e.is_of;
    line_is = ap (λ ls. slice_get ls number) same_lines ∙ e.line_is;
    ends = e.ends;
  }
