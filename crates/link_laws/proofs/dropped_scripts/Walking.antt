-- All commands of a script, one after another, over links that drop few frames.
use Rattle.std.proofs.Common.{◌≡◌, ℕ, zero, suc, ◌+◌, ◌*◌, ◌<◌, ◌≤◌, ◌^◌, false, List, [], ◌∷◌, length, slice_get, Option, Some, None, refl, ap, sym, ◌∙◌, subst, arith, length-append, append_assoc, ◌++◌}
use Rattle.std.specs.Prelude.{cond, count_by, is_some}
use Rattle.std.proofs.lemmas.List.Sums.{sum_by-cons}
use Rattle.std.proofs.lemmas.Bool.{and_left, true≢false}
use Rattle.std.specs.List.{AllByRecursion}
use Rattle.std.specs.BTreeMap.{is_at}
use Rattle.std.specs.Ordering.{nat_cmp}
use Rattle.link_io.specs.Resources.{first_of, found}
use Rattle.link_script.specs.declared.command.Command.{Command}
use Rattle.link_script.specs.declared.command.Command.TheVariants.{Read as ReadIt, Write as WriteIt, Echo, Count, Sum, Chat, Close}
use Rattle.link_script.specs.declared.loss.Loss.{Loss}
use Rattle.link_script.specs.declared.report.ReportLine.{ReportLine}
use Rattle.link_script.specs.declared.script.Script.{Script}
use Rattle.link_script.specs.Script.{IsCommand}
use Rattle.link_script.specs.lossy.Link.{loss_of}
use Rattle.rpc_packet.specs.declared.owned.Packet.{Packet}
use Rattle.transfer_base.specs.declared.limits.TheConstants.{MAX_RESOURCE}
use Rattle.transfer_laws.specs.losses.Rounds.{LOSSY_ROUNDS}
use Rattle.transfer_chunk.specs.Reading.{chunk_of}
use Rattle.transfer_resume.specs.declared.side.Side.{Side}
use Rattle.transfer_resume.specs.declared.side.Side.TheVariants.{Read, Write}
use Rattle.history_laws.proofs.messages.Members.{all_join, all_weaken}
use Rattle.rpc_journal.specs.Lawful.{IsLegal}
use Rattle.demo_services.specs.DemoRule.{demo_rule}
use Rattle.rpc_journal.proofs.PlaceLemmas.{some_same}
use Rattle.link_laws.proofs.plain_calls.Spared.{get_seam}
use Rattle.link_laws.proofs.dropped_scripts.Lines.{TellsMore, turns_tell_more}
use Rattle.link_laws.proofs.dropped_transfer.InTime.{reads_end_over_drops, writes_end_over_drops}
use Rattle.link_laws.specs.world.Reports.{carries_chunk}
use Rattle.link_laws.specs.world.Setup.{setup_of, quiet_rule}
use Rattle.link_laws.specs.world.Sound.{NoFlips}
use Rattle.link_laws.specs.world.Starts.{starts}
use Rattle.link_laws.specs.world.Turns.{Turns, Turned, kind_at_rest, next_kind}
use Rattle.link_laws.specs.world.World.{Setup, World, client_store, first_world}
use Rattle.link_laws.proofs.one_run.Ways.{turns_go_on}
use Rattle.link_laws.specs.transfers_fit.Fits.{BeginsSmall, IsSmall}
use Rattle.link_laws.proofs.transfers_fit.Fitting.{stores_stay_small}
use Rattle.link_laws.proofs.transfers_fit.OfScripts.{begins_small}
use Rattle.link_laws.proofs.transfers_fit.Stores.{look_up}
use Rattle.link_laws.specs.plain_calls.Between.{IsClean, asks_for}
use Rattle.link_laws.specs.plain_calls.Commands.{IsPlain, PassesOn, PassesQuietly, RunsOn, SparesOthers}
use Rattle.link_laws.specs.plain_calls.Ended.{EndsOkay, EndsSoon, HasEnded}
use Rattle.link_laws.proofs.plain_calls.Commands.{lacking_writes_pass, next_by, plain_commands_pass, well_before}
use Rattle.link_laws.specs.lossless_transfer.Chunks.{is_chunk_of, names_session}
use Rattle.link_laws.specs.dropped_transfer.Dropped.{DropsChunks, is_dropped, lost_among}
use Rattle.link_laws.specs.dropped_transfer.Rounds.{AreSpared, IsSpared, by_number, by_round, AreSparedBefore}
use Rattle.link_laws.proofs.dropped_transfer.Links.{undamaged}
use Rattle.link_laws.proofs.dropped_transfer.Numbers.{lost_few}
use Rattle.link_laws.proofs.dropped_transfer.Survive.{reads_survive_drops, refusals_survive_drops, writes_survive_drops}
use Rattle.link_laws.specs.lossless_scripts.Scripts.{LeavesOpen, BeginsFewWrites, IsOpenScript}
use Rattle.link_laws.proofs.lossless_scripts.Begun.{due, none_coming, read_begins, start_counts, turns_due, write_begins}
use Rattle.link_laws.proofs.lossless_scripts.Finishing.{one_more}
use Rattle.link_laws.proofs.lossless_scripts.Starting.{IsSetup}
use Rattle.link_laws.proofs.lossless_scripts.Walk.{IsOnWay, Leads, ended_now, none_left, runs_to_end, same_numbered, same_sessions, same_times, script_setup, turns_join}
use Rattle.link_laws.proofs.lossless_scripts.Walking.{first_is_clean, server_sizes}
use Rattle.link_laws.specs.dropped_scripts.Losses.{FewLossesSpareEach, LossyRunsEndInTime, LossyRunsEndWell, EndsInTime, HasEndedInRun, NextEndsInTime}
use Rattle.link_laws.proofs.dropped_scripts.Passing.{CommandPasses, IsBetween, read_passes, write_passes, read_in_time, write_in_time}
use Rattle.link_laws.proofs.dropped_scripts.Starting.{FitsLater, NoneLater}

-- the links do nothing to a frame without a chunk
spares_others : (k : Setup) (end : World) → DropsChunks k end → SparesOthers k end
spares_others k end drops n p there quiet = at (loss_of (suc n) k.losses) refl
  where
    at : (o : Option Loss) → loss_of (suc n) k.losses ≡ o → loss_of (suc n) k.losses ≡ None
    at None is = is
    at (Some loss) is = absurd (true≢false (sym (drops.chunks n p there (ap is_some is)) ∙ quiet))

module _ (k : Setup) (setup : IsSetup k) (commands : List Command) (small : BeginsSmall k) (each : AllByRecursion IsCommand commands)
    (sizes : (resource : ℕ) (bytes : List ℕ) → first_of resource k.server_store.full ≡ Some bytes → length bytes ≤ MAX_RESOURCE) (short : length commands < 2 ^ 32) (end : World) (drops : DropsChunks k end) where
  calm : NoFlips k.losses
  calm = undamaged k.losses drops.drops

  -- a world on the way, between two commands, where these are to come
  record Stands (cs : List Command) (w : World) : Type 0 where
    begun : Side → ℕ
    clean : IsClean k (FitsLater k w.sessions w.times begun) w
    coming : w.coming ≡ cs
    count : ℕ
    way : Turns k count (first_world commands) w
    run : RunsOn k w end
    fit : AllByRecursion IsCommand cs
    leave_open : AllByRecursion LeavesOpen cs
    reads : begun Read + count_by (asks_for Read) cs ≤ 256
    writes : begun Write + end.sessions ≤ w.sessions + count_by (asks_for Read) cs + 256
    sessions : w.sessions + length cs < 2 ^ 32
    times : w.times + LOSSY_ROUNDS * length cs ≤ LOSSY_ROUNDS * length commands
    none_later : NoneLater w.sessions w.numbered

  -- no call has had more sessions than it may
  most : (cs : List Command) (w : World) → (s : Stands cs w) → (side : Side) → s.begun side ≤ 256
  most cs w s Read = (let reads = s.reads in omega (arith, reads))
  most cs w s Write =
      let writes = s.writes in
      let coming : due w ≡ w.sessions + count_by (asks_for Read) cs = ap (λ l. w.sessions + count_by (asks_for Read) l) s.coming in
      let none : due end ≡ end.sessions + 0 = ap (λ l. end.sessions + count_by (asks_for Read) l) (none_coming end s.run.is_last) in
      omega (arith, writes, coming, none, turns_due k s.run.count w end s.run.turns)

  between : (side : Side) (command : Command) (rest : List Command) (w : World) → (s : Stands (command ∷ rest) w) → s.begun side < 256 → one_more side s.begun Read + count_by (asks_for Read) rest ≤ 256
      → one_more side s.begun Write + end.sessions ≤ w.sessions + 1 + count_by (asks_for Read) rest + 256 → IsBetween k w end s.begun side command rest
  between side command rest w s room reads writes = record {
    clean = s.clean;
    coming = s.coming;
    run = s.run;
    good = well_before k w end (turns_go_on k calm s.run.count w end s.run.turns) s.run.well;
    drops = drops;
    sessions = (let sessions = s.sessions in omega (arith, sessions));
    early = (let times = s.times in omega (arith, times, short));
    none_later = s.none_later;
    most = most (command ∷ rest) w s;
    room = room;
    reads = reads;
    writes = writes;
  }

  -- where no transfer was asked for
  plain : (w : World) (command : Command) (rest : List Command) → (s : Stands (command ∷ rest) w) → count_by (asks_for Read) (command ∷ rest) ≡ count_by (asks_for Read) rest
      → PassesQuietly k (FitsLater k w.sessions w.times s.begun) w end w.sessions command rest → ((told : ReportLine) → EndsOkay k w command told) → CommandPasses k w end command rest
  plain w command rest s no_read p ends =
      let m : PassesOn k (FitsLater k w.sessions w.times s.begun) w end w.sessions command rest = p.passes in
      record {
        sessions = w.sessions;
        times = w.times;
        begun = s.begun;
        passes = m;
        times_are = p.times_are;
        soon = omega arith;
        few = omega arith;
        none_later =
            subst (NoneLater w.sessions) (sym m.numbered)
            (all_join (λ (q : Packet). (later : ℕ) → w.sessions < later → is_chunk_of later q ≡ false) w.numbered m.said s.none_later
            (all_weaken (λ (q : Packet). carries_chunk q ≡ false) (λ (q : Packet). (later : ℕ) → w.sessions < later → is_chunk_of later q ≡ false) m.said
            (λ q quiet later high. and_left (carries_chunk q) (names_session later (chunk_of q.payload)) quiet) p.quiet));
        ends = ends m.told;
        reads = (let reads = s.reads in omega (arith, reads, no_read));
        writes = (let writes = s.writes in omega (arith, writes, no_read));
      }

  plainly : (w : World) (command : Command) (rest : List Command) → Stands (command ∷ rest) w → IsPlain command → count_by (asks_for Read) (command ∷ rest) ≡ count_by (asks_for Read) rest → ((told : ReportLine) → EndsOkay k w command told)
      → CommandPasses k w end command rest
  plainly w command rest s is no_read ends =
      plain w command rest s no_read
      (plain_commands_pass k (FitsLater k w.sessions w.times s.begun) w end command rest calm (spares_others k end drops) setup.demo.client is s.clean s.coming s.run) ends

  -- the session that a command begins is spared
  abbrev Spares : World → Command → Type 0
  Spares w command = (starts k w command).sessions ≡ w.sessions + 1 → IsSpared k (w.sessions + 1) w end

  between_read : (resource offset : ℕ) (rest : List Command) (w : World) → (s : Stands (ReadIt resource offset ∷ rest) w) → IsBetween k w end s.begun Read (ReadIt resource offset) rest
  between_read resource offset rest w s =
      between Read (ReadIt resource offset) rest w s (let reads = s.reads in omega (arith, reads, one_read)) (let reads = s.reads in omega (arith, reads, one_read)) (let writes = s.writes in omega (arith, writes, one_read))
    where
      one_read : count_by (asks_for Read) (ReadIt resource offset ∷ rest) ≡ 1 + count_by (asks_for Read) rest
      one_read = sum_by-cons (λ c. cond (asks_for Read c) 1 0) (ReadIt resource offset) rest

  between_write : (resource offset : ℕ) (rest : List Command) (w : World) → (s : Stands (WriteIt resource offset ∷ rest) w) → (bytes : List ℕ) → found resource (client_store k w).full ≡ Some bytes
      → IsBetween k w end s.begun Write (WriteIt resource offset) rest
  between_write resource offset rest w s bytes has =
      between Write (WriteIt resource offset) rest w s (let writes = s.writes in omega (arith, writes, no_read, one_write)) (let reads = s.reads in omega (arith, reads, no_read)) (let writes = s.writes in omega (arith, writes, no_read))
    where
      no_read : count_by (asks_for Read) (WriteIt resource offset ∷ rest) ≡ count_by (asks_for Read) rest
      no_read = refl

      -- the run has begun its session, and those of the reads to come, when it ends
      one_write : w.sessions + 1 + count_by (asks_for Read) rest ≤ end.sessions
      one_write =
          omega (
            arith,
            write_begins k w resource offset bytes has,
            start_counts k s.run.count w end (WriteIt resource offset) rest s.run.turns s.run.is_last (next_by k (FitsLater k w.sessions w.times s.begun) w (WriteIt resource offset ∷ rest) s.clean s.coming),
          )

  -- what the client has is small
  written_small : (cs : List Command) (w : World) → Stands cs w → (resource : ℕ) (bytes : List ℕ) → found resource (client_store k w).full ≡ Some bytes → length bytes ≤ MAX_RESOURCE
  written_small cs w s resource bytes has =
      let in_store : IsSmall (client_store k w) = stores_stay_small k commands s.count w small each s.way in
      (look_up (λ e. length e.1 ≤ MAX_RESOURCE) (is_at (nat_cmp resource)) (client_store k w).full bytes has in_store.full).holds

  passes : (command : Command) (rest : List Command) (w : World) → Stands (command ∷ rest) w → Spares w command → CommandPasses k w end command rest
  passes (ReadIt resource offset) rest w s spares =
      read_passes reads_survive_drops refusals_survive_drops k setup w end rest s.begun resource offset (between_read resource offset rest w s) (spares (read_begins k w resource offset)) s.fit.0.0 s.fit.0.1 (sizes resource)
  passes (WriteIt resource offset) rest w s spares = by_bytes (found resource (client_store k w).full) refl
    where
      by_bytes : (o : Option (List ℕ)) → found resource (client_store k w).full ≡ o → CommandPasses k w end (WriteIt resource offset) rest
      by_bytes None none =
          plain w (WriteIt resource offset) rest s refl
          (lacking_writes_pass k (FitsLater k w.sessions w.times s.begun) w end resource offset rest calm (spares_others k end drops) none s.clean s.coming s.run)
          (λ told bytes has. (let never : None ≡ Some bytes = sym none ∙ has in cc never))
      by_bytes (Some bytes) has =
          write_passes writes_survive_drops k setup w end rest s.begun resource offset (between_write resource offset rest w s bytes has) (spares (write_begins k w resource offset bytes has)) bytes has s.fit.0.0
          (written_small (WriteIt resource offset ∷ rest) w s resource bytes has)
  passes (Echo bytes) rest w s spares = plainly w (Echo bytes) rest s tt refl (λ told. tt)
  passes (Count n) rest w s spares = plainly w (Count n) rest s tt refl (λ told. tt)
  passes (Sum bytes) rest w s spares = plainly w (Sum bytes) rest s tt refl (λ told. tt)
  passes (Chat bytes) rest w s spares = plainly w (Chat bytes) rest s tt refl (λ told. tt)
  passes (Close channel) rest w s spares = absurd s.leave_open.0

  -- A COMMAND ENDS IN TIME, spared or not
  in_time : (command : Command) (rest : List Command) (w : World) → Stands (command ∷ rest) w → EndsInTime k w command
  in_time (ReadIt resource offset) rest w s = read_in_time reads_survive_drops refusals_survive_drops k setup w end rest s.begun resource offset (between_read resource offset rest w s) reads_end_over_drops s.fit.0.0 (sizes resource)
  in_time (WriteIt resource offset) rest w s = λ bytes has.
      write_in_time writes_survive_drops k setup w end rest s.begun resource offset (between_write resource offset rest w s bytes has) writes_end_over_drops s.fit.0.0 (written_small (WriteIt resource offset ∷ rest) w s resource) bytes has
  in_time (Echo bytes) rest w s = tt
  in_time (Count n) rest w s = tt
  in_time (Sum bytes) rest w s = tt
  in_time (Chat bytes) rest w s = tt
  in_time (Close channel) rest w s = tt

  on_way : (cs : List Command) (w : World) → Stands cs w → IsOnWay k commands end cs w
  on_way cs w s = record { kind = next_by k (FitsLater k w.sessions w.times s.begun) w cs s.clean s.coming; count = s.count; way = s.way; run = s.run }

  -- what a command comes to
  abbrev EndsSo : Command → World → World → ReportLine → Type 0
  EndsSo command start mid told = EndsSoon k start mid command told

  leads : (command : Command) (rest : List Command) (w : World) → Stands (command ∷ rest) w → Spares w command → Leads k Stands EndsSo command rest w
  leads command rest w s spares =
      let p : CommandPasses k w end command rest = passes command rest w s spares in
      let joined = turns_join k s.count p.passes.count (first_world commands) w p.passes.mid s.way p.passes.way in
      record {
        mid = p.passes.mid;
        turns = p.passes.count;
        goes = p.passes.way;
        told = p.passes.told;
        lines = p.passes.lines;
        is_of = p.passes.is_of;
        ends = record { okay = p.ends; soon = (let soon = p.soon in let same = p.times_are in omega (arith, soon, same)) };
        between = record {
          begun = p.begun;
          clean =
              subst (λ n. IsClean k (FitsLater k n p.passes.mid.times p.begun) p.passes.mid) (sym p.passes.sessions_are)
              (subst (λ n. IsClean k (FitsLater k p.sessions n p.begun) p.passes.mid) (sym p.times_are) p.passes.clean);
          coming = p.passes.coming;
          count = joined.0;
          way = joined.1;
          run = p.passes.more;
          fit = s.fit.1;
          leave_open = s.leave_open.1;
          reads = p.reads;
          writes = (let writes = p.writes in let same = p.passes.sessions_are in omega (arith, writes, same));
          sessions = (let sessions = s.sessions in let few = p.few in let same = p.passes.sessions_are in omega (arith, sessions, few, same));
          times = (let times = s.times in let soon = p.soon in let same = p.times_are in omega (arith, times, soon, same));
          none_later = subst (λ n. NoneLater n p.passes.mid.numbered) (sym p.passes.sessions_are) p.none_later;
        };
      }

  kind_of : (cs : List Command) (w : World) → Stands cs w → next_kind w ≡ kind_at_rest None cs
  kind_of cs w s = (on_way cs w s).kind

  -- WHERE ALL ARE SPARED
  module _ (spared : AreSpared k commands end) where
    leads_all : (command : Command) (rest : List Command) (w : World) → Stands (command ∷ rest) w → Leads k Stands EndsSo command rest w
    leads_all command rest w s = leads command rest w s (spared s.count w command rest s.way (kind_of (command ∷ rest) w s))

    -- so long does it take
    ends_by : (cs : List Command) (w : World) → Stands cs w → end.times ≤ LOSSY_ROUNDS * length commands
    ends_by [] w s = (let times = s.times in omega (arith, times, ap (λ (v : World). v.times) (none_left k commands end Stands on_way w s)))
    ends_by (command ∷ rest) w s = (let p : Leads k Stands EndsSo command rest w = leads_all command rest w s in ends_by rest p.mid p.between)

  -- THE RUN COMES TO THE COMMAND BEHIND THOSE THAT ARE SPARED
  record ComesTo (number : ℕ) (command : Command) : Type 0 where
    rest : List Command
    at : World
    stands : Stands (command ∷ rest) at
    before : length at.lines ≡ number

  comes_to : (i : ℕ) (cs : List Command) (w : World) → Stands cs w → (number : ℕ) (command : Command) → length w.lines + i ≡ number → AreSparedBefore number k commands end → slice_get cs i ≡ Some command → ComesTo number command
  comes_to i [] w s number command is spared there = absurd cc
  comes_to zero (c ∷ rest) w s number command is spared there =
      record { rest = rest; at = w; stands = subst (λ d. Stands (d ∷ rest) w) (some_same c command there) s; before = omega (arith, is) }
  comes_to (suc i) (c ∷ rest) w s number command is spared there =
      let p : Leads k Stands EndsSo c rest w =
      leads c rest w s (λ begins. spared s.count w c rest s.way (kind_of (c ∷ rest) w s) begins (omega (arith, is))) in
      comes_to i rest p.mid p.between number command (omega (arith, is, ap length p.lines, length-append w.lines (p.told ∷ []))) spared there

  -- it ends in time,
  ends_there : (number : ℕ) (command : Command) → ComesTo number command → HasEndedInRun k commands number command
  ends_there number command c = record {
    start = c.at;
    count = c.stands.count;
    way = c.stands.way;
    coming = c.rest;
    before = c.before;
    starts = kind_of (command ∷ c.rest) c.at c.stands;
    ends = in_time command c.rest c.at c.stands;
  }

  -- and well where it is spared too
  ends_well_there : (number : ℕ) (command : Command) → ComesTo number command → AreSparedBefore (suc number) k commands end → HasEnded k commands end number command (λ start mid told. EndsSoon k start mid command told)
  ends_well_there number command c spared =
      let s : Stands (command ∷ c.rest) c.at = c.stands in
      let kind : next_kind c.at ≡ kind_at_rest None (command ∷ c.rest) = kind_of (command ∷ c.rest) c.at s in
      let p : Leads k Stands EndsSo command c.rest c.at = leads command c.rest c.at s (λ begins. spared s.count c.at command c.rest s.way kind begins (omega (arith, c.before))) in
      let more : TellsMore p.mid end = turns_tell_more k p.between.run.count p.mid end p.between.run.turns in
      record {
        start = c.at;
        end = p.mid;
        count = s.count;
        way = s.way;
        coming = c.rest;
        before = c.before;
        starts = kind;
        turns = p.turns;
        goes = p.goes;
        over = kind_of c.rest p.mid p.between;
        told = p.told;
        is_of = p.is_of;
        line_is =
            subst (λ n. slice_get end.lines n ≡ Some p.told) c.before
            (ap (λ ls. slice_get ls (length c.at.lines)) (more.1 ∙ (ap (λ ls. ls ++ more.0) p.lines ∙ append_assoc c.at.lines (p.told ∷ []) more.0)) ∙ get_seam c.at.lines p.told more.0);
        ends = p.ends;
      }

-- what is dropped is so in each world with these packets
spared_same : (k : Setup) (session : ℕ) (start a b : World) → a.numbered ≡ b.numbered → IsSpared k session start a → IsSpared k session start b
spared_same k session start a b same (by_round c) = by_round (record { number = c.number; early = c.early; clean = λ place p at. c.clean place p (ap (λ ps. slice_get ps place) same ∙ at) })
spared_same k session start a b same (by_number few) = by_number (subst (λ ps. length (lost_among (is_chunk_of session) (is_dropped k) 0 0 ps) ≤ LOSSY_ROUNDS) same few)

-- THE RUN OF SUCH A SCRIPT
module _ (s : Script) (o : IsOpenScript s) (now : World) (drops : DropsChunks (setup_of s) now) (run : Turned (setup_of s) s.commands now) (few : BeginsFewWrites s.commands now)
    (server : IsLegal demo_rule (setup_of s).server now.server) (client : IsLegal quiet_rule (setup_of s).client now.client) where
  abbrev script : Setup
  script = setup_of s

  no_flips : NoFlips s.losses
  no_flips = undamaged s.losses drops.drops

  quiet : now.numbered ≡ run.before.numbered
  quiet = same_numbered s o no_flips now run server client

  drops_before : DropsChunks script run.before
  drops_before = record {
    drops = drops.drops;
    chunks = λ n p at. drops.chunks n p (ap (λ ps. slice_get ps n) quiet ∙ at);
    spares = λ n p at. drops.spares n p (ap (λ ps. slice_get ps n) quiet ∙ at);
  }

  setup : IsSetup script
  setup = script_setup s o no_flips now run server client

  abbrev StandsIn : List Command → World → Type 0
  StandsIn = Stands script setup s.commands (begins_small s o.script) o.script.commands (server_sizes s o) o.script.few run.before drops_before

  first_stands : StandsIn s.commands (first_world s.commands)
  first_stands = record {
    begun = λ side. 0;
    clean = first_is_clean script setup s.commands (FitsLater script 0 0 (λ side. 0));
    coming = refl;
    count = zero;
    way = refl;
    run = runs_to_end s o no_flips now run server client;
    fit = o.script.commands;
    leave_open = o.closes_none;
    reads = (let few_reads = o.few_reads in omega (arith, few_reads));
    writes = (let same = same_sessions s o no_flips now run server client in omega (arith, few, same));
    sessions = (let short = o.script.few in omega (arith, short));
    times = omega arith;
    none_later = tt;
  }

  -- so it is before the end of the run
  spared_until : (number : ℕ) → AreSparedBefore number script s.commands now → AreSparedBefore number script s.commands run.before
  spared_until number spared count start c rest way kind begins before = spared_same script (start.sessions + 1) start now run.before quiet (spared count start c rest way kind begins before)

  abbrev Comes : ℕ → Command → Type 0
  Comes number command = ComesTo script setup s.commands (begins_small s o.script) o.script.commands (server_sizes s o) o.script.few run.before drops_before number command

  comes_there : (number : ℕ) (command : Command) → AreSparedBefore number script s.commands now → slice_get s.commands number ≡ Some command → Comes number command
  comes_there number command spared there =
      comes_to script setup s.commands (begins_small s o.script) o.script.commands (server_sizes s o) o.script.few run.before drops_before number s.commands (first_world s.commands) first_stands number command (omega arith)
      (spared_until number spared) there

  next_ends : (number : ℕ) (command : Command) → AreSparedBefore number script s.commands now → slice_get s.commands number ≡ Some command → HasEndedInRun script s.commands number command
  next_ends number command spared there =
      ends_there script setup s.commands (begins_small s o.script) o.script.commands (server_sizes s o) o.script.few run.before drops_before number command (comes_there number command spared there)

  each_ends : (number : ℕ) (command : Command) → AreSparedBefore (suc number) script s.commands now → slice_get s.commands number ≡ Some command
      → HasEnded script s.commands now number command (λ start mid told. EndsSoon script start mid command told)
  each_ends number command spared there =
      ended_now s o no_flips now run server client number command (λ start mid told. EndsSoon script start mid command told)
      (ends_well_there script setup s.commands (begins_small s o.script) o.script.commands (server_sizes s o) o.script.few run.before drops_before number command
      (comes_there number command (λ count start c rest way kind begins before. spared count start c rest way kind begins (omega (arith, before))) there) (spared_until (suc number) spared))

  module _ (spared : AreSpared script s.commands now) where
    spared_before : AreSpared script s.commands run.before
    spared_before count start c rest way kind begins = spared_same script (start.sessions + 1) start now run.before quiet (spared count start c rest way kind begins)

    ends_in_time : now.times ≤ LOSSY_ROUNDS * length s.commands
    ends_in_time =
        omega (
          arith,
          same_times s o no_flips now run server client,
          ends_by script setup s.commands (begins_small s o.script) o.script.commands (server_sizes s o) o.script.few run.before drops_before spared_before s.commands (first_world s.commands) first_stands,
        )

pub lossy_runs_end_well : LossyRunsEndWell
lossy_runs_end_well s now number command o drops spared run few server client there = each_ends s o now drops run few server client number command spared there

pub lossy_runs_end_in_time : LossyRunsEndInTime
lossy_runs_end_in_time s now o drops spared run few server client = ends_in_time s o now drops run few server client spared

pub next_ends_in_time : NextEndsInTime
next_ends_in_time s now number command o drops spared run few server client there = next_ends s o now drops run few server client number command spared there

pub few_losses_spare_each : FewLossesSpareEach
few_losses_spare_each k commands now few count start command rest way kind begins = by_number (omega (arith, lost_few k (start.sessions + 1) now, few))
