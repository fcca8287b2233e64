-- All commands of a script, one after another.
use Rattle.std.proofs.Common.{◌≡◌, ℕ, zero, suc, ◌+◌, ◌<◌, ◌≤◌, ◌^◌, ◌==◌, List, [], ◌∷◌, ◌++◌, length, slice_get, Option, Some, None, refl, ap, sym, ◌∙◌, subst, inl, arith, append_assoc}
use Rattle.std.specs.Prelude.{cond, count_by}
use Rattle.std.proofs.lemmas.List.Sums.{sum_by-append, sum_by-cons}
use Rattle.std.proofs.lemmas.Bool.{and_left}
use Rattle.std.proofs.Common.{◌≢◌, ◌&&◌, ◌⊎◌, Bool, true, false, inr}
use Rattle.rpc_packet.specs.declared.owned.Packet.{Packet}
use Rattle.history_laws.proofs.messages.Members.{all_join, all_weaken}
use Rattle.transfer_chunk.specs.Reading.{chunk_of}
use Rattle.link_laws.specs.world.Reports.{carries_chunk}
use Rattle.std.proofs.lemmas.List.{append-nil}
use Rattle.std.specs.List.{AllByRecursion}
use Rattle.std.specs.BTreeMap.{is_at}
use Rattle.std.specs.Ordering.{nat_cmp}
use Rattle.hdlc_frame.specs.Segments.{open_text, texts_behind_flags}
use Rattle.link_io.specs.Resources.{first_of, found}
use Rattle.link_script.specs.declared.command.Command.{Command}
use Rattle.link_script.specs.declared.command.Command.TheVariants.{Read as ReadIt, Write as WriteIt, Echo, Count, Sum, Chat, Close}
use Rattle.link_script.specs.declared.report.ReportLine.{ReportLine}
use Rattle.link_script.specs.declared.script.Script.{Script}
use Rattle.link_script.specs.Script.{IsCommand}
use Rattle.link_script.specs.lossy.Link.{loss_of}
use Rattle.rpc_journal.specs.declared.setting.Setting.{Setting}
use Rattle.rpc_channel.specs.Rising.{has_id}
use Rattle.rpc_journal.specs.Rows.{channels_in}
use Rattle.transfer_base.specs.declared.limits.TheConstants.{MAX_RESOURCE}
use Rattle.transfer_resume.specs.declared.side.Side.{Side}
use Rattle.transfer_resume.specs.declared.side.Side.TheVariants.{Read, Write}
use Rattle.transfer_resume.specs.Book.{Book}
use Rattle.link_laws.specs.world.Sound.{NoFlips}
use Rattle.link_laws.specs.world.Turns.{Turns}
use Rattle.link_laws.specs.world.World.{Setup, World, client_store, first_world}
use Rattle.link_laws.proofs.one_run.Ways.{turns_go_on}
use Rattle.link_laws.specs.transfers_fit.Fits.{AreSmall, BeginsSmall, IsSmall}
use Rattle.link_laws.proofs.transfers_fit.Fitting.{stores_stay_small}
use Rattle.link_laws.proofs.transfers_fit.OfScripts.{begins_small, made_small, put_in}
use Rattle.link_laws.proofs.transfers_fit.Stores.{look_up}
use Rattle.link_laws.specs.world.Setup.{made_resources, setup_of}
use Rattle.link_laws.specs.plain_calls.Between.{IsClean, asks_for}
use Rattle.link_laws.specs.plain_calls.Commands.{HasGoneWell, PassesOn, PassesQuietly, IsPlain, RunsOn, SparesOthers}
use Rattle.link_laws.specs.plain_calls.Ended.{HasEnded}
use Rattle.link_laws.proofs.plain_calls.EndsRest.{nothing_yet}
use Rattle.link_laws.proofs.plain_calls.Commands.{lacking_writes_pass, next_by, plain_commands_pass, well_before}
use Rattle.link_laws.specs.lossless_transfer.Chunks.{is_chunk_of, names_session}
use Rattle.link_laws.specs.lossless_scripts.Lossless.{EndsAs, LosslessRunsEndWell, chunks_of}
use Rattle.link_laws.specs.lossless_scripts.Scripts.{IsOpenScript, LeavesOpen}
use Rattle.link_laws.proofs.lossless_scripts.Begun.{start_counts, write_begins}
use Rattle.link_laws.proofs.lossless_scripts.Passing.{TransferPasses, read_passes, write_passes}
use Rattle.link_laws.proofs.lossless_scripts.Starting.{FitsStill, IsSetup}
use Rattle.link_laws.proofs.lossless_scripts.Walk.{IsOnWay, Leads, all_end, ended_now, none_left, runs_to_end, same_numbered, same_sessions, script_setup, turns_join}

-- HOW MANY PASS A TEST
module _ {A : Type 0} (test : A → Bool) where
  pub none_counted : (xs : List A) → AllByRecursion (λ x. test x ≡ false) xs → count_by test xs ≡ 0
  none_counted [] all = refl
  none_counted (x ∷ xs) all =
      sum_by-cons (λ y. cond (test y) 1 0) x xs ∙ (ap (λ b. cond b 1 0 + count_by test xs) all.0 ∙ omega (arith, none_counted xs all.1))

  count_joined : (xs ys : List A) → count_by test (xs ++ ys) ≡ count_by test xs + count_by test ys
  count_joined xs ys = sum_by-append (λ y. cond (test y) 1 0) xs ys

  -- those that pass a second test too are no more
  both_counted : (more : A → Bool) (xs : List A) → count_by (λ x. test x && more x) xs ≤ count_by test xs
  both_counted more [] = omega arith
  both_counted more (x ∷ xs) = omega (arith, sum_by-cons (λ y. cond (test y && more y) 1 0) x xs, sum_by-cons (λ y. cond (test y) 1 0) x xs, one (test x) (more x), both_counted more xs)
    where
      one : (a b : Bool) → cond (a && b) 1 0 ≤ cond a 1 0
      one true true = omega arith
      one true false = omega arith
      one false b = omega arith

module _ (k : Setup) (setup : IsSetup k) (losses : k.losses ≡ []) (commands : List Command) (small : BeginsSmall k) (each : AllByRecursion IsCommand commands)
    (sizes : (resource : ℕ) (bytes : List ℕ) → first_of resource k.server_store.full ≡ Some bytes → length bytes ≤ MAX_RESOURCE) (end : World) where
  undamaged : NoFlips k.losses
  undamaged = subst NoFlips (sym losses) tt

  spares : SparesOthers k end
  spares n p there quiet = ap (loss_of (suc n)) losses

  -- the command passes, and ends so; the transfers still to come have room
  record CommandPasses (w : World) (command : Command) (rest : List Command) : Type 0 where
    begun : Side → ℕ
    sessions : ℕ
    passes : PassesOn k (FitsStill k sessions begun) w end sessions command rest
    few : sessions ≤ w.sessions + 1
    none_lost : w.sessions ≤ sessions
    -- where a session was begun, it has these chunks at most
    ends : (chunks : ℕ) → (sessions ≡ w.sessions + 1 → chunks ≤ count_by carries_chunk passes.said) → EndsAs k w command passes.told chunks
    own : AllByRecursion (λ p. (session : ℕ) → (session ≤ w.sessions) ⊎ (sessions < session) → is_chunk_of session p ≡ false) passes.said
    timeless : passes.mid.times ≡ 0
    reads : begun Read + count_by (asks_for Read) rest ≤ 256
    writes : begun Write + end.sessions ≤ sessions + count_by (asks_for Read) rest + 256

  -- a world on the way, between two commands
  record Stands (cs : List Command) (w : World) : Type 0 where
    begun : Side → ℕ
    clean : IsClean k (FitsStill k w.sessions begun) w
    timeless : w.times ≡ 0
    coming : w.coming ≡ cs
    count : ℕ
    way : Turns k count (first_world commands) w
    run : RunsOn k w end
    fit : AllByRecursion IsCommand cs
    leave_open : AllByRecursion LeavesOpen cs
    reads : begun Read + count_by (asks_for Read) cs ≤ 256
    writes : begun Write + end.sessions ≤ w.sessions + count_by (asks_for Read) cs + 256
    sessions : w.sessions + length cs < 2 ^ 32
    before : AllByRecursion (λ p. (session : ℕ) → w.sessions < session → is_chunk_of session p ≡ false) w.numbered

  good : (cs : List Command) (w : World) → Stands cs w → HasGoneWell k w
  good cs w s = well_before k w end (turns_go_on k undamaged s.run.count w end s.run.turns) s.run.well

  plain : (w : World) (command : Command) (rest : List Command) (begun : Side → ℕ) → w.times ≡ 0 → PassesQuietly k (FitsStill k w.sessions begun) w end w.sessions command rest → ((told : ReportLine) (chunks : ℕ) → EndsAs k w command told chunks)
      → begun Read + count_by (asks_for Read) rest ≤ 256 → begun Write + end.sessions ≤ w.sessions + count_by (asks_for Read) rest + 256 → CommandPasses w command rest
  plain w command rest begun timeless p ends reads writes = record {
    begun = begun;
    sessions = w.sessions;
    passes = p.passes;
    few = omega arith;
    none_lost = omega arith;
    ends = λ chunks few. ends p.passes.told chunks;
    own = all_weaken (λ (q : Packet). carries_chunk q ≡ false) (λ (q : Packet). (session : ℕ) → (session ≤ w.sessions) ⊎ (w.sessions < session) → is_chunk_of session q ≡ false) p.passes.said
        (λ q quiet session other. and_left (carries_chunk q) (names_session session (chunk_of q.payload)) quiet) p.quiet;
    timeless = p.times_are ∙ timeless;
    reads = reads;
    writes = writes;
  }

  -- fewer chunks do as well
  fewer : (w : World) (command : Command) (told : ReportLine) (most chunks : ℕ) → chunks ≤ most → EndsAs k w command told most → EndsAs k w command told chunks
  fewer w (ReadIt resource offset) told most chunks few ends = record { okay = ends.okay; few = λ bytes has within. omega (arith, few, ends.few bytes has within) }
  fewer w (WriteIt resource offset) told most chunks few ends = record { okay = ends.okay; few = λ bytes has. omega (arith, few, ends.few bytes has) }
  fewer w (Echo bytes) told most chunks few ends = record { okay = tt; few = tt }
  fewer w (Count n) told most chunks few ends = record { okay = tt; few = tt }
  fewer w (Sum bytes) told most chunks few ends = record { okay = tt; few = tt }
  fewer w (Chat bytes) told most chunks few ends = record { okay = tt; few = tt }
  fewer w (Close channel) told most chunks few ends = record { okay = tt; few = tt }

  transferred : (w : World) (command : Command) (rest : List Command) (begun : Side → ℕ) → TransferPasses k begun w end command rest
      → begun Read + count_by (asks_for Read) rest ≤ 256 → begun Write + end.sessions ≤ w.sessions + 1 + count_by (asks_for Read) rest + 256 → CommandPasses w command rest
  transferred w command rest begun t reads writes = record {
    begun = begun;
    sessions = w.sessions + 1;
    passes = t.passes;
    few = omega arith;
    none_lost = omega arith;
    ends = λ chunks few. fewer w command t.passes.told (count_by carries_chunk t.passes.said) chunks (few refl) t.ends;
    own = all_weaken (λ (q : Packet). (session : ℕ) → session ≢ w.sessions + 1 → is_chunk_of session q ≡ false) (λ (q : Packet). (session : ℕ) → (session ≤ w.sessions) ⊎ (w.sessions + 1 < session) → is_chunk_of session q ≡ false) t.passes.said
        (λ q own session other. own session (apart session other)) t.own;
    timeless = t.timeless;
    reads = reads;
    writes = writes;
  }
    where
      apart : (session : ℕ) → (session ≤ w.sessions) ⊎ (w.sessions + 1 < session) → session ≢ w.sessions + 1
      apart session (inl low) same = omega (arith, low, same)
      apart session (inr high) same = omega (arith, high, same)

  -- a call of demo.Demo
  plainly : (w : World) (command : Command) (rest : List Command) → Stands (command ∷ rest) w → IsPlain command → ((told : ReportLine) (chunks : ℕ) → EndsAs k w command told chunks)
      → count_by (asks_for Read) (command ∷ rest) ≡ count_by (asks_for Read) rest → CommandPasses w command rest
  plainly w command rest s is ends reads =
      plain w command rest s.begun s.timeless (plain_commands_pass k (FitsStill k w.sessions s.begun) w end command rest undamaged spares setup.demo.client is s.clean s.coming s.run) ends
      (let few = s.reads in omega (arith, few, reads)) (let few = s.writes in omega (arith, few, reads))

  passes : (command : Command) (rest : List Command) (w : World) → Stands (command ∷ rest) w → CommandPasses w command rest
  passes (ReadIt resource offset) rest w s =
      let t : TransferPasses k _ w end (ReadIt resource offset) rest =
      read_passes k setup losses s.begun w end s.clean s.timeless rest s.run (good (ReadIt resource offset ∷ rest) w s) resource offset s.coming (let sessions = s.sessions in omega (arith, sessions)) (let reads = s.reads in omega (arith, reads, one_read))
      s.fit.0.0 s.fit.0.1 (sizes resource) in
      transferred w (ReadIt resource offset) rest _ t (let reads = s.reads in omega (arith, reads, one_read)) (let writes = s.writes in omega (arith, writes, one_read))
    where
      one_read : count_by (asks_for Read) (ReadIt resource offset ∷ rest) ≡ 1 + count_by (asks_for Read) rest
      one_read = sum_by-cons (λ c. cond (asks_for Read c) 1 0) (ReadIt resource offset) rest
  passes (WriteIt resource offset) rest w s = by_bytes (found resource (client_store k w).full) refl
    where
      in_store : IsSmall (client_store k w)
      in_store = stores_stay_small k commands s.count w small each s.way

      no_read : count_by (asks_for Read) (WriteIt resource offset ∷ rest) ≡ count_by (asks_for Read) rest
      no_read = refl

      -- the run has begun its session, and those of the reads to come, when it ends
      one_write : (bytes : List ℕ) → found resource (client_store k w).full ≡ Some bytes → w.sessions + 1 + count_by (asks_for Read) rest ≤ end.sessions
      one_write bytes has =
          omega (
            arith,
            write_begins k w resource offset bytes has,
            start_counts k s.run.count w end (WriteIt resource offset) rest s.run.turns s.run.is_last (next_by k (FitsStill k w.sessions s.begun) w (WriteIt resource offset ∷ rest) s.clean s.coming),
          )

      by_bytes : (o : Option (List ℕ)) → found resource (client_store k w).full ≡ o → CommandPasses w (WriteIt resource offset) rest
      by_bytes None none =
          plain w (WriteIt resource offset) rest s.begun s.timeless (lacking_writes_pass k (FitsStill k w.sessions s.begun) w end resource offset rest undamaged spares none s.clean s.coming s.run)
          (λ told chunks. record { okay = λ bytes has. (let never : None ≡ Some bytes = sym none ∙ has in cc never); few = λ bytes has. (let never : None ≡ Some bytes = sym none ∙ has in cc never) }) s.reads (let writes = s.writes in omega (arith, writes, no_read))
      by_bytes (Some bytes) has =
          let t : TransferPasses k _ w end (WriteIt resource offset) rest =
          write_passes k setup losses s.begun w end s.clean s.timeless rest s.run (good (WriteIt resource offset ∷ rest) w s) resource offset s.coming (let sessions = s.sessions in omega (arith, sessions)) (let writes = s.writes in omega (arith, writes, no_read, one_write bytes has))
          bytes has s.fit.0.0 (look_up (λ e. length e.1 ≤ MAX_RESOURCE) (is_at (nat_cmp resource)) (client_store k w).full bytes has in_store.full).holds in
          transferred w (WriteIt resource offset) rest _ t s.reads (let writes = s.writes in omega (arith, writes, no_read))
  passes (Echo bytes) rest w s = plainly w (Echo bytes) rest s tt (λ told chunks. record { okay = tt; few = tt }) refl
  passes (Count n) rest w s = plainly w (Count n) rest s tt (λ told chunks. record { okay = tt; few = tt }) refl
  passes (Sum bytes) rest w s = plainly w (Sum bytes) rest s tt (λ told chunks. record { okay = tt; few = tt }) refl
  passes (Chat bytes) rest w s = plainly w (Chat bytes) rest s tt (λ told chunks. record { okay = tt; few = tt }) refl
  passes (Close channel) rest w s = absurd s.leave_open.0

  on_way : (cs : List Command) (w : World) → Stands cs w → IsOnWay k commands end cs w
  on_way cs w s = record { kind = next_by k (FitsStill k w.sessions s.begun) w cs s.clean s.coming; count = s.count; way = s.way; run = s.run }

  -- the next world between two commands
  goes_on : (command : Command) (rest : List Command) (w : World) → Stands (command ∷ rest) w → (p : CommandPasses w command rest) → Stands rest p.passes.mid
  goes_on command rest w s p =
      let joined = turns_join k s.count p.passes.count (first_world commands) w p.passes.mid s.way p.passes.way in
      record {
        begun = p.begun;
        clean = subst (λ n. IsClean k (FitsStill k n p.begun) p.passes.mid) (sym p.passes.sessions_are) p.passes.clean;
        timeless = p.timeless;
        coming = p.passes.coming;
        count = joined.0;
        way = joined.1;
        run = p.passes.more;
        fit = s.fit.1;
        leave_open = s.leave_open.1;
        reads = p.reads;
        writes = (let writes = p.writes in let same = p.passes.sessions_are in omega (arith, writes, same));
        sessions = (let sessions = s.sessions in let few = p.few in let same = p.passes.sessions_are in omega (arith, sessions, few, same));
        before =
            subst (AllByRecursion (λ (q : Packet). (session : ℕ) → p.passes.mid.sessions < session → is_chunk_of session q ≡ false)) (sym p.passes.numbered)
            (all_join (λ (q : Packet). (session : ℕ) → p.passes.mid.sessions < session → is_chunk_of session q ≡ false) w.numbered p.passes.said
            (all_weaken (λ (q : Packet). (session : ℕ) → w.sessions < session → is_chunk_of session q ≡ false) (λ (q : Packet). (session : ℕ) → p.passes.mid.sessions < session → is_chunk_of session q ≡ false) w.numbered
            (λ q none session high. none session (let lost = p.none_lost in let same = p.passes.sessions_are in omega (arith, high, lost, same))) s.before)
            (all_weaken (λ (q : Packet). (session : ℕ) → (session ≤ w.sessions) ⊎ (p.sessions < session) → is_chunk_of session q ≡ false) (λ (q : Packet). (session : ℕ) → p.passes.mid.sessions < session → is_chunk_of session q ≡ false) p.passes.said
            (λ q own session high. own session (inr (let same = p.passes.sessions_are in omega (arith, high, same)))) p.own));
      }

  -- what is numbered from this world on, in which no chunk is of a session that was begun before
  record SaysLater (w : World) : Type 0 where
    said : List Packet
    numbered : end.numbered ≡ w.numbered ++ said
    later : AllByRecursion (λ p. (session : ℕ) → session ≤ w.sessions → is_chunk_of session p ≡ false) said

  says_later : (cs : List Command) (w : World) → Stands cs w → SaysLater w
  says_later [] w s = record {
    said = [];
    numbered = ap (λ (v : World). v.numbered) (none_left k commands end Stands on_way w s) ∙ sym (append-nil w.numbered);
    later = tt;
  }
  says_later (command ∷ rest) w s =
      let p : CommandPasses w command rest = passes command rest w s in
      let more : SaysLater p.passes.mid = says_later rest p.passes.mid (goes_on command rest w s p) in
      record {
        said = p.passes.said ++ more.said;
        numbered = more.numbered ∙ (ap (λ ps. ps ++ more.said) p.passes.numbered ∙ append_assoc w.numbered p.passes.said more.said);
        later =
            all_join (λ (q : Packet). (session : ℕ) → session ≤ w.sessions → is_chunk_of session q ≡ false) p.passes.said more.said
            (all_weaken (λ (q : Packet). (session : ℕ) → (session ≤ w.sessions) ⊎ (p.sessions < session) → is_chunk_of session q ≡ false) (λ (q : Packet). (session : ℕ) → session ≤ w.sessions → is_chunk_of session q ≡ false) p.passes.said
            (λ q own session low. own session (inl low)) p.own)
            (all_weaken (λ (q : Packet). (session : ℕ) → session ≤ p.passes.mid.sessions → is_chunk_of session q ≡ false) (λ (q : Packet). (session : ℕ) → session ≤ w.sessions → is_chunk_of session q ≡ false) more.said
            (λ q old session low. old session (let lost = p.none_lost in let same = p.passes.sessions_are in omega (arith, low, lost, same))) more.later);
      }

  -- the session's chunks are among what was numbered on the way
  few_chunks : (command : Command) (rest : List Command) (w : World) (s : Stands (command ∷ rest) w) (p : CommandPasses w command rest) → p.sessions ≡ w.sessions + 1 → chunks_of (w.sessions + 1) end ≤ count_by carries_chunk p.passes.said
  few_chunks command rest w s p begins =
      let test : Packet → Bool = is_chunk_of (w.sessions + 1) in
      let more : SaysLater p.passes.mid = says_later rest p.passes.mid (goes_on command rest w s p) in
      let front : count_by test w.numbered ≡ 0 =
      none_counted test w.numbered (all_weaken (λ (q : Packet). (n : ℕ) → w.sessions < n → is_chunk_of n q ≡ false) (λ (q : Packet). is_chunk_of (w.sessions + 1) q ≡ false) w.numbered (λ q none. none (w.sessions + 1) (omega arith)) s.before) in
      let back : count_by test more.said ≡ 0 =
      none_counted test more.said (all_weaken (λ (q : Packet). (n : ℕ) → n ≤ p.passes.mid.sessions → is_chunk_of n q ≡ false) (λ (q : Packet). is_chunk_of (w.sessions + 1) q ≡ false) more.said
      (λ q none. none (w.sessions + 1) (let same = p.passes.sessions_are in omega (arith, same, begins))) more.later) in
      let numbered : end.numbered ≡ w.numbered ++ (p.passes.said ++ more.said) = more.numbered ∙ (ap (λ ps. ps ++ more.said) p.passes.numbered ∙ append_assoc w.numbered p.passes.said more.said) in
      omega (
        arith,
        ap (count_by test) numbered,
        count_joined test w.numbered (p.passes.said ++ more.said),
        count_joined test p.passes.said more.said,
        front,
        back,
        both_counted carries_chunk (λ q. names_session (w.sessions + 1) (chunk_of q.payload)) p.passes.said,
      )

  abbrev EndsSo : Command → World → World → ReportLine → Type 0
  EndsSo command start mid told = EndsAs k start command told (chunks_of (start.sessions + 1) end)

  leads : (command : Command) (rest : List Command) (w : World) → Stands (command ∷ rest) w → Leads k Stands EndsSo command rest w
  leads command rest w s =
      let p : CommandPasses w command rest = passes command rest w s in
      record {
        mid = p.passes.mid;
        turns = p.passes.count;
        goes = p.passes.way;
        told = p.passes.told;
        lines = p.passes.lines;
        is_of = p.passes.is_of;
        ends = p.ends (chunks_of (w.sessions + 1) end) (few_chunks command rest w s p);
        between = goes_on command rest w s p;
      }

  -- ALL COMMANDS END
  commands_end : Stands commands (first_world commands) → (number : ℕ) (command : Command) → slice_get commands number ≡ Some command
      → HasEnded k commands end number command (λ start mid told. EndsAs k start command told (chunks_of (start.sessions + 1) end))
  commands_end s number command there =
      subst (λ n. HasEnded k commands end n command (EndsSo command)) (omega arith)
      ((all_end k commands end Stands on_way EndsSo leads commands (first_world commands) s).ended number command there)

-- THE FIRST WORLD IS CLEAN
pub first_is_clean : (k : Setup) → IsSetup k → (commands : List Command) (fits : Side → Book → Type 0) → IsClean k fits (first_world commands)
unfolding open_text texts_behind_flags
first_is_clean k setup commands fits = record {
  under = refl;
  to_server = refl;
  to_client = refl;
  fed_server = inl refl;
  fed_client = inl refl;
  server = nothing_yet k.server;
  client = nothing_yet k.client;
  server_channel = ap (λ (set : Setting). has_id (channels_in set []) 1) setup.demo.server;
  client_channel = ap (λ (set : Setting). has_id (channels_in set []) 1) setup.demo.client;
  server_names = tt;
  client_names = tt;
  transfers = λ side. inl (record { client = λ c o there. absurd cc; server = λ c o there. absurd cc });
}

-- the server's resources are small
pub server_sizes : (s : Script) → IsOpenScript s → (resource : ℕ) (bytes : List ℕ) → first_of resource (setup_of s).server_store.full ≡ Some bytes → length bytes ≤ MAX_RESOURCE
server_sizes s is resource bytes has =
    let fit : AreSmall (setup_of s).server_store.full = put_in (made_resources s.server) [] (made_small s.server is.server) tt in
    (look_up (λ e. length e.1 ≤ MAX_RESOURCE) (λ id. id == resource) (setup_of s).server_store.full bytes has fit).holds

pub lossless_runs_end_well : LosslessRunsEndWell
lossless_runs_end_well s now number command is run few server client there =
    let k : Setup = setup_of s in
    let o : IsOpenScript s = is.script in
    let no_flips : NoFlips s.losses = subst NoFlips (sym is.losses) tt in
    let before : World = run.before in
    let setup : IsSetup k = script_setup s o no_flips now run server client in
    let quiet : now.numbered ≡ before.numbered = same_numbered s o no_flips now run server client in
    ended_now s o no_flips now run server client number command (λ start mid told. EndsAs k start command told (chunks_of (start.sessions + 1) now))
    (subst (λ ps. HasEnded k s.commands before number command (λ start mid told. EndsAs k start command told (count_by (is_chunk_of (start.sessions + 1)) ps))) (sym quiet)
    (commands_end k setup is.losses s.commands (begins_small s o.script) o.script.commands (server_sizes s o) before
    (record {
      begun = λ side. 0;
      clean = first_is_clean k setup s.commands (FitsStill k 0 (λ side. 0));
      timeless = refl;
      coming = refl;
      count = zero;
      way = refl;
      run = runs_to_end s o no_flips now run server client;
      fit = o.script.commands;
      leave_open = o.closes_none;
      reads = (let few = o.few_reads in omega (arith, few));
      writes = (let same = same_sessions s o no_flips now run server client in omega (arith, few, same));
      sessions = (let few = o.script.few in omega (arith, few));
      before = tt;
    }) number command there))
