-- A transfer leads from one world between two commands to another.
use Rattle.std.proofs.Common.{◌≡◌, ◌⊎◌, ℕ, ◌+◌, ◌<◌, ◌≤◌, ◌^◌, ◌||◌, min, false, List, [], ◌∷◌, ◌++◌, codes, length, Option, Some, Ok, refl, ap, sym, ◌∙◌, subst, inl, inr, arith}
use Rattle.std.specs.Prelude.{count_by}
use Rattle.std.proofs.Common.{append_assoc}
use Rattle.std.proofs.lemmas.List.Sums.{count_by-le-length}
use Rattle.link_io.specs.Resources.{first_of, found}
use Rattle.link_io.specs.Stored.{shelf_of}
use Rattle.link_script.specs.declared.command.Command.{Command}
use Rattle.link_script.specs.declared.command.Command.TheVariants.{Read as ReadIt, Write as WriteIt}
use Rattle.link_script.specs.declared.report.ReportLine.TheVariants as line
use Rattle.rpc_ids.specs.Names.{name_id}
use Rattle.rpc_ids.specs.declared.Status.{Status}
use Rattle.rpc_ids.specs.declared.Status.TheVariants.{Okay}
use Rattle.rpc_packet.specs.declared.owned.Packet.{Packet}
use Rattle.rpc_journal.specs.Calls.{call_count}
use Rattle.rpc_journal.proofs.PlaceLemmas.{some_same}
use Rattle.transfer_base.specs.declared.limits.TheConstants.{MAX_RESOURCE}
use Rattle.transfer_resume.specs.declared.side.Side.{Side}
use Rattle.transfer_resume.specs.declared.side.Side.TheVariants.{Read, Write}
use Rattle.transfer_resume.specs.declared.stage.Stage.{Stage}
use Rattle.transfer_resume.specs.Opening.{agreed_offset}
use Rattle.transfer_client.specs.Read.{new_download}
use Rattle.transfer_client.specs.Write.{new_upload}
use Rattle.demo_services.specs.Methods.{transfer_id}
use Rattle.transfer_laws.specs.pairs.Bound.{bound}
use Rattle.transfer_laws.specs.pairs.EndsWell.{write_ended}
use Rattle.link_laws.specs.world.Reports.{carries_chunk}
use Rattle.link_laws.specs.world.Starts.{left_length, live_transfers, next_name, opens_with, request, starts, starts_write, transfer_by}
use Rattle.link_laws.specs.world.World.{Setup, Transfer, World, client_deeds, client_store, reads, server_deeds, writes}
use Rattle.link_laws.specs.plain_calls.Between.{IsClean, MayTransfer, side_name}
use Rattle.link_laws.specs.plain_calls.Commands.{HasGoneWell, IsLineOf, PassesOn, RunsOn}
use Rattle.link_laws.specs.lossless_transfer.Begins.{Begins}
use Rattle.link_laws.specs.world.Lines.{line_telling}
use Rattle.link_laws.specs.lossless_transfer.Finishes.{IsOver, IsSetFor, Passes, RunsOut}
use Rattle.link_laws.specs.lossless_transfer.Shows.{HasSaid, IsSaid, Places, packet_saying}
use Rattle.std.proofs.Common.{◌≢◌}
use Rattle.std.proofs.lemmas.Bool.{and_right, ne_eqb}
use Rattle.std.specs.List.{AllByRecursion}
use Rattle.history_laws.proofs.messages.Members.{all_weaken}
use Rattle.transfer_chunk.specs.Reading.{chunk_of}
use Rattle.transfer_words.specs.Word.{Word, start, start_ack, confirmation, parameters, data_comes, completion, completion_ack}
use Rattle.transfer_words.specs.Spoken.{spoken, text_in}
use Rattle.transfer_words.proofs.SpokenLaws.{words_are_heard}
use Rattle.std.proofs.Common.{◌==◌}
use Rattle.link_laws.proofs.lossless_transfer.Finishing.{reads_are_refused, reads_finish, writes_finish}
use Rattle.link_laws.specs.lossless_transfer.Chunks.{is_chunk_of, names_session}
use Rattle.link_laws.specs.lossless_scripts.Lossless.{EndsAs}
use Rattle.link_laws.proofs.lossless_scripts.Finishing.{clean_again, one_more}
use Rattle.link_laws.proofs.lossless_scripts.Offers.{IsRefused, IsServed, served_or_refused}
use Rattle.link_laws.proofs.lossless_scripts.Starting.{FitsStill, IsSetup, begins, is_set, places_for, still_known}

-- the transfer passes, and ends so; no time passes
pub record TransferPasses (k : Setup) (begun : Side → ℕ) (w end : World) (command : Command) (rest : List Command) : Type 0 where
  pub passes : PassesOn k (FitsStill k (w.sessions + 1) begun) w end (w.sessions + 1) command rest
  pub ends : EndsAs k w command passes.told (count_by carries_chunk passes.said)
  -- no chunk is of another session
  pub own : AllByRecursion (λ p. (session : ℕ) → session ≢ w.sessions + 1 → is_chunk_of session p ≡ false) passes.said
  pub timeless : passes.mid.times ≡ 0

pub runs_out : (k : Setup) (w end : World) → RunsOn k w end → RunsOut k w end
runs_out k w end run = record { total = run.count; turns = run.turns; is_last = run.is_last; heard = run.well.heard }

module _ (k : Setup) (setup : IsSetup k) (begun : Side → ℕ) (w end : World) (clean : IsClean k (FitsStill k w.sessions begun) w) (timeless : w.times ≡ 0) (side : Side) (rest : List Command)
    (run : RunsOn k w end) where
  abbrev May : Type 0
  May = MayTransfer k (server_deeds k w) (client_deeds k w) (FitsStill k w.sessions begun side) side

  abbrev x_of : May → Places
  x_of may = places_for k setup (FitsStill k w.sessions begun) w clean side rest may

  -- what was numbered on the way has few chunks, all of the session
  record SaysFew (mid : World) (most : ℕ) : Type 0 where
    said : List Packet
    numbered : mid.numbered ≡ w.numbered ++ said
    few : count_by carries_chunk said ≤ most
    own : AllByRecursion (λ p. (session : ℕ) → session ≢ w.sessions + 1 → is_chunk_of session p ≡ false) said

  module _ (small : w.sessions + 1 < 2 ^ 32) where
    -- the chunk of a word names its session alone
    names_own : (session : ℕ) (word : Word) → session ≢ w.sessions + 1 → names_session session (Ok (spoken (w.sessions + 1) word)) ≡ false
    names_own session word apart = at word (ne_eqb (w.sessions + 1) session (λ same. apart (sym same)))
      where
        at : (word : Word) → ((w.sessions + 1) == session) ≡ false → names_session session (Ok (spoken (w.sessions + 1) word)) ≡ false
        at (start resource offset) other = other
        at (start_ack offset) other = ap (λ b. b || false) other
        at (confirmation ask) other = ap (λ b. b || false) other
        at (parameters ask) other = ap (λ b. b || false) other
        at (data_comes p) other = ap (λ b. b || false) other
        at (completion status) other = ap (λ b. b || false) other
        at completion_ack other = ap (λ b. b || false) other

    of_session : (may : May) (p : Packet) → IsSaid (x_of may) p → (session : ℕ) → session ≢ w.sessions + 1 → is_chunk_of session p ≡ false
    of_session may p is session apart =
        ap (is_chunk_of session) is.is
        ∙ and_right (carries_chunk (packet_saying is.type (x_of may).client_opening.name (w.sessions + 1) is.word)) (names_session session (chunk_of (text_in (w.sessions + 1) is.word)))
        (ap (names_session session) (words_are_heard (w.sessions + 1) is.word small is.fits).read ∙ names_own session is.word apart)

    said_by : (may : May) (mid : World) (said : ℕ) → HasSaid (x_of may) mid.numbered said → SaysFew mid said
    said_by (inl none) mid said h =
        let asked : Packet = request (next_name transfer_id (name_id (side_name side)) (client_deeds k w)) [] in
        record {
          said = asked ∷ h.more;
          numbered = h.numbered_are ∙ append_assoc w.numbered (asked ∷ []) h.more;
          few = omega (arith, count_by-le-length carries_chunk h.more, h.many);
          own = ((λ session apart. refl), all_weaken (IsSaid (x_of (inl none))) (λ (p : Packet). (session : ℕ) → session ≢ w.sessions + 1 → is_chunk_of session p ≡ false) h.more (of_session (inl none)) h.words);
        }
    said_by (inr call) mid said h = record {
      said = h.more;
      numbered = h.numbered_are;
      few = omega (arith, count_by-le-length carries_chunk h.more, h.many);
      own = all_weaken (IsSaid (x_of (inr call))) (λ (p : Packet). (session : ℕ) → session ≢ w.sessions + 1 → is_chunk_of session p ≡ false) h.more (of_session (inr call)) h.words;
    }

    -- where the transfer is over
    abbrev over_passes : (may : May) (command : Command) (t : Transfer) (status : Status) (stage : Option Stage) (most : ℕ) → (p : Passes k w end (IsOver k (x_of may) t status stage most))
        → IsLineOf command (line_telling t status p.holds.bytes) → PassesOn k (FitsStill k (w.sessions + 1) (one_more side begun)) w end (w.sessions + 1) command rest
    over_passes may command t status stage most p is_of = record {
      mid = p.mid;
      count = p.many;
      way = p.way;
      more = record { count = p.rest.total; turns = p.rest.turns; is_last = p.rest.is_last; well = run.well };
      clean =
          subst (λ n. IsClean k (FitsStill k n (one_more side begun)) p.mid) p.holds.left.stands.kept.sessions
          (clean_again k setup begun w clean side rest may (w.lines ++ line_telling t status p.holds.bytes ∷ []) p.mid stage p.holds.said p.holds.left);
      sessions_are = p.holds.left.stands.kept.sessions;
      coming = p.holds.left.stands.kept.coming;
      told = line_telling t status p.holds.bytes;
      lines = p.holds.left.told;
      is_of = is_of;
      said = (said_by may p.mid p.holds.said p.holds.left.stands.said_are).said;
      numbered = (said_by may p.mid p.holds.said p.holds.left.stands.said_are).numbered;
    }

    still_timeless : (may : May) (t : Transfer) (status : Status) (stage : Option Stage) (most : ℕ) → (p : Passes k w end (IsOver k (x_of may) t status stage most)) → p.mid.times ≡ 0
    still_timeless may t status stage most p = p.holds.left.stands.kept.times ∙ timeless

    few_chunks : (may : May) (t : Transfer) (status : Status) (stage : Option Stage) (most : ℕ) → (p : Passes k w end (IsOver k (x_of may) t status stage most))
        → count_by carries_chunk (said_by may p.mid p.holds.said p.holds.left.stands.said_are).said ≤ most
    few_chunks may t status stage most p = omega (arith, (said_by may p.mid p.holds.said p.holds.left.stands.said_are).few, p.holds.few)

-- A READ
module _ (k : Setup) (setup : IsSetup k) (losses : k.losses ≡ []) (begun : Side → ℕ) (w end : World) (clean : IsClean k (FitsStill k w.sessions begun) w) (timeless : w.times ≡ 0) (rest : List Command) (run : RunsOn k w end) (good : HasGoneWell k w)
    (resource offset : ℕ) (coming : w.coming ≡ ReadIt resource offset ∷ rest) (sessions : w.sessions + 1 < 2 ^ 32) (room : begun Read < 256) where
  abbrev asked : ℕ
  asked = min offset (left_length k w resource)

  abbrev may : MayTransfer k (server_deeds k w) (client_deeds k w) (FitsStill k w.sessions begun Read) Read
  may = clean.transfers Read

  abbrev x : Places
  x = places_for k setup (FitsStill k w.sessions begun) w clean Read rest may

  starting_read : Begins k x w (reads (new_download resource asked k.window k.chunk))
  starting_read = begins k setup (FitsStill k w.sessions begun) w clean Read rest (still_known k w.sessions begun Read room) (ReadIt resource offset) (reads (new_download resource asked k.window k.chunk)) tt coming good refl may

  set : IsSetFor k x
  set = is_set k setup (FitsStill k w.sessions begun) w clean Read rest (still_known k w.sessions begun Read room) losses timeless sessions may

  pub read_passes : resource < 2 ^ 32 → offset ≤ MAX_RESOURCE → ((bytes : List ℕ) → first_of resource k.server_store.full ≡ Some bytes → length bytes ≤ MAX_RESOURCE)
      → TransferPasses k (one_more Read begun) w end (ReadIt resource offset) rest
  read_passes small low sizes = at (served_or_refused k resource asked)
    where
      at : IsServed k resource asked ⊎ IsRefused k resource asked → TransferPasses k (one_more Read begun) w end (ReadIt resource offset) rest
      at (inl s) =
          let p = reads_finish k x w end resource asked k.window k.chunk s.bytes set small
          (record { window_low = setup.window; window_high = setup.demo.window; chunk_low = setup.chunk; chunk_high = setup.demo.chunk }) refl s.has (sizes s.bytes s.has) s.within starting_read (runs_out k w end run) in
          record {
            passes = over_passes k setup begun w end clean timeless Read rest run sessions may (ReadIt resource offset) _ Okay _ _ p refl;
            ends = record {
              okay = λ other found_too within_too. (p.holds.bytes, refl);
              few = λ other found_too within_too.
                  let same : s.bytes ≡ other = some_same s.bytes other (sym s.has ∙ found_too) in
                  subst (λ bs. count_by carries_chunk (said_by k setup begun w end clean timeless Read rest run sessions may p.mid p.holds.said p.holds.left.stands.said_are).said ≤ bound (length bs) asked k.chunk) same (few_chunks k setup begun w end clean timeless Read rest run sessions may _ Okay _ _ p);
            };
            own = (said_by k setup begun w end clean timeless Read rest run sessions may p.mid p.holds.said p.holds.left.stands.said_are).own;
            timeless = still_timeless k setup begun w end clean timeless Read rest run sessions may _ Okay _ _ p;
          }
      at (inr r) =
          let p = reads_are_refused k x w end resource asked k.window k.chunk r.status set
          (record { resource = small; asked = omega (arith, low); window = setup.demo.window; chunk = setup.demo.chunk }) refl r.offers starting_read (runs_out k w end run) in
          record {
            passes = over_passes k setup begun w end clean timeless Read rest run sessions may (ReadIt resource offset) _ r.status _ _ p refl;
            ends = record { okay = λ bytes has within. absurd (r.never bytes has within); few = λ bytes has within. absurd (r.never bytes has within) };
            own = (said_by k setup begun w end clean timeless Read rest run sessions may p.mid p.holds.said p.holds.left.stands.said_are).own;
            timeless = still_timeless k setup begun w end clean timeless Read rest run sessions may _ r.status _ _ p;
          }

-- A WRITE
module _ (k : Setup) (setup : IsSetup k) (losses : k.losses ≡ []) (begun : Side → ℕ) (w end : World) (clean : IsClean k (FitsStill k w.sessions begun) w) (timeless : w.times ≡ 0) (rest : List Command) (run : RunsOn k w end) (good : HasGoneWell k w)
    (resource offset : ℕ) (coming : w.coming ≡ WriteIt resource offset ∷ rest) (sessions : w.sessions + 1 < 2 ^ 32) (room : begun Write < 256) where
  abbrev may_write : MayTransfer k (server_deeds k w) (client_deeds k w) (FitsStill k w.sessions begun Write) Write
  may_write = clean.transfers Write

  pub write_passes : (bytes : List ℕ) → found resource (client_store k w).full ≡ Some bytes → resource < 2 ^ 32 → length bytes ≤ MAX_RESOURCE
      → TransferPasses k (one_more Write begun) w end (WriteIt resource offset) rest
  write_passes bytes has small size =
      let from : ℕ = min offset (length bytes) in
      let y : Places = places_for k setup (FitsStill k w.sessions begun) w clean Write rest may_write in
      let t : Transfer = writes (new_upload resource bytes from) in
      let starts_so : starts k w (WriteIt resource offset)
      ≡ transfer_by w (live_transfers (name_id (codes "Write")) (client_deeds k w)) (opens_with transfer_id (name_id (codes "Write")) [] (client_deeds k w)) (call_count (client_deeds k w)) t
      = ap (starts_write k w resource offset) has in
      let b : Begins k y w t = begins k setup (FitsStill k w.sessions begun) w clean Write rest (still_known k w.sessions begun Write room) (WriteIt resource offset) t tt coming good starts_so may_write in
      let p = writes_finish k y w end resource from bytes (is_set k setup (FitsStill k w.sessions begun) w clean Write rest (still_known k w.sessions begun Write room) losses timeless sessions may_write) small
      (record { window_low = setup.window; window_high = setup.demo.window; chunk_low = setup.chunk; chunk_high = setup.demo.chunk }) refl size (omega arith) b (runs_out k w end run) in
      record {
        passes = over_passes k setup begun w end clean timeless Write rest run sessions may_write (WriteIt resource offset) _ Okay _ _ p refl;
        ends = record {
          okay = λ other found_too.
              subst (λ bs. (n : ℕ) × (line_telling (writes (write_ended (new_upload resource bytes from) (agreed_offset (shelf_of k.server_store) resource from))) Okay p.holds.bytes
              ≡ line.Write resource (agreed_offset (shelf_of k.server_store) resource (min offset (length bs))) Okay n)) (some_same bytes other (sym has ∙ found_too)) (p.holds.bytes, refl);
          few = λ other found_too.
              subst (λ bs. count_by carries_chunk (said_by k setup begun w end clean timeless Write rest run sessions may_write p.mid p.holds.said p.holds.left.stands.said_are).said
              ≤ bound (length bs) (agreed_offset (shelf_of k.server_store) resource (min offset (length bs))) k.chunk) (some_same bytes other (sym has ∙ found_too))
              (few_chunks k setup begun w end clean timeless Write rest run sessions may_write _ Okay _ _ p);
        };
        own = (said_by k setup begun w end clean timeless Write rest run sessions may_write p.mid p.holds.said p.holds.left.stands.said_are).own;
        timeless = still_timeless k setup begun w end clean timeless Write rest run sessions may_write _ Okay _ _ p;
      }
