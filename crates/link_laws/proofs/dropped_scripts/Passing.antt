-- A transfer leads from one world between two commands to another, over links that drop frames.
use Rattle.std.proofs.Common.{◌≡◌, ◌⊎◌, ℕ, ◌+◌, ◌*◌, ◌<◌, ◌≤◌, ◌^◌, min, List, [], ◌∷◌, codes, length, Some, refl, ap, sym, ◌∙◌, subst, inl, inr, arith, ◌-◌}
use Rattle.std.proofs.Math.Nat.{div-le_self}
use Rattle.std.specs.Prelude.{count_by}
use Rattle.link_io.specs.Resources.{first_of, found}
use Rattle.link_io.specs.Stored.{shelf_of}
use Rattle.link_script.specs.declared.command.Command.{Command}
use Rattle.link_script.specs.declared.command.Command.TheVariants.{Read as ReadIt, Write as WriteIt}
use Rattle.link_script.specs.declared.report.ReportLine.TheVariants as line
use Rattle.rpc_ids.specs.Names.{name_id}
use Rattle.rpc_ids.specs.declared.Status.{Status}
use Rattle.rpc_ids.specs.declared.Status.TheVariants.{Okay}
use Rattle.rpc_journal.specs.Calls.{call_count}
use Rattle.rpc_journal.proofs.PlaceLemmas.{some_same}
use Rattle.transfer_base.specs.declared.limits.TheConstants.{MAX_RESOURCE, TIMEOUT}
use Rattle.transfer_resume.specs.declared.side.Side.{Side}
use Rattle.transfer_resume.specs.declared.side.Side.TheVariants.{Read, Write}
use Rattle.transfer_resume.specs.Opening.{agreed_offset}
use Rattle.transfer_client.specs.Read.{new_download}
use Rattle.transfer_client.specs.Write.{new_upload}
use Rattle.demo_services.specs.Methods.{transfer_id}
use Rattle.transfer_laws.specs.losses.InTime.{WRITE_WAITS, read_turns, write_turns}
use Rattle.transfer_laws.specs.losses.Rounds.{LOSSY_ROUNDS}
use Rattle.transfer_laws.specs.pairs.Bound.{need}
use Rattle.transfer_laws.specs.pairs.EndsWell.{write_ended}
use Rattle.link_laws.specs.declared.world.limits.TheConstants.{TURN_OF_TIME}
use Rattle.link_laws.specs.world.Starts.{left_length, live_transfers, opens_with, starts, starts_write, transfer_by}
use Rattle.link_laws.specs.world.World.{Setup, Transfer, World, client_deeds, client_store, reads, server_deeds, writes}
use Rattle.link_laws.specs.plain_calls.Between.{IsClean, MayTransfer, asks_for}
use Rattle.link_laws.specs.plain_calls.Commands.{HasGoneWell, IsLineOf, PassesOn, RunsOn}
use Rattle.link_laws.specs.plain_calls.Ended.{EndsOkay}
use Rattle.link_laws.proofs.plain_calls.Numbers.{numbered_grow}
use Rattle.link_laws.specs.lossless_transfer.Begins.{AsksClient}
use Rattle.link_laws.specs.world.Lines.{line_telling}
use Rattle.link_laws.specs.lossless_transfer.Finishes.{Passes}
use Rattle.link_laws.specs.lossless_transfer.Shows.{Places}
use Rattle.link_laws.specs.dropped_transfer.Dropped.{DropsChunks}
use Rattle.link_laws.specs.dropped_transfer.Rounds.{IsSpared}
use Rattle.link_laws.specs.dropped_transfer.InTime.{HasEndedInTime, ReadsEndOverDrops, WritesEndOverDrops}
use Rattle.link_laws.specs.dropped_transfer.Survives.{CanEnd, CanSurvive, HasSurvived, ReadsSurviveDrops, RefusalsSurviveDrops, WritesSurviveDrops}
use Rattle.link_laws.specs.dropped_scripts.Losses.{EndsInTime, TurnsTo}
use Rattle.link_laws.proofs.lossless_scripts.Finishing.{one_more}
use Rattle.link_laws.proofs.lossless_scripts.Offers.{IsRefused, IsServed, served_or_refused}
use Rattle.link_laws.proofs.lossless_scripts.Passing.{runs_out}
use Rattle.link_laws.proofs.lossless_scripts.Starting.{IsSetup, method_id}
use Rattle.link_laws.proofs.dropped_scripts.Finishing.{clean_again}
use Rattle.link_laws.proofs.dropped_scripts.Starting.{FitsLater, NoneLater, older_of, own_method, starts_so, x_of}

-- THE COMMAND PASSES, and comes to such an end. At most one session was begun, and at most three turns of time have passed.
pub record CommandPasses (k : Setup) (w end : World) (command : Command) (rest : List Command) : Type 0 where
  pub sessions : ℕ
  pub times : ℕ
  pub begun : Side → ℕ
  pub passes : PassesOn k (FitsLater k sessions times begun) w end sessions command rest
  pub times_are : passes.mid.times ≡ times
  pub soon : times ≤ w.times + LOSSY_ROUNDS
  pub few : sessions ≤ w.sessions + 1
  pub none_later : NoneLater sessions passes.mid.numbered
  pub ends : EndsOkay k w command passes.told
  pub reads : begun Read + count_by (asks_for Read) rest ≤ 256
  pub writes : begun Write + end.sessions ≤ sessions + count_by (asks_for Read) rest + 256

-- what a world between two commands has, in a run that drops chunks, where these are to come, and the first is a transfer in the call of
-- this method
pub record IsBetween (k : Setup) (w end : World) (begun : Side → ℕ) (side : Side) (command : Command) (rest : List Command) : Type 0 where
  pub clean : IsClean k (FitsLater k w.sessions w.times begun) w
  pub coming : w.coming ≡ command ∷ rest
  pub run : RunsOn k w end
  pub good : HasGoneWell k w
  pub drops : DropsChunks k end
  pub sessions : w.sessions + 1 < 2 ^ 32
  pub early : TURN_OF_TIME * w.times < 2 ^ 62
  pub none_later : NoneLater w.sessions w.numbered
  pub most : (s : Side) → begun s ≤ 256
  -- the command begins one session more in its call, and the run no more than it may
  pub room : begun side < 256
  pub reads : one_more side begun Read + count_by (asks_for Read) rest ≤ 256
  pub writes : one_more side begun Write + end.sessions ≤ w.sessions + 1 + count_by (asks_for Read) rest + 256

module _ (k : Setup) (setup : IsSetup k) (w end : World) (side : Side) (command : Command) (rest : List Command) (begun : Side → ℕ) (b : IsBetween k w end begun side command rest) where
  abbrev may : MayTransfer k (server_deeds k w) (client_deeds k w) (FitsLater k w.sessions w.times begun side) side
  may = b.clean.transfers side

  abbrev x : Places
  x = x_of k setup w end side command rest begun b.most b.clean may

  -- where the transfer has survived
  survived : (t : Transfer) (status : Status) (p : Passes k w end (HasSurvived k x t status)) → IsLineOf command (line_telling t status p.holds.bytes) → EndsOkay k w command (line_telling t status p.holds.bytes)
      → CommandPasses k w end command rest
  survived t status p is_of ends =
      let h : HasSurvived k x t status p.mid = p.holds in
      let more = numbered_grow k p.many w p.mid p.way in
      record {
        sessions = w.sessions + 1;
        times = h.times;
        begun = one_more side begun;
        passes = record {
          mid = p.mid;
          count = p.many;
          way = p.way;
          more = record { count = p.rest.total; turns = p.rest.turns; is_last = p.rest.is_last; well = b.run.well };
          clean = clean_again k setup w end side command rest begun b.most b.clean may t status p.mid h;
          sessions_are = h.left.stands.kept.sessions;
          coming = h.left.stands.kept.coming;
          told = line_telling t status h.bytes;
          lines = h.left.told;
          is_of = is_of;
          said = more.0;
          numbered = more.1;
        };
        times_are = h.left.stands.kept.times;
        soon = h.few;
        few = omega arith;
        none_later = h.left.stands.said_are.none_later;
        ends = ends;
        reads = b.reads;
        writes = b.writes;
      }

  starts_here : (most : ℕ) → TIMEOUT * (most + 1) ≤ 2 ^ 62 → (t : Transfer) → AsksClient command
      → starts k w command ≡ transfer_by w (live_transfers (method_id side) (client_deeds k w)) (opens_with transfer_id (method_id side) [] (client_deeds k w)) (call_count (client_deeds k w)) t
      → CanEnd k x (older_of k setup w end side command rest begun b.most b.clean may) w end t most
  starts_here most early t asking so =
      starts_so k setup w end side command rest begun b.most b.clean b.room t asking b.coming b.good b.none_later so most (runs_out k w end b.run) b.drops b.sessions (let past = b.early in omega (arith, early, past)) may

  -- where it comes to its line in time
  told_in_time : (Holds : World → Type 0) → Passes k w end Holds → TurnsTo k w Holds
  told_in_time Holds p = record { mid = p.mid; count = p.many; way = p.way; holds = p.holds }

-- a transfer has no more pieces than bytes
need_few : (size from chunk : ℕ) → need size from chunk ≤ size + chunk + 1
need_few size from chunk = omega (arith, div-le_self (size - from + (chunk - 1)) chunk)

-- A READ
module _ (survive : ReadsSurviveDrops) (refuse : RefusalsSurviveDrops) (k : Setup) (setup : IsSetup k) (w end : World) (rest : List Command) (begun : Side → ℕ) (resource offset : ℕ) (b : IsBetween k w end begun Read (ReadIt resource offset) rest) where
  abbrev asked : ℕ
  asked = min offset (left_length k w resource)

  abbrev read_x : Places
  read_x = x k setup w end Read (ReadIt resource offset) rest begun b

  starting_read : (most : ℕ) → TIMEOUT * (most + 1) ≤ 2 ^ 62
      → CanEnd k read_x (older_of k setup w end Read (ReadIt resource offset) rest begun b.most b.clean (b.clean.transfers Read)) w end (reads (new_download resource asked k.window k.chunk)) most
  starting_read most early = starts_here k setup w end Read (ReadIt resource offset) rest begun b most early (reads (new_download resource asked k.window k.chunk)) tt refl

  spared_read : IsSpared k (w.sessions + 1) w end
      → CanSurvive k read_x (older_of k setup w end Read (ReadIt resource offset) rest begun b.most b.clean (b.clean.transfers Read)) w end (reads (new_download resource asked k.window k.chunk))
  spared_read spared = record { starts = starting_read LOSSY_ROUNDS (omega arith); spared = spared }

  pub read_in_time : ReadsEndOverDrops → resource < 2 ^ 32 → ((bytes : List ℕ) → first_of resource k.server_store.full ≡ Some bytes → length bytes ≤ MAX_RESOURCE) → EndsInTime k w (ReadIt resource offset)
  read_in_time ends small sizes bytes has within =
      let most : ℕ = read_turns (need (length bytes) asked k.chunk) in
      told_in_time k setup w end Read (ReadIt resource offset) rest begun b (HasEndedInTime w (line.Read resource) most)
      (ends k read_x _ w end resource asked k.window k.chunk bytes
      (starting_read most (let size = sizes bytes has in let chunk = setup.demo.chunk in omega (arith, size, chunk, need_few (length bytes) asked k.chunk))) refl has small
      (record { window_low = setup.window; window_high = setup.demo.window; chunk_low = setup.chunk; chunk_high = setup.demo.chunk }) (sizes bytes has) within)

  pub read_passes : IsSpared k (w.sessions + 1) w end → resource < 2 ^ 32 → offset ≤ MAX_RESOURCE → ((bytes : List ℕ) → first_of resource k.server_store.full ≡ Some bytes → length bytes ≤ MAX_RESOURCE)
      → CommandPasses k w end (ReadIt resource offset) rest
  read_passes spared small low sizes = at (served_or_refused k resource asked)
    where
      at : IsServed k resource asked ⊎ IsRefused k resource asked → CommandPasses k w end (ReadIt resource offset) rest
      at (inl s) =
          let p = survive k read_x _ w end resource asked k.window k.chunk s.bytes (spared_read spared) refl (own_method k setup w end Read (ReadIt resource offset) rest begun b.most b.clean (b.clean.transfers Read)) s.has small
          (record { window_low = setup.window; window_high = setup.demo.window; chunk_low = setup.chunk; chunk_high = setup.demo.chunk }) (sizes s.bytes s.has) s.within in
          survived k setup w end Read (ReadIt resource offset) rest begun b _ Okay p refl (λ bytes has within. (p.holds.bytes, refl))
      at (inr r) =
          let p = refuse k read_x _ w end resource asked k.window k.chunk r.status (spared_read spared)
          (record { resource = small; asked = omega (arith, low); window = setup.demo.window; chunk = setup.demo.chunk }) refl r.offers in
          survived k setup w end Read (ReadIt resource offset) rest begun b _ r.status p refl (λ bytes has within. absurd (r.never bytes has within))

-- A WRITE
module _ (survive : WritesSurviveDrops) (k : Setup) (setup : IsSetup k) (w end : World) (rest : List Command) (begun : Side → ℕ) (resource offset : ℕ) (b : IsBetween k w end begun Write (WriteIt resource offset) rest) where
  pub write_in_time : WritesEndOverDrops → resource < 2 ^ 32 → ((bytes : List ℕ) → found resource (client_store k w).full ≡ Some bytes → length bytes ≤ MAX_RESOURCE) → EndsInTime k w (WriteIt resource offset)
  write_in_time ends small sizes bytes has =
      let from : ℕ = min offset (length bytes) in
      let t : Transfer = writes (new_upload resource bytes from) in
      let agreed : ℕ = agreed_offset (shelf_of k.server_store) resource from in
      let most : ℕ = write_turns (need (length bytes) agreed k.chunk) + WRITE_WAITS in
      let starts_it : starts k w (WriteIt resource offset)
      ≡ transfer_by w (live_transfers (name_id (codes "Write")) (client_deeds k w)) (opens_with transfer_id (name_id (codes "Write")) [] (client_deeds k w)) (call_count (client_deeds k w)) t
      = ap (starts_write k w resource offset) has in
      told_in_time k setup w end Write (WriteIt resource offset) rest begun b (HasEndedInTime w (line.Write resource) most)
      (ends k (x k setup w end Write (WriteIt resource offset) rest begun b) _ w end resource from bytes
      (starts_here k setup w end Write (WriteIt resource offset) rest begun b most (let size = sizes bytes has in let chunk = setup.demo.chunk in omega (arith, size, chunk, need_few (length bytes) agreed k.chunk)) t tt starts_it)
      refl small (record { window_low = setup.window; window_high = setup.demo.window; chunk_low = setup.chunk; chunk_high = setup.demo.chunk }) (sizes bytes has) (omega arith))

  pub write_passes : IsSpared k (w.sessions + 1) w end → (bytes : List ℕ) → found resource (client_store k w).full ≡ Some bytes → resource < 2 ^ 32 → length bytes ≤ MAX_RESOURCE → CommandPasses k w end (WriteIt resource offset) rest
  write_passes spared bytes has small size =
      let from : ℕ = min offset (length bytes) in
      let t : Transfer = writes (new_upload resource bytes from) in
      let starts_it : starts k w (WriteIt resource offset)
      ≡ transfer_by w (live_transfers (name_id (codes "Write")) (client_deeds k w)) (opens_with transfer_id (name_id (codes "Write")) [] (client_deeds k w)) (call_count (client_deeds k w)) t
      = ap (starts_write k w resource offset) has in
      let p = survive k (x k setup w end Write (WriteIt resource offset) rest begun b) _ w end resource from bytes
      (record { starts = starts_here k setup w end Write (WriteIt resource offset) rest begun b LOSSY_ROUNDS (omega arith) t tt starts_it; spared = spared }) refl small
      (record { window_low = setup.window; window_high = setup.demo.window; chunk_low = setup.chunk; chunk_high = setup.demo.chunk }) size (omega arith) in
      survived k setup w end Write (WriteIt resource offset) rest begun b _ Okay p refl (λ other found_too.
      let same : bytes ≡ other = some_same bytes other (sym has ∙ found_too) in
      subst (λ bs. (n : ℕ) × (line_telling (writes (write_ended (new_upload resource bytes from) (agreed_offset (shelf_of k.server_store) resource from))) Okay p.holds.bytes
      ≡ line.Write resource (agreed_offset (shelf_of k.server_store) resource (min offset (length bs))) Okay n)) same (p.holds.bytes, refl))
