-- Reads and writes survive three lossy rounds, and so do refusals.
use Rattle.std.proofs.Common.{◌≡◌, ℕ, ◌+◌, ◌*◌, ◌<◌, ◌==◌, ◌&&◌, ◌||◌, ◌⊎◌, inl, inr, ◌^◌, Bool, true, false, List, [], ◌∷◌, ◌++◌, codes, Option, Some, None, Result, refl, ap, sym, ◌∙◌, subst, arith}
use Rattle.std.proofs.lemmas.Bool.{eq-eqb, eqb-true}
use Rattle.std.specs.List.{AllByRecursion}
use Rattle.link_script.specs.declared.report.ReportLine.{ReportLine}
use Rattle.history_laws.proofs.messages.Members.{all_weaken}
use Rattle.rpc_ids.specs.Names.{name_id}
use Rattle.rpc_ids.specs.declared.Status.{Status}
use Rattle.rpc_ids.specs.declared.Status.TheVariants.{Okay}
use Rattle.transfer_base.specs.declared.limits.TheConstants.{TIMEOUT}
use Rattle.transfer_chunk.specs.Chunk.{Chunk}
use Rattle.transfer_words.specs.Word.{Word, start, start_ack, confirmation, parameters, data_comes, completion, completion_ack}
use Rattle.transfer_words.proofs.SpokenLaws.{words_are_heard}
use Rattle.transfer_client.specs.Machine.{Rules}
use Rattle.transfer_client.specs.Read.{Download, new_download, read_rules}
use Rattle.transfer_client.specs.Write.{Upload, new_upload, write_rules}
use Rattle.transfer_resume.specs.declared.stage.Stage.{Stage}
use Rattle.transfer_resume.specs.declared.stage.Stage.TheVariants as stage
use Rattle.transfer_resume.specs.Opening.{agreed_offset}
use Rattle.transfer_resume.specs.Session.{Row}
use Rattle.transfer_laws.specs.pairs.EndsWell.{read_ended, read_refused, write_ended}
use Rattle.transfer_laws.specs.losses.Drops.{Lost, LossyPair, begun, lost_at}
use Rattle.transfer_laws.specs.losses.Survives.{Ends, HasEndedWell, IsNoConfirmation, IsSettled, KeepsARoundClean, SaysNoConfirmation, SparesConfirmations}
use Rattle.transfer_laws.specs.losses.Rounds.{LOSSY_ROUNDS, is_lossy, moment_of}
use Rattle.transfer_laws.proofs.losses.FewLosses.{few_losses_keep_a_round_clean}
use Rattle.transfer_laws.proofs.losses.Numbers.{numbers_lose_few}
use Rattle.transfer_laws.proofs.losses.ReadLaws.{reads_survive}
use Rattle.transfer_laws.proofs.losses.RefusalSurvival.{refusals_survive}
use Rattle.transfer_laws.proofs.losses.WriteLaws.{writes_survive}
use Rattle.link_laws.specs.world.World.{Setup, Transfer, World, reads, writes}
use Rattle.link_laws.specs.world.Lines.{line_telling}
use Rattle.link_laws.specs.lossless_transfer.Begins.{IsIdle}
use Rattle.link_laws.specs.lossless_transfer.Finishes.{Passes, ReadFits, WriteFits}
use Rattle.link_laws.specs.lossless_transfer.Shows.{Places, moment_at}
use Rattle.link_laws.proofs.lossless_transfer.Beginning.{CanBegin}
use Rattle.link_laws.proofs.lossless_transfer.Chain.{here, then_passes}
use Rattle.link_laws.proofs.lossless_transfer.Finishing.{read_begins, write_begins}
use Rattle.link_laws.proofs.lossless_transfer.Machines.{IsWrapped}
use Rattle.link_laws.proofs.lossless_transfer.ReadSteps.{reads_wrapped}
use Rattle.link_laws.proofs.lossless_transfer.WriteSteps.{writes_wrapped}
use Rattle.link_laws.specs.dropped_transfer.Dropped.{DropsChunks, is_confirmation, loses, lost_numbers}
use Rattle.link_laws.specs.dropped_transfer.Rounds.{HasCleanRound, IsNumberedAt, IsSpared, by_number, by_round}
use Rattle.link_laws.specs.dropped_transfer.Sessions.{at_turn}
use Rattle.link_laws.specs.dropped_transfer.Shows.{IsLostIn, LeftDropping}
use Rattle.link_laws.specs.dropped_transfer.Survives.{BeginsDropping, CanSurvive, HasSurvived, OpensAnew, OpensThere, ReadsSurviveDrops, RefusalsSurviveDrops, WritesSurviveDrops}
use Rattle.link_laws.proofs.dropped_transfer.Chain.{Come, leads_past}
use Rattle.link_laws.proofs.dropped_transfer.Comes.{comes, lost_in_run}
use Rattle.link_laws.proofs.dropped_transfer.Late.{ReadAt, WriteAt, reads_keep_time, writes_keep_time}
use Rattle.link_laws.proofs.dropped_transfer.Numbers.{is_own}
use Rattle.link_laws.proofs.dropped_transfer.Rounds.{IsBy, last_by}
use Rattle.link_laws.proofs.dropped_transfer.Tail.{drains}
use Rattle.link_laws.proofs.dropped_transfer.TimeStep.{KeepsTime}

well_settled : (o : Option Stage) → HasEndedWell o → IsSettled o
well_settled None well = absurd well
well_settled (Some (stage.Opening o)) well = absurd well
well_settled (Some (stage.Sending s)) well = absurd well
well_settled (Some (stage.Receiving r)) well = well
well_settled (Some (stage.Ended status)) well = tt

-- what was lost in a read is no confirmation
spared_word : (k : Setup) (x : Places) (first far : World) → DropsChunks k far → x.client_opening.name.method ≡ name_id (codes "Read") → x.session < 2 ^ 32 → (l : Lost) → IsLostIn k x first far l → IsNoConfirmation l
spared_word k x first far drops named small l lost = by l.word lost
  where
    both : (b : Bool) → b ≡ true → (b && true) ≡ false → ⊥
    both true is none = cc
    both false is none = cc

    by : (w : Word) → IsLostIn k x first far (lost_at l.moment w) → SaysNoConfirmation w
    by (confirmation ask) lost =
        absurd (both (x.client_opening.name.method == name_id (codes "Read")) (eq-eqb x.client_opening.name.method (name_id (codes "Read")) named)
        (sym (ap (λ (r : Result Chunk ℕ). (x.client_opening.name.method == name_id (codes "Read")) && is_confirmation r) (words_are_heard x.session (confirmation ask) small lost.fits).read)
        ∙ drops.spares lost.place _ lost.there lost.dropped))
    by (start resource offset) lost = tt
    by (start_ack offset) lost = tt
    by (parameters ask) lost = tt
    by (data_comes p) lost = tt
    by (completion status) lost = tt
    by completion_ack lost = tt

-- nothing is under way where it begins
pub begins_idle : {k : Setup} {x : Places} {older : List Row} {big : World} {t : Transfer} → (begins : BeginsDropping k x older big t) → IsIdle x big begins.command
begins_idle {k} {x} {older} {big} {t} begins = by_how begins.how
  where
    by_how : OpensThere k x older big begins.command t ⊎ OpensAnew k x older big begins.command t → IsIdle x big begins.command
    by_how (inl old) = old.begins.idle
    by_how (inr new) = new.begins.idle

module _ {A : Type 0} (rules : Rules A) (wrap : A → Transfer) (P : ℕ → A → Type 0) (wrapped : IsWrapped rules wrap) (keeps : KeepsTime rules P) (k : Setup) (x : Places) (older : List Row) (big far : World) (t : A)
    (starts : CanSurvive k x older big far (wrap t)) (can : CanBegin rules (P (moment_at x)) (moment_at x) t) where
  abbrev lost : ℕ → Bool
  lost = loses k x.session far

  -- the pair that has begun
  abbrev w : LossyPair A
  w = begun x.service rules lost (moment_at x) x.service.time t

  -- IN A CLEAN ROUND NOTHING WAS LOST
  module _ (c : HasCleanRound k x.session big far) where
    abbrev moment : ℕ
    moment = moment_of (moment_at x) c.number

    none_then : (ls : List Lost) → AllByRecursion (IsLostIn k x big far) ls → is_lossy ls moment ≡ true → ⊥
    none_then [] all is = absurd cc
    none_then (l ∷ ls) all is = by_test (l.moment == moment) refl (none_then ls all.1) is
      where
        same_turn : l.moment ≡ moment → all.0.times ≡ big.times + c.number
        same_turn same = omega (arith, same, all.0.moment, (begins_idle starts.starts.begins).times)

        by_test : (b : Bool) → (l.moment == moment) ≡ b → (is_lossy ls moment ≡ true → ⊥) → (b || is_lossy ls moment) ≡ true → ⊥
        by_test true same rest is =
            c.clean all.0.place _ all.0.there
            (is_own all.0.type x.client_opening.name x.session l.word starts.starts.set.places.session all.0.fits all.0.message starts.starts.set.service_is) all.0.dropped
            (subst (IsNumberedAt k big all.0.place) (same_turn (eqb-true l.moment moment same)) all.0.numbered)
        by_test false same rest is = rest is

    stays_clean : KeepsARoundClean x.service rules lost (moment_at x) w
    stays_clean n last leads = record { number = c.number; early = c.early; clean = by_test (is_lossy last.lost moment) refl }
      where
        soon : IsBy x.service rules lost (moment_at x + TIMEOUT * LOSSY_ROUNDS) w last
        soon = last_by x.service rules lost (moment_at x + TIMEOUT * LOSSY_ROUNDS) n w last (omega arith) leads

        by_test : (b : Bool) → is_lossy last.lost moment ≡ b → is_lossy last.lost moment ≡ false
        by_test true is = absurd (none_then soon.mid.lost (lost_in_run rules wrap P wrapped keeps k x older big far t LOSSY_ROUNDS starts.starts can soon.count soon.mid soon.way soon.soon) (soon.lost moment (omega (arith, c.early)) is))
        by_test false is = is

  -- ONE OF THE FIRST FOUR ROUNDS IS CLEAN
  pub rounds_clean : KeepsARoundClean x.service rules lost (moment_at x) w
  rounds_clean = by_case starts.spared
    where
      by_case : IsSpared k x.session big far → KeepsARoundClean x.service rules lost (moment_at x) w
      by_case (by_round c) = stays_clean c
      by_case (by_number few) =
          few_losses_keep_a_round_clean rules x.service lost (moment_at x) w
          (λ count. omega (arith, few, numbers_lose_few rules x.service (lost_numbers k x.session far) (moment_at x) x.service.time t count))

  -- what is lost in a read is no confirmation
  pub spared : x.client_opening.name.method ≡ name_id (codes "Read") → SparesConfirmations x.service rules lost (moment_at x) w
  spared named n last leads soon =
      all_weaken (IsLostIn k x big far) IsNoConfirmation last.lost (spared_word k x big far starts.starts.drops named starts.starts.set.places.session)
      (lost_in_run rules wrap P wrapped keeps k x older big far t LOSSY_ROUNDS starts.starts can n last leads (omega (arith, soon)))

  -- ITS LINE IS TOLD, and what is still on its way comes to nothing
  pub survives : (end : A) (status : Status) (Stood : Option Stage → Type 0) → ((o : Option Stage) → Stood o → IsSettled o) → Ends x.service rules lost Stood (moment_at x) w end → rules.end_of end ≡ Some status
      → Passes k big far (HasSurvived k x (wrap end) status)
  survives end status Stood settled e over =
      then_passes k big far (Come rules wrap k x big e.last) (HasSurvived k x (wrap end) status) (comes rules wrap P wrapped keeps k x older big far t LOSSY_ROUNDS starts.starts can e.many e.last e.way (omega (arith, e.soon)))
      (λ mid came run.
      let y : Places = at_turn x e.last.time came.times came.server in
      let told : (bytes : ℕ) × LeftDropping k y came.older (x.lines ++ line_telling (wrap e.last.pair.client) status bytes ∷ []) mid e.last.pair.server e.last.pair.to_server came.downs e.last.pair.said =
      came.left status (ap rules.end_of e.client ∙ over) in
      let lines : List ReportLine = x.lines ++ line_telling (wrap e.last.pair.client) status told.0 ∷ [] in
      then_passes k mid far (λ next. LeftDropping k y came.older lines next e.session [] [] e.last.pair.said) (HasSurvived k x (wrap end) status)
      (drains k y came.older came.set (omega (arith, e.soon, starts.starts.early, came.now)) lines far e.last.pair.to_server came.downs mid e.last.pair.server e.session e.last.pair.said e.server
      (came.own_are ∙ e.to_client) came.fits told.1 run)
      (λ next left rest.
      here k next far (HasSurvived k x (wrap end) status) rest
      (record {
        bytes = told.0;
        times = came.times;
        few = omega (arith, e.soon, came.now);
        time = e.last.time;
        past = omega (arith, leads_past x.service rules lost e.many w e.last e.way starts.starts.past, came.now);
        server = came.server;
        older = came.older;
        set = came.set;
        session = e.session;
        settled = settled e.session e.stood;
        said = e.last.pair.said;
        left = subst (λ u. LeftDropping k y came.older (x.lines ++ line_telling (wrap u) status told.0 ∷ []) next e.session [] [] e.last.pair.said) e.client left;
      })))

-- how a read begins, and how a write does
pub read_can : (now resource offset window chunk : ℕ) → now + TIMEOUT < 2 ^ 63 → ReadFits (new_download resource offset window chunk) → CanBegin read_rules (ReadAt now) now (new_download resource offset window chunk)
read_can now resource offset window chunk early fits =
    let can = read_begins now resource offset window chunk early fits in record { holds = (early, can.holds); fits = can.fits; going = can.going }

pub write_can : (now resource offset : ℕ) (bytes : List ℕ) → now + TIMEOUT < 2 ^ 63 → WriteFits (new_upload resource bytes offset) → CanBegin write_rules (WriteAt now) now (new_upload resource bytes offset)
write_can now resource offset bytes early fits =
    let can = write_begins now resource offset bytes early fits in record { holds = (early, can.holds); fits = can.fits; going = can.going }

pub reads_survive_drops : ReadsSurviveDrops
reads_survive_drops k x older big far resource offset window chunk bytes starts side named there small tuning size within =
    let d : Download = new_download resource offset window chunk in
    let can : CanBegin read_rules (ReadAt (moment_at x)) (moment_at x) d =
    read_can (moment_at x) resource offset window chunk (omega (arith, starts.starts.early)) (record { resource = small; asked = omega (arith, size, within); window = tuning.window_high; chunk = tuning.chunk_high }) in
    survives read_rules reads ReadAt reads_wrapped reads_keep_time k x older big far d starts can (read_ended d offset) Okay HasEndedWell well_settled
    (reads_survive x.service (loses k x.session far) (moment_at x) x.service.time resource offset window chunk bytes side there tuning size within
    (rounds_clean read_rules reads ReadAt reads_wrapped reads_keep_time k x older big far d starts can)
    (spared read_rules reads ReadAt reads_wrapped reads_keep_time k x older big far d starts can named))
    refl

pub writes_survive_drops : WritesSurviveDrops
writes_survive_drops k x older big far resource offset bytes starts side small tuning size within =
    let u : Upload = new_upload resource bytes offset in
    let can : CanBegin write_rules (WriteAt (moment_at x)) (moment_at x) u =
    write_can (moment_at x) resource offset bytes (omega (arith, starts.starts.early)) (record { resource = small; size = size; within = within }) in
    survives write_rules writes WriteAt writes_wrapped writes_keep_time k x older big far u starts can (write_ended u (agreed_offset x.service.shelf resource offset)) Okay HasEndedWell well_settled
    (writes_survive x.service (loses k x.session far) (moment_at x) x.service.time resource offset bytes side tuning size within starts.starts.past
    (rounds_clean write_rules writes WriteAt writes_wrapped writes_keep_time k x older big far u starts can))
    refl

pub refusals_survive_drops : RefusalsSurviveDrops
refusals_survive_drops k x older big far resource offset window chunk status starts fits side refused =
    let d : Download = new_download resource offset window chunk in
    let can : CanBegin read_rules (ReadAt (moment_at x)) (moment_at x) d = read_can (moment_at x) resource offset window chunk (omega (arith, starts.starts.early)) fits in
    survives read_rules reads ReadAt reads_wrapped reads_keep_time k x older big far d starts can (read_refused d status) status IsSettled (λ o settled. settled)
    (refusals_survive x.service (loses k x.session far) (moment_at x) x.service.time resource offset window chunk status side refused
    (rounds_clean read_rules reads ReadAt reads_wrapped reads_keep_time k x older big far d starts can))
    refl
