-- Reads and writes end in time, whatever chunks are dropped.
use Rattle.std.proofs.Common.{◌≡◌, ◌⊎◌, ℕ, zero, suc, ◌+◌, nat_lt, Bool, List, [], ◌∷◌, ◌++◌, length, Option, Some, None, inl, inr, refl, ap, sym, ◌∙◌, subst, arith}
use Rattle.link_script.specs.declared.report.ReportLine.{ReportLine}
use Rattle.link_script.specs.declared.report.ReportLine.TheVariants as line
use Rattle.rpc_ids.specs.declared.Status.{Status}
use Rattle.rpc_ids.specs.declared.Status.TheVariants.{DeadlineExceeded, Okay, OutOfRange}
use Rattle.transfer_base.specs.declared.limits.TheConstants.{TIMEOUT}
use Rattle.transfer_receiver.specs.declared.phase.Phase.{Phase}
use Rattle.transfer_receiver.specs.declared.phase.Phase.TheVariants.{Receiving, Recovering, Completing, Ended}
use Rattle.transfer_receiver.specs.Receiver.{new_receiver}
use Rattle.transfer_words.specs.Word.{Word, start, start_ack, confirmation, parameters, data_comes, completion, completion_ack}
use Rattle.transfer_words.specs.Saying.{Stepped, says}
use Rattle.transfer_client.specs.declared.stages.Reading.{Reading}
use Rattle.transfer_client.specs.declared.stages.Reading.TheVariants as reading
use Rattle.transfer_client.specs.declared.stages.Wait.{Wait}
use Rattle.transfer_client.specs.declared.stages.Writing.{Writing}
use Rattle.transfer_client.specs.declared.stages.Writing.TheVariants as writing
use Rattle.transfer_client.specs.Machine.{Rules, saying, staying}
use Rattle.transfer_client.specs.Read.{Download, acknowledged, asking_timeout as reading_timeout, asks as asks_read, at_stage as read_stage, completed, hears_at as read_hears, new_download, read_offset, read_rules, receives, ticks_at as read_ticks}
use Rattle.transfer_client.specs.Wait.{again, has_resends, is_late, is_late_since, new_wait}
use Rattle.transfer_client.specs.Write.{Upload, asking_timeout as writing_timeout, asks as asks_write, at_stage as write_stage, confirming_timeout, confirms, gives_up, hears_at as write_hears, new_upload, sending_timeout, ticks_at as write_ticks, write_offset, write_rules}
use Rattle.transfer_sender.specs.Sender.{ticked}
use Rattle.transfer_resume.specs.Opening.{agreed_offset}
use Rattle.transfer_resume.specs.Session.{Row, Service}
use Rattle.transfer_laws.specs.losses.Drops.{LeadsTo, LossyPair, begun, step, step_by, waits_by}
use Rattle.transfer_laws.specs.losses.InTime.{EndsInTime, EndsSo, WRITE_WAITS, excused, late, read_turns, well, write_turns}
use Rattle.transfer_laws.specs.pairs.Bound.{need}
use Rattle.transfer_laws.proofs.losses.ReadLaws.{reads_end_in_time}
use Rattle.transfer_laws.proofs.losses.WriteLaws.{writes_end_in_time}
use Rattle.link_laws.specs.world.Lines.{line_telling}
use Rattle.link_laws.specs.world.World.{Setup, Transfer, World, reads, writes}
use Rattle.link_laws.specs.lossless_transfer.Begins.{IsIdle}
use Rattle.link_laws.specs.lossless_transfer.Finishes.{Passes}
use Rattle.link_laws.specs.lossless_transfer.Shows.{Places, moment_at}
use Rattle.link_laws.proofs.lossless_transfer.Beginning.{CanBegin}
use Rattle.link_laws.proofs.lossless_transfer.Machines.{IsWrapped, if_both}
use Rattle.link_laws.proofs.lossless_transfer.ReadSteps.{reads_wrapped}
use Rattle.link_laws.proofs.lossless_transfer.WriteSteps.{writes_wrapped}
use Rattle.link_laws.specs.dropped_transfer.Dropped.{loses}
use Rattle.link_laws.specs.dropped_transfer.InTime.{HasEndedInTime, ReadsEndOverDrops, WritesEndOverDrops}
use Rattle.link_laws.specs.dropped_transfer.Survives.{CanEnd}
use Rattle.link_laws.proofs.dropped_transfer.Chain.{Come}
use Rattle.link_laws.proofs.dropped_transfer.Comes.{comes}
use Rattle.link_laws.proofs.dropped_transfer.Late.{ReadAt, WriteAt, reads_keep_time, writes_keep_time}
use Rattle.link_laws.proofs.dropped_transfer.Survive.{begins_idle, read_can, write_can}
use Rattle.link_laws.proofs.dropped_transfer.TimeStep.{KeepsTime}

-- WHAT NO STEP OF A CLIENT CHANGES
record KeepsAll {A B : Type 0} (rules : Rules A) (f : A → B) : Type 0 where
  hears : (t : A) (w : Word) (now : ℕ) → f (rules.hears t w now).after ≡ f t
  ticks : (t : A) (now : ℕ) → f (rules.ticks t now).after ≡ f t

module _ {A B : Type 0} (rules : Rules A) (f : A → B) (keeps : KeepsAll rules f) (service : Service) (lost : ℕ → Bool) where
  waits_keep : (w : LossyPair A) (o : Option Status) → f (waits_by service rules lost w o).pair.client ≡ f w.pair.client
  waits_keep w None = keeps.ticks w.pair.client (w.now + TIMEOUT)
  waits_keep w (Some status) = refl

  step_keeps : (w : LossyPair A) (ups downs : List Word) → f (step_by service rules lost w ups downs).pair.client ≡ f w.pair.client
  step_keeps w (c ∷ rest) downs = refl
  step_keeps w [] (c ∷ rest) = keeps.hears w.pair.client c w.now
  step_keeps w [] [] = waits_keep w (rules.end_of w.pair.client)

  leads_keep : (n : ℕ) (w last : LossyPair A) → LeadsTo service rules lost n w last → f last.pair.client ≡ f w.pair.client
  leads_keep zero w last same = ap (λ (v : LossyPair A). f v.pair.client) (sym same)
  leads_keep (suc n) w last leads = leads_keep n (step service rules lost w) last leads.1 ∙ step_keeps w w.pair.to_server w.pair.to_client

-- the resource of a read
module _ (d : Download) (now : ℕ) where
  abbrev IsRead : Stepped Download → Type 0
  IsRead s = s.after.resource ≡ d.resource

  read_asking : (w : Wait) (c : Word) → IsRead (read_hears d (reading.Asking w) c now)
  read_asking w (start_ack agreed) =
      if_both IsRead (nat_lt d.asked agreed) (saying (read_stage d (reading.Over OutOfRange)) (says (completion OutOfRange))) (receives d agreed (new_receiver agreed d.window d.chunk now)) refl refl
  read_asking w (completion status) = refl
  read_asking w (start resource offset) = refl
  read_asking w (confirmation ask) = refl
  read_asking w (parameters ask) = refl
  read_asking w (data_comes p) = refl
  read_asking w completion_ack = refl

  read_completed : (p : Phase) (status : Status) → IsRead (completed d p status)
  read_completed (Completing own) status = refl
  read_completed Receiving status = refl
  read_completed Recovering status = refl
  read_completed Ended status = refl

  read_acknowledged : (p : Phase) → IsRead (acknowledged d p)
  read_acknowledged (Completing own) = refl
  read_acknowledged Receiving = refl
  read_acknowledged Recovering = refl
  read_acknowledged Ended = refl

  read_heard : (s : Reading) (c : Word) → IsRead (read_hears d s c now)
  read_heard reading.Unasked c = refl
  read_heard (reading.Asking w) c = read_asking w c
  read_heard (reading.Over status) c = refl
  read_heard (reading.Receiving r) (data_comes p) = refl
  read_heard (reading.Receiving r) (completion status) = read_completed r.phase status
  read_heard (reading.Receiving r) completion_ack = read_acknowledged r.phase
  read_heard (reading.Receiving r) (start resource offset) = refl
  read_heard (reading.Receiving r) (start_ack offset) = refl
  read_heard (reading.Receiving r) (confirmation ask) = refl
  read_heard (reading.Receiving r) (parameters ask) = refl

  read_ticked : (s : Reading) → IsRead (read_ticks d s now)
  read_ticked reading.Unasked = refl
  read_ticked (reading.Asking w) =
      if_both IsRead (is_late w now) (reading_timeout d w now) (staying d)
      (if_both IsRead (has_resends w) (asks_read d (again w now)) (staying (read_stage d (reading.Over DeadlineExceeded))) refl refl) refl
  read_ticked (reading.Receiving r) = refl
  read_ticked (reading.Over status) = refl

read_keeps : KeepsAll read_rules (λ d. d.resource)
read_keeps = record { hears = λ d w now. read_heard d now d.stage w; ticks = λ d now. read_ticked d now d.stage }

-- that of a write
module _ (u : Upload) (now : ℕ) where
  abbrev IsWrite : Stepped Upload → Type 0
  IsWrite s = s.after.resource ≡ u.resource

  write_asking : (w : Wait) (c : Word) → IsWrite (write_hears u (writing.Asking w) c now)
  write_asking w (start_ack agreed) =
      if_both IsWrite (nat_lt u.asked agreed) (saying (write_stage u (writing.Over OutOfRange)) (says (completion OutOfRange))) (confirms (record u { agreed = Some agreed }) (new_wait now)) refl refl
  write_asking w (completion status) = refl
  write_asking w (start resource offset) = refl
  write_asking w (confirmation ask) = refl
  write_asking w (parameters ask) = refl
  write_asking w (data_comes p) = refl
  write_asking w completion_ack = refl

  write_heard : (s : Writing) (c : Word) → IsWrite (write_hears u s c now)
  write_heard writing.Unasked c = refl
  write_heard (writing.Asking w) c = write_asking w c
  write_heard (writing.Over status) c = refl
  write_heard (writing.Confirming w) (parameters ask) = refl
  write_heard (writing.Confirming w) (completion status) = refl
  write_heard (writing.Confirming w) (start resource offset) = refl
  write_heard (writing.Confirming w) (start_ack offset) = refl
  write_heard (writing.Confirming w) (confirmation ask) = refl
  write_heard (writing.Confirming w) (data_comes p) = refl
  write_heard (writing.Confirming w) completion_ack = refl
  write_heard (writing.Sending s) (parameters ask) = refl
  write_heard (writing.Sending s) (completion status) = refl
  write_heard (writing.Sending s) (start resource offset) = refl
  write_heard (writing.Sending s) (start_ack offset) = refl
  write_heard (writing.Sending s) (confirmation ask) = refl
  write_heard (writing.Sending s) (data_comes p) = refl
  write_heard (writing.Sending s) completion_ack = refl

  write_ticked : (s : Writing) → IsWrite (write_ticks u s now)
  write_ticked writing.Unasked = refl
  write_ticked (writing.Asking w) =
      if_both IsWrite (is_late w now) (writing_timeout u w now) (staying u) (if_both IsWrite (has_resends w) (asks_write u (again w now)) (gives_up u) refl refl) refl
  write_ticked (writing.Confirming w) =
      if_both IsWrite (is_late w now) (confirming_timeout u w now) (staying u) (if_both IsWrite (has_resends w) (confirms u (again w now)) (gives_up u) refl refl) refl
  write_ticked (writing.Sending s) = if_both IsWrite (is_late_since s.active now) (sending_timeout u (ticked s now)) (staying u) refl refl
  write_ticked (writing.Over status) = refl

write_keeps : KeepsAll write_rules (λ u. u.resource)
write_keeps = record { hears = λ u w now. write_heard u now u.stage w; ticks = λ u now. write_ticked u now u.stage }

-- ITS LINE IS TOLD
module _ {A : Type 0} (rules : Rules A) (wrap : A → Transfer) (P : ℕ → A → Type 0) (wrapped : IsWrapped rules wrap) (keeps : KeepsTime rules P) (k : Setup) (x : Places) (older : List Row) (big far : World) (t : A)
    (turns more : ℕ) (starts : CanEnd k x older big far (wrap t) (turns + more)) (can : CanBegin rules (P (moment_at x)) (moment_at x) t) (line_of : ℕ → Status → ℕ → ReportLine) (offset_of : A → ℕ) where
  abbrev first : LossyPair A
  first = begun x.service rules (loses k x.session far) (moment_at x) x.service.time t

  pub told_in_time : {Excuse : Type 0} → (e : EndsInTime x.service rules (loses k x.session far) Excuse (moment_at x) turns more first)
      → ((status : Status) (size : ℕ) → line_telling (wrap e.last.pair.client) status size ≡ line_of (offset_of e.last.pair.client) status size)
      → Passes k big far (HasEndedInTime big line_of (turns + more))
  told_in_time {Excuse} e line_is = by e.ending
    where
      ended : (status : Status) → rules.end_of e.last.pair.client ≡ Some status → (status ≡ Okay) ⊎ (status ≡ DeadlineExceeded) → Passes k big far (HasEndedInTime big line_of (turns + more))
      ended status over ends =
          let p : Passes k big far (Come rules wrap k x big e.last) = comes rules wrap P wrapped keeps k x older big far t (turns + more) starts can e.many e.last e.way e.in_time in
          let told = p.holds.left status over in
          let idle : IsIdle x big starts.begins.command = begins_idle starts.begins in
          record {
            mid = p.mid;
            many = p.many;
            way = p.way;
            rest = p.rest;
            holds = record {
              offset = offset_of e.last.pair.client;
              status = status;
              size = told.0;
              ends = ends;
              idle = told.1.idle;
              told = told.1.told ∙ (ap (λ l. x.lines ++ l ∷ []) (line_is status told.0) ∙ ap (λ (ls : List ReportLine). ls ++ line_of (offset_of e.last.pair.client) status told.0 ∷ []) (sym idle.lines));
              soon = omega (arith, told.1.stands.kept.times, p.holds.now, e.in_time, idle.times);
            };
          }

      by : EndsSo x.service rules (loses k x.session far) Excuse (moment_at x) turns e.last → Passes k big far (HasEndedInTime big line_of (turns + more))
      by (well over in_time lossy) = ended Okay over (inl refl)
      by (late over lossy) = ended DeadlineExceeded over (inr refl)
      by (excused over lost) = ended DeadlineExceeded over (inr refl)

pub reads_end_over_drops : ReadsEndOverDrops
reads_end_over_drops k x older big far resource offset window chunk bytes starts side there small tuning size within =
    let turns : ℕ = read_turns (need (length bytes) offset chunk) in
    let d : Download = new_download resource offset window chunk in
    let can : CanBegin read_rules (ReadAt (moment_at x)) (moment_at x) d =
    read_can (moment_at x) resource offset window chunk (omega (arith, starts.early)) (record { resource = small; asked = omega (arith, size, within); window = tuning.window_high; chunk = tuning.chunk_high }) in
    let e = reads_end_in_time x.service (loses k x.session far) (moment_at x) x.service.time resource offset window chunk bytes side there tuning size within in
    let named : e.last.pair.client.resource ≡ resource =
    leads_keep read_rules (λ d. d.resource) read_keeps x.service (loses k x.session far) e.many (begun x.service read_rules (loses k x.session far) (moment_at x) x.service.time d) e.last e.way in
    subst (λ most. Passes k big far (HasEndedInTime big (line.Read resource) most)) (omega arith)
    (told_in_time read_rules reads ReadAt reads_wrapped reads_keep_time k x older big far d turns 0 (subst (CanEnd k x older big far (reads d)) (omega arith) starts) can (line.Read resource) read_offset e
    (λ status bytes. ap (λ n. line.Read n (read_offset e.last.pair.client) status bytes) named))

pub writes_end_over_drops : WritesEndOverDrops
writes_end_over_drops k x older big far resource offset bytes starts side small tuning size within =
    let turns : ℕ = write_turns (need (length bytes) (agreed_offset x.service.shelf resource offset) x.service.chunk) in
    let u : Upload = new_upload resource bytes offset in
    let can : CanBegin write_rules (WriteAt (moment_at x)) (moment_at x) u =
    write_can (moment_at x) resource offset bytes (omega (arith, starts.early)) (record { resource = small; size = size; within = within }) in
    let e = writes_end_in_time x.service (loses k x.session far) (moment_at x) x.service.time resource offset bytes side tuning size within starts.past in
    let named : e.last.pair.client.resource ≡ resource =
    leads_keep write_rules (λ u. u.resource) write_keeps x.service (loses k x.session far) e.many (begun x.service write_rules (loses k x.session far) (moment_at x) x.service.time u) e.last e.way in
    told_in_time write_rules writes WriteAt writes_wrapped writes_keep_time k x older big far u turns WRITE_WAITS starts can (line.Write resource) write_offset e
    (λ status bytes. ap (λ n. line.Write n (write_offset e.last.pair.client) status bytes) named)
