-- A poll of the task that speaks.
use Rattle.std.proofs.Common.{◌≡◌, ℕ, ◌≤◌, ◌==◌, ◌||◌, true, false, if◌then◌else◌, List, [], ◌∷◌, ◌++◌, map, Option, Some, None, is_some, refl, ap, sym, ◌∙◌, subst, arith}
use Rattle.std.proofs.lemmas.Bool.{eq-eqb, eqb-true, false≢true, true≢false}
use Rattle.std.proofs.Math.Bool.{or-false}
use Rattle.slab.specs.Slab.{get}
use Rattle.rpc_ids.specs.declared.status.Status.{Status}
use Rattle.rpc_handlers.specs.declared.answer.Out.{Out}
use Rattle.rpc_journal.proofs.PlaceLemmas.{some_same}
use Rattle.task_core.specs.declared.mail.Mail.{Mail}
use Rattle.task_core.specs.declared.place.Place.{Place}
use Rattle.task_core.specs.Context.{by_task}
use Rattle.task_core.specs.Due.{ended_by, result_of, status_by}
use Rattle.task_core.specs.Log.{Step, added, mail_of, outs_of, task_of}
use Rattle.task_core.specs.Tasks.{HasKey, StandsFor, Tasks}
use Rattle.task_core.specs.Visit.{Ending, Visit, ends, goes_on, is_short_of_memory}
use Rattle.transfer_client.specs.Machine.{Rules}
use Rattle.transfer_client.specs.Polling.{IsPolledBy, IsWhole, ending_by}
use Rattle.transfer_client.specs.Read.{Download, read_rules}
use Rattle.transfer_client.specs.Write.{Upload, write_rules}
use Rattle.transfer_words.specs.Saying.{outs_of as outs_in}
use Rattle.link_laws.specs.world.Client.{transfer_polled, transfer_says}
use Rattle.link_laws.specs.world.Lines.{transfer_end}
use Rattle.link_laws.specs.world.World.{Transfer, reads, writes}
use Rattle.link_world.specs.declared.client.transfer_task.TransferTask.{TransferTask}
use Rattle.link_world.specs.declared.client.transfer_task.Way.{Way}
use Rattle.link_world.specs.declared.client.transfer_task.Way.TheVariants.{Read, Write}
use Rattle.link_world.specs.client.OnePoll.{IsPolledOnce, PolledBy, PollsAlone, StaysOver, with_posts, with_taken}
use Rattle.link_world.specs.client.Speaking.{IsSpeaker, PollsTransfer, PollsWay, is_short_ending, resource_in, session_in, transfer_at, transfer_in}
use Rattle.link_world.proofs.client.OnePollLemmas.{posts_mail, posts_same, taken_same}
use Rattle.link_world.proofs.client.TransferLaws.{polled_about, polled_left, polled_over, reads_last, writes_last}

whole : {A : Type 0} (k : Rules A) (session : ℕ) (old : A) (visit : Visit) (new : A) (e : Ending) → is_short_ending e ≡ false → IsPolledBy k session old visit new e
    → IsWhole k session old visit new
whole k session old visit new (ends status) long is = is
whole k session old visit new goes_on long is = is
whole k session old visit new is_short_of_memory short is = absurd (true≢false short)

status_is : (e : Ending) (end : Option Status) → e ≡ ending_by end → status_by e ≡ end
status_is e None is = ap status_by is
status_is e (Some status) is = ap status_by is

-- a poll that went well
record WayPolled (session resource : ℕ) (before : Way) (visit : Visit) (after : Way) : Type 0 where
  is_of : session_in after ≡ session
  is_for : resource_in (transfer_in after) ≡ resource
  transfer : transfer_in after ≡ transfer_polled session (transfer_in before) visit.mail visit.moment
  said : visit.said ≡ transfer_says session (transfer_in before) visit.mail visit.moment
  ended : status_by visit.ending ≡ transfer_end (transfer_in after)
  left : transfer_end (transfer_in after) ≡ None → visit.left ≡ []

way_polled : (session resource : ℕ) (before after : Way) (visit : Visit) → session_in before ≡ session → resource_in (transfer_in before) ≡ resource
    → PollsWay before visit after → is_short_ending visit.ending ≡ false → WayPolled session resource before visit after
way_polled session resource (Read old) (Read new) visit is_of is_for did long =
    let w = subst (λ s. IsWhole read_rules s old.download visit new.download) is_of (whole read_rules old.session old.download visit new.download visit.ending long did.polled) in
    record {
      is_of = did.session ∙ is_of;
      is_for = ap (λ (d : Download). d.resource) w.after ∙ (polled_about read_rules (λ d. d.resource) reads_last session visit.moment old.download visit.mail ∙ is_for);
      transfer = ap reads w.after;
      said = w.said;
      ended = status_is visit.ending (read_rules.end_of new.download) w.ending;
      left = λ goes. w.left ∙ polled_left read_rules (λ d. d.resource) reads_last session visit.moment old.download visit.mail
          (subst (λ d. read_rules.end_of d ≡ None) w.after goes);
    }
way_polled session resource (Write old) (Write new) visit is_of is_for did long =
    let w = subst (λ s. IsWhole write_rules s old.upload visit new.upload) is_of (whole write_rules old.session old.upload visit new.upload visit.ending long did.polled) in
    record {
      is_of = did.session ∙ is_of;
      is_for = ap (λ (u : Upload). u.resource) w.after ∙ (polled_about write_rules (λ u. u.resource) writes_last session visit.moment old.upload visit.mail ∙ is_for);
      transfer = ap writes w.after;
      said = w.said;
      ended = status_is visit.ending (write_rules.end_of new.upload) w.ending;
      left = λ goes. w.left ∙ polled_left write_rules (λ u. u.resource) writes_last session visit.moment old.upload visit.mail
          (subst (λ u. write_rules.end_of u ≡ None) w.after goes);
    }
way_polled session resource (Read old) (Write new) visit is_of is_for did long = absurd did
way_polled session resource (Write old) (Read new) visit is_of is_for did long = absurd did

-- a transfer that has ended stays as it is, and says nothing
record StaysSo (session : ℕ) (t : Transfer) (mail : List Mail) (now : ℕ) : Type 0 where
  transfer : transfer_polled session t mail now ≡ t
  said : transfer_says session t mail now ≡ []

transfer_over : (session : ℕ) (t : Transfer) (mail : List Mail) (now : ℕ) → is_some (transfer_end t) ≡ true → StaysSo session t mail now
transfer_over session (reads d) mail now over =
    let same = polled_over read_rules (λ d. d.resource) reads_last session now d mail over in
    record { transfer = ap (λ p. reads p.after) same; said = ap (λ p. outs_in session p.sayings) same }
transfer_over session (writes u) mail now over =
    let same = polled_over write_rules (λ u. u.resource) writes_last session now u mail over in
    record { transfer = ap (λ p. writes p.after) same; said = ap (λ p. outs_in session p.sayings) same }

said_again : (key : ℕ) (outs : List Out) → map (λ said. said.1) (by_task key outs) ≡ outs
said_again key [] = refl
said_again key (out ∷ outs) = ap (λ more. out ∷ more) (said_again key outs)

place_in : (o : Option (Place TransferTask)) → is_some o ≡ true → (p : Place TransferTask) × (o ≡ Some p)
place_in None is = absurd (false≢true is)
place_in (Some p) is = (p, refl)

-- what a poll of the task that speaks leaves, and what it says
pub record Spoken (session resource now key : ℕ) (before : Tasks TransferTask) (mails : List Mail) (after : Tasks TransferTask) (outs : List Out) : Type 0 where
  pub speaks : IsSpeaker session resource now after key
  pub transfer : transfer_at (get after.places key) ≡ transfer_polled session (transfer_at (get before.places key)) mails now
  pub says : outs ≡ transfer_says session (transfer_at (get before.places key)) mails now

module _ (session resource polled_at now key : ℕ) (before : Tasks TransferTask) (speaks : IsSpeaker session resource polled_at before key) (mails : List Mail)
    (mid after : Tasks TransferTask) (outs : List Out) (n : ℕ) where
  -- the task then, by the steps then
  ends_so : (polls : PollsAlone PollsTransfer key now (with_posts key mails speaks.log) mid) → StandsFor after (with_taken n polls.new)
      → HasKey after key → after.moment ≤ now → after.outs ≡ []
      → (task : TransferTask) → task_of polls.new key ≡ Some task
      → session_in task.way ≡ session → resource_in (transfer_in task.way) ≡ resource → result_of polls.new key ≡ transfer_end (transfer_in task.way)
      → (result_of polls.new key ≡ None → mail_of polls.new key ≡ [])
      → transfer_in task.way ≡ transfer_polled session (transfer_in speaks.place.task.way) mails now
      → outs ≡ transfer_says session (transfer_in speaks.place.task.way) mails now
      → Spoken session resource now key before mails after outs
  ends_so polls stands known past none task is is_of is_for ended no_mail transfer says =
      let taken = taken_same n polls.new in
      let at = place_in (get after.places key) known in
      let mine : at.0.task ≡ task = some_same _ _ (sym (stands.tells key at.0 at.1).task ∙ (taken.task key ∙ is)) in
      record {
        speaks = record {
          log = with_taken n polls.new;
          stands = stands;
          alone = λ k added. speaks.alone k (sym ((posts_same key mails speaks.log).added k) ∙ (sym (polls.added k) ∙ (sym (taken.added k) ∙ added)));
          past = past;
          place = at.0;
          there = at.1;
          is_of = ap (λ t. session_in t.way) mine ∙ is_of;
          is_for = ap (λ t. resource_in (transfer_in t.way)) mine ∙ is_for;
          ended = ap ended_by (taken.poll key) ∙ (ended ∙ ap (λ t. transfer_end (transfer_in t.way)) (sym mine));
          no_mail = λ goes. taken.mail key ∙ no_mail (sym (ap ended_by (taken.poll key)) ∙ goes);
          no_outs = none;
        };
        transfer = ap transfer_at at.1 ∙ (ap (λ t. transfer_in t.way) mine ∙ (transfer ∙ ap (λ p. transfer_polled session (transfer_at p) mails now) (sym speaks.there)));
        says = says ∙ ap (λ p. transfer_says session (transfer_at p) mails now) (sym speaks.there);
      }

  pub spoken : (polls : PollsAlone PollsTransfer key now (with_posts key mails speaks.log) mid)
      → ((log : List (Step TransferTask)) (task : TransferTask) → StandsFor mid log → task_of log key ≡ Some task → task.is_short ≡ false)
      → outs ≡ map (λ said. said.1) mid.outs → StandsFor after (with_taken n polls.new) → HasKey after key → after.moment ≤ now → after.outs ≡ []
      → Spoken session resource now key before mails after outs
  spoken polls long outs_are stands known past none = at (result_of speaks.log key) refl
    where
      was : task_of (with_posts key mails speaks.log) key ≡ Some speaks.place.task
      was = (posts_same key mails speaks.log).task key ∙ (speaks.stands.tells key speaks.place speaks.there).task

      result : result_of (with_posts key mails speaks.log) key ≡ result_of speaks.log key
      result = ap ended_by ((posts_same key mails speaks.log).poll key)

      nothing_said : outs_of (with_posts key mails speaks.log) ≡ []
      nothing_said = (posts_same key mails speaks.log).outs ∙ (speaks.stands.outs ∙ speaks.no_outs)

      polled_so : IsPolledOnce PollsTransfer key now (with_posts key mails speaks.log) polls.new → result_of speaks.log key ≡ None → Spoken session resource now key before mails after outs
      polled_so once goes =
          let same : once.before ≡ speaks.place.task = some_same _ _ (sym once.was ∙ was) in
          let mail : once.visit.mail ≡ mails = once.mail ∙ (posts_mail key mails speaks.log ∙ ap (λ ms. ms ++ mails) (speaks.no_mail goes)) in
          let is_long : is_short_ending once.visit.ending ≡ false = sym once.did.short ∙ long polls.new once.after polls.stands once.task in
          let w = way_polled session resource speaks.place.task.way once.after.way once.visit speaks.is_of speaks.is_for
          (subst (λ t. PollsWay t.way once.visit once.after.way) same once.did.polled) is_long in
          ends_so polls stands known past none once.after once.task w.is_of w.is_for (once.ended ∙ w.ended)
          (λ still. once.left ∙ w.left (sym w.ended ∙ (sym once.ended ∙ still)))
          (subst (λ ms. transfer_in once.after.way ≡ transfer_polled session (transfer_in speaks.place.task.way) ms now) mail
          (subst (λ m. transfer_in once.after.way ≡ transfer_polled session (transfer_in speaks.place.task.way) once.visit.mail m) once.moment w.transfer))
          (outs_are ∙ (ap (λ said. map (λ s. s.1) said) (sym polls.stands.outs ∙ (once.outs ∙ ap (λ said. said ++ by_task key once.visit.said) nothing_said))
          ∙ (said_again key once.visit.said
          ∙ subst (λ ms. once.visit.said ≡ transfer_says session (transfer_in speaks.place.task.way) ms now) mail
          (subst (λ m. once.visit.said ≡ transfer_says session (transfer_in speaks.place.task.way) once.visit.mail m) once.moment w.said))))

      stays_so : (status : Status) → StaysOver key (with_posts key mails speaks.log) polls.new → result_of speaks.log key ≡ Some status → Spoken session resource now key before mails after outs
      stays_so status over ended =
          let so = transfer_over session (transfer_in speaks.place.task.way) mails now (ap is_some (sym speaks.ended ∙ ended)) in
          ends_so polls stands known past none speaks.place.task (over.task ∙ was) speaks.is_of speaks.is_for (over.ended ∙ (result ∙ speaks.ended))
          (λ still. absurd (false≢true (ap is_some (sym still ∙ (over.ended ∙ (result ∙ ended))))))
          (sym so.transfer)
          (outs_are ∙ (ap (λ said. map (λ s. s.1) said) (sym polls.stands.outs ∙ (over.outs ∙ nothing_said)) ∙ sym so.said))

      at : (r : Option Status) → result_of speaks.log key ≡ r → Spoken session resource now key before mails after outs
      at None goes = polled_so (subst (λ r. PolledBy PollsTransfer r key now (with_posts key mails speaks.log) polls.new) (result ∙ goes) polls.polled) goes
      at (Some status) ended = stays_so status (subst (λ r. PolledBy PollsTransfer r key now (with_posts key mails speaks.log) polls.new) (result ∙ ended) polls.polled) ended

-- a task that was just taken in
pub speaks_first : (session resource key : ℕ) (tasks : Tasks TransferTask) (task : TransferTask) → StandsFor tasks (added key task ∷ []) → HasKey tasks key → tasks.moment ≡ 0
    → session_in task.way ≡ session → resource_in (transfer_in task.way) ≡ resource → transfer_end (transfer_in task.way) ≡ None
    → IsSpeaker session resource 0 tasks key × (transfer_at (get tasks.places key) ≡ transfer_in task.way)
speaks_first session resource key tasks task stands known moment is_of is_for goes =
    let at = place_in (get tasks.places key) known in
    let mine : at.0.task ≡ task = some_same _ _ (sym (stands.tells key at.0 at.1).task ∙ ap (λ b. if b then Some task else None) (eq-eqb key key refl)) in (
      record {
        log = added key task ∷ [];
        stands = stands;
        alone = λ k is. alone_one key k is;
        past = omega (arith, moment);
        place = at.0;
        there = at.1;
        is_of = ap (λ t. session_in t.way) mine ∙ is_of;
        is_for = ap (λ t. resource_in (transfer_in t.way)) mine ∙ is_for;
        ended = ap (λ b. ended_by (if b then None else None)) (eq-eqb key key refl) ∙ (sym goes ∙ ap (λ t. transfer_end (transfer_in t.way)) (sym mine));
        no_mail = λ going. ap (λ b. if b then [] else []) (eq-eqb key key refl);
        no_outs = sym stands.outs;
      },
      ap transfer_at at.1 ∙ ap (λ t. transfer_in t.way) mine,
    )
  where
    alone_one : (key k : ℕ) → ((key == k) || false) ≡ true → k ≡ key
    alone_one key k is = sym (eqb-true key k (sym (or-false (key == k)) ∙ is))
