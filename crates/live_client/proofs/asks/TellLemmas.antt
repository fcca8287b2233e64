-- How what a task was told and said goes on with the steps of its dispatcher.
use Rattle.std.proofs.Common.{◌≡◌, ℕ, zero, suc, ◌<◌, ◌≤◌, ◌==◌, Bool, true, false, List, [], ◌∷◌, ◌++◌, drop, length, map, flat_map, Option, Some, None, is_some, is_none, Result, Ok, Err, OnOk, OnErr, is_err, refl, ap, sym, ◌∙◌, subst, arith, append_assoc, inl, inr, ◌&&◌}
use Rattle.std.proofs.lemmas.Bool.{eqb-true, false≢true, true≢false}
use Rattle.std.proofs.Math.Bool.{or-false}
use Rattle.std.proofs.lemmas.List.{append-nil, map-append}
use Rattle.std.proofs.lemmas.List.Concat.{flat_map-append}
use Rattle.std.specs.declared.alloc.AllocError.{AllocError}
use Rattle.rpc_ids.specs.declared.status.Status.{Status}
use Rattle.rpc_handlers.specs.declared.answer.Out.{Out}
use Rattle.rpc_handlers.specs.declared.event.Event.{Event}
use Rattle.rpc_handlers.specs.declared.event.Event.TheVariants.{Request, Message, Completion, Ended, Tick}
use Rattle.task_core.specs.declared.mail.Mail.{Mail}
use Rattle.task_core.specs.declared.mail.Mail.TheVariants.{Text, Closed}
use Rattle.task_core.specs.declared.stop.Stop.{Stop}
use Rattle.task_core.specs.declared.stop.Stop.TheVariants.{AllDone, Stalled, Budget}
use Rattle.task_core.specs.Context.{by_task}
use Rattle.task_core.specs.Visit.{Visit}
use Rattle.task_core.specs.Log.{Step, added, advanced, heard, polled, posted, took, woken, is_added, looks_of, moment_of, outs_of}
use Rattle.task_core.specs.Due.{lives, result_of}
use Rattle.task_core.specs.Hearing.{HeardAt, HeardBelow, HeardTurns, RanHearing}
use Rattle.task_core.specs.Runs.{StopsBy, Turn}
use Rattle.task_core.specs.Tasks.{Adds, AddsNothing, HasKey, StandsFor, Tasks, has_key}
use Rattle.task_core.specs.bells.Bells.{Heard}
use Rattle.live_client.specs.asks.Tasks.{AreBetween, AreTurns, AreWhole, AreWholeBefore, Given, HasGoneOn, IsAloneIn, IsPrompt, WantedIf, given_in, is_polled_since, mail_in, mail_of, mails, says_at}
use Rattle.live_client.specs.asks.Telling.{AllAdd, HasCome, IsAlone, Progress, Tells, Told, gone_on, said_all, unknown, waiting}

firsts-by_task : (key : ℕ) (outs : List Out) → map (λ (said : ℕ × Out). said.1) (by_task key outs) ≡ outs
firsts-by_task key [] = refl
firsts-by_task key (out ∷ outs) = ap (λ rest. out ∷ rest) (firsts-by_task key outs)

-- a step that is no poll changes nothing of how polls came out
wanted_posted : {T : Type 0} (short : Bool) (key : ℕ) (mail : Mail) (log : List (Step T)) → WantedIf short log → WantedIf short (posted key mail ∷ log)
wanted_posted false key mail log so = so
wanted_posted true key mail log so = so

wanted_took : {T : Type 0} (short : Bool) (log : List (Step T)) → WantedIf short log → WantedIf short (took ∷ log)
wanted_took false log so = so
wanted_took true log so = so

wanted_polled : {T : Type 0} (short : Bool) (key : ℕ) (visit : Visit) (task : T) (log : List (Step T)) → AreWhole log → WantedIf short (polled key visit short task ∷ log)
wanted_polled false key visit task log so = (refl, so)
wanted_polled true key visit task log so = so

-- all are whole, or all but the last are
pub whole_before : {T : Type 0} (log : List (Step T)) → AreWhole log → AreWholeBefore log
whole_before [] so = tt
whole_before (polled key visit short task ∷ log) so = so.1
whole_before (added key task ∷ log) so = whole_before log so
whole_before (posted key mail ∷ log) so = whole_before log so
whole_before (woken key ∷ log) so = whole_before log so
whole_before (advanced moment ∷ log) so = whole_before log so
whole_before (heard key total ∷ log) so = whole_before log so
whole_before (took ∷ log) so = whole_before log so

-- what waits, as it is given behind so much mail
abbrev waits : ℕ → List (ℕ × Out) → List Given
waits mail outs = map (says_at mail) (map (λ (said : ℕ × Out). said.1) outs)

waits_more : (mail : ℕ) (outs : List (ℕ × Out)) (key : ℕ) (said : List Out) → waits mail (outs ++ by_task key said) ≡ waits mail outs ++ map (says_at mail) said
waits_more mail outs key said =
    ap (map (says_at mail)) (map-append (λ (x : ℕ × Out). x.1) outs (by_task key said))
    ∙ (map-append (says_at mail) (map (λ (x : ℕ × Out). x.1) outs) (map (λ (x : ℕ × Out). x.1) (by_task key said))
    ∙ ap (λ s. waits mail outs ++ map (says_at mail) s) (firsts-by_task key said))

-- ---- a task that has gone on behind its mail

and_off : (a b : Bool) → a ≡ false → (a && b) ≡ false
and_off false b off = refl
and_off true b off = absurd (true≢false off)

off_right : (a b : Bool) → b ≡ false → (a && b) ≡ false
off_right false b off = refl
off_right true b off = off

some_ended : (o : Option Status) → is_some o ≡ true → is_none o ≡ false
some_ended None is = absurd (false≢true is)
some_ended (Some status) is = refl

module _ {T : Type 0} where
  -- a task that doesn't live isn't due
  dead_gone : (log : List (Step T)) → lives log 0 ≡ false → HasGoneOn log
  dead_gone log dead = inr (and_off (lives log 0) _ dead)

  pub ended_gone : (log : List (Step T)) → is_some (result_of log 0) ≡ true → HasGoneOn log
  ended_gone log is = dead_gone log (off_right (is_added log 0) (is_none (result_of log 0)) (some_ended (result_of log 0) is))

  since_at : (b : Bool) (key : ℕ) (log new : List (Step T)) → HeardAt b key log new → is_polled_since log ≡ true → is_polled_since new ≡ true
  since_at true key log new at is = ap is_polled_since at.1 ∙ is
  since_at false key log new at is = ap is_polled_since at ∙ is

  since_below : (key : ℕ) (log new : List (Step T)) → HeardBelow key log new → is_polled_since log ≡ true → is_polled_since new ≡ true
  since_below zero log new below is = ap is_polled_since below ∙ is
  since_below (suc key) log new below is = since_at (lives below.0 key) key below.0 new below.2 (since_below key log below.0 below.1 is)

  module _ (polls : T → Visit → T → Type 0) where
    polled_by : (log new : List (Step T)) (short : Bool) → Turn polls log new short → is_polled_since new ≡ true
    polled_by log new short turn = ap is_polled_since turn.adds

    -- a run with a budget stops behind a poll, or where no task is due
    gone_by : (stop : Stop) (n budget : ℕ) → 0 < budget → (log mid new : List (Step T)) → HeardTurns polls n log mid → (upto : ℕ) → HeardBelow upto mid new → StopsBy stop n budget new → HasGoneOn new
    gone_by AllDone n budget some log mid new turns upto below stops = dead_gone new (stops 0)
    gone_by Stalled n budget some log mid new turns upto below stops = inr (stops.1 0)
    gone_by Budget zero budget some log mid new turns upto below stops = absurd (omega (arith, some, stops.0))
    gone_by Budget (suc n) budget some log mid new turns upto below stops = inl (since_below upto mid new below (polled_by turns.2.mid mid false turns.2.turn))

module _ {T : Type 0} (polls : T → Visit → T → Type 0) (task : T) (start upto : ℕ) (posts : List Mail) (outs : List Given) where
  -- what a log tells of the task, whatever the dispatcher has
  pub record Sound (short : Bool) (log : List (Step T)) : Type 0 where
    pub alone : IsAloneIn task log
    pub turns : AreTurns polls log
    pub between : AreBetween start upto log
    pub prompt : IsPrompt log
    pub whole : WantedIf short log
    pub mail : mail_in log ≡ posts
    pub said : given_in log ≡ outs ++ waits (length posts) (outs_of log)
    pub early : start ≤ moment_of log
    pub late : moment_of log ≤ upto

  sound_heard : (key total : ℕ) (log : List (Step T)) → Sound false log → Sound false (heard key total ∷ log)
  sound_heard key total log so = record {
    alone = so.alone;
    turns = so.turns;
    between = so.between;
    prompt = so.prompt;
    whole = so.whole;
    mail = so.mail;
    said = so.said;
    early = so.early;
    late = so.late;
  }

  sound_at : (b : Bool) (key : ℕ) (log new : List (Step T)) → HeardAt b key log new → Sound false log → Sound false new
  sound_at true key log new at so = subst (Sound false) (sym at.1) (sound_heard key at.0 log so)
  sound_at false key log new at so = subst (Sound false) (sym at) so

  sound_below : (key : ℕ) (log new : List (Step T)) → HeardBelow key log new → Sound false log → Sound false new
  sound_below zero log new below so = subst (Sound false) (sym below) so
  sound_below (suc key) log new below so = sound_at (lives below.0 key) key below.0 new below.2 (sound_below key log below.0 below.1 so)

  sound_turn : (log new : List (Step T)) (short : Bool) → Turn polls log new short → Sound false log → Sound short new
  sound_turn log new short turn so =
      let step : Step T = polled turn.key turn.visit short turn.after in
      subst (Sound short) (sym turn.adds)
      (record {
        alone = so.alone;
        turns = (subst (λ later. Turn polls log later short) turn.adds turn, so.turns);
        between = (subst (λ n. start ≤ n) (sym turn.moment) so.early, subst (λ n. n ≤ upto) (sym turn.moment) so.late, so.between);
        prompt = so.prompt;
        whole = wanted_polled short turn.key turn.visit turn.after log so.whole;
        mail = so.mail;
        said =
            ap (λ n. given_in log ++ map (says_at n) turn.visit.said) (ap length so.mail)
            ∙ (ap (λ s. s ++ map (says_at (length posts)) turn.visit.said) so.said
            ∙ (append_assoc outs (waits (length posts) (outs_of log)) (map (says_at (length posts)) turn.visit.said)
            ∙ ap (λ s. outs ++ s) (sym (waits_more (length posts) (outs_of log) turn.key turn.visit.said))));
        early = so.early;
        late = so.late;
      })

  sound_turns : (n : ℕ) (log new : List (Step T)) → HeardTurns polls n log new → Sound false log → Sound false new
  sound_turns zero log new turns so = subst (Sound false) (sym turns) so
  sound_turns (suc n) log new turns so =
      let turn = turns.2 in
      sound_turn turn.mid new false turn.turn (sound_below (suc turn.key) turns.0 turn.mid turn.heard (sound_turns n log turns.0 turns.1 so))

  sound_ran : (log new : List (Step T)) (now : Tasks T) (budget : ℕ) → 0 < budget → (answer : Result Stop AllocError) → RanHearing polls log new now budget answer → Sound false log → Sound (is_err answer) new × StandsFor now new × HasGoneOn new
  sound_ran log new now budget some (Ok stop) ran so =
      (sound_below ran.4 ran.2 new ran.5 (sound_turns ran.0 log ran.2 ran.3 so), ran.6, gone_by polls stop ran.0 budget some log ran.2 new ran.3 ran.4 ran.5 ran.7)
  sound_ran log new now budget some (Err e) ran so =
      let turn = ran.4 in
      (sound_turn turn.mid new true turn.turn (sound_below (suc turn.key) ran.2 turn.mid turn.heard (sound_turns ran.0 log ran.2 ran.3 so)), ran.5, inl (polled_by polls turn.mid new true turn.turn))

later_between : {T : Type 0} (start upto later : ℕ) (log : List (Step T)) → upto ≤ later → AreBetween start upto log → AreBetween start later log
later_between start upto later [] on so = tt
later_between start upto later (polled key visit short task ∷ log) on so = (so.0, omega (arith, so.1, on), later_between start upto later log on so.2)
later_between start upto later (step ∷ log) on so = later_between start upto later log on so

module _ {T : Type 0} (polls : T → Visit → T → Type 0) (task : T) where
  waiting_is : (tasks : Tasks T) (log : List (Step T)) → StandsFor tasks log → waiting tasks ≡ map (λ (said : ℕ × Out). said.1) (outs_of log)
  waiting_is tasks log stands = ap (map (λ (said : ℕ × Out). said.1)) (sym stands.outs)

  -- a new dispatcher with the task
  pub alone_new : (tasks : Tasks T) → StandsFor tasks (added 0 task ∷ []) → IsAlone tasks
  alone_new tasks stands = record {
    there = sym (stands.is_added 0);
    alone = λ key there. sym (eqb-true 0 key (sym (or-false (0 == key)) ∙ (stands.is_added key ∙ there)));
  }

  pub told_new : (tasks : Tasks T) (ear : Heard) → StandsFor tasks (added 0 task ∷ []) → ear.looks ≡ [] → (start upto : ℕ) → Tells polls task tasks ear false unknown start upto None [] [] None
  told_new tasks ear stands new start upto = record {
    told = record {
      log = added 0 task ∷ [];
      stands = stands;
      looks = sym new;
      alone = (refl, refl, refl);
      turns = tt;
      between = tt;
      prompt = tt;
      whole = tt;
      mail = refl;
      said = ap (map (says_at 0)) (sym (waiting_is tasks (added 0 task ∷ []) stands));
      result = refl;
    };
    come = tt;
    uncut = refl;
  }

  module _ (old new : Tasks T) (ear : Heard) (short : Bool) (far : Progress) (start upto : ℕ) (cut : Option Status) (events : List Event) (outs : List Given) (ended : Option Status) where
    come_on : (p : Progress) (log : List (Step T)) → new.outs ≡ old.outs → HasCome p old log → HasCome p new log
    come_on said_all log same so = (so.0, same ∙ so.1)
    come_on gone_on log same so = so
    come_on unknown log same so = tt

    -- where nothing waits it is the same with whatever mail
    none_wait : (xs ys : List (ℕ × Out)) (n m : ℕ) → xs ≡ [] → ys ≡ [] → outs ++ waits n xs ≡ outs ++ waits m ys
    none_wait xs ys n m none nothing = ap (λ os. outs ++ waits n os) none ∙ sym (ap (λ os. outs ++ waits m os) nothing)

    -- it was told an event more, and nothing waits
    abbrev ToldMore : Event → Type 0
    ToldMore event = Told polls task new ear short start upto (events ++ event ∷ []) outs ended × (new.outs ≡ [])

    posted_mail : (mail : Mail) (event : Event) → mail_of event ≡ mail ∷ [] → Adds old new (posted 0 mail) → Tells polls task old ear short said_all start upto cut events outs ended → ToldMore event
    posted_mail mail event is adds so =
        let t = so.told in
        let stands : StandsFor new (posted 0 mail ∷ t.log) = adds t.log t.stands in
        let same : new.outs ≡ old.outs = sym stands.outs ∙ t.stands.outs in (
          record {
            log = posted 0 mail ∷ t.log;
            stands = stands;
            looks = t.looks;
            alone = (refl, t.alone);
            turns = t.turns;
            between = t.between;
            prompt = (so.come.0, t.prompt);
            whole = wanted_posted short 0 mail t.log t.whole;
            mail =
                ap (λ ms. ms ++ mail ∷ []) t.mail
                ∙ (ap (λ ms. flat_map mail_of events ++ ms) (sym is ∙ sym (append-nil (mail_of event))) ∙ sym (flat_map-append mail_of events (event ∷ [])));
            said = t.said ∙ none_wait old.outs new.outs (mails events) (mails (events ++ event ∷ [])) so.come.1 (same ∙ so.come.1);
            result = t.result;
          },
          same ∙ so.come.1,
        )

    pub tells_kept : (p : Progress) → AddsNothing old new → Tells polls task old ear short p start upto cut events outs ended → Tells polls task new ear short p start upto cut events outs ended
    tells_kept p adds so =
        let t = so.told in
        let stands : StandsFor new t.log = adds t.log t.stands in
        let same : new.outs ≡ old.outs = sym stands.outs ∙ t.stands.outs in
        record {
          told = record {
            log = t.log;
            stands = stands;
            looks = t.looks;
            alone = t.alone;
            turns = t.turns;
            between = t.between;
            prompt = t.prompt;
            whole = t.whole;
            mail = t.mail;
            said = t.said ∙ ap (λ os. outs ++ waits (mails events) os) (sym same);
            result = t.result;
          };
          come = come_on p t.log same so.come;
          uncut = so.uncut;
        }

    no_mail : (event : Event) → mail_of event ≡ [] → Tells polls task new ear short said_all start upto cut events outs ended → ToldMore event
    no_mail event none so = (
      record {
        log = so.told.log;
        stands = so.told.stands;
        looks = so.told.looks;
        alone = so.told.alone;
        turns = so.told.turns;
        between = so.told.between;
        prompt = so.told.prompt;
        whole = so.told.whole;
        mail =
            so.told.mail
            ∙ sym (flat_map-append mail_of events (event ∷ []) ∙ (ap (λ ms. flat_map mail_of events ++ (ms ++ [])) none ∙ append-nil (flat_map mail_of events)));
        said = so.told.said ∙ none_wait new.outs new.outs (mails events) (mails (events ++ event ∷ [])) so.come.1 so.come.1;
        result = so.told.result;
      },
      so.come.1,
    )

    told_more : (event : Event) → AllAdd old new (map (posted 0) (mail_of event)) → Tells polls task old ear short said_all start upto cut events outs ended → ToldMore event
    told_more (Message payload) adds so = posted_mail (Text payload) (Message payload) refl adds so
    told_more (Ended status) adds so = posted_mail (Closed status) (Ended status) refl adds so
    told_more (Request payload) adds so = no_mail (Request payload) refl (tells_kept said_all adds so)
    told_more Completion adds so = no_mail Completion refl (tells_kept said_all adds so)
    told_more (Tick now) adds so = no_mail (Tick now) refl (tells_kept said_all adds so)

    -- an event is posted, where it is mail
    pub tells_heard : (event : Event) → AllAdd old new (map (posted 0) (mail_of event)) → Tells polls task old ear short said_all start upto cut events outs ended
        → Tells polls task new ear short unknown start upto cut (events ++ event ∷ []) outs ended
    tells_heard event adds so = record { told = (told_more event adds so).0; come = tt; uncut = so.uncut }

    -- a task that had ended has nothing to say to it
    pub tells_over : (event : Event) → AllAdd old new (map (posted 0) (mail_of event)) → Tells polls task old ear short said_all start upto cut events outs ended → is_some ended ≡ true
        → Tells polls task new ear short said_all start upto cut (events ++ event ∷ []) outs ended
    tells_over event adds so over =
        let more = told_more event adds so in
        record { told = more.0; come = (ended_gone more.0.log (ap is_some more.0.result ∙ over), more.1); uncut = so.uncut }

    -- an item is taken
    pub tells_some : (key : ℕ) (out : Out) → old.outs ≡ (key, out) ∷ new.outs → Adds old new took → Tells polls task old ear short far start upto cut events outs ended
        → Tells polls task new ear short unknown start upto cut events (outs ++ says_at (mails events) out ∷ []) ended
    tells_some key out first adds so =
        let t = so.told in
        record {
          told = record {
            log = took ∷ t.log;
            stands = adds t.log t.stands;
            looks = t.looks;
            alone = t.alone;
            turns = t.turns;
            between = t.between;
            prompt = t.prompt;
            whole = wanted_took short t.log t.whole;
            mail = t.mail;
            said = t.said ∙ (ap (λ os. outs ++ waits (mails events) os) first ∙ sym (append_assoc outs (says_at (mails events) out ∷ []) (waits (mails events) new.outs)));
            result = t.result;
          };
          come = tt;
          uncut = so.uncut;
        }

    fewer : {A : Type 0} (xs : List A) → drop 1 xs ≡ xs → xs ≡ []
    fewer [] same = refl
    fewer {A} (x ∷ xs) same = absurd (omega (arith, ap length same))

    abbrev took_log : old.outs ≡ new.outs → Adds old new took → (t : Told polls task old ear short start upto events outs ended) → Told polls task new ear short start upto events outs ended
    took_log first adds t = record {
      log = took ∷ t.log;
      stands = adds t.log t.stands;
      looks = t.looks;
      alone = t.alone;
      turns = t.turns;
      between = t.between;
      prompt = t.prompt;
      whole = wanted_took short t.log t.whole;
      mail = t.mail;
      said = t.said ∙ ap (λ os. outs ++ waits (mails events) os) first;
      result = t.result;
    }

    -- nothing is left to take
    pub tells_none : old.outs ≡ new.outs → Adds old new took → Tells polls task old ear short gone_on start upto cut events outs ended
        → Tells polls task new ear short said_all start upto cut events outs ended
    tells_none first adds so =
        let t = so.told in
        let stands : StandsFor new (took ∷ t.log) = adds t.log t.stands in
        let empty : new.outs ≡ [] = fewer new.outs (ap (drop 1) (sym first ∙ sym t.stands.outs) ∙ stands.outs) in
        record { told = took_log first adds t; come = (so.come, empty); uncut = so.uncut }

    pub tells_idle : old.outs ≡ new.outs → Adds old new took → Tells polls task old ear short far start upto cut events outs ended → Tells polls task new ear short unknown start upto cut events outs ended
    tells_idle first adds so = record { told = took_log first adds so.told; come = tt; uncut = so.uncut }

  -- the time goes on, and a run loads words and polls
  module _ (old mid new : Tasks T) (ear new_ear : Heard) (far : Progress) (start upto now budget : ℕ) (some : 0 < budget) (cut : Option Status) (events : List Event) (outs : List Given) (ended : Option Status) (answer : Result Stop AllocError) where
    sound_of : start ≤ now → upto ≤ now → old.moment ≤ now → (so : Tells polls task old ear false far start upto cut events outs ended)
        → Sound polls task start now (flat_map mail_of events) outs false (advanced now ∷ so.told.log)
    sound_of early late goes so =
        let t = so.told in
        record {
          alone = (omega (arith, t.stands.moment, goes), t.alone);
          turns = t.turns;
          between = later_between start upto now t.log late t.between;
          prompt = t.prompt;
          whole = t.whole;
          mail = t.mail;
          said = t.said ∙ ap (λ s. outs ++ map (says_at (mails events)) s) (waiting_is old t.log t.stands);
          early = early;
          late = omega arith;
        }

    pub tells_ran : start ≤ now → upto ≤ now → old.moment ≤ now → Adds old mid (advanced now)
        → ((log : List (Step T)) → StandsFor mid log → looks_of log ≡ ear.looks → (after : List (Step T)) × RanHearing polls log after new budget answer × (looks_of after ≡ new_ear.looks))
        → (short : Bool) → short ≡ false → Tells polls task old ear short far start upto cut events outs ended → (later : Bool) → later ≡ is_err answer
        → (next : Option Status) × Tells polls task new new_ear later gone_on start now cut events outs next
    tells_ran early late goes advances runs short whole told later same =
        let so = subst (λ b. Tells polls task old ear b far start upto cut events outs ended) whole told in
        let t = so.told in
        let ran = runs (advanced now ∷ t.log) (advances t.log t.stands) t.looks in
        let sound = sound_ran polls task start now (flat_map mail_of events) outs (advanced now ∷ t.log) ran.0 new budget some answer ran.1 (sound_of early late goes so) in (
          result_of ran.0 0,
          subst (λ b. Tells polls task new new_ear b gone_on start now cut events outs (result_of ran.0 0)) (sym same)
              (record {
                told = record {
                  log = ran.0;
                  stands = sound.1;
                  looks = ran.2;
                  alone = sound.0.alone;
                  turns = sound.0.turns;
                  between = sound.0.between;
                  prompt = sound.0.prompt;
                  whole = sound.0.whole;
                  mail = sound.0.mail;
                  said = sound.0.said ∙ ap (λ s. outs ++ map (says_at (mails events)) s) (sym (waiting_is new ran.0 sound.1));
                  result = refl;
                };
                come = sound.2;
                uncut = so.uncut;
              }),
        )

pub keeps_alone : {T : Type 0} (old new : Tasks T) → ((key : ℕ) → has_key new key ≡ has_key old key) → IsAlone old → IsAlone new
keeps_alone old new keys so = record { there = keys 0 ∙ so.there; alone = λ key there. so.alone key (sym (keys key) ∙ there) }

-- the one key has a word
pub key_below : {T : Type 0} (tasks : Tasks T) (words : ℕ) → IsAlone tasks → 0 < words → (key : ℕ) → HasKey tasks key → key < words
key_below tasks words so some key there = subst (λ k. k < words) (sym (so.alone key there)) some

pub on_ok_map : {A E X Y : Type 0} (result : Result A E) → (X → Y) → OnOk result X → OnOk result Y
on_ok_map (Ok a) f x = f x
on_ok_map (Err e) f x = tt

pub on_err_map : {A E X Y : Type 0} (result : Result A E) → (X → Y) → OnErr result X → OnErr result Y
on_err_map (Ok a) f x = tt
on_err_map (Err e) f x = f x
