-- What is kept by each step of a transfer is kept by all polls of its task.
use Rattle.std.proofs.Common.{◌≡◌, ◌≢◌, ℕ, ◌==◌, ◌≤◌, ◌&&◌, ◌||◌, if◌then◌else◌, Bool, true, false, List, [], ◌∷◌, ◌++◌, length, map, Option, Some, None, is_some, refl, ap, sym, ◌∙◌, subst, append_assoc}
use Rattle.std.proofs.lemmas.Bool.{eqb-true, false≢true}
use Rattle.std.proofs.lemmas.List.{append-nil, map-append}
use Rattle.rpc_ids.specs.declared.status.Status.{Status}
use Rattle.rpc_handlers.specs.declared.answer.Out.{Out}
use Rattle.task_core.specs.declared.mail.Mail.{Mail}
use Rattle.task_core.specs.Visit.{Ending, Visit, ends, goes_on, is_short_of_memory}
use Rattle.task_core.specs.Log.{Step, added, advanced, heard, polled, posted, took, woken, is_added, mail_of, moment_of, task_of}
use Rattle.task_core.specs.Due.{lives, result_of, status_by}
use Rattle.task_core.specs.Runs.{Turn}
use Rattle.transfer_words.specs.Saying.{Saying, Stepped, outs_of}
use Rattle.transfer_client.specs.Machine.{Rules}
use Rattle.transfer_client.specs.Polling as polling
use Rattle.live_client.specs.asks.Tasks.{AreBetween, AreTurns, AreWhole, AreWholeBefore, Given, IsAloneIn, given_in, mail_in, says_at}
use Rattle.live_client.specs.declared.asks.utterance.Utterance.{Utterance}
use Rattle.live_client.specs.declared.asks.utterance.Utterance.TheVariants.{Says, Completes}

-- the out that is said, if it is one
abbrev pub outs_by : Utterance → List Out
outs_by (Says out) = out ∷ []
outs_by Completes = []

abbrev pub outs_in : List Utterance → List Out
outs_in [] = []
outs_in (out ∷ said) = outs_by out ++ outs_in said

pub outs_in-append : (xs ys : List Utterance) → outs_in (xs ++ ys) ≡ outs_in xs ++ outs_in ys
outs_in-append [] ys = refl
outs_in-append (x ∷ xs) ys = ap (λ outs. outs_by x ++ outs) (outs_in-append xs ys) ∙ sym (append_assoc (outs_by x) (outs_in xs) (outs_in ys))

-- the outs, without the mail that had come by then
abbrev pub bare : List Given → List Out
bare [] = []
bare (given ∷ outs) = outs_by given.out ++ bare outs

bare-append : (xs ys : List Given) → bare (xs ++ ys) ≡ bare xs ++ bare ys
bare-append [] ys = refl
bare-append (x ∷ xs) ys = ap (λ outs. outs_by x.out ++ outs) (bare-append xs ys) ∙ sym (append_assoc (outs_by x.out) (bare xs) (bare ys))

bare-given : (mail : ℕ) (said : List Out) → bare (map (says_at mail) said) ≡ said
bare-given mail [] = refl
bare-given mail (out ∷ said) = ap (λ rest. out ∷ rest) (bare-given mail said)

-- each poll had memory enough
module _ {T : Type 0} where
  abbrev pub HadMemory : List (Step T) → Type 0
  HadMemory [] = Unit {0}
  HadMemory (added key task ∷ log) = HadMemory log
  HadMemory (posted key mail ∷ log) = HadMemory log
  HadMemory (woken key ∷ log) = HadMemory log
  HadMemory (advanced moment ∷ log) = HadMemory log
  HadMemory (heard key total ∷ log) = HadMemory log
  HadMemory (polled key visit short task ∷ log) = (visit.ending ≢ is_short_of_memory) × HadMemory log
  HadMemory (took ∷ log) = HadMemory log

module _ {T : Type 0} (task : T) where
  key_zero : (log : List (Step T)) (key : ℕ) → IsAloneIn task log → is_added log key ≡ true → key ≡ 0
  key_zero [] key alone there = absurd alone
  key_zero (added x first ∷ log) key alone there = at (x == key) refl there
    where
      at : (b : Bool) → (x == key) ≡ b → (b || is_added log key) ≡ true → key ≡ 0
      at true same is = sym (eqb-true x key same) ∙ alone.0
      at false same is = absurd (false≢true (sym (ap (λ l. is_added l key) alone.2) ∙ is))
  key_zero (posted x mail ∷ log) key alone there = key_zero log key alone.1 there
  key_zero (woken x ∷ log) key alone there = key_zero log key alone there
  key_zero (advanced moment ∷ log) key alone there = key_zero log key alone.1 there
  key_zero (heard x total ∷ log) key alone there = key_zero log key alone there
  key_zero (polled x visit short now ∷ log) key alone there = key_zero log key alone there
  key_zero (took ∷ log) key alone there = key_zero log key alone there

  and_left : (a b : Bool) → (a && b) ≡ true → a ≡ true
  and_left true b is = refl
  and_left false b is = is

  module _ (polls : T → Visit → T → Type 0) where
    -- only the one task is polled
    pub polled_zero : (log : List (Step T)) (key : ℕ) (visit : Visit) (short : Bool) (after : T) → IsAloneIn task log → Turn polls log (polled key visit short after ∷ log) short → key ≡ 0
    polled_zero log key visit short after alone turn =
        let key_is : key ≡ turn.key = cc (turn.adds) in
        key_is ∙ key_zero log turn.key alone (and_left (is_added log turn.key) _ (and_left (lives log turn.key) _ turn.first.0))

    visit_is : (log : List (Step T)) (key : ℕ) (visit : Visit) (short : Bool) (after : T) → (turn : Turn polls log (polled key visit short after ∷ log) short) → turn.visit ≡ visit
    visit_is log key visit short after turn = cc (turn.adds)

    -- a poll that isn't told to be short had memory
    had_one : (log : List (Step T)) (key : ℕ) (visit : Visit) (short : Bool) (after : T) → Turn polls log (polled key visit short after ∷ log) short → short ≡ false → visit.ending ≢ is_short_of_memory
    had_one log key visit short after turn whole wanting = false≢true (sym whole ∙ turn.owed (ap (λ v. v.ending) (visit_is log key visit short after turn) ∙ wanting))

    pub had_whole : (log : List (Step T)) → AreTurns polls log → AreWhole log → HadMemory log
    had_whole [] turns whole = tt
    had_whole (added key first ∷ log) turns whole = had_whole log turns whole
    had_whole (posted key mail ∷ log) turns whole = had_whole log turns whole
    had_whole (woken key ∷ log) turns whole = had_whole log turns whole
    had_whole (advanced moment ∷ log) turns whole = had_whole log turns whole
    had_whole (heard key total ∷ log) turns whole = had_whole log turns whole
    had_whole (polled key visit short after ∷ log) turns whole = (had_one log key visit short after turns.0 whole.0, had_whole log turns.1 whole.1)
    had_whole (took ∷ log) turns whole = had_whole log turns whole

    ends_with_memory : (e : Ending) (status : Status) → status_by e ≡ Some status → e ≢ is_short_of_memory
    ends_with_memory (ends end) status is wanting = absurd (cc wanting)
    ends_with_memory goes_on status is wanting = absurd (cc is)
    ends_with_memory is_short_of_memory status is wanting = absurd (cc is)

    -- so had the last, where it ended the task
    pub had_ended : (log : List (Step T)) (status : Status) → IsAloneIn task log → AreTurns polls log → AreWholeBefore log → result_of log 0 ≡ Some status → HadMemory log
    had_ended [] status alone turns whole ended = tt
    had_ended (added key first ∷ log) status alone turns whole ended = subst HadMemory (sym alone.2) tt
    had_ended (posted key mail ∷ log) status alone turns whole ended = had_ended log status alone.1 turns whole ended
    had_ended (woken key ∷ log) status alone turns whole ended = had_ended log status alone turns whole ended
    had_ended (advanced moment ∷ log) status alone turns whole ended = had_ended log status alone.1 turns whole ended
    had_ended (heard key total ∷ log) status alone turns whole ended = had_ended log status alone turns whole ended
    had_ended (polled key visit short after ∷ log) status alone turns whole ended =
        (ends_with_memory visit.ending status (subst (λ n. result_of (polled n visit short after ∷ log) 0 ≡ Some status) (polled_zero log key visit short after alone turns.0) ended), had_whole log turns.1 whole)
    had_ended (took ∷ log) status alone turns whole ended = had_ended log status alone turns whole ended

module _ {A : Type 0} (k : Rules A) (session : ℕ) (J : ℕ → A → List Mail → List Saying → Type 0) (In : ℕ → Type 0) where
  -- What stands at a moment of a transfer, of the mail that it took and of all that it said, goes on standing.
  pub record Keeps : Type 0 where
    pub later : (now later : ℕ) (t : A) (taken : List Mail) (said : List Saying) → now ≤ later → J now t taken said → J later t taken said
    pub opens : (now : ℕ) (t : A) (taken : List Mail) (said : List Saying) → In now → J now t taken said → J now (k.opens t now).after taken (said ++ (k.opens t now).sayings)
    pub takes : (now : ℕ) (t : A) (taken : List Mail) (said : List Saying) (mail : Mail) → In now → k.end_of t ≡ None → J now t taken said
        → J now (polling.takes k session t mail now).after (taken ++ mail ∷ []) (said ++ (polling.takes k session t mail now).sayings)
    pub ticks : (now : ℕ) (t : A) (taken : List Mail) (said : List Saying) → In now → J now t taken said → J now (k.ticks t now).after taken (said ++ (k.ticks t now).sayings)

  module _ (keeps : Keeps) (now : ℕ) (within : In now) where
    -- what was taken of this mail, and where that leaves the transfer
    record Took (taken : List Mail) (said : List Saying) (mails : List Mail) (t : polling.Taken A) : Type 0 where
      front : List Mail
      split : front ++ t.left ≡ mails
      holds : J now t.after (taken ++ front) (said ++ t.sayings)

    none_open : (o : Option Status) → is_some o ≡ false → o ≡ None
    none_open None is = refl
    none_open (Some status) is = absurd (false≢true (sym is))

    taken_all : (mails : List Mail) (t : A) (taken : List Mail) (said : List Saying) → J now t taken said → Took taken said mails (polling.takes_all k session t mails now)
    taken_all [] t taken said j = record {
      front = [];
      split = refl;
      holds = subst (λ ms. J now t ms (said ++ [])) (sym (append-nil taken)) (subst (J now t taken) (sym (append-nil said)) j);
    }
    taken_all (mail ∷ mails) t taken said j = at (is_some (k.end_of t)) refl (taken_all mails (polling.takes k session t mail now).after (taken ++ mail ∷ []) (said ++ (polling.takes k session t mail now).sayings))
      where
        step : Stepped A
        step = polling.takes k session t mail now

        at : (b : Bool) → is_some (k.end_of t) ≡ b
            → (J now step.after (taken ++ mail ∷ []) (said ++ step.sayings) → Took (taken ++ mail ∷ []) (said ++ step.sayings) mails (polling.takes_all k session step.after mails now))
            → Took taken said (mail ∷ mails)
            (if b then record { after = t; sayings = []; left = mail ∷ mails } else polling.behind step.sayings (polling.takes_all k session step.after mails now))
        at true is further = record {
          front = [];
          split = refl;
          holds = subst (λ ms. J now t ms (said ++ [])) (sym (append-nil taken)) (subst (J now t taken) (sym (append-nil said)) j);
        }
        at false is further =
            let rest = further (keeps.takes now t taken said mail within (none_open (k.end_of t) is) j) in
            record {
              front = mail ∷ rest.front;
              split = ap (λ ms. mail ∷ ms) rest.split;
              holds =
                  subst (λ ms. J now (polling.takes_all k session step.after mails now).after ms (said ++ (step.sayings ++ (polling.takes_all k session step.after mails now).sayings)))
                  (append_assoc taken (mail ∷ []) rest.front)
                  (subst (J now (polling.takes_all k session step.after mails now).after ((taken ++ mail ∷ []) ++ rest.front))
                  (append_assoc said step.sayings (polling.takes_all k session step.after mails now).sayings) rest.holds);
            }

    taken_by_poll : (mails : List Mail) (t : A) (taken : List Mail) (said : List Saying) → J now t taken said → Took taken said mails (polling.polled k session t mails now)
    taken_by_poll mails t taken said j =
        let first : Stepped A = k.opens t now in
        let all = taken_all mails first.after taken (said ++ first.sayings) (keeps.opens now t taken said within j) in
        let rest : polling.Taken A = polling.takes_all k session first.after mails now in
        record {
          front = all.front;
          split = all.split;
          holds =
              subst (J now (k.ticks rest.after now).after (taken ++ all.front))
              (append_assoc (said ++ first.sayings) rest.sayings (k.ticks rest.after now).sayings ∙ append_assoc said first.sayings (rest.sayings ++ (k.ticks rest.after now).sayings))
              (keeps.ticks now rest.after (taken ++ all.front) ((said ++ first.sayings) ++ rest.sayings) within all.holds);
        }

  -- ---- the polls of a log

  module _ {T : Type 0} (polls : T → Visit → T → Type 0) (session_of : T → ℕ) (state_of : T → A)
      (whole_poll : (before : T) (visit : Visit) (after : T) → polls before visit after → visit.ending ≢ is_short_of_memory
      → (session_of after ≡ session_of before) × polling.IsWhole k (session_of before) (state_of before) visit (state_of after))
      (keeps : Keeps) (from upto : ℕ) (inside : (now : ℕ) → from ≤ now → now ≤ upto → In now) (task : T) (of_session : session_of task ≡ session) (fresh : k.end_of (state_of task) ≡ None)
      (begun : J 0 (state_of task) [] []) where
    -- where the log leaves the task, with all the mail that it took and all that it said
    pub record Stood (log : List (Step T)) : Type 0 where
      pub now : T
      pub is : task_of log 0 ≡ Some now
      pub session_is : session_of now ≡ session
      pub taken : List Mail
      pub said : List Saying
      pub mail : taken ++ mail_of log 0 ≡ mail_in log
      pub says : bare (given_in log) ≡ outs_of session said
      pub holds : J (moment_of log) (state_of now) taken said
      pub result : result_of log 0 ≡ k.end_of (state_of now)

    ending_back : (o : Option Status) (e : Ending) → e ≡ polling.ending_by o → status_by e ≡ o
    ending_back None e is = ap status_by is
    ending_back (Some status) e is = ap status_by is

    -- a poll of the task that had memory
    polled_stands : (log : List (Step T)) (key : ℕ) (visit : Visit) (short : Bool) (after : T) → IsAloneIn task log → Stood log → from ≤ visit.moment → visit.moment ≤ upto
        → Turn polls log (polled key visit short after ∷ log) short → visit.ending ≢ is_short_of_memory → Stood (polled key visit short after ∷ log)
    polled_stands log key visit short after alone s low high turn long = at key zero_is
      where
        key_is : key ≡ turn.key
        key_is = cc (turn.adds)

        visit_is : turn.visit ≡ visit
        visit_is = cc (turn.adds)

        after_is : turn.after ≡ after
        after_is = cc (turn.adds)

        zero_is : key ≡ 0
        zero_is = polled_zero task polls log key visit short after alone turn

        before_is : turn.before ≡ s.now
        before_is = cc (turn.was, ap (task_of log) (sym key_is ∙ zero_is), s.is)

        did : polls s.now visit after
        did = subst (λ t. polls t visit after) before_is (subst (λ v. polls turn.before v after) visit_is (subst (polls turn.before turn.visit) after_is turn.did))

        moment_is : visit.moment ≡ moment_of log
        moment_is = ap (λ v. v.moment) (sym visit_is) ∙ turn.moment

        mail_is : visit.mail ≡ mail_of log 0
        mail_is = ap (λ v. v.mail) (sym visit_is) ∙ (turn.mail ∙ ap (mail_of log) (sym key_is ∙ zero_is))

        w : (session_of after ≡ session_of s.now) × polling.IsWhole k (session_of s.now) (state_of s.now) visit (state_of after)
        w = whole_poll s.now visit after did long

        poll : polling.IsWhole k session (state_of s.now) visit (state_of after)
        poll = subst (λ n. polling.IsWhole k n (state_of s.now) visit (state_of after)) s.session_is w.1

        gave : polling.Taken A
        gave = polling.polled k session (state_of s.now) visit.mail visit.moment

        t : Took keeps visit.moment (inside visit.moment low high) s.taken s.said visit.mail gave
        t = taken_by_poll keeps visit.moment (inside visit.moment low high) visit.mail (state_of s.now) s.taken s.said (subst (λ m. J m (state_of s.now) s.taken s.said) (sym moment_is) s.holds)

        at : (key : ℕ) → key ≡ 0 → Stood (polled key visit short after ∷ log)
        at key same =
            subst (λ n. Stood (polled n visit short after ∷ log)) (sym same)
            (record {
              now = after;
              is = refl;
              session_is = w.0 ∙ s.session_is;
              taken = s.taken ++ t.front;
              said = s.said ++ gave.sayings;
              mail = append_assoc s.taken t.front visit.left ∙ (ap (λ ms. s.taken ++ (t.front ++ ms)) poll.left ∙ (ap (λ ms. s.taken ++ ms) (t.split ∙ mail_is) ∙ s.mail));
              says = (bare-append (given_in log) (map (says_at (length (mail_in log))) visit.said) ∙ ap (λ outs. bare (given_in log) ++ outs) (bare-given (length (mail_in log)) visit.said)) ∙ ap (λ outs. outs ++ visit.said) s.says ∙ (ap (λ outs. outs_of session s.said ++ outs) poll.said ∙ sym (map-append _ s.said gave.sayings));
              holds = subst (λ m. J m (state_of after) (s.taken ++ t.front) (s.said ++ gave.sayings)) moment_is (subst (λ x. J visit.moment x (s.taken ++ t.front) (s.said ++ gave.sayings)) (sym poll.after) t.holds);
              result = ending_back (k.end_of (state_of after)) visit.ending poll.ending;
            })

    pub stood : (log : List (Step T)) → IsAloneIn task log → AreTurns polls log → AreBetween from upto log → HadMemory log → Stood log
    stood [] alone turns between whole = absurd alone
    stood (added key first ∷ log) alone turns between whole =
        subst (λ n. Stood (added n first ∷ log)) (sym alone.0)
        (subst (λ t. Stood (added 0 t ∷ log)) (sym alone.1)
        (subst (λ l. Stood (added 0 task ∷ l)) (sym alone.2)
        (record {
          now = task;
          is = refl;
          session_is = of_session;
          taken = [];
          said = [];
          mail = refl;
          says = refl;
          holds = begun;
          result = sym fresh;
        })))
    stood (posted key mail ∷ log) alone turns between whole =
        let s = stood log alone.1 turns between whole in
        subst (λ n. Stood (posted n mail ∷ log)) (sym alone.0)
        (record {
          now = s.now;
          is = s.is;
          session_is = s.session_is;
          taken = s.taken;
          said = s.said;
          mail = sym (append_assoc s.taken (mail_of log 0) (mail ∷ [])) ∙ ap (λ ms. ms ++ mail ∷ []) s.mail;
          says = s.says;
          holds = s.holds;
          result = s.result;
        })
    stood (woken key ∷ log) alone turns between whole =
        let s = stood log alone turns between whole in
        record {
          now = s.now;
          is = s.is;
          session_is = s.session_is;
          taken = s.taken;
          said = s.said;
          mail = s.mail;
          says = s.says;
          holds = s.holds;
          result = s.result;
        }
    stood (advanced moment ∷ log) alone turns between whole =
        let s = stood log alone.1 turns between whole in
        record {
          now = s.now;
          is = s.is;
          session_is = s.session_is;
          taken = s.taken;
          said = s.said;
          mail = s.mail;
          says = s.says;
          holds = keeps.later (moment_of log) moment (state_of s.now) s.taken s.said alone.0 s.holds;
          result = s.result;
        }
    stood (heard key total ∷ log) alone turns between whole =
        let s = stood log alone turns between whole in
        record {
          now = s.now;
          is = s.is;
          session_is = s.session_is;
          taken = s.taken;
          said = s.said;
          mail = s.mail;
          says = s.says;
          holds = s.holds;
          result = s.result;
        }
    stood (polled key visit short after ∷ log) alone turns between whole =
        polled_stands log key visit short after alone (stood log alone turns.1 between.2 whole.1) between.0 between.1 turns.0 whole.0
    stood (took ∷ log) alone turns between whole =
        let s = stood log alone turns between whole in
        record {
          now = s.now;
          is = s.is;
          session_is = s.session_is;
          taken = s.taken;
          said = s.said;
          mail = s.mail;
          says = s.says;
          holds = s.holds;
          result = s.result;
        }
