-- What holds of an end's parts, over one entry more.
use Rattle.std.proofs.Common.{◌≡◌, ℕ, Bool, true, false, ◌==◌, List, [], ◌∷◌, ◌++◌, length, Option, Some, None, IfSome, if◌then◌else◌, refl, ap, sym, ◌∙◌, subst, arith, length-append}
use Rattle.std.proofs.lemmas.Bool.{leb-true, le-leb}
use Rattle.entry_lists.proofs.Makers.{all_append}
use Rattle.entry_lists.proofs.Prefixes.{prefix_get}
use Rattle.std.specs.Prelude.{slice_get}
use Rattle.rpc_ids.specs.declared.method.Role.{Role}
use Rattle.rpc_ids.specs.declared.method.Role.TheVariants.{Server, Client}
use Rattle.rpc_handlers.specs.declared.answer.Answer.{Answer}
use Rattle.rpc_handlers.specs.declared.event.Memo.{Memo}
use Rattle.rpc_handlers.specs.HandlerRule.{HandlerRule}
use Rattle.rpc_journal.specs.declared.answers.StartRefused.{StartRefused}
use Rattle.rpc_journal.specs.declared.entry.Entry.{Entry}
use Rattle.rpc_journal.specs.declared.entry.TheConstants.{MAX_ENTRIES}
use Rattle.rpc_journal.specs.declared.entry.EntryKind.{EntryKind}
use Rattle.rpc_journal.specs.declared.entry.EntryKind.TheVariants.{Start, Finish}
use Rattle.rpc_journal.specs.Calls.{is_start_of, is_finish_of, runner_of}
use Rattle.rpc_journal.specs.History.{deeds_with, entry_by, adding}
use Rattle.rpc_journal.specs.Lawful.{IsLegal}
use Rattle.rpc_journal.specs.Refusals.{is_full}
use Rattle.rpc_journal.specs.Queues.{taken_event}
use Rattle.rpc_journal.specs.States.{state_before_run}
use Rattle.rpc_journal.specs.Runs.{Begins, IsRunning}
use Rattle.rpc_journal.specs.CallTable.{Table, past}
use Rattle.rpc_journal.proofs.ChangeLemmas.{begun_runs}
use Rattle.rpc_journal.proofs.Push.{history-push}
use Rattle.rpc_journal.specs.Ran.{Ran}
use Rattle.rpc_schedule.specs.ends.OwnEntries.{is_own, AreOwn}
use Rattle.rpc_schedule.specs.ends.EndHolds.{IsKept, IsEnd}

-- the table has one entry more
pub record Adds (t u : Table) (seat : ℕ) (kind : EntryKind) : Type 0 where
  pub setting : u.setting ≡ t.setting
  pub entries : u.entries ≡ adding t.entries seat kind

pub past-adds : (t u : Table) (seat : ℕ) (kind : EntryKind) → Adds t u seat kind → past u ≡ deeds_with t.setting (past t) (entry_by seat kind)
past-adds t u seat kind adds = rw (adds.setting, adds.entries) (history-push t.setting t.entries (entry_by seat kind))

-- a full journal stays full
pub still_full : (h : List Entry) (e : Entry) → is_full h ≡ true → is_full (h ++ e ∷ []) ≡ true
still_full h e full = le-leb MAX_ENTRIES (length (h ++ e ∷ [])) (omega (arith, leb-true MAX_ENTRIES (length h) full, length-append h (e ∷ [])))

-- both ends run handlers
starts_own : (role : Role) (c : ℕ) → is_own role (Start c) ≡ true
starts_own Server c = refl
starts_own Client c = refl

finishes_own : (role : Role) (c : ℕ) (a : Answer) → is_own role (Finish c a) ≡ true
finishes_own Server c a = refl
finishes_own Client c a = refl

module _ (role : Role) (rule : HandlerRule) (seed : Memo) (t u : Table) (refused : Option StartRefused) where
  -- what no entry changes
  grown_own : (seat : ℕ) (kind : EntryKind) → Adds t u seat kind → is_own role kind ≡ true → AreOwn role t.entries → AreOwn role u.entries
  grown_own seat kind adds own all =
      subst (AreOwn role) (sym adds.entries) (all_append (λ e. is_own role e.kind ≡ true) t.entries (entry_by seat kind ∷ []) all (own, tt))

  grown_full : (seat : ℕ) (kind : EntryKind) → Adds t u seat kind → is_full t.entries ≡ true → is_full u.entries ≡ true
  grown_full seat kind adds full = subst (λ h. is_full h ≡ true) (sym adds.entries) (still_full t.entries (entry_by seat kind) full)

  -- a run that is kept stays on over an entry that begins and ends no run
  stays_on : (kept : Option Ran) (seat : ℕ) (kind : EntryKind) → Adds t u seat kind → ((c : ℕ) → (is_start_of c kind ≡ false) × (is_finish_of c kind ≡ false))
      → IfSome kept (IsKept rule t) → IfSome kept (IsKept rule u)
  stays_on None seat kind adds calm is = tt
  stays_on (Some r) seat kind adds calm is =
      let none = calm r.run.call in
      let now = past-adds t u seat kind adds in
      record {
        on = record {
          started = subst (λ h. slice_get h r.run.place ≡ Some (entry_by r.run.seat (Start r.run.call))) (sym adds.entries)
              (prefix_get t.entries (t.entries ++ entry_by seat kind ∷ []) r.run.place _ (entry_by seat kind ∷ [], refl) is.on.started);
          unfinished = subst (λ ds. runner_of ds r.run.call ≡ Some r.run.seat) (sym now) (rw (none.0, none.1) is.on.unfinished);
          took = subst (λ ds. taken_event ds r.run.call ≡ Some r.run.event) (sym now) (rw none.0 is.on.took);
          had = λ ruled.
              subst (λ set. state_before_run rule set (past u) r.run.call ≡ Some r.run.state) (sym adds.setting)
              (subst (λ ds. state_before_run rule t.setting ds r.run.call ≡ Some r.run.state) (sym now) (rw none.0 (is.on.had ruled)));
        };
        seat = is.seat;
        unasked = is.unasked;
      }

  -- an entry that begins and ends no run
  pub calm_step : (kept : Option Ran) (seat : ℕ) (kind : EntryKind) → IsEnd role rule seed t kept refused → Adds t u seat kind → IsLegal rule u.setting u.entries
      → is_own role kind ≡ true → ((c : ℕ) → (is_start_of c kind ≡ false) × (is_finish_of c kind ≡ false)) → IsEnd role rule seed u kept refused
  calm_step kept seat kind is adds legal own calm = record {
    legal = legal;
    has_role = ap (λ set. set.role) adds.setting ∙ is.has_role;
    seeded = is.seeded ∙ sym (ap (λ set. set.seed) adds.setting);
    own = grown_own seat kind adds own is.own;
    kept_on = stays_on kept seat kind adds calm is.kept_on;
    others = λ c apart.
        subst (λ ds. runner_of ds c ≡ None) (sym (past-adds t u seat kind adds)) (rw ((calm c).0, (calm c).1) (is.others c apart));
    full = λ why. grown_full seat kind adds (is.full why);
  }

  -- a run begins
  pub start_step : (r : Ran) → IsEnd role rule seed t None refused → u.setting ≡ t.setting → Begins rule t.setting 2 r.run t.entries u.entries
      → IsLegal rule u.setting u.entries → r.answer ≡ None → IsEnd role rule seed u (Some r) refused
  start_step r is set begins legal unasked =
      let adds : Adds t u 2 (Start r.run.call) = record { setting = set; entries = begins.adds } in
      record {
        legal = legal;
        has_role = ap (λ s. s.role) set ∙ is.has_role;
        seeded = is.seeded ∙ sym (ap (λ s. s.seed) set);
        own = grown_own 2 (Start r.run.call) adds (starts_own role r.run.call) is.own;
        kept_on = record {
          on = subst (λ s. IsRunning rule s u.entries r.run) (sym set) (begun_runs rule t.setting 2 r.run t.entries u.entries begins);
          seat = begins.own_seat;
          unasked = unasked;
        };
        others = λ c apart.
            subst (λ ds. runner_of ds c ≡ None) (sym (past-adds t u 2 (Start r.run.call) adds)) (rw apart (is.others c refl));
        full = λ why. grown_full 2 (Start r.run.call) adds (is.full why);
      }

  -- the run that was kept ends
  pub finish_step : (r : Ran) (a : Answer) → IsEnd role rule seed t (Some r) refused → Adds t u r.run.seat (Finish r.run.call a)
      → IsLegal rule u.setting u.entries → IsEnd role rule seed u None refused
  finish_step r a is adds legal = record {
    legal = legal;
    has_role = ap (λ s. s.role) adds.setting ∙ is.has_role;
    seeded = is.seeded ∙ sym (ap (λ s. s.seed) adds.setting);
    own = grown_own r.run.seat (Finish r.run.call a) adds (finishes_own role r.run.call a) is.own;
    kept_on = tt;
    others = λ c apart.
        subst (λ ds. runner_of ds c ≡ None) (sym (past-adds t u r.run.seat (Finish r.run.call a) adds)) (ended c (r.run.call == c) refl);
    full = λ why. grown_full r.run.seat (Finish r.run.call a) adds (is.full why);
  }
    where
      ended : (c : ℕ) (b : Bool) → (r.run.call == c) ≡ b → (if b then None else runner_of (past t) c) ≡ None
      ended c true same = refl
      ended c false apart = is.others c apart
