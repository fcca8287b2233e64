-- What each call of the table leaves of an end, and what it did.
use Rattle.std.proofs.Common.{◌≡◌, ℕ, Bool, true, false, if◌then◌else◌, List, Option, Some, None, is_some, Result, Ok, Err, IfSome, refl, ap, sym, ◌∙◌, subst, inl, inr}
use Rattle.std.proofs.lemmas.Bool.{false≢true}
use Rattle.rpc_ids.specs.declared.method.Role.{Role}
use Rattle.rpc_ids.specs.declared.method.Role.TheVariants.{Server, Client}
use Rattle.rpc_handlers.specs.declared.event.Memo.{Memo}
use Rattle.rpc_handlers.specs.HandlerRule.{HandlerRule}
use Rattle.rpc_journal.specs.declared.answers.StartRefused.{StartRefused}
use Rattle.rpc_journal.specs.declared.entry.Entry.{Entry}
use Rattle.rpc_journal.specs.declared.entry.EntryKind.{EntryKind}
use Rattle.rpc_journal.specs.declared.entry.EntryKind.TheVariants.{Start, Finish, Flush}
use Rattle.rpc_journal.specs.declared.item.Item.{Item}
use Rattle.rpc_journal.specs.Choice.{IsFirstReady}
use Rattle.rpc_journal.specs.Refusals.{is_full}
use Rattle.rpc_journal.specs.Changes.{Accepts, FlushDid, NothingToFlush, StartDid}
use Rattle.rpc_journal.specs.Calls.{is_start_of, is_finish_of}
use Rattle.rpc_journal.specs.History.{adding, entry_by}
use Rattle.rpc_journal.specs.Lawful.{IsLegal}
use Rattle.rpc_journal.specs.Runs.{IsAnswerOf}
use Rattle.rpc_journal.specs.CallTable.{Table, past}
use Rattle.rpc_journal.proofs.PlaceLemmas.{some_same}
use Rattle.rpc_journal.specs.Ran.{Ran, run_in}
use Rattle.rpc_schedule.specs.Schedule.{NoneWaits}
use Rattle.rpc_schedule.specs.Serving.{Begins, Ends, Gives, Serving}
use Rattle.rpc_schedule.specs.ends.OwnEntries.{is_own}
use Rattle.rpc_schedule.specs.ends.EndHolds.{IsEnd, kept_call}
use Rattle.rpc_schedule.proofs.ends.EntrySteps.{calm_step, start_step}
use Rattle.rpc_schedule.proofs.ends.IdleLemmas.{unhalted}

-- a table is its setting and its entries
pub table_is : (t u : Table) (es : List Entry) → u.setting ≡ t.setting → u.entries ≡ es → u ≡ record { setting = t.setting; entries = es }
table_is t u es set is = ap (λ s. record { setting = s; entries = u.entries }) set ∙ ap (λ h. record { setting = t.setting; entries = h }) is

flushes_own : (role : Role) → is_own role Flush ≡ true
flushes_own Server = refl
flushes_own Client = refl

-- what contracts see
abbrev serving : Table → Option Ran → Option StartRefused → Serving
serving t kept refused = record { table = t; kept = kept_call kept; refused = refused }

module _ (role : Role) (rule : HandlerRule) (seed : Memo) (t u : Table) (refused : Option StartRefused) where
  pub flush_step : (kept : Option Ran) (result : Option Item) → IsEnd role rule seed t kept refused → u.setting ≡ t.setting → IsLegal rule u.setting u.entries
      → FlushDid t.setting 1 result t.entries u.entries → IsEnd role rule seed u kept refused
  flush_step kept (Some item) is set legal did =
      let own = flushes_own role in
      calm_step role rule seed t u refused kept 1 Flush is (record { setting = set; entries = did.adds }) legal own (λ c. (refl, refl))
  flush_step kept None is set legal did = subst (λ v. IsEnd role rule seed v kept refused) (sym (table_is t u t.entries set did.kept)) is

  -- a call that may be refused, and begins and ends no run
  pub accepts_step : {A F E : Type 0} (told_of : F → E) (refusal : Option E) (memory : E) (answers : A → Type 0) (seat : ℕ) (kind : EntryKind) (kept : Option Ran) (result : Result A F)
      → IsEnd role rule seed t kept refused → u.setting ≡ t.setting → IsLegal rule u.setting u.entries
      → Accepts told_of refusal memory answers (entry_by seat kind) result t.entries u.entries → is_own role kind ≡ true → ((c : ℕ) → (is_start_of c kind ≡ false) × (is_finish_of c kind ≡ false))
      → IsEnd role rule seed u kept refused
  accepts_step told_of refusal memory answers seat kind kept (Ok done) is set legal did own calm =
      calm_step role rule seed t u refused kept seat kind is (record { setting = set; entries = did.adds }) legal own calm
  accepts_step told_of refusal memory answers seat kind kept (Err why) is set legal did own calm =
      subst (λ v. IsEnd role rule seed v kept refused) (sym (table_is t u t.entries set did.kept)) is

  -- a call that adds one such entry or none
  pub may_add_step : (b : Bool) (seat : ℕ) (kind : EntryKind) (kept : Option Ran) → IsEnd role rule seed t kept refused → u.setting ≡ t.setting → IsLegal rule u.setting u.entries
      → u.entries ≡ (if b then t.entries else adding t.entries seat kind) → is_own role kind ≡ true → ((c : ℕ) → (is_start_of c kind ≡ false) × (is_finish_of c kind ≡ false))
      → IsEnd role rule seed u kept refused
  may_add_step true seat kind kept is set legal same own calm = subst (λ v. IsEnd role rule seed v kept refused) (sym (table_is t u t.entries set same)) is
  may_add_step false seat kind kept is set legal adds own calm = calm_step role rule seed t u refused kept seat kind is (record { setting = set; entries = adds }) legal own calm

  pub gives : (kept : Option Ran) (result : Option Item) → IsEnd role rule seed t kept refused → u.setting ≡ t.setting
      → FlushDid t.setting 1 result t.entries u.entries → Gives (serving t kept refused) result (serving u kept refused)
  gives kept (Some item) is set did =
      (did.front, ap (λ v. serving v kept refused) (table_is t u (adding t.entries 1 Flush) set did.adds))
  gives kept None is set did = (none did.none, ap (λ v. serving v kept refused) (table_is t u t.entries set did.kept))
    where
      none : NothingToFlush (past t) → NoneWaits (past t)
      none (inl all) = all
      none (inr halted) = absurd (false≢true (sym (ap is_some (unhalted role t is.own)) ∙ halted))

  -- the run that was kept ended with what its handler gave
  pub ends : (r : Ran) → IsEnd role rule seed t (Some r) refused → IsAnswerOf rule r.run r.gives → u.setting ≡ t.setting
      → u.entries ≡ adding t.entries r.run.seat (Finish r.run.call r.gives) → Ends rule (serving t (Some r) refused) (serving u None refused)
  ends r is fits set adds = record {
    call = r.run.call;
    answer = r.gives;
    kept = refl;
    by_rule = λ ruled. rw (is.kept_on.on.had ruled, is.kept_on.on.took) (ap Some (sym (fits.by_rule ruled)));
    adds = ap (λ v. serving v None refused) (table_is t u (adding t.entries 2 (Finish r.run.call r.gives)) set (subst (λ seat. u.entries ≡ adding t.entries seat (Finish r.run.call r.gives)) is.kept_on.seat adds));
  }

  pub ended : (kept left : Option Ran) (r x : Ran) → kept ≡ Some r → left ≡ None → Some x ≡ Some (record r { answer = Some r.gives })
      → IsEnd role rule seed t kept refused → IsAnswerOf rule r.run r.gives → u.setting ≡ t.setting
      → u.entries ≡ adding t.entries x.run.seat (Finish x.run.call x.gives) → Ends rule (serving t kept refused) (serving u left refused)
  ended kept left r x some none same is fits set adds =
      let it : x ≡ record r { answer = Some r.gives } = some_same _ _ same in
      subst (λ k. Ends rule (serving t k refused) (serving u left refused)) (sym some)
      (subst (λ k. Ends rule (serving t (Some r) refused) (serving u k refused)) (sym none)
      (ends r (subst (λ k. IsEnd role rule seed t k refused) some is) fits set
      (subst (λ q. u.entries ≡ adding t.entries q.run.seat (Finish q.run.call q.gives)) it adds)))

  pub started : (kept o : Option Ran) (r : Ran) → kept ≡ None → o ≡ Some r → IsEnd role rule seed t kept refused → u.setting ≡ t.setting
      → IsLegal rule u.setting u.entries → StartDid rule run_in t.setting 2 (Ok o) t.entries u.entries → IfSome o (λ q. q.answer ≡ None)
      → IsEnd role rule seed u (Some r) refused
  started kept o r none some is set legal did unasked =
      start_step role rule seed t u refused r (subst (λ k. IsEnd role rule seed t k refused) none is) set
      (subst (λ q. StartDid rule run_in t.setting 2 (Ok q) t.entries u.entries) some did).begins legal
      (subst (λ q. IfSome q (λ x. x.answer ≡ None)) some unasked)

  -- a run began, and is kept
  pub begins : (r : Ran) → IsFirstReady (past t) r.run.call → is_full t.entries ≡ false → u.setting ≡ t.setting
      → u.entries ≡ adding t.entries 2 (Start r.run.call) → Begins (serving t None refused) (serving u (Some r) refused)
  begins r first room set adds = record {
    call = r.run.call;
    unkept = refl;
    first = first;
    room = room;
    adds = ap (λ v. serving v (Some r) refused) (table_is t u (adding t.entries 2 (Start r.run.call)) set adds);
  }
