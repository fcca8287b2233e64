-- The driver from the opening of the call to its end.
use Rattle.std.proofs.Common.{◌≡◌, ℕ, zero, suc, Bool, true, false, List, [], ◌∷◌, Option, Some, None, is_ok, Result, Ok, Err, OnOk, OnErr, refl, ap, sym, ◌∙◌, subst, inl, inr, le_refl}
use Rattle.std.proofs.lemmas.Bool.{false≢true, true≢false}
use Rattle.std.proofs.KnownBytes.{Appends-nil}
use mathlib.Core.Option.{some, some-injective}
use lib.ListN.{get_elem?}
use Rattle.link_io.specs.Causes.{Rose}
use Rattle.link_io.specs.declared.reading.Ending.{Ending}
use Rattle.link_io.specs.declared.reading.Ending.TheVariants.{Failed}
use Rattle.turn_cell.specs.Passes.{AllFit, AreAll, IsIdle, IsNew, IsSame}
use Rattle.turn_cell.proofs.Passes.{all_back}
use Rattle.link_io.specs.Stored.{Stored}
use Rattle.rpc_ids.specs.declared.method.MethodRef.{MethodRef}
use Rattle.rpc_packet.specs.declared.call_name.CallName.{CallName}
use Rattle.rpc_handlers.specs.HandlerRule.{empty_memo}
use Rattle.rpc_journal.specs.declared.entry.EntryKind.{EntryKind}
use Rattle.rpc_journal.specs.declared.entry.EntryKind.TheVariants.{Invoke}
use Rattle.rpc_journal.specs.Changes.{request}
use Rattle.rpc_journal.specs.History.{entry_by, history}
use Rattle.rpc_journal.specs.declared.entry.Entry.{Entry}
use Rattle.rpc_journal.specs.declared.setting.Setting.{Setting}
use Rattle.rpc_journal.specs.CallTable.{Table}
use Rattle.rpc_journal.specs.Items.{halt_reason}
use Rattle.rpc_journal.specs.Lawful.{IsLegal}
use Rattle.rpc_journal.specs.Laws.{seat_of}
use Rattle.rpc_journal.specs.Quiet.{is_settled}
use Rattle.rpc_frames.specs.Listening.{Listening}
use Rattle.rpc_shared.specs.Steps.{base_of, log_of}
use Rattle.rpc_shared.specs.session.Reasons.{reason_of}
use Rattle.rpc_shared.specs.session.Crew.{Lock, Seat}
use Rattle.rpc_shared.specs.session.Ring.{HaltsFor}
use Rattle.rpc_shared.specs.session.Sessions.{is_halted}
use Rattle.rpc_shared.proofs.session.WriterLemmas.{holds_none}
use Rattle.link_io.specs.declared.why.Why.{Why}
use Rattle.live_client.specs.Ask.{live_name, live_setting, opens}
use Rattle.live_client.specs.Driving.{DriverEnded, Drove, Works}
use Rattle.live_client.specs.Histories.{cancels}
use Rattle.live_client.specs.Feeding.{HasRead, Reader, is_readers}
use Rattle.live_client.specs.Opening.{Opens}
use Rattle.live_client.specs.Ran.{HasRun}
use Rattle.live_client.specs.asks.Telling.{Progress, said_all, unknown}
use Rattle.live_client.specs.Silent.{silent_rule}
use Rattle.live_client.proofs.TalkLemmas.{Did}
use Rattle.live_client.proofs.WholeLive.{Ends, ends_of, stops_of}
use Rattle.live_client.proofs.WorkLemmas.{works_ended}

module _ (watches : Bool) (r : Lock) (name : CallName) (payload : List ℕ) (c : ℕ) (p : Seat) (opened : Opens r name payload c p) where
  abbrev opening : EntryKind
  opening = Invoke (request name payload) empty_memo

  not_halted : (why : Why) → HaltsFor why p.view.known.mine → ⊥
  not_halted why halts = at (subst (HaltsFor why) opened.mine halts)
    where
      at : HaltsFor why (entry_by 1 opening ∷ []) → ⊥
      at (inl is) = absurd (cc is)
      at (inr none) = none

  -- an errand that was told nothing yet
  pub works_first : (did : Did) (w : Option (List ℕ)) (d : Option Stored) (f g : ℕ) → did None [] [] None → Works watches opening did r c false false w w d d f f g g p
  works_first did w d f g fresh = record {
    items = [];
    talks = record {
      cut = None;
      events = [];
      outs = [];
      lost = [];
      ended = None;
      drives = opened.drives watches;
      quiet = ap cancels opened.mine;
      heard = fresh;
      none_lost = λ whole. refl;
      is_over = λ is. absurd (false≢true is);
    };
    made = record { first = []; which = refl; written = Appends-nil w; stored = holds_none d };
    causes = record { sink = λ halts. absurd (not_halted _ halts); store = λ halts. absurd (not_halted _ halts); later = (le_refl f, le_refl g) };
  }

  -- how the driver ends
  module _ (did now : Progress → ℕ → ℕ → Did) (cuts : Bool) (start upto : ℕ) (w w' : Option (List ℕ)) (d d' : Option Stored) (f f' g g' : ℕ) (q : Seat) (fresh : did unknown start start None [] [] None) where
    pub driver_ended : {A E : Type 0} (result : Result A E) → Drove watches did now cuts r c (is_ok result) start upto w w' d d' f f' g g' p q
        → OnOk result (is_settled (history r.base q.view.known.seen) ≡ true) → OnErr result (is_halted r.base q.view.known.seen ≡ true)
        → DriverEnded watches opening (λ all. now all start upto) r c w w' d d' f f' g g' q
    driver_ended (Ok a) drove settled halted =
        let so = drove.works refl opening unknown start w d f g (le_refl start) (works_first (did unknown start start) w d f g fresh) in
        record {
          worked = works_ended watches opening r c w d f g said_all (λ all. now all start upto) true true true so.items w' d' f' g' q so.talks so.made so.causes;
          cause = inl (so, settled);
        }
    driver_ended (Err e) drove settled halted =
        record {
          worked = drove.worked refl opening unknown start w d f g (le_refl start) (works_first (did unknown start start) w d f g fresh);
          cause = inr halted;
        }

    pub driver_uncut : (ok : Bool) → Drove watches did now cuts r c ok start upto w w' d d' f f' g g' p q → cuts ≡ false
    driver_uncut ok drove = drove.uncut opening unknown start w d f g (le_refl start) (works_first (did unknown start start) w d f g fresh)

-- both passes are back
pub both_idle : (r : Lock) (p0 p1 q0 q1 : Seat) → AreAll r (IsNew r) (p0 ∷ p1 ∷ []) → IsSame p0 q0 → q0.view.holds ≡ false → IsSame p1 q1 → q1.view.holds ≡ false → AreAll r (IsIdle r) (q0 ∷ q1 ∷ [])
both_idle r p0 p1 q0 q1 all same0 idle0 same1 idle1 = all_back r (p0 ∷ p1 ∷ []) (q0 ∷ q1 ∷ []) all (record { count = refl; each = each })
  where
    each : (k : ℕ) (x : Seat) → get_elem? (p0 ∷ p1 ∷ []) k ≡ some x → (y : Seat) × (get_elem? (q0 ∷ q1 ∷ []) k ≡ some y) × IsSame x y × (y.view.holds ≡ false)
    each zero x at = (q0, refl, subst (λ z. IsSame z q0) (some-injective p0 x at) same0, idle0)
    each (suc zero) x at = (q1, refl, subst (λ z. IsSame z q1) (some-injective p1 x at) same1, idle1)
    each (suc (suc k)) x at = absurd (cc at)

-- a table that knows this method alone
module _ (method : MethodRef) where
  -- what a run of a live client did, once both passes are back
  pub run_ends : (r : Lock) → r.base ≡ (live_setting method) → (watches : Bool) (payload : List ℕ) (c : ℕ) (p q0 q1 : Seat) → Opens r (live_name method) payload c p
      → (did now : Progress → ℕ → ℕ → Did) (cuts : Bool) (start upto : ℕ) (left left' w w' : Option (List ℕ)) (d d' : Option Stored) (f f' g g' : ℕ) (ending : Option Ending) (read : ℕ) (listener : Listening) → did unknown start start None [] [] None
      → Reader is_readers r q0 → HasRead r.base left left' ending read listener q0 → {A E : Type 0} (result : Result A E) → Drove watches did now cuts r c (is_ok result) start upto w w' d d' f f' g g' p q1
      → OnOk result (is_settled (history r.base q1.view.known.seen) ≡ true) → OnErr result (is_halted r.base q1.view.known.seen ≡ true)
      → (t : Table) → AllFit log_of seat_of base_of (q0 ∷ q1 ∷ []) t → t.setting ≡ r.base → IsLegal silent_rule t.setting t.entries
      → (Ends method) watches (opens method payload) (λ all. now all start upto) left left' w w' d d' f f' g g' ending read t.entries
  run_ends r base watches payload c p q0 q1 opened did now cuts start upto left left' w w' d d' f f' g g' ending read listener fresh reader has_read result drove settled halted t fits setting legal =
      (ends_of method) r base watches (request (live_name method) payload) empty_memo (λ all. now all start upto) c left left' w w' d d' f f' g g' ending read listener q0 q1 t
      (record {
        reader = reader;
        has_read = has_read;
        ended = driver_ended watches r (live_name method) payload c p opened did now cuts start upto w w' d d' f f' g g' q1 fresh result drove settled halted;
        fits = fits;
        legal = subst (λ set. IsLegal silent_rule set t.entries) setting legal;
      })

  -- what holds of a driver that ended well holds of a run that no halt ended
  pub run_well : (r : Lock) → r.base ≡ (live_setting method) → (watches : Bool) (payload : List ℕ) (c : ℕ) (p q0 q1 : Seat) → Opens r (live_name method) payload c p
      → (did now : Progress → ℕ → ℕ → Did) (cuts : Bool) (start upto : ℕ) (left left' w w' : Option (List ℕ)) (d d' : Option Stored) (f f' g g' : ℕ) (ending : Option Ending) (read : ℕ) (listener : Listening) → did unknown start start None [] [] None
      → Reader is_readers r q0 → HasRead r.base left left' ending read listener q0 → {A E X : Type 0} (result : Result A E) → Drove watches did now cuts r c (is_ok result) start upto w w' d d' f f' g g' p q1
      → OnOk result X → OnOk result (is_settled (history r.base q1.view.known.seen) ≡ true) → OnErr result (is_halted r.base q1.view.known.seen ≡ true)
      → (t : Table) → AllFit log_of seat_of base_of (q0 ∷ q1 ∷ []) t → t.setting ≡ r.base → IsLegal silent_rule t.setting t.entries
      → is_halted (live_setting method) t.entries ≡ false → X
  run_well r base watches payload c p q0 q1 opened did now cuts start upto left left' w w' d d' f f' g g' ending read listener fresh reader has_read {A} {E} {X} (Ok a) drove well settled halted t fits setting legal calm = well
  run_well r base watches payload c p q0 q1 opened did now cuts start upto left left' w w' d d' f f' g g' ending read listener fresh reader has_read {A} {E} {X} (Err e) drove well settled halted t fits setting legal calm =
      absurd (true≢false (sym
      ((stops_of method) r base watches (request (live_name method) payload) empty_memo (λ all. now all start upto) c left left' w w' d d' f f' g g' ending read listener q0 q1 t
      (record {
        reader = reader;
        has_read = has_read;
        ended = driver_ended watches r (live_name method) payload c p opened did now cuts start upto w w' d d' f f' g g' q1 fresh {A = A} {E = E} (Err e) drove settled halted;
        fits = fits;
        legal = subst (λ set. IsLegal silent_rule set t.entries) setting legal;
      }) halted) ∙ calm))

  -- with why it ended
  pub has_run : (watches : Bool) (first : EntryKind) (did : Progress → Did) (left left' w w' : Option (List ℕ)) (d d' : Option Stored) (i i' f f' g g' : ℕ) (ending : Option Ending) (read : ℕ) (h : List Entry) (why : Why)
      → (Ends method) watches first did left left' w w' d d' f f' g g' ending read h → why ≡ reason_of (halt_reason (history (live_setting method) h)) ending → (ending ≡ Some Failed → Rose i i')
      → HasRun method watches first left left' w w' d d' i i' f f' g g' why read h
  has_run watches first did left left' w w' d d' i i' f f' g g' ending read h why ends is fault = record {
    history = ends.historic why is;
    begins = ends.begins;
    explains = ends.explains;
    at_end = ends.at_end why is;
    at_limit = ends.at_limit why is;
    below = ends.below why is;
    full = ends.full why is;
    source = λ same. fault (ends.failed why is same);
    sink = ends.sink why is;
    store = ends.store why is;
  }

  pub why_halted : (setting : Setting) (h : List Entry) (halted : Option Why) → setting ≡ (live_setting method) → halted ≡ halt_reason (history setting h) → halted ≡ halt_reason (history (live_setting method) h)
  why_halted setting h halted set is = is ∙ ap (λ s. halt_reason (history s h)) set

  pub why_told : (setting : Setting) (h : List Entry) (halted : Option Why) (ending : Option Ending) (why : Why) → setting ≡ (live_setting method) → halted ≡ halt_reason (history setting h) → why ≡ reason_of halted ending
      → why ≡ reason_of (halt_reason (history (live_setting method) h)) ending
  why_told setting h halted ending why set is same = same ∙ ap (λ o. reason_of o ending) (why_halted setting h halted set is)
