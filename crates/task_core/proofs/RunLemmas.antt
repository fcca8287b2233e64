-- What a run has done so far.
use Rattle.std.proofs.Common.{◌≡◌, ℕ, Bool, true, false, List, ◌∷◌, Option, Some, None, is_none, refl, sym, ◌∙◌}
use Rattle.std.proofs.lemmas.Bool.{and_parts}
use Rattle.slab.specs.Slab.{get, with_value}
use Rattle.task_core.specs.declared.place.Place.{Place}
use Rattle.task_core.specs.declared.stop.Stop.{Stop}
use Rattle.task_core.specs.declared.stop.Stop.TheVariants.{AllDone, Stalled, Budget}
use Rattle.task_core.specs.Context.{Context, all_outs}
use Rattle.task_core.specs.Visit.{Visit}
use Rattle.task_core.specs.Log.{Step, polled}
use Rattle.task_core.specs.Due.{IsFirstDue}
use Rattle.task_core.specs.Places.{lives_in, due_in, IsPolled}
use Rattle.task_core.specs.Runs.{Turn, IsIdle, StopsBy}
use Rattle.task_core.specs.Tasks.{Tasks, StandsFor}
use Rattle.task_core.proofs.LogLemmas.{polled_stands}
use Rattle.task_core.proofs.DueLemmas.{lives_is, due_is}

pub none_of : {A : Type 0} → (o : Option A) → is_none o ≡ true → o ≡ None
none_of None is = refl
none_of (Some x) is = absurd (cc is)

module _ {T : Type 0} where
  -- where no task is due
  pub stops_idle : (b : Tasks T) (log : List (Step T)) (n budget : ℕ) (stop : Stop) → StandsFor b log → ((k : ℕ) → due_in (get b.places k) ≡ false) → IsIdle (λ k. lives_in (get b.places k)) stop → StopsBy stop n budget log
  stops_idle b log n budget AllDone stands calm idle = λ k. lives_is b log k stands ∙ idle k
  stops_idle b log n budget Stalled stands calm idle = ((idle.0, lives_is b log idle.0 stands ∙ idle.1), λ k. due_is b log k stands ∙ calm k)
  stops_idle b log n budget Budget stands calm idle = absurd idle

  -- the poll of the first task that is due is a turn
  pub turn_made : (polls : T → Visit → T → Type 0) (b : Tasks T) (log : List (Step T)) (key : ℕ) (p q : Place T) (before after : Context) (visit : Visit) (short : Bool) → StandsFor b log → get b.places key ≡ Some p → due_in (Some p) ≡ true → IsFirstDue log key → b.moment ≡ before.moment → b.outs ≡ all_outs before → IsPolled polls key p q before after visit short → (new : List (Step T)) × Turn polls log new short × StandsFor (record { moment = after.moment; places = with_value b.places key q; outs = all_outs after }) new
  turn_made polls b log key p q before after visit short stands found due first now said is =
      let lives : p.result ≡ None = none_of p.result (and_parts (is_none p.result) _ due).0 in
      let tells = stands.tells key p found in (
        polled key visit short q.task ∷ log,
        record {
          key = key;
          first = first;
          before = p.task;
          was = tells.task;
          visit = visit;
          after = q.task;
          did = is.did;
          moment = is.moment ∙ sym (stands.moment ∙ now);
          mail = is.mail ∙ sym (tells.living lives).mail;
          owed = is.owed;
          adds = refl;
        },
        polled_stands polls b log key p q before after visit short stands found lives now said is,
      )
