-- How many words are lost where their numbers are listed, and that a step is a turn where none is.
use Rattle.std.proofs.Common.{◌≡◌, ℕ, zero, suc, ◌+◌, ◌≤◌, ◌==◌, ◌||◌, nat_le, Bool, true, false, if◌then◌else◌, List, [], ◌∷◌, ◌++◌, length, Option, Some, None, refl, sym, ap, subst, arith, length-append}
use Rattle.std.proofs.lemmas.Bool.{eqb-true}
use Rattle.std.proofs.lemmas.Bool.Decides.{nat_tests}
use Rattle.rpc_ids.specs.declared.Status.{Status}
use Rattle.transfer_base.specs.declared.limits.TheConstants.{TIMEOUT}
use Rattle.transfer_words.specs.Word.{Word}
use Rattle.transfer_words.specs.Saying.{Stepped}
use Rattle.transfer_resume.specs.declared.stage.Stage.{Stage}
use Rattle.transfer_resume.specs.Session.{Service}
use Rattle.transfer_resume.specs.Hears.{session_hears}
use Rattle.transfer_client.specs.Machine.{Rules}
use Rattle.transfer_laws.specs.pairs.Pair.{turn_by, words_of}
use Rattle.transfer_laws.specs.losses.Drops.{Lost, LossyPair, at_time, begun, kept, lost_at, missing, session_ticks, step, step_by, steps, waits_by}
use Rattle.transfer_laws.specs.losses.Survives.{IsOnItsWay, NumbersLoseFew, StepsAreTurns, is_among}

-- how many of these numbers are at most m
abbrev pub one_if : Bool → ℕ
one_if b = if b then 1 else 0

abbrev up_to : ℕ → List ℕ → ℕ
up_to m [] = 0
up_to m (d ∷ ds) = one_if (nat_le d m) + up_to m ds

all_counted : (m : ℕ) (ds : List ℕ) → up_to m ds ≤ length ds
all_counted m [] = omega arith
all_counted m (d ∷ ds) = by_test (nat_le d m) (all_counted m ds)
  where
    by_test : (b : Bool) → up_to m ds ≤ length ds → one_if b + up_to m ds ≤ length (d ∷ ds)
    by_test true rest = omega (arith, rest)
    by_test false rest = omega (arith, rest)

one_more : (d m : ℕ) → one_if (nat_le d m) ≤ one_if (nat_le d (suc m))
one_more d m = by_tests (nat_le d m) (nat_le d (suc m)) refl refl
  where
    by_tests : (a b : Bool) → nat_le d m ≡ a → nat_le d (suc m) ≡ b → one_if a ≤ one_if b
    by_tests false b e f = omega arith
    by_tests true true e f = omega arith
    by_tests true false e f = absurd (grind (arith, nat_tests, e, f))

rises : (m : ℕ) (ds : List ℕ) → up_to m ds ≤ up_to (suc m) ds
rises m [] = omega arith
rises m (d ∷ ds) = omega (arith, one_more d m, rises m ds)

counted : (m : ℕ) (ds : List ℕ) → is_among ds (suc m) ≡ true → suc (up_to m ds) ≤ up_to (suc m) ds
counted m [] is = absurd (grind (arith, nat_tests, is))
counted m (d ∷ ds) is = by_test (d == suc m) refl (rises m ds) (one_more d m) (λ rest. counted m ds rest) is
  where
    here : (d : ℕ) → (d == suc m) ≡ true → suc (one_if (nat_le d m)) ≤ one_if (nat_le d (suc m))
    here d e = by_tests (nat_le d m) (nat_le d (suc m)) refl refl (eqb-true d (suc m) e)
      where
        by_tests : (a b : Bool) → nat_le d m ≡ a → nat_le d (suc m) ≡ b → d ≡ suc m → suc (one_if a) ≤ one_if b
        by_tests false true e f same = omega arith
        by_tests true b e f same = absurd (grind (arith, nat_tests, e, same))
        by_tests false false e f same = absurd (grind (arith, nat_tests, f, same))

    by_test : (b : Bool) → (d == suc m) ≡ b → up_to m ds ≤ up_to (suc m) ds → one_if (nat_le d m) ≤ one_if (nat_le d (suc m)) → (is_among ds (suc m) ≡ true → suc (up_to m ds) ≤ up_to (suc m) ds)
        → (b || is_among ds (suc m)) ≡ true → suc (one_if (nat_le d m) + up_to m ds) ≤ one_if (nat_le d (suc m)) + up_to (suc m) ds
    by_test true e more first rest is = omega (arith, here d e, more)
    by_test false e more first rest is = omega (arith, first, rest is)

-- the words that are lost were counted
missed : (ds : List ℕ) (now said : ℕ) (ws : List Word) → length (missing (is_among ds) now said ws) + up_to said ds ≤ up_to (said + length ws) ds
missed ds now said [] = subst (λ m. 0 + up_to said ds ≤ up_to m ds) none (omega arith)
  where
    none : said ≡ said + 0
    none = omega arith
missed ds now said (w ∷ ws) = by_loss (is_among ds (suc said)) refl (subst (λ m. length (missing (is_among ds) now (suc said) ws) + up_to (suc said) ds ≤ up_to m ds) more (missed ds now (suc said) ws))
  where
    more : suc said + length ws ≡ said + length (w ∷ ws)
    more = omega arith

    by_loss : (b : Bool) → is_among ds (suc said) ≡ b → length (missing (is_among ds) now (suc said) ws) + up_to (suc said) ds ≤ up_to (said + length (w ∷ ws)) ds
        → length (if b then lost_at now w ∷ missing (is_among ds) now (suc said) ws else missing (is_among ds) now (suc said) ws) + up_to said ds ≤ up_to (said + length (w ∷ ws)) ds
    by_loss true e rest = omega (arith, counted said ds e, rest)
    by_loss false e rest = omega (arith, rises said ds, rest)

module _ {C : Type 0} (service : Service) (rules : Rules C) (ds : List ℕ) where
  abbrev loses : ℕ → Bool
  loses = is_among ds

  abbrev IsCounted : LossyPair C → Type 0
  IsCounted w = length w.lost ≤ up_to w.pair.said ds

  -- one end has said these words
  one_said : (now m : ℕ) (ws : List Word) (lost : List Lost) → length lost ≤ up_to m ds → length (missing loses now m ws ++ lost) ≤ up_to (m + length ws) ds
  one_said now m ws lost few = omega (arith, missed ds now m ws, few, length-append (missing loses now m ws) lost)

  waits_counted : (w : LossyPair C) (end : Option Status) → IsCounted w → IsCounted (waits_by service rules loses w end)
  waits_counted w (Some status) few = few
  waits_counted w None few =
      let now : ℕ = w.now + TIMEOUT in
      let up : List Word = words_of (rules.ticks w.pair.client now).sayings in
      let down : List Word = words_of (session_ticks service.side now w.pair.server).sayings in
      one_said now (w.pair.said + length up) down (missing loses now w.pair.said up ++ w.lost) (one_said now w.pair.said up w.lost few)

  links_counted : (w : LossyPair C) (up down : List Word) → IsCounted w → IsCounted (step_by service rules loses w up down)
  links_counted w (c ∷ rest) down few = one_said w.now w.pair.said (words_of (session_hears (at_time service w.time) true w.pair.server c).sayings) w.lost few
  links_counted w [] (c ∷ rest) few = one_said w.now w.pair.said (words_of (rules.hears w.pair.client c w.now).sayings) w.lost few
  links_counted w [] [] few = waits_counted w (rules.end_of w.pair.client) few

  steps_counted : (count : ℕ) (w : LossyPair C) → IsCounted w → IsCounted (steps service rules loses count w)
  steps_counted zero w few = few
  steps_counted (suc count) w few = steps_counted count (step service rules loses w) (links_counted w w.pair.to_server w.pair.to_client few)

  few_lost : (now time : ℕ) (t : C) (count : ℕ) → length (steps service rules loses count (begun service rules loses now time t)).lost ≤ length ds
  few_lost now time t count =
      let w : LossyPair C = begun service rules loses now time t in
      let all : IsCounted (steps service rules loses count w) = steps_counted count w (one_said now 0 (words_of (rules.opens t now).sayings) [] (omega arith)) in
      omega (arith, all, all_counted (steps service rules loses count w).pair.said ds)

-- a list of numbers loses at most so many words
pub numbers_lose_few : {C : Type 0} (rules : Rules C) → NumbersLoseFew rules
numbers_lose_few rules service numbers now time t count = few_lost service rules numbers now time t count

-- WHERE NOTHING IS LOST

all_go_on : (said : ℕ) (ws : List Word) → kept (λ number. false) said ws ≡ ws
all_go_on said [] = refl
all_go_on said (w ∷ ws) = ap (λ rest. w ∷ rest) (all_go_on (suc said) ws)

none_missing : (now said : ℕ) (ws : List Word) → missing (λ number. false) now said ws ≡ []
none_missing now said [] = refl
none_missing now said (w ∷ ws) = none_missing now (suc said) ws

module _ {C : Type 0} (service : Service) (rules : Rules C) (w : LossyPair C) where
  -- with these words on their way instead
  abbrev IsTurnBy : List Word → List Word → LossyPair C → Type 0
  IsTurnBy up down after = (turn_by (at_time service w.time) rules w.now w.pair up down ≡ Some after.pair) × (after.lost ≡ w.lost) × (after.now ≡ w.now) × (after.time ≡ w.time)

  by_links : (up down : List Word) → IsOnItsWay up down → IsTurnBy up down (step_by service rules (λ number. false) w up down)
  by_links (c ∷ rest) down is =
      let t : Stepped (Option Stage) = session_hears (at_time service w.time) true w.pair.server c in
      let said : ℕ = w.pair.said + length (words_of t.sayings) in (
        ap (λ ws. Some (record { server = t.after; client = w.pair.client; to_server = rest; to_client = w.pair.to_client ++ ws; said = said })) (sym (all_go_on w.pair.said (words_of t.sayings))),
        ap (λ ws. ws ++ w.lost) (none_missing w.now w.pair.said (words_of t.sayings)),
        refl,
        refl,
      )
  by_links [] (c ∷ rest) is =
      let t : Stepped C = rules.hears w.pair.client c w.now in
      let said : ℕ = w.pair.said + length (words_of t.sayings) in (
        ap (λ ws. Some (record { server = w.pair.server; client = t.after; to_server = w.pair.to_server ++ ws; to_client = rest; said = said })) (sym (all_go_on w.pair.said (words_of t.sayings))),
        ap (λ ws. ws ++ w.lost) (none_missing w.now w.pair.said (words_of t.sayings)),
        refl,
        refl,
      )
  by_links [] [] is = absurd is

pub steps_are_turns : {C : Type 0} (rules : Rules C) → StepsAreTurns rules
steps_are_turns rules service w is = let all = by_links service rules w w.pair.to_server w.pair.to_client is in record { pair = all.0; lost = all.1; now = all.2; time = all.3 }
