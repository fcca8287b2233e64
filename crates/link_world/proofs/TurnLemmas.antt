-- Which turn comes next, by the link and the course.
use Rattle.std.proofs.Common.{◌≡◌, ℕ, zero, suc, ◌+◌, List, [], ◌∷◌, drop, slice_get, Option, Some, None, refl, ap, sym, ◌∙◌, arith}
use Rattle.std.specs.Prelude.{IfNone}
use Rattle.link_script.specs.declared.command.Command.{Command}
use Rattle.rpc_journal.proofs.PlaceLemmas.{some_same}
use Rattle.link_laws.specs.world.Turns.{ending, kind_at_rest, kind_by, kind_under, next_kind, starting, to_client, to_server}
use Rattle.link_laws.specs.world.World.{Setup, Under as UnderWay, World, wiring_of}
use Rattle.link_world.specs.client.Underway.{under_seen}
use Rattle.link_laws.specs.world.Wiring.{Wiring}
use Rattle.link_world.specs.declared.course.Course.{Course}
use Rattle.link_world.specs.Making.{with_rest_down, with_rest_up}
use Rattle.link_world.specs.Showing.{CourseShows}

pub if_none : {A : Type 0} (o : Option A) (P : Type 0) → P → IfNone o P
if_none None P holds = holds
if_none (Some x) P holds = tt

drop_suc : {A : Type 0} (xs : List A) (n : ℕ) (x : A) → slice_get xs n ≡ Some x → drop n xs ≡ x ∷ drop (suc n) xs
drop_suc [] n x is = absurd cc
drop_suc (y ∷ xs) zero x is = ap (λ z. z ∷ xs) (some_same y x is)
drop_suc (y ∷ xs) (suc n) x is = drop_suc xs n x is

pub drop_at : {A : Type 0} (xs : List A) (n : ℕ) (x : A) → slice_get xs n ≡ Some x → drop n xs ≡ x ∷ drop (n + 1) xs
drop_at xs n x is = let one : suc n ≡ n + 1 = omega arith in drop_suc xs n x is ∙ ap (λ m. x ∷ drop m xs) one

rest_suc : {A : Type 0} (xs : List A) (n : ℕ) (x : A) (rest : List A) → drop n xs ≡ x ∷ rest → drop (suc n) xs ≡ rest
rest_suc [] zero x rest is = absurd cc
rest_suc [] (suc n) x rest is = absurd cc
rest_suc (y ∷ xs) zero x rest is = cc
rest_suc (y ∷ xs) (suc n) x rest is = rest_suc xs n x rest is

-- what is left behind the first of these
pub rest_at : {A : Type 0} (xs : List A) (n : ℕ) (x : A) (rest : List A) → drop n xs ≡ x ∷ rest → drop (n + 1) xs ≡ rest
rest_at xs n x rest is = let one : n + 1 ≡ suc n = omega arith in ap (λ m. drop m xs) one ∙ rest_suc xs n x rest is

pub drop_past : {A : Type 0} (xs : List A) (n : ℕ) → slice_get xs n ≡ None → drop n xs ≡ []
drop_past [] zero is = refl
drop_past [] (suc n) is = refl
drop_past (y ∷ xs) zero is = absurd cc
drop_past (y ∷ xs) (suc n) is = drop_past xs n is

module _ (k : Setup) (w : World) where
  pub record GoesUp (frame : List ℕ) (new : Wiring) : Type 0 where
    pub rest : List (List ℕ)
    pub kind : next_kind w ≡ to_server frame rest
    pub wires : new ≡ wiring_of k (with_rest_up rest w)

  -- a frame is on the way to the server
  pub goes_up : (old new : Wiring) (frame : List ℕ) → old ≡ wiring_of k w → old.to_server.frames ≡ frame ∷ new.to_server.frames
      → new ≡ record old { to_server = record old.to_server { frames = new.to_server.frames } } → GoesUp frame new
  goes_up old new frame wires frames same = record {
    rest = new.to_server.frames;
    kind = ap (λ fs. kind_by fs w.to_client.frames w.under w.coming) (ap (λ x. x.to_server.frames) (sym wires) ∙ frames);
    wires = same ∙ ap {A = Wiring} {B = Wiring} (λ z. record z { to_server = record z.to_server { frames = new.to_server.frames } }) wires;
  }

  -- none is
  pub none_up : (old new : Wiring) → old ≡ wiring_of k w → old.to_server.frames ≡ new.to_server.frames
      → new ≡ record old { to_server = record old.to_server { frames = new.to_server.frames } } → new ≡ wiring_of k w
  none_up old new wires frames same = same ∙ (ap {A = List (List ℕ)} {B = Wiring} (λ fs. record old { to_server = record old.to_server { frames = fs } }) (sym frames) ∙ wires)

  pub none_down : (old new : Wiring) → old ≡ wiring_of k w → old.to_client.frames ≡ new.to_client.frames
      → new ≡ record old { to_client = record old.to_client { frames = new.to_client.frames } } → new ≡ wiring_of k w
  none_down old new wires frames same = same ∙ (ap {A = List (List ℕ)} {B = Wiring} (λ fs. record old { to_client = record old.to_client { frames = fs } }) (sym frames) ∙ wires)

  pub up_empty : (old : Wiring) → old ≡ wiring_of k w → old.to_server.frames ≡ [] → w.to_server.frames ≡ []
  up_empty old wires empty = ap (λ x. x.to_server.frames) (sym wires) ∙ empty

  pub down_empty : (old : Wiring) → old ≡ wiring_of k w → old.to_client.frames ≡ [] → w.to_client.frames ≡ []
  down_empty old wires empty = ap (λ x. x.to_client.frames) (sym wires) ∙ empty

  pub record GoesDown (frame : List ℕ) (new : Wiring) : Type 0 where
    pub rest : List (List ℕ)
    pub kind : next_kind w ≡ to_client frame rest
    pub wires : new ≡ wiring_of k (with_rest_down rest w)

  -- a frame is on the way to the client
  pub goes_down : (old new : Wiring) (frame : List ℕ) → old ≡ wiring_of k w → w.to_server.frames ≡ [] → old.to_client.frames ≡ frame ∷ new.to_client.frames
      → new ≡ record old { to_client = record old.to_client { frames = new.to_client.frames } } → GoesDown frame new
  goes_down old new frame wires up frames same = record {
    rest = new.to_client.frames;
    kind = ap (λ fs. kind_by fs w.to_client.frames w.under w.coming) up
        ∙ ap (λ fs. kind_by [] fs w.under w.coming) (ap (λ x. x.to_client.frames) (sym wires) ∙ frames);
    wires = same ∙ ap {A = Wiring} {B = Wiring} (λ z. record z { to_client = record z.to_client { frames = new.to_client.frames } }) wires;
  }

  -- the link is empty
  pub at_rest : w.to_server.frames ≡ [] → w.to_client.frames ≡ [] → next_kind w ≡ kind_at_rest w.under w.coming
  at_rest up down = ap (λ fs. kind_by fs w.to_client.frames w.under w.coming) up ∙ ap (λ fs. kind_by [] fs w.under w.coming) down

  pub under_kind : (commands : List Command) (d : Course) (u : UnderWay) → CourseShows commands d w → under_seen d.under ≡ Some u
      → w.to_server.frames ≡ [] → w.to_client.frames ≡ [] → next_kind w ≡ kind_under u
  under_kind commands d u course is up down =
      at_rest up down ∙ ap (λ o. kind_at_rest o w.coming) (sym course.under ∙ is)

  pub start_kind : (commands : List Command) (d : Course) (command : Command) → CourseShows commands d w → d.under ≡ None
      → slice_get commands d.started ≡ Some command → w.to_server.frames ≡ [] → w.to_client.frames ≡ []
      → next_kind w ≡ starting command (drop (d.started + 1) commands)
  start_kind commands d command course none there up down =
      at_rest up down ∙ (ap (λ o. kind_at_rest o w.coming) (sym course.under ∙ ap under_seen none)
      ∙ ap (kind_at_rest None) (sym course.coming ∙ drop_at commands d.started command there))

  pub end_kind : (commands : List Command) (d : Course) → CourseShows commands d w → d.under ≡ None → slice_get commands d.started ≡ None
      → w.to_server.frames ≡ [] → w.to_client.frames ≡ [] → next_kind w ≡ ending
  end_kind commands d course none over up down =
      at_rest up down ∙ (ap (λ o. kind_at_rest o w.coming) (sym course.under ∙ ap under_seen none)
      ∙ ap (kind_at_rest None) (sym course.coming ∙ drop_past commands d.started over))
