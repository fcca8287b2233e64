-- How a turn ends in the world.
use Rattle.std.proofs.Common.{◌≡◌, Bool, true, false, List, [], ◌∷◌, ◌++◌, Some, None, if◌then◌else◌, refl, ap, sym, ◌∙◌, subst}
use Rattle.std.specs.Prelude.{◌↔◌}
use Rattle.link_script.specs.declared.command.Command.{Command}
use Rattle.link_script.specs.declared.report.ReportLine.{ReportLine}
use Rattle.link_script.specs.lossy.Link.{released}
use Rattle.rpc_journal.specs.Kinds.{is_empty}
use Rattle.link_laws.specs.world.Lines.{command_ended, finished, is_still, line_of, with_line, with_released}
use Rattle.link_laws.specs.world.World.{Setup, Under as UnderWay, World, wiring_of}
use Rattle.link_world.specs.client.ClientSide.{ClientState}
use Rattle.link_world.specs.server.ServerSide.{ServerState}
use Rattle.link_laws.specs.world.Wiring.{Wiring}
use Rattle.link_world.specs.declared.course.Course.{Course}
use Rattle.link_world.specs.Showing.{Shows}

-- a test that says that a list is empty
pub empty_is : {A : Type 0} (b : Bool) (xs : List A) → (b ≡ true) ↔ (xs ≡ []) → b ≡ is_empty xs
empty_is true [] says = refl
empty_is true (x ∷ xs) says = absurd (nothing (says.0 refl))
  where
    nothing : x ∷ xs ≡ [] → ⊥
    nothing is = absurd cc
empty_is false [] says = says.1 refl
empty_is false (x ∷ xs) says = refl

module _ (k : Setup) where
  -- where the link is empty, what is kept back goes on it
  pub released_so : (w : World) (x y : Wiring) (still : Bool) → x ≡ wiring_of k w → still ≡ is_still w
      → y ≡ (if still then record x { to_server = released x.to_server; to_client = released x.to_client } else x) → y ≡ wiring_of k (with_released w)
  released_so w x y still wires is after =
      after ∙ (ap {A = Bool} {B = Wiring} (λ b. if b then record x { to_server = released x.to_server; to_client = released x.to_client } else x) is
      ∙ (ap {A = Wiring} {B = Wiring} (λ z. if is_still w then record z { to_server = released z.to_server; to_client = released z.to_client } else z) wires
      ∙ at (is_still w)))
    where
      at : (b : Bool) → (if b then record (wiring_of k w) { to_server = released w.to_server; to_client = released w.to_client } else wiring_of k w)
          ≡ wiring_of k (if b then record w { to_server = released w.to_server; to_client = released w.to_client } else w)
      at true = refl
      at false = refl

  pub released_all : (w : World) (x y : Wiring) (still : Bool) → x ≡ wiring_of k w → still ≡ is_still w → still ≡ true
      → y ≡ record x { to_server = released x.to_server; to_client = released x.to_client } → y ≡ wiring_of k (with_released w)
  released_all w x y still wires is empty after =
      released_so w x y still wires is
      (after ∙ sym (ap {A = Bool} {B = Wiring} (λ b. if b then record x { to_server = released x.to_server; to_client = released x.to_client } else x) empty))

  pub released_none : (w : World) (x : Wiring) (still : Bool) → x ≡ wiring_of k w → still ≡ is_still w → still ≡ false → x ≡ wiring_of k (with_released w)
  released_none w x still wires is some =
      released_so w x x still wires is
      (sym (ap {A = Bool} {B = Wiring} (λ b. if b then record x { to_server = released x.to_server; to_client = released x.to_client } else x) some))

  -- the end of the command under way changes no history and no link
  module _ (commands : List Command) (s : ServerState) (c : ClientState) (x : Wiring) (d : Course) (w : World) (shows : Shows k commands s c x d w) where
    same_lines : (lines : List ReportLine) → d.lines ≡ w.lines → d.lines ++ lines ≡ w.lines ++ lines
    same_lines lines is = ap (λ more. more ++ lines) is

    -- it has ended with this line
    pub ended_so : (u : UnderWay) (told : ReportLine) → w.under ≡ Some u → Some told ≡ line_of k w u
        → Shows k commands s c x (record d { under = None; lines = d.lines ++ told ∷ [] }) (command_ended k w w.under)
    ended_so u told under is =
        subst (λ o. Shows k commands s c x (record d { under = None; lines = d.lines ++ told ∷ [] }) (command_ended k w o)) (sym under)
        (subst (λ o. Shows k commands s c x (record d { under = None; lines = d.lines ++ told ∷ [] }) (with_line w o)) is
        (record {
          server = shows.server;
          client = shows.client;
          wires = shows.wires;
          course = record {
            coming = shows.course.coming;
            under = refl;
            sessions = shows.course.sessions;
            delivered = shows.course.delivered;
            times = shows.course.times;
            lines = same_lines (told ∷ []) shows.course.lines;
          };
        }))

    -- it hasn't
    pub unended_so : (u : UnderWay) → w.under ≡ Some u → None ≡ line_of k w u → Shows k commands s c x d (command_ended k w w.under)
    unended_so u under is =
        subst (λ o. Shows k commands s c x d (command_ended k w o)) (sym under) (subst (λ o. Shows k commands s c x d (with_line w o)) is shows)

  -- the link is another
  pub rewired : (commands : List Command) (s : ServerState) (c : ClientState) (x y : Wiring) (d : Course) (w : World) → Shows k commands s c x d w
      → y ≡ wiring_of k (with_released w) → Shows k commands s c y d (with_released w)
  rewired commands s c x y d w shows wires = at (is_still w) refl wires
    where
      at : (b : Bool) → is_still w ≡ b
          → y ≡ wiring_of k (if b then record w { to_server = released w.to_server; to_client = released w.to_client } else w)
          → Shows k commands s c y d (if b then record w { to_server = released w.to_server; to_client = released w.to_client } else w)
      at true is wires = record {
        server = shows.server;
        client = shows.client;
        wires = wires;
        course = record {
          coming = shows.course.coming;
          under = shows.course.under;
          sessions = shows.course.sessions;
          delivered = shows.course.delivered;
          times = shows.course.times;
          lines = shows.course.lines;
        };
      }
      at false is wires = record { server = shows.server; client = shows.client; wires = wires; course = shows.course }

  released_under : (w : World) → (with_released w).under ≡ w.under
  released_under w = at (is_still w)
    where
      at : (b : Bool) → (if b then record w { to_server = released w.to_server; to_client = released w.to_client } else w).under ≡ w.under
      at true = refl
      at false = refl

  -- THE END OF A TURN
  pub finished_so : (commands : List Command) (s : ServerState) (c : ClientState) (y : Wiring) (e : Course) (w : World)
      → Shows k commands s c y e (command_ended k (with_released w) (with_released w).under) → Shows k commands s c y e (finished k w)
  finished_so commands s c y e w shows = subst (λ u. Shows k commands s c y e (command_ended k (with_released w) u)) (released_under w) shows
