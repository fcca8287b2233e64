-- What a linker tells of a bridge.
use Rattle.std.proofs.Common.{◌≡◌, ℕ, List, [], ◌∷◌, ◌++◌, Option, Some, None, refl, ◌∙◌, ap, subst, append_assoc}
use Rattle.std.specs.Io.KnownBytes.{Appends, Consumes}
use Rattle.link_io.specs.Links.{Ends, Links}
use Rattle.link_io.specs.declared.why.Why.{Why}
use Rattle.link_io.specs.declared.why.Why.TheVariants as why
use Rattle.frame_router.specs.declared.port.Port.{Port}
use Rattle.frame_router.specs.declared.port.Port.TheVariants.{Left, Right}
use Rattle.frame_router.specs.declared.pumping.Pumped.{Pumped}
use Rattle.frame_router.specs.declared.routes.Route.{Route}
use Rattle.frame_router.specs.declared.tally.Tally.{Tally}
use Rattle.frame_router.specs.Pumped.{Pumps, PumpsBy}
use Rattle.frame_router.specs.declared.bridge.bridged.Bridged.{Bridged}
use Rattle.frame_router.specs.bridge.Bridges.{Bridges, TellsBridge}

-- bytes that are told stay told
consumed : (xs : List ℕ) (new : Option (List ℕ)) (bytes : List ℕ) → Consumes (Some xs) new bytes → (ys : List ℕ) × (new ≡ Some ys)
consumed xs None bytes none = absurd none
consumed xs (Some ys) bytes some = (ys, refl)

appended : (xs : List ℕ) (new : Option (List ℕ)) (bytes : List ℕ) → Appends (Some xs) new bytes → (ys : List ℕ) × (new ≡ Some ys)
appended xs None bytes none = absurd none
appended xs (Some ys) bytes some = (ys, refl)

wrote : (reason : Why) (routes : List Route) (from : Port) (bytes xs : List ℕ) (new : Option (List ℕ)) (tally : Tally) → PumpsBy reason routes from bytes (Some xs) new tally
    → (ys : List ℕ) × (new ≡ Some ys)
wrote why.Settled routes from bytes xs new tally by = appended xs new _ by.wrote
wrote why.Source routes from bytes xs new tally by = appended xs new _ by.wrote
wrote why.InputLimit routes from bytes xs new tally by = appended xs new _ by.wrote
wrote why.Sink routes from bytes xs new tally by = appended xs new _ by.wrote
wrote why.Store routes from bytes xs new tally by = appended xs new _ by.wrote
wrote why.JournalLimit routes from bytes xs new tally by = appended xs new _ by.wrote
wrote why.Memory routes from bytes xs new tally by = appended xs new _ by.wrote

-- what is told of one direction
record Told (routes : List Route) (from : Port) (left written : List ℕ) (left_new written_new : Option (List ℕ)) (pumped : Pumped) : Type 0 where
  unread : List ℕ
  got : List ℕ
  left_is : left_new ≡ Some unread
  written_is : written_new ≡ Some got
  pumps : Pumps routes from (Some left) (Some unread) (Some written) (Some got) pumped

told : (routes : List Route) (from : Port) (left written : List ℕ) (left_old left_new written_old written_new : Option (List ℕ)) (pumped : Pumped)
    → left_old ≡ Some left → written_old ≡ Some written → Pumps routes from left_old left_new written_old written_new pumped
    → Told routes from left written left_new written_new pumped
told routes from left written left_old left_new written_old written_new pumped left_is written_is pumps =
    let knows : Pumps routes from (Some left) left_new (Some written) written_new pumped =
    subst (λ l. Pumps routes from l left_new (Some written) written_new pumped) left_is (subst (λ w. Pumps routes from left_old left_new w written_new pumped) written_is pumps) in
    let unread = consumed left left_new knows.bytes knows.taken in
    let got = wrote pumped.why routes from knows.bytes written written_new pumped.tally knows.wrote in
    record {
      unread = unread.0;
      got = got.0;
      left_is = unread.1;
      written_is = got.1;
      pumps = subst (λ l. Pumps routes from (Some left) l (Some written) (Some got.0) pumped) unread.1 (subst (λ w. Pumps routes from (Some left) left_new (Some written) w pumped) got.1 knows);
    }

pub bridge_told : (routes : List Route) (old new : Links) (done : Bridged) (left right : Ends) (rest gone : List Ends) → Bridges routes old new done
    → old.coming ≡ Some (left ∷ right ∷ rest) → old.gone ≡ Some gone → TellsBridge routes left right rest gone new done
bridge_told routes old new done left right rest gone is coming before =
    let one = is.left_out.first left (right ∷ rest) coming in
    let two = is.right_out.first right rest one.2 in
    let from_left = told routes Left left.0 right.1 is.left.left is.left_end.left is.right.written is.right_end.written done.from_left one.0 two.1 is.from_left in
    let from_right = told routes Right right.0 left.1 is.right.left is.right_end.left is.left.written is.left_end.written done.from_right two.0 one.1 is.from_right in
    let left_end : Ends = (from_left.unread, from_right.got) in
    let right_end : Ends = (from_right.unread, from_left.got) in
    let back = is.left_back.added gone left_end (is.right_out.gone ∙ is.left_out.gone ∙ before) from_left.left_is from_right.written_is in
    record {
      left_end = left_end;
      right_end = right_end;
      coming = is.right_back.coming ∙ is.left_back.coming ∙ two.2;
      gone =
          is.right_back.added (gone ++ left_end ∷ []) right_end back from_right.left_is from_left.written_is ∙
          ap Some (append_assoc gone (left_end ∷ []) (right_end ∷ []));
      from_left = from_left.pumps;
      from_right = from_right.pumps;
    }
