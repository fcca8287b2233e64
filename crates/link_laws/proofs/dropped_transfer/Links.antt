-- What goes out on a link that drops frames.
use Rattle.std.proofs.Common.{◌≡◌, ℕ, suc, ◌+◌, ◌==◌, Bool, true, false, if◌then◌else◌, List, [], ◌∷◌, ◌++◌, length, map, Option, Some, None, is_some, refl, ap, sym, ◌∙◌, arith, append_assoc, length-append}
use Rattle.std.proofs.lemmas.List.{append-nil}
use Rattle.std.specs.List.{AllByRecursion}
use Rattle.link_script.specs.declared.loss.Loss.{Loss}
use Rattle.link_script.specs.declared.loss.Loss.TheVariants.{Lose, Repeat, Swap, Flip}
use Rattle.link_script.specs.lossy.Link.{Link, loss_of, put}
use Rattle.rpc_ids.specs.declared.method.Role.TheVariants.{Server, Client}
use Rattle.rpc_packet.specs.declared.owned.Packet.{Packet}
use Rattle.transfer_words.specs.Word.{Word}
use Rattle.transfer_laws.specs.losses.Drops.{kept}
use Rattle.link_laws.specs.world.Sound.{NoFlips}
use Rattle.link_laws.specs.world.World.{Setup, World, all_sent_by, wiring_of}
use Rattle.link_laws.specs.world.Wiring.{next_loss}
use Rattle.link_laws.proofs.one_run.Keeping.{sent_by}
use Rattle.link_laws.proofs.one_run.Links.{frame_of}
use Rattle.link_laws.specs.rounds.Carrying.{carrying}
use Rattle.link_laws.proofs.rounds.Carrying.{put_carrying}
use Rattle.link_laws.specs.dropped_transfer.Dropped.{AreDrops, IsDrop, is_dropped}

-- what is dropped isn't damaged
pub undamaged : (losses : List (ℕ × Loss)) → AreDrops losses → NoFlips losses
undamaged [] drops = tt
undamaged ((n, Lose) ∷ losses) drops = (tt, undamaged losses drops.1)
undamaged ((n, Repeat) ∷ losses) drops = absurd drops.0
undamaged ((n, Swap) ∷ losses) drops = absurd drops.0
undamaged ((n, Flip bit) ∷ losses) drops = absurd drops.0

-- what of these goes on, behind so many frames
abbrev pub going_on : {A : Type 0} → (ℕ → Bool) → ℕ → List A → List A
going_on dropped frames [] = []
going_on dropped frames (a ∷ rest) = if dropped (suc frames) then going_on dropped (suc frames) rest else a ∷ going_on dropped (suc frames) rest

-- what is done to a frame is nothing, or it is dropped
abbrev IsLoss : Option Loss → Type 0
IsLoss None = Unit {0}
IsLoss (Some loss) = IsDrop loss

drop_or_none : (losses : List (ℕ × Loss)) (n : ℕ) → AreDrops losses → IsLoss (loss_of n losses)
drop_or_none [] n all = tt
drop_or_none (first ∷ losses) n all = at (first.0 == n) (drop_or_none losses n all.1)
  where
    at : (b : Bool) → IsLoss (loss_of n losses) → IsLoss (if b then Some first.1 else loss_of n losses)
    at true rest = all.0
    at false rest = rest

-- a frame is put on a link
put_or_not : (ps : List Packet) (p : Packet) (loss : Option Loss) → IsLoss loss → put loss (frame_of p) (carrying ps) ≡ carrying (ps ++ (if is_some loss then [] else p ∷ []))
put_or_not ps p None is = put_carrying ps p None refl
put_or_not ps p (Some Lose) is = ap carrying (sym (append-nil ps))
put_or_not ps p (Some Repeat) is = absurd is
put_or_not ps p (Some Swap) is = absurd is
put_or_not ps p (Some (Flip bit)) is = absurd is

module _ (k : Setup) (drops : AreDrops k.losses) {A : Type 0} (packet : A → Packet) where
  one_put : (qs : List Packet) (a : A) (w : World) (frames : ℕ) (l : Link) → length w.numbered ≡ frames → l ≡ carrying qs
      → put (next_loss (wiring_of k w)) (frame_of (packet a)) l ≡ carrying (qs ++ (if is_dropped k (suc frames) then [] else packet a ∷ []))
  one_put qs a w frames l many on =
      ap (λ (l : Link). put (next_loss (wiring_of k w)) (frame_of (packet a)) l) on
      ∙ (ap (λ n. put (loss_of n k.losses) (frame_of (packet a)) (carrying qs)) number
      ∙ put_or_not qs (packet a) (loss_of (suc frames) k.losses) (drop_or_none k.losses (suc frames) drops))
    where
      number : length w.numbered + 1 ≡ suc frames
      number = omega (arith, many)

  first_goes : (qs : List Packet) (a : A) (rest : List A) (frames : ℕ) (d : Bool)
      → (qs ++ (if d then [] else packet a ∷ [])) ++ map packet (going_on (is_dropped k) (suc frames) rest)
      ≡ qs ++ map packet (if d then going_on (is_dropped k) (suc frames) rest else a ∷ going_on (is_dropped k) (suc frames) rest)
  first_goes qs a rest frames true = ap (λ front. front ++ map packet (going_on (is_dropped k) (suc frames) rest)) (append-nil qs)
  first_goes qs a rest frames false = append_assoc qs (packet a ∷ []) (map packet (going_on (is_dropped k) (suc frames) rest))

  to_client : (given : List A) (qs : List Packet) (frames : ℕ) (w : World) → length w.numbered ≡ frames → w.to_client ≡ carrying qs
      → (all_sent_by k Server (map packet given) w).to_client ≡ carrying (qs ++ map packet (going_on (is_dropped k) frames given))
  to_client [] qs frames w many on = on ∙ ap carrying (sym (append-nil qs))
  to_client (a ∷ rest) qs frames w many on =
      to_client rest (qs ++ (if is_dropped k (suc frames) then [] else packet a ∷ [])) (suc frames) (sent_by k Server w (packet a))
      (omega (arith, many, length-append w.numbered (packet a ∷ []))) (one_put qs a w frames w.to_client many on)
      ∙ ap carrying (first_goes qs a rest frames (is_dropped k (suc frames)))

  to_server : (given : List A) (qs : List Packet) (frames : ℕ) (w : World) → length w.numbered ≡ frames → w.to_server ≡ carrying qs
      → (all_sent_by k Client (map packet given) w).to_server ≡ carrying (qs ++ map packet (going_on (is_dropped k) frames given))
  to_server [] qs frames w many on = on ∙ ap carrying (sym (append-nil qs))
  to_server (a ∷ rest) qs frames w many on =
      to_server rest (qs ++ (if is_dropped k (suc frames) then [] else packet a ∷ [])) (suc frames) (sent_by k Client w (packet a))
      (omega (arith, many, length-append w.numbered (packet a ∷ []))) (one_put qs a w frames w.to_server many on)
      ∙ ap carrying (first_goes qs a rest frames (is_dropped k (suc frames)))

-- THESE ARE PUT ON THE LINK: those go on whose frames aren't dropped
pub server_sends : (k : Setup) → AreDrops k.losses → {A : Type 0} (packet : A → Packet) (given : List A) (qs : List Packet) (w : World) → w.to_client ≡ carrying qs
    → (all_sent_by k Server (map packet given) w).to_client ≡ carrying (qs ++ map packet (going_on (is_dropped k) (length w.numbered) given))
server_sends k drops packet given qs w on = to_client k drops packet given qs (length w.numbered) w refl on

pub client_sends : (k : Setup) → AreDrops k.losses → {A : Type 0} (packet : A → Packet) (given : List A) (qs : List Packet) (w : World) → w.to_server ≡ carrying qs
    → (all_sent_by k Client (map packet given) w).to_server ≡ carrying (qs ++ map packet (going_on (is_dropped k) (length w.numbered) given))
client_sends k drops packet given qs w on = to_server k drops packet given qs (length w.numbered) w refl on

-- what holds of all of it holds of what goes on
pub going_on_all : {A : Type 0} (P : A → Type 0) (dropped : ℕ → Bool) (frames : ℕ) (given : List A) → AllByRecursion P given → AllByRecursion P (going_on dropped frames given)
going_on_all P dropped frames [] all = tt
going_on_all P dropped frames (a ∷ rest) all = at (dropped (suc frames)) (going_on_all P dropped (suc frames) rest all.1)
  where
    at : (d : Bool) → AllByRecursion P (going_on dropped (suc frames) rest) → AllByRecursion P (if d then going_on dropped (suc frames) rest else a ∷ going_on dropped (suc frames) rest)
    at true goes = goes
    at false goes = (all.0, goes)

pub kept_all : (P : Word → Type 0) (lost : ℕ → Bool) (ws : List Word) (said : ℕ) → AllByRecursion P ws → AllByRecursion P (kept lost said ws)
kept_all P lost [] said all = tt
kept_all P lost (c ∷ cs) said all = at (lost (suc said)) (kept_all P lost cs (suc said) all.1)
  where
    at : (b : Bool) → AllByRecursion P (kept lost (suc said) cs) → AllByRecursion P (if b then kept lost (suc said) cs else c ∷ kept lost (suc said) cs)
    at true goes = goes
    at false goes = (all.0, goes)
