-- A link that carries frames of packets among given ones, and what stays so.
use Rattle.std.proofs.Common.{◌≡◌, ℕ, Bool, true, false, List, [], ◌∷◌, ◌++◌, Option, Some, None, ◌==◌, if◌then◌else◌, refl, ap, sym, ◌∙◌}
use Rattle.std.specs.Prelude.{map, Contains, IfSome}
use Rattle.std.specs.List.{AllByRecursion}
use Rattle.std.proofs.lemmas.List.{map-append}
use Rattle.link_script.specs.declared.loss.Loss.{Loss}
use Rattle.link_script.specs.declared.loss.Loss.TheVariants.{Lose, Repeat, Swap, Flip}
use Rattle.link_script.specs.lossy.Link.{Link, loss_of, put, putting, released}
use Rattle.rpc_packet.specs.declared.owned.Packet.{Packet}
use Rattle.rpc_packet.specs.Message.{message_of}
use Rattle.rpc_frames.specs.Written.{frame_of_packet}
use Rattle.link_laws.specs.world.Sound.{IsNoFlip, NoFlips}

abbrev pub frame_of : Packet → List ℕ
frame_of p = frame_of_packet (message_of p)

pub all_append : {A : Type 0} (P : A → Type 0) (xs ys : List A) → AllByRecursion P xs → AllByRecursion P ys → AllByRecursion P (xs ++ ys)
all_append P [] ys first second = second
all_append P (x ∷ xs) ys first second = (first.0, all_append P xs ys first.1 second)

pub all_front : {A : Type 0} (P : A → Type 0) (xs ys : List A) → AllByRecursion P (xs ++ ys) → AllByRecursion P xs
all_front P [] ys all = tt
all_front P (x ∷ xs) ys all = (all.0, all_front P xs ys all.1)

pub all_back : {A : Type 0} (P : A → Type 0) (xs ys : List A) → AllByRecursion P (xs ++ ys) → AllByRecursion P ys
all_back P [] ys all = all
all_back P (x ∷ xs) ys all = all_back P xs ys all.1

-- the frames on the link, and those that are kept back, are those of these packets, which are among the given ones
pub record IsCarrying (sent : List Packet) (l : Link) : Type 0 where
  pub carried : List Packet
  pub kept : List Packet
  pub frames : l.frames ≡ map frame_of carried
  pub kept_back : l.kept_back ≡ map frame_of kept
  pub carried_in : AllByRecursion (Contains sent) carried
  pub kept_in : AllByRecursion (Contains sent) kept

module _ (sent : List Packet) where
  pub released_carries : (l : Link) → IsCarrying sent l → IsCarrying sent (released l)
  released_carries l c = record {
    carried = c.carried ++ c.kept;
    kept = [];
    frames = ap (λ front. front ++ l.kept_back) c.frames ∙ (ap (λ back. map frame_of c.carried ++ back) c.kept_back ∙ sym (map-append frame_of c.carried c.kept));
    kept_back = refl;
    carried_in = all_append (Contains sent) c.carried c.kept c.carried_in c.kept_in;
    kept_in = tt;
  }

  -- frames of given packets go on it
  with_frames : (l : Link) (ps : List Packet) → AllByRecursion (Contains sent) ps → IsCarrying sent l → IsCarrying sent (record l { frames = l.frames ++ map frame_of ps })
  with_frames l ps in_sent c = record {
    carried = c.carried ++ ps;
    kept = c.kept;
    frames = ap (λ front. front ++ map frame_of ps) c.frames ∙ sym (map-append frame_of c.carried ps);
    kept_back = c.kept_back;
    carried_in = all_append (Contains sent) c.carried ps c.carried_in in_sent;
    kept_in = c.kept_in;
  }

  putting_carries : (l : Link) (ps : List Packet) → AllByRecursion (Contains sent) ps → IsCarrying sent l → IsCarrying sent (putting (map frame_of ps) l)
  putting_carries l ps in_sent c = released_carries (record l { frames = l.frames ++ map frame_of ps }) (with_frames l ps in_sent c)

  pub put_carries : (loss : Option Loss) (p : Packet) (l : Link) → IfSome loss IsNoFlip → Contains sent p → IsCarrying sent l → IsCarrying sent (put loss (frame_of p) l)
  put_carries None p l calm is_sent c = putting_carries l (p ∷ []) (is_sent, tt) c
  put_carries (Some Lose) p l calm is_sent c = c
  put_carries (Some Repeat) p l calm is_sent c = putting_carries l (p ∷ p ∷ []) (is_sent, (is_sent, tt)) c
  put_carries (Some Swap) p l calm is_sent c = record {
    carried = c.carried;
    kept = p ∷ c.kept;
    frames = c.frames;
    kept_back = ap (λ back. frame_of p ∷ back) c.kept_back;
    carried_in = c.carried_in;
    kept_in = (is_sent, c.kept_in);
  }
  put_carries (Some (Flip bit)) p l calm is_sent c = absurd calm

  -- the oldest frame of a link, which is one of a given packet, comes off it
  pub record IsFront (l : Link) (frame : List ℕ) (rest : List (List ℕ)) : Type 0 where
    pub packet : Packet
    pub is_sent : Contains sent packet
    pub is : frame ≡ frame_of packet
    pub others : IsCarrying sent (record l { frames = rest })

  pub front_of : (l : Link) (frame : List ℕ) (rest : List (List ℕ)) → l.frames ≡ frame ∷ rest → IsCarrying sent l → IsFront l frame rest
  front_of l frame rest front c = at c.carried (sym front ∙ c.frames) c.carried_in
    where
      at : (ps : List Packet) → frame ∷ rest ≡ map frame_of ps → AllByRecursion (Contains sent) ps → IsFront l frame rest
      at [] is in_sent = absurd cc
      at (p ∷ ps) is in_sent = record {
        packet = p;
        is_sent = in_sent.0;
        is = cc;
        others = record { carried = ps; kept = c.kept; frames = cc; kept_back = c.kept_back; carried_in = in_sent.1; kept_in = c.kept_in };
      }

-- nothing is damaged
pub no_flip : (number : ℕ) (losses : List (ℕ × Loss)) → NoFlips losses → IfSome (loss_of number losses) IsNoFlip
no_flip number [] calm = tt
no_flip number (x ∷ losses) calm = at (no_flip number losses calm.1) (x.0 == number)
  where
    at : IfSome (loss_of number losses) IsNoFlip → (b : Bool) → IfSome (if b then Some x.1 else loss_of number losses) IsNoFlip
    at more true = calm.0
    at more false = more
