-- Frames on a link that loses nothing, and what goes out of an end that is at rest.
use Rattle.std.proofs.Common.{◌≡◌, ℕ, ◌+◌, Bool, true, false, if◌then◌else◌, List, [], ◌∷◌, ◌++◌, length, map, take, drop, Option, None, refl, ap, sym, ◌∙◌, append_assoc}
use Rattle.std.proofs.lemmas.List.{append-nil, map-append}
use Rattle.std.proofs.Math.Seq.{drop-append_seam}
use Rattle.link_script.specs.declared.loss.Loss.{Loss}
use Rattle.link_script.specs.lossy.Link.{Link, loss_of, put, released}
use Rattle.rpc_ids.specs.declared.method.Role.{Role}
use Rattle.rpc_ids.specs.declared.method.Role.TheVariants.{Server, Client}
use Rattle.rpc_packet.specs.declared.owned.Packet.{Packet}
use Rattle.rpc_journal.specs.declared.entry.Entry.{Entry}
use Rattle.rpc_journal.specs.declared.item.Item.{Item}
use Rattle.rpc_journal.specs.declared.setting.Setting.{Setting}
use Rattle.rpc_journal.specs.Effect.{Deed}
use Rattle.rpc_journal.specs.History.{history}
use Rattle.rpc_journal.specs.Items.{items_flushed, items_sent, packets_of}
use Rattle.history_laws.specs.rounds.Streams.{IsAtRest}
use Rattle.link_laws.specs.world.Lines.{command_ended, finished, is_still, with_released}
use Rattle.link_laws.specs.world.World.{Setup, Under, World, all_sent_by, flushed_since, wiring_of}
use Rattle.link_laws.specs.world.Wiring.{next_loss}
use Rattle.link_laws.proofs.one_run.Keeping.{sent_by}
use Rattle.link_laws.proofs.one_run.Links.{frame_of}
use Rattle.link_laws.specs.rounds.Carrying.{carrying}

abbrev pub link_of : List (List ℕ) → Link
link_of frames = record { frames = frames; kept_back = [] }

pub put_carrying : (ps : List Packet) (p : Packet) (loss : Option Loss) → loss ≡ None → put loss (frame_of p) (carrying ps) ≡ carrying (ps ++ p ∷ [])
put_carrying ps p loss none =
    ap (λ (x : Option Loss). put x (frame_of p) (carrying ps)) none
    ∙ ap link_of (append-nil (map frame_of ps ++ frame_of p ∷ []) ∙ sym (map-append frame_of ps (p ∷ [])))

released_carrying : (ps : List Packet) → released (carrying ps) ≡ carrying ps
released_carrying ps = ap link_of (append-nil (map frame_of ps))

module _ (k : Setup) (calm : k.losses ≡ []) where
  no_loss : (w : World) → next_loss (wiring_of k w) ≡ None
  no_loss w = ap (loss_of (length w.numbered + 1)) calm

  pub server_carries : (qs ps : List Packet) (w : World) → w.to_client ≡ carrying ps → (all_sent_by k Server qs w).to_client ≡ carrying (ps ++ qs)
  server_carries [] ps w on = on ∙ ap carrying (sym (append-nil ps))
  server_carries (q ∷ qs) ps w on =
      server_carries qs (ps ++ q ∷ []) (sent_by k Server w q) (ap (λ (l : Link). put (next_loss (wiring_of k w)) (frame_of q) l) on ∙ put_carrying ps q (next_loss (wiring_of k w)) (no_loss w))
      ∙ ap carrying (append_assoc ps (q ∷ []) qs)

  pub client_carries : (qs ps : List Packet) (w : World) → w.to_server ≡ carrying ps → (all_sent_by k Client qs w).to_server ≡ carrying (ps ++ qs)
  client_carries [] ps w on = on ∙ ap carrying (sym (append-nil ps))
  client_carries (q ∷ qs) ps w on =
      client_carries qs (ps ++ q ∷ []) (sent_by k Client w q) (ap (λ (l : Link). put (next_loss (wiring_of k w)) (frame_of q) l) on ∙ put_carrying ps q (next_loss (wiring_of k w)) (no_loss w))
      ∙ ap carrying (append_assoc ps (q ∷ []) qs)

module _ (k : Setup) where
  -- each packet that goes out is numbered
  pub all_numbered : (role : Role) (qs : List Packet) (w : World) → (all_sent_by k role qs w).numbered ≡ w.numbered ++ qs
  all_numbered role [] w = sym (append-nil w.numbered)
  all_numbered Server (q ∷ qs) w = all_numbered Server qs (sent_by k Server w q) ∙ append_assoc w.numbered (q ∷ []) qs
  all_numbered Client (q ∷ qs) w = all_numbered Client qs (sent_by k Client w q) ∙ append_assoc w.numbered (q ∷ []) qs

-- Where nothing is kept back the end of a turn leaves the links.
module _ (k : Setup) (w : World) (ups downs : List Packet) (to_server : w.to_server ≡ carrying ups) (to_client : w.to_client ≡ carrying downs) where
  up_same : released w.to_server ≡ w.to_server
  up_same = ap released to_server ∙ (released_carrying ups ∙ sym to_server)

  down_same : released w.to_client ≡ w.to_client
  down_same = ap released to_client ∙ (released_carrying downs ∙ sym to_client)

  nothing_released : with_released w ≡ w
  nothing_released = at (is_still w)
    where
      at : (b : Bool) → (if b then record w { to_server = released w.to_server; to_client = released w.to_client } else w) ≡ w
      at true =
          ap {A = Link} {B = World} (λ l. record w { to_server = l; to_client = released w.to_client }) up_same
          ∙ ap {A = Link} {B = World} (λ l. record w { to_client = l }) down_same
      at false = refl

  -- the command under way goes on, or has come to its end
  pub finished_under : (under : Option Under) → w.under ≡ under → finished k w ≡ command_ended k w under
  finished_under under is = ap (command_ended k (with_released w)) is ∙ ap {A = World} {B = World} (λ v. command_ended k v under) nothing_released

-- at rest all that was sent has gone out
rest_flushed : (ds : List Deed) → IsAtRest ds → items_flushed ds ≡ items_sent ds
rest_flushed ds rest = ap (λ n. take n (items_sent ds)) rest.flushed ∙ sym (all_taken (items_sent ds))
  where
    all_taken : {A : Type 0} (xs : List A) → xs ≡ take (length xs) xs
    all_taken [] = refl
    all_taken (y ∷ ys) = ap (λ zs. y ∷ zs) (all_taken ys)

-- what was sent since then has
pub gone_out : (set : Setting) (before after : List Entry) (items : List Item) → IsAtRest (history set before) → IsAtRest (history set after)
    → items_sent (history set after) ≡ items_sent (history set before) ++ items → flushed_since set before after ≡ packets_of items
gone_out set before after items rest rested sent =
    let old : List Item = items_sent (history set before) in
    ap (λ (all : List Item). packets_of (drop (length (items_flushed (history set before))) all)) (rest_flushed (history set after) rested ∙ sent)
    ∙ (ap (λ (front : List Item). packets_of (drop (length front) (old ++ items))) (rest_flushed (history set before) rest)
    ∙ ap packets_of (drop-append_seam old items))
