-- What goes out of an end goes out in the world.
use Rattle.std.proofs.Common.{◌≡◌, List, [], ◌∷◌, ◌++◌, length, drop, refl, ap, sym, ◌∙◌}
use Rattle.rpc_ids.specs.declared.method.Role.{Role}
use Rattle.rpc_ids.specs.declared.method.Role.TheVariants.{Server, Client}
use Rattle.rpc_packet.specs.declared.owned.Packet.{Packet}
use Rattle.rpc_journal.specs.declared.entry.Entry.{Entry}
use Rattle.rpc_journal.specs.declared.item.Item.{Item}
use Rattle.rpc_journal.specs.declared.setting.Setting.{Setting}
use Rattle.rpc_journal.specs.History.{history}
use Rattle.rpc_journal.specs.Items.{items_flushed, packets_of}
use Rattle.link_laws.specs.world.World.{Setup, World, all_sent_by, flushed_since, wiring_of, with_wiring}
use Rattle.link_world.specs.server.GoesOut.{GoesOut}
use Rattle.link_laws.specs.world.Wiring.{Wiring, with_all_sent, with_sent}

drop_front : {A : Type 0} (xs ys : List A) → drop (length xs) (xs ++ ys) ≡ ys
drop_front [] ys = refl
drop_front (x ∷ xs) ys = drop_front xs ys

-- the link behind what an end has sent
link_is : (set : Setting) (role : Role) (before after : List Entry) (old new : List Item) (x y : Wiring) → old ≡ items_flushed (history set before)
    → new ≡ items_flushed (history set after) → GoesOut role old x new y → y ≡ with_all_sent role (flushed_since set before after) x
link_is set role before after old new x y was is out =
    let all : items_flushed (history set after) ≡ items_flushed (history set before) ++ out.more = sym is ∙ (out.items ∙ ap (λ items. items ++ out.more) was) in
    let more : out.more ≡ drop (length (items_flushed (history set before))) (items_flushed (history set after)) =
    sym (drop_front (items_flushed (history set before)) out.more) ∙ ap (drop (length (items_flushed (history set before)))) (sym all) in
    out.wires ∙ ap (λ items. with_all_sent role (packets_of items) x) more

-- what is done to frames stays so
losses_stay : (role : Role) (ps : List Packet) (x : Wiring) → (with_all_sent role ps x).losses ≡ x.losses
losses_stay role [] x = refl
losses_stay Server (p ∷ ps) x = losses_stay Server ps (with_sent Server x p)
losses_stay Client (p ∷ ps) x = losses_stay Client ps (with_sent Client x p)

module _ (k : Setup) (role : Role) (v : World) (old new : List Item) (x y : Wiring) (wires : x ≡ wiring_of k v) (out : GoesOut role old x new y) where
  -- THE WORLD BEHIND WHAT AN END HAS SENT, by what its history flushed since
  pub sent_since : (set : Setting) (before after : List Entry) → old ≡ items_flushed (history set before) → new ≡ items_flushed (history set after)
      → all_sent_by k role (flushed_since set before after) v ≡ with_wiring y v
  sent_since set before after was is =
      ap (λ z. with_wiring z v)
      (ap (with_all_sent role (flushed_since set before after)) (sym wires) ∙ sym (link_is set role before after old new x y was is out))

  -- and its link then
  pub wires_since : y ≡ wiring_of k (with_wiring y v)
  wires_since =
      ap (λ l. record y { losses = l })
      (ap (λ z. z.losses) out.wires ∙ (losses_stay role (packets_of out.more) x ∙ ap (λ z. z.losses) wires))
