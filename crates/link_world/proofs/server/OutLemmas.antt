-- Items go out one behind another.
use Rattle.std.proofs.Common.{◌≡◌, Option, Some, Result, Ok, Err, OnOk, List, [], ◌∷◌, ◌++◌, refl, ap, sym, ◌∙◌, append_assoc}
use Rattle.std.proofs.lemmas.List.{append-nil}
use Rattle.rpc_ids.specs.declared.method.Role.{Role}
use Rattle.rpc_packet.specs.declared.owned.Packet.{Packet}
use Rattle.rpc_journal.specs.declared.item.Item.{Item}
use Rattle.rpc_journal.specs.Items.{packet_of, packets_of}
use Rattle.link_io.specs.Stored.{Stored}
use Rattle.rpc_journal.proofs.PlaceLemmas.{some_same}
use Rattle.rpc_ids.specs.declared.method.Role.TheVariants.{Server}
use Rattle.rpc_schedule.specs.Kept.{Holds, kept}
use Rattle.link_world.specs.server.ServerSide.{ServerMoves, ServerState}
use Rattle.link_world.specs.server.GoesOut.{GoesOut}
use Rattle.link_laws.specs.world.Wiring.{Wiring, with_all_sent, with_sent}

pub all_sent_then : (role : Role) (first more : List Packet) (w : Wiring)
    → with_all_sent role (first ++ more) w ≡ with_all_sent role more (with_all_sent role first w)
all_sent_then role [] more w = refl
all_sent_then role (p ∷ first) more w = all_sent_then role first more (with_sent role w p)

pub packets_then : (first more : List Item) → packets_of (first ++ more) ≡ packets_of first ++ packets_of more
packets_then [] more = refl
packets_then (item ∷ first) more = ap (λ ps. packet_of item.act ++ ps) (packets_then first more) ∙ sym (append_assoc (packet_of item.act) (packets_of first) (packets_of more))

pub goes_out_none : (role : Role) (items : List Item) (w : Wiring) → GoesOut role items w items w
goes_out_none role items w = record { more = []; items = sym (append-nil items); wires = refl }

pub goes_out_then : (role : Role) (a b c : List Item) (w x y : Wiring) → GoesOut role a w b x → GoesOut role b x c y → GoesOut role a w c y
goes_out_then role a b c w x y first more = record {
  more = first.more ++ more.more;
  items = more.items ∙ (ap (λ items. items ++ more.more) first.items ∙ append_assoc a first.more more.more);
  wires = more.wires ∙ (ap (with_all_sent role (packets_of more.more)) first.wires
      ∙ (sym (all_sent_then role (packets_of first.more) (packets_of more.more) w)
      ∙ ap (λ ps. with_all_sent role ps w) (sym (packets_then first.more more.more))));
}

-- one item more
pub goes_out_one : (role : Role) (a b c : List Item) (w x y : Wiring) (item : Item) → GoesOut role a w b x → c ≡ b ++ item ∷ []
    → y ≡ with_all_sent role (packet_of item.act) x → GoesOut role a w c y
goes_out_one role a b c w x y item first push sent =
    goes_out_then role a b c w x y first
    (record { more = item ∷ []; items = push; wires = sent ∙ ap (λ ps. with_all_sent role ps x) (sym (append-nil (packet_of item.act))) })

pub on_ok_one : {T E A P : Type 0} (r : Result T E) → (A → P) → OnOk r A → OnOk r P
on_ok_one (Ok x) f a = f a
on_ok_one (Err e) f a = tt

pub on_ok_two : {T E A B P : Type 0} (r : Result T E) → (A → B → P) → OnOk r A → OnOk r B → OnOk r P
on_ok_two (Ok x) f a b = f a b
on_ok_two (Err e) f a b = tt

pub on_ok_three : {T E A B C P : Type 0} (r : Result T E) → (A → B → C → P) → OnOk r A → OnOk r B → OnOk r C → OnOk r P
on_ok_three (Ok x) f a b c = f a b c
on_ok_three (Err e) f a b c = tt

-- a store that tells of what it holds has got what the items are
pub moves_by : (before after : ServerState) (old new : Wiring) → after.end.serving.table.setting ≡ before.end.serving.table.setting
    → GoesOut Server before.items old after.items new
    → ((st : Option Stored) → Holds before.items st (Some before.stored) → Holds after.items st (Some after.stored))
    → ServerMoves before old after new
moves_by before after old new setting out holds = record {
  setting = setting;
  out = out;
  kept = λ st was. some_same after.stored (kept after.items st) (holds (Some st) (ap Some was));
}
