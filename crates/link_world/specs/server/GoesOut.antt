-- What becomes of the items that go out of an end.
use Rattle.std.specs.Prelude.{◌≡◌, List, ◌++◌}
use Rattle.rpc_ids.specs.declared.method.Role.{Role}
use Rattle.rpc_journal.specs.declared.item.Item.{Item}
use Rattle.rpc_journal.specs.Items.{packets_of}
use Rattle.link_laws.specs.world.Wiring.{Wiring, with_all_sent}

-- more items went out at the end of this role, and the packets among them were sent in order
pub record GoesOut (role : Role) (before : List Item) (old : Wiring) (after : List Item) (new : Wiring) : Type 0 where
  pub more : List Item
  pub items : after ≡ before ++ more
  pub wires : new ≡ with_all_sent role (packets_of more) old
