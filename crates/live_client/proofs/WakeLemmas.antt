-- How often the reader's bell rang.
use Rattle.std.proofs.Common.{◌≡◌, ℕ, ◌+◌, [], ◌∷◌, ◌++◌, length, ap, arith, length-append}
use Rattle.rpc_packet.specs.declared.owned.Packet.{Packet}
use Rattle.rpc_shared.specs.session.Crew.{Seat}
use Rattle.rpc_journal.specs.Items.{arrivals}
use Rattle.task_core.specs.bells.Bells.{Rung}
use Rattle.task_core.specs.bells.Rings.{times}
use Rattle.live_client.specs.Waking.{RangForEach}

pub rang_none : (bell : Rung) (p q : Seat) → arrivals q.view.known.mine ≡ arrivals p.view.known.mine → RangForEach 0 bell bell p q
rang_none bell p q same = record { packets = 0; arrived = omega (arith, ap length same); rung = omega arith }

pub rang_more : (besides : ℕ) (before between after : Rung) (p m q : Seat) → RangForEach 0 before between p m → RangForEach besides between after m q
    → RangForEach besides before after p q
rang_more besides before between after p m q one more = record {
  packets = one.packets + more.packets;
  arrived = omega (arith, one.arrived, more.arrived);
  rung = omega (arith, one.rung, more.rung);
}

once_more : (before after : Rung) → after ≡ record before { rings = 0 ∷ before.rings } → times 0 after.rings ≡ times 0 before.rings + 1
once_more before after is = omega (arith, ap (λ b. times 0 b.rings) is)

pub rang_once : (before after : Rung) (p q : Seat) (packet : Packet) → after ≡ record before { rings = 0 ∷ before.rings }
    → arrivals q.view.known.mine ≡ arrivals p.view.known.mine ++ packet ∷ [] → RangForEach 0 before after p q
rang_once before after p q packet rang arrived = record {
  packets = 1;
  arrived = omega (arith, ap length arrived, length-append (arrivals p.view.known.mine) (packet ∷ []));
  rung = omega (arith, once_more before after rang);
}

pub rang_besides : (before after : Rung) (p q : Seat) → after ≡ record before { rings = 0 ∷ before.rings }
    → arrivals q.view.known.mine ≡ arrivals p.view.known.mine → RangForEach 1 before after p q
rang_besides before after p q rang same = record { packets = 0; arrived = omega (arith, ap length same); rung = omega (arith, once_more before after rang) }
