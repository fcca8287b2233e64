-- Both ends of a transfer, over a link that may lose, repeat and reorder the pieces.
use Rattle.std.specs.Prelude.{ℕ, List, All, Contains}
use Rattle.transfer_sender.specs.Sender.{Sender}
use Rattle.transfer_sender.specs.Run as sender_run
use Rattle.transfer_receiver.specs.Receiver.{new_receiver}
use Rattle.transfer_receiver.specs.Run as receiver_run

-- each piece that comes is one that the sender sends: any may be lost, come again, or come in another order
abbrev pub ComesFrom : Sender → List sender_run.Event → List receiver_run.Event → Type 0
ComesFrom s asked events = All (Contains (sender_run.sent s asked)) (receiver_run.came events)

-- whatever comes to the sender, and whatever of its pieces comes to the receiver, and when
abbrev pub CoresAgree : Type 0
CoresAgree =
    (s : Sender) (asked : List sender_run.Event) (offset span chunk now : ℕ) (events : List receiver_run.Event) →
    ComesFrom s asked events → receiver_run.KeepsFrom s.bytes offset (new_receiver offset span chunk now) events
