use Rattle.std.specs.List.{Contains}
use Rattle.std.proofs.lemmas.List.Elements.{All-contains, All-weaker}
use Rattle.transfer_base.specs.declared.Piece.{Piece}
use Rattle.transfer_base.specs.PieceLists.{IsPartOf}
use Rattle.transfer_sender.specs.Run.{sent}
use Rattle.transfer_sender.proofs.RunLaws.{sends_parts}
use Rattle.transfer_receiver.specs.Run.{came}
use Rattle.transfer_receiver.proofs.RunLaws.{keeps_the_resource}
use Rattle.transfer_laws.proofs.cores.cores_agree.Goals as goal

pub returns : goal.returns
returns c s asked offset span chunk now events comes =
    let honest : (p : Piece) → Contains (sent s asked) p → IsPartOf s.bytes p = λ p. All-contains (IsPartOf s.bytes) (sent s asked) p (sends_parts s asked) in
    keeps_the_resource s.bytes offset span chunk now events (All-weaker (Contains (sent s asked)) (IsPartOf s.bytes) honest (came events) comes)
