use Rattle.std.proofs.Common.{◌≡◌, ℕ, ◌≤◌, List, [], true, length, take, refl, subst, arith}
use Rattle.std.proofs.lemmas.List.{length-take, length-take-le}
use Rattle.hdlc_frame.specs.Machine.{Reading, reading_at}
use Rattle.hdlc_frame.specs.Steps.{Moves, Unescapes, phase_in_text}
use Rattle.hdlc_frame.proofs.Unescaping.{moves_unescaped}
use Rattle.hdlc_frame.proofs.Machines.{take_within}
use Rattle.hdlc_frame.proofs.machine.Machine.read_escaped.Goals as goal

pub returns-clause-moves : goal.returns-clause-moves
returns-clause-moves c =
    let machine = c.args.self.now in
    let buffer = c.args.buffer.now in
    let octets = c.args.octets.now in
    let n = c.unescape-read.result.0 in
    let end = c.unescape-read.result.1 in
    let after = c.unescape-read.result.2 in
    let later = c.unescape-read.new.buffer in
    let part = take c.min.result octets in
    let given = c.requires.kept in
    let least = c.min.ensures in
    let few : n ≤ length part = c.unescape-read.ensures.within in
    let short = length-take c.min.result octets in
    let same : take n part ≡ take n octets = take_within n c.min.result octets (omega (arith, few, short)) in
    let len : length (take n octets) ≤ n = omega (arith, length-take n octets) in
    let content : length (take machine.len buffer) ≡ machine.len = length-take-le machine.len buffer given in
    let P : List ℕ → Type 0 = λ l. Unescapes true l after (take machine.len buffer) (take end later) in
    let Q : ℕ → Type 0 =
    λ limit.
    let new : Reading = record { limit = limit; phase = phase_in_text after; is_long = machine.is_long; content = take end later } in
    Moves (reading_at machine buffer) new (take n octets) []
    in
    let kept : length buffer ≡ length later = omega arith in
    rw c.in_text-self.ensures
    (subst Q kept
    (moves_unescaped (reading_at machine buffer) (length buffer) machine.phase machine.is_long (take machine.len buffer) (take n octets) (take end later) after refl
    c.requires.phase c.requires.short (omega (arith, given, least, few, short, len, content)) (subst P same c.unescape-read.ensures.reads)))
