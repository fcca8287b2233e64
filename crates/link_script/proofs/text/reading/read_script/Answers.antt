use Rattle.std.proofs.Common.{rules, ◌≡◌, true, Some, arith}
use Rattle.link_script.specs.declared.text.line.Line.{Line}
use Rattle.link_script.specs.text.Lines.{IsLine}
use Rattle.link_script.specs.text.Standing.{may_stand}
use Rattle.link_script.proofs.text.ScriptLemmas.{line_read}
use Rattle.link_script.proofs.text.reading.read_script.Goals as goal

pub lines-preserved : goal.lines-preserved
lines-preserved c =
    let says : IsLine c.in-Some.text.now c.in-Some-2.line = rw c.in-Some-2.is at c.in_ok-line.ensures.some in
    let only : (other : Line) → IsLine c.in-Some.text.now other → Some c.in-Some-2.line ≡ Some other = rw c.in-Some-2.is at c.in_ok-line.ensures.only in
    let stands : may_stand c.lines.script c.in-Some-2.line ≡ true = search rules in
    rw (c.in_ok-add_line.ensures)
    (line_read c.args.text.now c.lines.rest.now c.in-Some.text.now c.in-Some.more.now c.lines.script c.lines.number c.in-Some-2.line
    c.lines.invariant c.in-Some.ensures.some (omega (arith, c.in-Some.ensures.shorter)) (says, λ other so. cc (only other so)) stands)
