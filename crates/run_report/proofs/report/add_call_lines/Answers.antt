use Rattle.std.proofs.Common.{◌≤◌, ◌++◌, ◌∙◌, ap, length, string_bytes, arith}
use Rattle.std.specs.List.{flat_map, enumerate_from}
use Rattle.std.proofs.lemmas.List.{take_all}
use Rattle.std.proofs.lemmas.List.FromFn.{length-enumerate_from}
use Rattle.rpc_journal.specs.Calls.{calls, call_at}
use Rattle.rpc_journal.specs.CallTable.{past}
use Rattle.run_report.specs.Report.{line_of_call}
use Rattle.run_report.proofs.CallLemmas.{opening_of, line_of_opening, flat_map-numbered}
use Rattle.run_report.proofs.report.add_call_lines.Goals as goal

pub loop-number-preserved : goal.loop-number-preserved
loop-number-preserved g c =
    let number = c.loop-number.number in
    let found = opening_of (call_at (past c.args.calls.now) number) c.name.result c.method.result c.name.ensures c.method.ensures in
    c.in_ok-add_call_line.ensures ∙
    ap (λ line. string_bytes c.loop-number.text ++ line) (line_of_opening (past c.args.calls.now) number found.0 _ _ _ found.2 found.3 c.status.ensures) ∙
    ap (λ front. front ++ line_of_call (past c.args.calls.now) (number, found.0)) c.loop-number.invariant ∙
    flat_map-numbered (line_of_call (past c.args.calls.now)) (string_bytes c.args.text.now) (calls (past c.args.calls.now)) number found.0 found.1

pub returns : goal.returns
returns g c =
    let all : length (enumerate_from 0 (calls (past c.args.calls.now))) ≤ c.loop-number.number =
    omega (arith, length-enumerate_from 0 (calls (past c.args.calls.now)), c.count-number-end.ensures, c.loop-number-test.false) in
    c.loop-number.invariant ∙
    ap (λ part. string_bytes c.args.text.now ++ flat_map (line_of_call (past c.args.calls.now)) part)
    (take_all c.loop-number.number (enumerate_from 0 (calls (past c.args.calls.now))) all)
