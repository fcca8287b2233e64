use Rattle.std.proofs.Common.{◌≡◌, ◌++◌, flat_map, take, string_bytes}
use Rattle.run_report.specs.CallReport.{message_line}
use Rattle.run_report.proofs.call_report.add_messages.Given as goal

abbrev pub invariant-loop-message : goal.invariant-loop-message
invariant-loop-message l = string_bytes l.text ≡ string_bytes l.fn.text ++ flat_map message_line (take l.message-index l.messages)
