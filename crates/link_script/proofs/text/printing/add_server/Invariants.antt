use Rattle.std.proofs.Common.{◌≡◌, ◌++◌, string_bytes, drop}
use Rattle.link_script.specs.text.Report.{server_lines}
use Rattle.link_script.proofs.text.printing.add_server.Given as goal

-- what stands there, with the lines to come, is the whole
abbrev pub invariant-loop-resource : goal.invariant-loop-resource
invariant-loop-resource l = string_bytes l.text ++ server_lines (drop l.resource-index l.resource-items) ≡ string_bytes l.initial.text ++ server_lines l.resource-items
