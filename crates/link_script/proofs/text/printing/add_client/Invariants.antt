use Rattle.std.proofs.Common.{◌≡◌, ◌++◌, string_bytes, drop}
use Rattle.link_script.specs.text.Report.{client_lines}
use Rattle.link_script.proofs.text.printing.add_client.Given as goal

-- what stands there, with the lines to come, is the whole
abbrev pub invariant-loop-resource : goal.invariant-loop-resource
invariant-loop-resource l = string_bytes l.text ++ client_lines (drop l.resource-index l.resource-items) ≡ string_bytes l.initial.text ++ client_lines l.resource-items
