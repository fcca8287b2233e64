use Rattle.std.proofs.Common.{◌≡◌, ◌++◌, ℕ, List, drop}
use Rattle.token_text.specs.Arguments.{arguments_of}
use Rattle.token_text.specs.Spelling.{AreWords, arguments_text}
use Rattle.token_text.proofs.write_argument.push_arguments.Given as goal

-- what was written, with the arguments to come behind it, is the whole
abbrev pub invariant-loop-arg : goal.invariant-loop-arg
invariant-loop-arg l = record {
  leads_on : l.out.items ++ arguments_text (arguments_of (drop l.arg-index l.args)) ≡ l.fn.out.items ++ arguments_text (arguments_of l.args);
  words : AreWords (arguments_of (drop l.arg-index l.args)) → AreWords (arguments_of l.args);
  begun : (part : List ℕ) × (l.out.items ≡ l.fn.out.items ++ part);
}
