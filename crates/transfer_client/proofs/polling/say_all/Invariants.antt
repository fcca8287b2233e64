use Rattle.std.proofs.Common.{◌≡◌, ◌++◌, drop}
use Rattle.transfer_client.proofs.polling.say_all.Given as goal

-- what is said so far, with the items to come, is the whole
abbrev pub invariant-loop-out : goal.invariant-loop-out
invariant-loop-out l = record {
  said : l.cx.said ++ drop l.out-index l.out-items ≡ l.initial.cx.said ++ l.out-items;
  rest : l.cx ≡ record l.initial.cx { said = l.cx.said };
}
