use Rattle.std.proofs.Common.{map, refl, string_bytes}
use Rattle.pw_run.proofs.CallLemmas.{can_open}
use Rattle.pw_run.proofs.call.opening_of.Goals as goal

pub returns-clause-can : goal.returns-clause-can
returns-clause-can c =
    let said = c.in_ok-payload.ensures c.requires.told c.requires.tell in
    can_open c.args.words.kind (map string_bytes c.args.words.payloads.now) c.requires.told _ refl said.0 said.1 c.requires.tell c.requires.named
