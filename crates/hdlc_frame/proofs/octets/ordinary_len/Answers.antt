use Rattle.std.proofs.Common.{◌-◌, length, take, drop, refl, arith}
use Rattle.std.proofs.lemmas.List.{take_rest}
use Rattle.hdlc_frame.proofs.Copied.{ordinary_on}
use Rattle.hdlc_frame.proofs.octets.ordinary_len.Goals as goal

pub returns-in-Some-clause-ordinary : goal.returns-in-Some-clause-ordinary
returns-in-Some-clause-ordinary c =
    let octets = c.args.octets.now in
    let at = c.looks.at in
    ordinary_on at c.in-Some.n octets (drop at octets) refl c.looks.invariant.ordinary c.in-Some.ensures.some.1

pub looks-preserved : goal.looks-preserved
looks-preserved c =
    let octets = c.args.octets.now in
    let at = c.looks.at in
    record {
      within = omega arith;
      ordinary = ordinary_on at 32 octets (drop at octets) refl c.looks.invariant.ordinary (c.in-None.ensures.none refl);
    }

pub returns-clause-ordinary : goal.returns-clause-ordinary
returns-clause-ordinary c =
    let octets = c.args.octets.now in
    let at = c.looks.at in
    ordinary_on at c.searched_len.result octets (take (length octets - at) (drop at octets)) (take_rest octets at) c.looks.invariant.ordinary
    c.searched_len.ensures.ordinary
