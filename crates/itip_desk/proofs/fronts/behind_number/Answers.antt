use Rattle.std.proofs.Common.{refl}
use Rattle.itip_desk.proofs.FileNumbers.{one_number}
use Rattle.itip_desk.proofs.fronts.behind_number.Goals as goal

pub returns-in-Some : goal.returns-in-Some
returns-in-Some c = record {
  number = λ number after h. (one_number c.args.octets.now c.args.name.now _ number _ after c.in-Some.ensures.found h).1;
  none = λ none. absurd (none _ _ c.in-Some.ensures.found);
}

pub returns-in-None : goal.returns-in-None
returns-in-None c = record {
  number = λ number after h. absurd (c.in-None.ensures.none number after h);
  none = λ none. refl;
}
