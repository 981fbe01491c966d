use Rattle.std.proofs.Common.{◌≡◌, drop}
use Rattle.std.specs.Option.{option_map}
use Rattle.itip_message.specs.Head.{only_value, named}
use Rattle.itip_message.proofs.Heads.{completes}
use Rattle.itip_message.proofs.head.only_value.Given as goal

abbrev pub invariant-loop-line : goal.invariant-loop-line
invariant-loop-line l =
    completes (option_map (λ value. value.now) l.found) (named l.name (drop l.line-index l.lines)) ≡ only_value (named l.name l.lines)
