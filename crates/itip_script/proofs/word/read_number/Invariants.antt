use Rattle.std.proofs.Common.{◌≡◌, ◌<◌, ◌^◌, drop}
use Rattle.std.specs.List.{list_all}
use Rattle.itip_script.specs.Orders.{is_digit, digits_value}
use Rattle.itip_script.proofs.word.read_number.Given as goal

abbrev pub invariant-loop-b : goal.invariant-loop-b
invariant-loop-b l =
    (list_all is_digit l.word ≡ list_all is_digit (drop l.b-index l.word))
    × (digits_value 0 l.word ≡ digits_value l.value (drop l.b-index l.word)) × (l.value < 2 ^ 64)
