use Rattle.std.proofs.Common.{◌≡◌, ◌∷◌, ◌++◌, List, ℕ, length, take}
use Rattle.itip_inbox.specs.Leb128.{numbers, Spells}
use Rattle.itip_inbox.proofs.leb128.push_number.Given as goal

-- what follows has the rest of the number
abbrev pub invariant-loop-rest : goal.invariant-loop-rest
invariant-loop-rest l = record {
  adds : (before more ns : List ℕ) → Spells l.fn.octets.items before → numbers more ≡ l.rest ∷ ns →
      numbers (l.octets.items ++ more) ≡ before ++ l.number ∷ ns;
  keeps : take (length l.fn.octets.items) l.octets.items ≡ l.fn.octets.items;
}

abbrev pub decreases-loop-rest : goal.decreases-loop-rest
decreases-loop-rest l = l.rest
