-- UIDs in ascending order by bytes, each once (our own form).
use Rattle.std.specs.Prelude.{ℕ, List}
use Rattle.std.specs.List.Sorted.{IsStrictlySortedBy}
use Rattle.std.specs.Ordering.{nat_cmp}
use Rattle.std.specs.Cmp.Lexicographic.{slice_cmp}
use Rattle.std.proofs.lemmas.Map.Keys.{IsStrictlySortedBy-prop}

abbrev pub AreAscendingUids : List (List ℕ) → Type 0
AreAscendingUids = IsStrictlySortedBy (slice_cmp nat_cmp)

pub AreAscendingUids-prop : (uids : List (List ℕ)) → IsProp (AreAscendingUids uids)
AreAscendingUids-prop = IsStrictlySortedBy-prop (slice_cmp nat_cmp)
