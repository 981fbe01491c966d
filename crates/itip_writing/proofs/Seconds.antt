-- The order of stamps, and the next second.
use Rattle.std.proofs.Common.{◌≡◌, ◌∙◌, sym, ap, refl, ◌+◌, ◌<◌, ◌⊎◌, inl, inr, arith, pos, ◌+ℤ◌, ◌<ℤ◌}
use Rattle.std.specs.Ordering.{nat_cmp, int_cmp, ordering_then}
use Rattle.std.specs.declared.cmp.Ordering.{Ordering}
use Rattle.std.specs.declared.cmp.Ordering.TheVariants.{Less, Equal, Greater}
use Rattle.std.proofs.lemmas.Cmp.{ranked, int_ranked}
use Rattle.std.proofs.lemmas.Int.{ints}
use Rattle.std.specs.Cmp.{nat_cmp_is, int_cmp_is}
use Rattle.itip_moment.specs.Order.{stamp_cmp}
use Rattle.itip_moment.specs.declared.stamp.Stamp.{Stamp}
use Rattle.itip_writing.specs.Stamping.{IsNextSecond, IsLastSecond}

-- an earlier day, or an earlier second of the day
abbrev pub IsBefore : Stamp → Stamp → Type 0
IsBefore s t = (s.day <ℤ t.day) ⊎ ((s.day ≡ t.day) × (s.second < t.second))

pub before_is : (s t : Stamp) → IsBefore s t → stamp_cmp s t ≡ Less
before_is s t (inl day) =
    ap (λ (o : Ordering). ordering_then o (nat_cmp s.second t.second)) (sym (int_cmp_is s.day t.day Less day))
before_is s t (inr (day, second)) =
    ap (λ (o : Ordering). ordering_then o (nat_cmp s.second t.second)) (sym (int_cmp_is s.day t.day Equal day))
    ∙ sym (nat_cmp_is s.second t.second Less second)

pub is_before : (s t : Stamp) → stamp_cmp s t ≡ Less → IsBefore s t
is_before s t h = by (int_cmp s.day t.day) refl h
  where
    by : (o : Ordering) → o ≡ int_cmp s.day t.day → ordering_then o (nat_cmp s.second t.second) ≡ Less → IsBefore s t
    by Less e k = inl (int_ranked s.day t.day Less e)
    by Equal e k = inr (int_ranked s.day t.day Equal e, ranked s.second t.second Less (sym k))
    by Greater e k = absurd cc

-- ---- the next second

pub next_in_day : (s n : Stamp) → n.day ≡ s.day → n.second ≡ s.second + 1 → IsNextSecond s n
next_in_day s n day second = record {
  later = before_is s n (inr (sym day, omega (arith, second)));
  least = λ other k l. between other (is_before s other k) (is_before other n l);
}
  where
    between : (other : Stamp) → IsBefore s other → IsBefore other n → ⊥
    between other (inl k) (inl l) = omega (arith, ints, k, l, day)
    between other (inl k) (inr l) = omega (arith, ints, k, l.0, day)
    between other (inr k) (inl l) = omega (arith, ints, k.0, l, day)
    between other (inr k) (inr l) = omega (arith, k.1, l.1, second)

pub next_day : (s n : Stamp) → s.second ≡ 86_399 → n.day ≡ s.day +ℤ pos 1 → n.second ≡ 0 → IsNextSecond s n
next_day s n last day second = record {
  later = before_is s n (inl (omega (arith, ints, day)));
  least = λ other k l. between other (is_before s other k) (is_before other n l);
}
  where
    between : (other : Stamp) → IsBefore s other → IsBefore other n → ⊥
    between other (inl k) (inl l) = omega (arith, ints, k, l, day)
    between other (inl k) (inr l) = omega (arith, l.1, second)
    between other (inr k) l = omega (arith, k.1, last, other.in_day)

pub last_second : (s : Stamp) → s.second ≡ 86_399 → s.day ≡ pos 2_932_896 → IsLastSecond s
last_second s last day = λ next is. over next (is_before s next is.later)
  where
    over : (next : Stamp) → IsBefore s next → ⊥
    over next (inl k) = let in_years = next.in_years in omega (arith, ints, k, day, in_years.1)
    over next (inr k) = omega (arith, k.1, last, next.in_day)
