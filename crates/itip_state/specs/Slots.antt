-- The order in which a state holds its items: by UID, then by the rest of the key, the series item first (our own rule). Among items held
-- under one UID the rest is compared first: the kind, the day and the second of the instance, which are numbers, and then the attendee. The
-- whole instance and the UID, which the answers of one to-do of a message share, however long, are compared last.
use Rattle.std.specs.Prelude.{◌≡◌}
use Rattle.std.proofs.Common.{refl}
use Rattle.std.specs.declared.cmp.Ordering.{Ordering}
use Rattle.std.specs.declared.cmp.Ordering.TheVariants.{Less, Equal, Greater}
use Rattle.std.specs.Ordering.{on, then_cmp, nat_cmp, int_cmp, ordering_then}
use Rattle.std.specs.Option.{option_cmp}
use Rattle.std.specs.Cmp.{IsTotalOrder}
use Rattle.std.specs.Cmp.Lexicographic.{slice_cmp, options_total}
use Rattle.std.proofs.lemmas.Cmp.{then_total, on_total, nat_cmp_total, int_cmp_total, nat_list_cmp_total}
use Rattle.std.proofs.lemmas.Map.Lookups.{CmpEqualImpliesEq, exact_unsigned, exact_bytes}
use Rattle.itip_moment.specs.declared.moment.Moment.{Moment}
use Rattle.itip_moment.specs.Moment.{moment_day, moment_second}
use Rattle.itip_moment.specs.Order.{moment_cmp}
use Rattle.itip_moment.specs.OrderLaws.{moment_total}
use Rattle.itip_moment.proofs.Same.{moment_equal}
use Rattle.itip_items.specs.KeyParts.{uid_of, rank_of, instance_of, attendee_of}
use Rattle.itip_items.specs.declared.key.Key.{Key}
use Rattle.itip_items.proofs.Keys.{from_parts}
use Rattle.itip_join.specs.Ranked.{exact_option}

-- by the day, then by the second of the day, a date before every second
abbrev pub time_cmp : Moment → Moment → Ordering
time_cmp = then_cmp (on moment_day int_cmp) (on moment_second (option_cmp nat_cmp))

-- by kind of key, by the time of the instance, by attendee, and by the whole instance
abbrev pub rest_cmp : Key → Key → Ordering
rest_cmp a b =
    ordering_then (nat_cmp (rank_of a) (rank_of b))
    (ordering_then (option_cmp time_cmp (instance_of a) (instance_of b))
    (ordering_then (slice_cmp nat_cmp (attendee_of a) (attendee_of b)) (option_cmp moment_cmp (instance_of a) (instance_of b))))

-- by UID, then by the rest
abbrev pub key_cmp : Key → Key → Ordering
key_cmp a b = ordering_then (slice_cmp nat_cmp (uid_of a) (uid_of b)) (rest_cmp a b)

-- by the rest, then by UID: the same order for keys of one UID
abbrev pub slot_cmp : Key → Key → Ordering
slot_cmp a b = ordering_then (rest_cmp a b) (slice_cmp nat_cmp (uid_of a) (uid_of b))

time_total : IsTotalOrder time_cmp
time_total = then_total (on_total moment_day int_cmp_total) (on_total moment_second (options_total nat_cmp_total))

rest_total : IsTotalOrder rest_cmp
rest_total =
    then_total (on_total rank_of nat_cmp_total)
    (then_total (on_total instance_of (options_total time_total))
    (then_total (on_total attendee_of nat_list_cmp_total) (on_total instance_of (options_total moment_total))))

pub key_total : IsTotalOrder key_cmp
key_total = then_total (on_total uid_of nat_list_cmp_total) rest_total

pub slot_total : IsTotalOrder slot_cmp
slot_total = then_total rest_total (on_total uid_of nat_list_cmp_total)

-- where one order followed by another says Equal, each of them does
pub then_equal : (r s : Ordering) → ordering_then r s ≡ Equal → (r ≡ Equal) × (s ≡ Equal)
then_equal Less s e = cc
then_equal Equal s e = (refl, e)
then_equal Greater s e = cc

from_rest : (a b : Key) → slice_cmp nat_cmp (uid_of a) (uid_of b) ≡ Equal → rest_cmp a b ≡ Equal → a ≡ b
from_rest a b uid rest =
    let first = then_equal (nat_cmp (rank_of a) (rank_of b)) _ rest in
    let second = then_equal (option_cmp time_cmp (instance_of a) (instance_of b)) _ first.1 in
    let third = then_equal (slice_cmp nat_cmp (attendee_of a) (attendee_of b)) _ second.1 in
    from_parts a b (exact_bytes _ _ uid) (exact_unsigned _ _ first.0) (exact_option moment_cmp moment_equal _ _ third.1)
    (exact_bytes _ _ third.0)

pub key_exact : CmpEqualImpliesEq key_cmp
key_exact a b e = let both = then_equal (slice_cmp nat_cmp (uid_of a) (uid_of b)) (rest_cmp a b) e in from_rest a b both.0 both.1

pub slot_exact : CmpEqualImpliesEq slot_cmp
slot_exact a b e = let both = then_equal (rest_cmp a b) (slice_cmp nat_cmp (uid_of a) (uid_of b)) e in from_rest a b both.1 both.0
