-- A series item kills what is below it (our own rule): what is no later than a dead item is dead, and a later series item kills no less.
use Rattle.std.specs.Prelude.{◌≡◌, ℕ, ◌≤◌, ◌<◌, Bool, true, false, ◌&&◌, nat_lt}
use Rattle.std.proofs.Common.{refl, ap, sym, ◌∙◌, arith}
use Rattle.std.specs.Ordering.{nat_cmp, is_gt, ordering_then, MatchOrdering}
use Rattle.std.specs.Cmp.Lexicographic.{slice_cmp}
use Rattle.std.specs.declared.cmp.Ordering.{Ordering}
use Rattle.std.specs.declared.cmp.Ordering.TheVariants.{Less, Equal, Greater}
use Rattle.std.proofs.lemmas.Cmp.{ranked}
use Rattle.std.proofs.lemmas.Bool.Decides.{nat_tests}
use Rattle.itip_moment.specs.Order.{stamp_cmp}
use Rattle.itip_items.specs.RevisionOrder.{revision_cmp}
use Rattle.itip_items.specs.declared.item.Item.{Item}
use Rattle.itip_items.specs.declared.key.Key.{Key}
use Rattle.itip_join.specs.declared.lift.Lift.{Lift}
use Rattle.itip_join.specs.declared.lift.Lift.TheVariants.{Nothing, Known}
use Rattle.itip_join.specs.Ranked.{IsUpTo}
use Rattle.itip_join.specs.Lifted.{IsLiftedBelow}
use Rattle.itip_state.specs.Held.{Best, kills, can_die}

abbrev pub IsNoLater : Best → Best → Type 0
IsNoLater x y = IsUpTo revision_cmp x.value y.value

-- a revision that is not later than another has no greater effective sequence
pub eff_up_to : (i j : Item) → IsUpTo revision_cmp i j → i.eff ≤ j.eff
eff_up_to i j up = by (nat_cmp i.eff j.eff) refl
  where
    at : (o : Ordering) → nat_cmp i.eff j.eff ≡ o → MatchOrdering o (i.eff < j.eff) (i.eff ≡ j.eff) (j.eff < i.eff)
    at o e = ranked i.eff j.eff o (sym e)

    by : (o : Ordering) → nat_cmp i.eff j.eff ≡ o → i.eff ≤ j.eff
    by Less e = let x : i.eff < j.eff = at Less e in omega arith
    by Equal e = let x : i.eff ≡ j.eff = at Equal e in omega arith
    by Greater e =
        let x : true ≡ false =
        sym (ap (λ o. is_gt (ordering_then o (ordering_then (stamp_cmp i.stamp j.stamp) (slice_cmp nat_cmp i.bytes j.bytes)))) e) ∙
        up in
        absurd (cc)

with_second : (a b c : Bool) → (a && b) ≡ true → (b ≡ true → c ≡ true) → (a && c) ≡ true
with_second true b c e f = f e
with_second false b c e f = absurd (cc)

pub less_from : (a b : ℕ) → nat_lt a b ≡ true → a < b
less_from a b e = grind (arith, nat_tests)

pub from_less : (a b : ℕ) → a < b → nat_lt a b ≡ true
from_less a b h = grind (arith, nat_tests)

pub kills_below : (s : Lift Best) (key : Key) (i j : Item) → kills s key j ≡ true → IsUpTo revision_cmp i j → kills s key i ≡ true
kills_below Nothing key i j d up = absurd (cc)
kills_below (Known s) key i j d up = with_second (can_die key) (nat_lt j.eff s.value.eff) (nat_lt i.eff s.value.eff) d (λ e.
    let x : j.eff < s.value.eff = less_from j.eff s.value.eff e in
    let y : i.eff ≤ j.eff = eff_up_to i j up in
    from_less i.eff s.value.eff (omega arith))

pub kills_more : (s t : Lift Best) (key : Key) (i : Item) → IsLiftedBelow IsNoLater s t → kills s key i ≡ true → kills t key i ≡ true
kills_more Nothing t key i up d = absurd (cc)
kills_more (Known s) Nothing key i up d = absurd up
kills_more (Known s) (Known t) key i up d = with_second (can_die key) (nat_lt i.eff s.value.eff) (nat_lt i.eff t.value.eff) d (λ e.
    let x : i.eff < s.value.eff = less_from i.eff s.value.eff e in
    let y : s.value.eff ≤ t.value.eff = eff_up_to s.value t.value up in
    from_less i.eff t.value.eff (omega arith))
