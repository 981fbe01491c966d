-- Days, stamps and moments are equal if their parts are, and so if their orders say Equal.
use Rattle.std.proofs.Common.{◌≡◌, ℕ, ◌<◌, refl, ap, ap₂, arith, Option, Some, None, Bool, IsTrue, ◌↔◌, sym, ◌∙◌}
use Rattle.std.specs.declared.cmp.Ordering.{Ordering}
use Rattle.std.specs.declared.cmp.Ordering.TheVariants.{Less, Equal, Greater}
use Rattle.std.specs.Ordering.{ordering_then, int_cmp, nat_cmp}
use Rattle.std.specs.Option.{option_cmp}
use Rattle.std.specs.Ordering.{eq_by_cmp, is_eq}
use Rattle.std.specs.Cmp.{IsTotalOrder}
use Rattle.std.proofs.lemmas.Cmp.{tied_itself}
use Rattle.std.proofs.lemmas.Map.Views.{tells_apart}
use Rattle.itip_moment.specs.OrderLaws.{stamp_total, moment_total}
use Rattle.std.proofs.lemmas.Map.Lookups.{CmpEqualImpliesEq, exact_signed, exact_unsigned, exact_bytes}
use denote.Struct.Props.{props}
use mathlib.Core.HLevel.{is_prop→PathP}
use Rattle.itip_moment.specs.declared.day.Day.{Day}
use Rattle.itip_moment.specs.declared.stamp.Stamp.{Stamp}
use Rattle.itip_moment.specs.declared.moment.Moment.{Moment}
use Rattle.itip_moment.specs.declared.moment.Moment.TheVariants.{Date, Floating, Utc, Zoned}
use Rattle.itip_moment.specs.Moment.{moment_day, moment_second, moment_form, moment_zone, form_rank}
use Rattle.itip_moment.specs.Order.{stamp_cmp, moment_cmp}
use Rattle.itip_moment.specs.Years.{IsDayNumber}
use Rattle.itip_moment.specs.Zone.{same_name}

-- days with the same number are one day
pub same_day : (a b : Day) → a.number ≡ b.number → a ≡ b
same_day a b e =
    λ i. record { number = e i; in_years = is_prop→PathP (λ j. IsDayNumber (e j)) (λ j. hlevel props) a.in_years b.in_years i }

-- stamps with the same day and second are one stamp
pub same_stamp : (a b : Stamp) → a.day ≡ b.day → a.second ≡ b.second → a ≡ b
same_stamp a b d s =
    λ i. record {
      day = d i;
      second = s i;
      in_years = is_prop→PathP (λ j. IsDayNumber (d j)) (λ j. hlevel props) a.in_years b.in_years i;
      in_day = is_prop→PathP (λ j. s j < 86_400) (λ j. hlevel props) a.in_day b.in_day i;
    }

-- if one order and then another say Equal, each does
pub then_equal : (r s : Ordering) → ordering_then r s ≡ Equal → (r ≡ Equal) × (s ≡ Equal)
then_equal Less s e = cc
then_equal Equal s e = (refl, e)
then_equal Greater s e = cc

exact_options : (p q : Option ℕ) → option_cmp nat_cmp p q ≡ Equal → p ≡ q
exact_options None None e = refl
exact_options None (Some y) e = cc
exact_options (Some x) None e = cc
exact_options (Some x) (Some y) e = ap Some (exact_unsigned x y e)

pub stamp_equal : CmpEqualImpliesEq stamp_cmp
stamp_equal a b e =
    let parts = then_equal (int_cmp a.day b.day) (nat_cmp a.second b.second) e in
    same_stamp a b (exact_signed a.day b.day parts.0) (exact_unsigned a.second b.second parts.1)

Some-one : {x y : ℕ} → Some x ≡ Some y → x ≡ y
Some-one e = cc

-- moments of one form with the same day, second and zone are one moment
pub same_moment : (m n : Moment) → moment_day m ≡ moment_day n → moment_second m ≡ moment_second n →
    form_rank (moment_form m) ≡ form_rank (moment_form n) → moment_zone m ≡ moment_zone n → m ≡ n
same_moment (Date a) (Date b) d s f z = ap Date (same_day a b d)
same_moment (Floating a) (Floating b) d s f z = ap Floating (same_stamp a b d (Some-one s))
same_moment (Utc a) (Utc b) d s f z = ap Utc (same_stamp a b d (Some-one s))
same_moment (Zoned x a) (Zoned y b) d s f z = ap₂ Zoned (same_name x y z) (same_stamp a b d (Some-one s))
same_moment (Date a) (Floating b) d s f z = absurd (omega arith)
same_moment (Date a) (Utc b) d s f z = absurd (omega arith)
same_moment (Date a) (Zoned y b) d s f z = absurd (omega arith)
same_moment (Floating a) (Date b) d s f z = absurd (omega arith)
same_moment (Floating a) (Utc b) d s f z = absurd (omega arith)
same_moment (Floating a) (Zoned y b) d s f z = absurd (omega arith)
same_moment (Utc a) (Date b) d s f z = absurd (omega arith)
same_moment (Utc a) (Floating b) d s f z = absurd (omega arith)
same_moment (Utc a) (Zoned y b) d s f z = absurd (omega arith)
same_moment (Zoned x a) (Date b) d s f z = absurd (omega arith)
same_moment (Zoned x a) (Floating b) d s f z = absurd (omega arith)
same_moment (Zoned x a) (Utc b) d s f z = absurd (omega arith)

pub moment_equal : CmpEqualImpliesEq moment_cmp
moment_equal m n e =
    let first = then_equal (int_cmp (moment_day m) (moment_day n)) _ e in
    let second = then_equal (option_cmp nat_cmp (moment_second m) (moment_second n)) _ first.1 in
    let third = then_equal (nat_cmp (form_rank (moment_form m)) (form_rank (moment_form n))) _ second.1 in
    same_moment m n (exact_signed _ _ first.0) (exact_options _ _ second.0) (exact_unsigned _ _ third.0) (exact_bytes _ _ third.1)

-- what `==` says, for callers

eq_by_cmp-iff : {K : Type 0} {R : K → K → Ordering} → IsTotalOrder R → CmpEqualImpliesEq R → (x y : K) (b : Bool) → b ≡ eq_by_cmp R x y →
    IsTrue b ↔ (x ≡ y)
eq_by_cmp-iff {K} {R} total exact x y b e = (
  λ same. tells_apart exact x y (sym e ∙ same),
  λ same. e ∙ ap is_eq (ap (R x) (sym same) ∙ tied_itself total x),
)

pub moment_eq-iff : (m n : Moment) (b : Bool) → b ≡ eq_by_cmp moment_cmp m n → IsTrue b ↔ (m ≡ n)
moment_eq-iff = eq_by_cmp-iff moment_total moment_equal

pub stamp_eq-iff : (s t : Stamp) (b : Bool) → b ≡ eq_by_cmp stamp_cmp s t → IsTrue b ↔ (s ≡ t)
stamp_eq-iff = eq_by_cmp-iff stamp_total stamp_equal
