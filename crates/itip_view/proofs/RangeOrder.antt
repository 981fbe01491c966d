-- The order in which range items are held: what it says about whether a range item reaches a moment.
use Rattle.std.proofs.Common.{◌≡◌, ◌≢◌, refl, sym, ◌∙◌, ap, true, false}
use Rattle.std.specs.Ordering.{nat_cmp, is_gt, ordering_then, ordering_reverse}
use Rattle.std.specs.Cmp.{IsTotalOrder, tied_itself, alike_right}
use Rattle.std.specs.Cmp.Lexicographic.{slice_cmp}
use Rattle.std.specs.declared.cmp.Ordering.{Ordering}
use Rattle.std.specs.declared.cmp.Ordering.TheVariants.{Less, Equal, Greater}
use Rattle.std.proofs.lemmas.Cmp.{then_total, on_total, nat_cmp_total, nat_list_cmp_total}
use Rattle.std.proofs.lemmas.Map.Lookups.{exact_unsigned, exact_bytes}
use Rattle.itip_moment.specs.Moment.{moment_form, moment_zone, form_rank}
use Rattle.itip_moment.specs.Order.{moment_cmp}
use Rattle.itip_moment.specs.OrderLaws.{moment_total}
use Rattle.itip_moment.specs.declared.moment.Form as form
use Rattle.itip_moment.specs.declared.moment.Form.{Form}
use Rattle.itip_moment.specs.declared.moment.Moment.{Moment}
use Rattle.itip_state.specs.Slots.{then_equal}
use Rattle.itip_view.specs.Ruling.{form_cmp, range_cmp}
use Rattle.itip_view.specs.Standing.{HaveOneForm, Reaches}

form_total : IsTotalOrder form_cmp
form_total = then_total (on_total (λ m. form_rank (moment_form m)) nat_cmp_total) (on_total moment_zone nat_list_cmp_total)

pub range_total : IsTotalOrder range_cmp
range_total = then_total form_total moment_total

one_form : (a b : Form) → form_rank a ≡ form_rank b → a ≡ b
one_form form.TheVariants.Date form.TheVariants.Date e = refl
one_form form.TheVariants.Date form.TheVariants.Floating e = cc
one_form form.TheVariants.Date form.TheVariants.Utc e = cc
one_form form.TheVariants.Date form.TheVariants.Zoned e = cc
one_form form.TheVariants.Floating form.TheVariants.Date e = cc
one_form form.TheVariants.Floating form.TheVariants.Floating e = refl
one_form form.TheVariants.Floating form.TheVariants.Utc e = cc
one_form form.TheVariants.Floating form.TheVariants.Zoned e = cc
one_form form.TheVariants.Utc form.TheVariants.Date e = cc
one_form form.TheVariants.Utc form.TheVariants.Floating e = cc
one_form form.TheVariants.Utc form.TheVariants.Utc e = refl
one_form form.TheVariants.Utc form.TheVariants.Zoned e = cc
one_form form.TheVariants.Zoned form.TheVariants.Date e = cc
one_form form.TheVariants.Zoned form.TheVariants.Floating e = cc
one_form form.TheVariants.Zoned form.TheVariants.Utc e = cc
one_form form.TheVariants.Zoned form.TheVariants.Zoned e = refl

-- the order tells whether form and zone are the same
one_form_equal : (id at : Moment) → HaveOneForm id at → form_cmp id at ≡ Equal
one_form_equal id at same =
    ap (λ f. ordering_then (nat_cmp (form_rank (moment_form id)) (form_rank f)) (slice_cmp nat_cmp (moment_zone id) (moment_zone at)))
    same.form
    ∙ ap (λ o. ordering_then o (slice_cmp nat_cmp (moment_zone id) (moment_zone at)))
    (tied_itself nat_cmp_total (form_rank (moment_form id)))
    ∙ ap (λ z. slice_cmp nat_cmp (moment_zone id) z) same.zone ∙ tied_itself nat_list_cmp_total (moment_zone id)

pub equal_one_form : (id at : Moment) → form_cmp id at ≡ Equal → HaveOneForm id at
equal_one_form id at e =
    let parts = then_equal (nat_cmp (form_rank (moment_form id)) (form_rank (moment_form at)))
    (slice_cmp nat_cmp (moment_zone id) (moment_zone at)) e in record {
      form = sym (one_form (moment_form id) (moment_form at) (exact_unsigned _ _ parts.0));
      zone = sym (exact_bytes _ _ parts.1);
    }

-- in one form and zone the order is that of moments
by_moment : (id at : Moment) → form_cmp id at ≡ Equal → range_cmp id at ≡ moment_cmp id at
by_moment id at e = ap (λ o. ordering_then o (moment_cmp id at)) e

not_less-from : (a b : Moment) → is_gt (moment_cmp a b) ≡ false → moment_cmp b a ≢ Less
not_less-from a b up e = let x : true ≡ false = sym (ap is_gt (moment_total.antisymm a b ∙ ap ordering_reverse e)) ∙ up in cc

up_from : (a b : Moment) → moment_cmp b a ≢ Less → is_gt (moment_cmp a b) ≡ false
up_from a b not_less = by (moment_cmp a b) refl
  where
    by : (o : Ordering) → moment_cmp a b ≡ o → is_gt o ≡ false
    by Less e = refl
    by Equal e = refl
    by Greater e = absurd (not_less (moment_total.antisymm b a ∙ ap ordering_reverse e))

-- what reaches a moment isn't after it
pub reach_up : (id at : Moment) → Reaches id at → is_gt (range_cmp id at) ≡ false
reach_up id at reaches = ap is_gt (by_moment id at (one_form_equal id at reaches.one_form)) ∙ up_from id at reaches.not_before

-- and what isn't after it, and has its form and zone, reaches it
pub up_reach : (id at : Moment) → HaveOneForm id at → is_gt (range_cmp id at) ≡ false → Reaches id at
up_reach id at same up =
    record { one_form = same; not_before = not_less-from id at (sym (ap is_gt (by_moment id at (one_form_equal id at same))) ∙ up) }

-- of two of one form and zone
pub not_less : (a b at : Moment) → HaveOneForm a at → HaveOneForm b at → is_gt (range_cmp a b) ≡ false → moment_cmp b a ≢ Less
not_less a b at p q up =
    let same : form_cmp a b ≡ Equal = alike_right form_total b at a (one_form_equal b at q) ∙ one_form_equal a at p in
    not_less-from a b (sym (ap is_gt (by_moment a b same)) ∙ up)

first_up : (r s : Ordering) → is_gt (ordering_then r s) ≡ false → is_gt r ≡ false
first_up Less s e = refl
first_up Equal s e = refl
first_up Greater s e = e

-- what lies between one with the form and zone of a moment and the moment has them too
pub between_one_form : (a b at : Moment) → HaveOneForm a at → is_gt (range_cmp a b) ≡ false → is_gt (range_cmp b at) ≡ false →
    HaveOneForm b at
between_one_form a b at same low high = equal_one_form b at (by (form_cmp b at) (form_cmp a b) refl refl)
  where
    by : (o p : Ordering) → form_cmp b at ≡ o → form_cmp a b ≡ p → form_cmp b at ≡ Equal
    by Equal p e f = e
    by Greater p e f = let x : true ≡ false = sym (ap is_gt e) ∙ first_up (form_cmp b at) (moment_cmp b at) high in cc
    by Less Less e f = let x : Less ≡ Equal = sym (form_total.trans a b at f e) ∙ one_form_equal a at same in cc
    by Less Equal e f = let x : Less ≡ Equal = sym e ∙ sym (form_total.congr a b at f) ∙ one_form_equal a at same in cc
    by Less Greater e f = let x : true ≡ false = sym (ap is_gt f) ∙ first_up (form_cmp a b) (moment_cmp a b) low in cc
