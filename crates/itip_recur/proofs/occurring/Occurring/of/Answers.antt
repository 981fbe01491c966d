use Rattle.std.proofs.Common.{◌≡◌, ◌↔◌, ◌∙◌, List, subst}
use Rattle.std.specs.List.{AllZip, Contains}
use Rattle.std.proofs.lemmas.List.{map-id}
use Rattle.std.proofs.lemmas.Slice.Zip.{AllZip-map}
use Rattle.itip_moment.specs.declared.moment.Moment.{Moment}
use Rattle.itip_recur.proofs.occurring.Occurring.of.Goals as goal

same_moments : (xs ys : List Moment) → AllZip (λ x y. y ≡ x) xs ys → ys ≡ xs
same_moments xs ys all = AllZip-map (λ (m : Moment). m) xs ys all ∙ map-id xs

pub invariant_of-result : goal.invariant_of-result
invariant_of-result c = (
  λ m. subst (λ (xs : List Moment). Contains c.in_ok-rdates.rdates.moments.items m ↔ Contains xs m)
      (c.into_vec.ensures ∙ same_moments c.args.series.rdates c.in_ok-clone.field-0 c.in_ok-clone.ensures.cases.0)
      (c.in_ok-rdates.ensures m),
  c.of_series-days.ensures,
)
