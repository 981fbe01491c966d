-- The delta of a desk since tick 0 is all that it keeps.
use Rattle.std.proofs.Common.{List, [], refl}
use Rattle.itip_items.specs.declared.item.Item.{Item}
use Rattle.itip_state.specs.Kept.{AreKept}
use Rattle.itip_state.proofs.Members.{none_in}
use Rattle.itip_desk.specs.Desk.{Shown, IsDeskOf, IsDeltaOf}
use Rattle.itip_desk.proofs.Deltas.{up_to_date}

empty : Shown
empty = record { kept = []; tick = 0; changed = [] }

empty_is : IsDeskOf [] 0 empty
unfolding empty
empty_is = record {
  kept = λ i. (λ h. absurd (none_in i h), λ k. absurd (none_in i k.best.is_heard));
  tick = refl;
  changed = λ since uid. (λ c. let e = c.1 in cc, λ m. absurd m);
}

pub whole_delta : (steps : List (List Item)) (desk : Shown) (delta : List Item) → IsDeskOf steps 0 desk → IsDeltaOf desk 0 delta →
    AreKept desk.kept delta
unfolding empty
whole_delta steps desk delta is gives = up_to_date [] steps 0 empty desk delta empty_is is gives
