use Rattle.std.proofs.Common.{◌∙◌, ℕ, List, Some, map, refl, sym, ap}
use Rattle.std.specs.Borrow.{Bor}
use Rattle.std.specs.Option.{option_map}
use Rattle.std.proofs.lemmas.Simd.{map-map}
use Rattle.itip_words.specs.Values.{address_of}
use Rattle.itip_words.proofs.asked.cancel_of.Goals as goal

pub onward_of-requires-clause-onward : goal.onward_of-requires-clause-onward
onward_of-requires-clause-onward c = sym c.is_set.ensures ∙ c.if-is_set.true

pub returns-in_default : goal.returns-in_default
returns-in_default c = (refl, c.requires, sym c.in_default.ensures, sym c.is_set.ensures ∙ c.if-is_set.false)

pub returns : goal.returns
returns c = (
  refl,
  c.requires,
  ap (option_map (map address_of)) (sym c.in-Some.ensures) ∙
      ap Some (map-map address_of (λ (word : Bor (List ℕ)). word.now) c.in-Some.named.now ∙ sym c.in_ok-attendees.ensures),
  sym c.is_set.ensures ∙ c.if-is_set.false,
)
