use Rattle.std.proofs.Common.{◌≡◌, ◌∙◌, ◌∷◌, [], ◌||◌, Bool, List, ap, cond, map, sym, refl, true, false, Bor, Option, Some, None}
use Rattle.std.specs.List.{list_any}
use Rattle.std.specs.Option.{is_none}
use Rattle.itip_items.specs.declared.item.Item.{Item}
use Rattle.itip_todo.specs.Properties.{Property}
use Rattle.itip_todo.specs.declared.property_name.PropertyName.TheVariants as name
use Rattle.itip_state.proofs.Members.{if_ok_then}
use Rattle.itip_writing.specs.Lacking.{lacking_of_items, lacking_organizer}
use Rattle.itip_writing.proofs.MappedTests.{any_mapped}
use Rattle.itip_writing.proofs.lacking.lacking_of_items.Goals as goal

-- what is lacking if an override lacks it, or else if the series item does
lacked : (organizer : Option Property) (some : Bool) → some ≡ true →
    name.Organizer ∷ [] ≡ cond (is_none organizer || some) (name.Organizer ∷ []) []
lacked None some is = refl
lacked (Some organizer) some is = sym (ap (λ b. cond b (name.Organizer ∷ []) []) is)

lacked_by_series : (organizer : Option Property) (some : Bool) → some ≡ false →
    lacking_organizer organizer ≡ cond (is_none organizer || some) (name.Organizer ∷ []) []
lacked_by_series None some is = refl
lacked_by_series (Some organizer) some is = sym (ap (λ b. cond b (name.Organizer ∷ []) []) is)

some_lacks : (overrides : List (Bor Item)) → list_any (λ (item : Item). is_none item.todo.organizer) (map (λ (item : Bor Item). item.now)
    overrides) ≡ list_any (λ (item : Bor Item). is_none item.now.todo.organizer) overrides
some_lacks overrides = any_mapped (λ (item : Bor Item). item.now) (λ (item : Item). is_none item.todo.organizer) overrides

pub returns-then-some_lacks : goal.returns-then-some_lacks
returns-then-some_lacks c =
    if_ok_then (λ names. names.items ≡ name.Organizer ∷ [])
    (λ names. names.items ≡ lacking_of_items (c.args.series.now ∷ map (λ item. item.now) c.args.overrides.now))
    c.lacking_organizer.result
    (λ names is. is ∙ lacked c.args.series.now.todo.organizer _ (some_lacks c.args.overrides.now ∙ sym c.some_lacks.ensures ∙
    c.if-some_lacks.true)) c.lacking_organizer.ensures

pub returns-else-some_lacks : goal.returns-else-some_lacks
returns-else-some_lacks c =
    if_ok_then (λ names. names.items ≡ lacking_organizer c.args.series.now.todo.organizer)
    (λ names. names.items ≡ lacking_of_items (c.args.series.now ∷ map (λ item. item.now) c.args.overrides.now))
    c.lacking_organizer-else-some_lacks.result
    (λ names is. is ∙ lacked_by_series c.args.series.now.todo.organizer _ (some_lacks c.args.overrides.now ∙ sym c.some_lacks.ensures ∙
    c.if-some_lacks.false)) c.lacking_organizer-else-some_lacks.ensures
