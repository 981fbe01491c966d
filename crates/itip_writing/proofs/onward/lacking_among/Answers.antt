use Rattle.std.proofs.Common.{◌≡◌, ◌∙◌, ◌∷◌, [], Bool, ap, cond, map, sym, true, false}
use Rattle.std.specs.List.{list_any}
use Rattle.std.specs.Option.{is_none}
use Rattle.itip_todo.specs.Parts.{Parts}
use Rattle.itip_todo.specs.declared.property_name.PropertyName.TheVariants as name
use Rattle.itip_state.proofs.Members.{if_ok_then}
use Rattle.itip_writing.specs.Cancelling.{lacking_among}
use Rattle.itip_writing.specs.Sent.{brief_parts}
use Rattle.itip_writing.proofs.MappedTests.{any_mapped}
use Rattle.itip_writing.proofs.onward.lacking_among.Goals as goal

pub returns-then-some_lacks : goal.returns-then-some_lacks
returns-then-some_lacks c =
    let lacks : Parts → Bool = λ p. is_none p.organizer in
    let some : list_any lacks (map brief_parts c.args.all.now) ≡ true =
    any_mapped brief_parts lacks c.args.all.now ∙ sym c.some_lacks.ensures ∙ c.if-some_lacks.true in
    if_ok_then (λ names. names.items ≡ name.Organizer ∷ []) (λ names. names.items ≡ lacking_among (map brief_parts c.args.all.now))
    c.lacking_organizer.result (λ names is. is ∙ sym (ap (λ b. cond b (name.Organizer ∷ []) []) some)) c.lacking_organizer.ensures

pub returns-else-some_lacks : goal.returns-else-some_lacks
returns-else-some_lacks c =
    let lacks : Parts → Bool = λ p. is_none p.organizer in
    let none : list_any lacks (map brief_parts c.args.all.now) ≡ false =
    any_mapped brief_parts lacks c.args.all.now ∙ sym c.some_lacks.ensures ∙ c.if-some_lacks.false in
    c.new.ensures.items ∙ sym (ap (λ b. cond b (name.Organizer ∷ []) []) none)
