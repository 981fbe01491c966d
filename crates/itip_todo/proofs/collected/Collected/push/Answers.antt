use Rattle.std.proofs.Common.{◌∙◌, ◌++◌, ◌∷◌, [], List, sym, ap, subst}
use Rattle.std.specs.List.{AllByRecursion}
use Rattle.itip_lines.proofs.ParamTexts.{params_are, is_params_text}
use Rattle.itip_todo.specs.Places.{IsPlaceIn}
use Rattle.itip_todo.specs.Properties.{Property}
use Rattle.itip_todo.specs.declared.place.Place.{Place}
use Rattle.itip_todo.proofs.Placing.{places_extended, places_more, properties_pushed}
use Rattle.itip_todo.proofs.collected.Collected.push.Goals as goal

pub append-requires : goal.append-requires
append-requires c = is_params_text _ c.args.line.now.params c.params.ensures.lawful c.params.ensures.text

pub invariant_of-self : goal.invariant_of-self
invariant_of-self c = places_extended _ _ _ c.append.ensures.extends c.self.invariant

pub invariant_of-self-in_err-push : goal.invariant_of-self-in_err-push
invariant_of-self-in_err-push c =
    subst (λ (ps : List Place). AllByRecursion (IsPlaceIn c.append.new.text.items) ps) (sym c.in_err-push.ensures.items)
    (places_extended _ _ _ c.append.ensures.extends c.self.invariant)

pub invariant_of-self-2 : goal.invariant_of-self-2
invariant_of-self-2 c =
    subst (λ (ps : List Place). AllByRecursion (IsPlaceIn c.append.new.text.items) ps) (sym c.in_ok-push.ensures.items)
    (places_more _ _ _ (places_extended _ _ _ c.append.ensures.extends c.self.invariant) c.in_ok-place.ensures.stands.0)

pub returns : goal.returns
returns c =
    properties_pushed _ _ _ _ _ _ c.append.ensures.extends c.self.invariant c.in_ok-push.ensures.items
    (c.in_ok-place.ensures.stands.1 ∙ λ i. record {
      params = params_are _ c.args.line.now.params c.params.ensures.lawful c.params.ensures.text i;
      value = c.value.ensures i;
    })
    ∙ ap (λ (ps : List Property). ps ++ (record { params = c.args.line.now.params; value = c.args.line.now.value }) ∷ []) c.self.view_is
