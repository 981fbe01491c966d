use Rattle.std.proofs.Common.{◌≡◌, ◌∷◌, ◌∙◌, List, ℕ, map, sym, ap, subst}
use Rattle.std.specs.List.{Contains}
use Rattle.itip_items.specs.KeyParts.{uid_of}
use Rattle.itip_items.specs.declared.item.Item.{Item}
use Rattle.itip_items.specs.declared.key.Key.TheVariants.{Series}
use Rattle.itip_state.specs.Kept.{IsBest, AscendKeys}
use Rattle.itip_state.proofs.Members.{cons_first}
use Rattle.itip_state.proofs.OfKey.{best_in, first_is_none, first_of}
use Rattle.itip_state.proofs.items_of_uid.ItemsOfUid.series.Goals as goal

pub returns-in-Series : goal.returns-in-Series
returns-in-Series c =
    let item : Item = c.first-item.result.now in
    let uid : List ℕ = c.args.self.now.uid in
    let first = first_of c.first-item.result c.as_slice.result.now c.in-len1-up.len_at_least c.first-item.is in
    let rest : List Item = map (λ item. item.now) first.0 in
    let inside : item ∷ rest ≡ map (λ item. item.now) c.self.inside.items.items =
    ap (map (λ item. item.now)) (sym first.1 ∙ c.as_slice.ensures.value) in
    let about : uid_of item.key ≡ uid =
    c.self.invariant.about item (subst (λ (xs : List Item). Contains xs item) inside (cons_first item rest)) ∙
    ap (λ p. p.uid) c.self.view_is in
    subst (λ (xs : List Item). IsBest xs (Series uid) item) (inside ∙ ap (λ p. p.items) c.self.view_is)
    (best_in (item ∷ rest) (subst AscendKeys (sym inside) c.self.invariant.ascend) (Series uid) item (cons_first item rest)
    (c.in-Series.is ∙ ap Series (sym (ap uid_of c.in-Series.is) ∙ about)))

pub returns-in_default-key : goal.returns-in_default-key
returns-in_default-key c =
    let item : Item = c.first-item.result.now in
    let uid : List ℕ = c.args.self.now.uid in
    let first = first_of c.first-item.result c.as_slice.result.now c.in-len1-up.len_at_least c.first-item.is in
    let rest : List Item = map (λ item. item.now) first.0 in
    let inside : item ∷ rest ≡ map (λ item. item.now) c.self.inside.items.items =
    ap (map (λ item. item.now)) (sym first.1 ∙ c.as_slice.ensures.value) in
    let about : uid_of item.key ≡ uid =
    c.self.invariant.about item (subst (λ (xs : List Item). Contains xs item) inside (cons_first item rest)) ∙
    ap (λ p. p.uid) c.self.view_is in
    subst (λ (xs : List Item). (i : Item) → Contains xs i → i.key ≡ Series uid → ⊥) (inside ∙ ap (λ p. p.items) c.self.view_is)
    (first_is_none uid item rest (subst AscendKeys (sym inside) c.self.invariant.ascend) about c.in_default-key.not-Series)
