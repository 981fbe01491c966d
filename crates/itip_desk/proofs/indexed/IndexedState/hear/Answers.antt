use Rattle.std.proofs.Common.{◌≡◌, ◌∙◌, List, length, map, sym, subst, arith}
use Rattle.std.proofs.lemmas.Bool.{eqb-true}
use Rattle.std.proofs.lemmas.List.{nil_from_length}
use Rattle.itip_items.specs.declared.item.Item.{Item}
use Rattle.itip_desk.specs.Index.{AreOfRows}
use Rattle.itip_desk.proofs.indexed.IndexedState.hear.Goals as goal

pub hear_others-requires : goal.hear_others-requires
hear_others-requires c =
    let news : List Item = map (λ item. item.now) c.args.news.now in
    let none : length c.in_ok-found.found.items ≡ 0 =
    omega (arith, c.in_ok-found.found.ok, eqb-true _ _ (sym c.is_empty.ensures ∙ c.if-is_empty.true)) in
    subst (λ items. AreOfRows (map (λ item. item.now) items) news) (nil_from_length c.in_ok-found.found.items none) c.in_ok-found.ensures

pub hear_rows-requires : goal.hear_rows-requires
hear_rows-requires c =
    let news : List Item = map (λ item. item.now) c.args.news.now in
    subst (λ items. AreOfRows (map (λ item. item.now) items) news) (sym c.deref.ensures.value) c.in_ok-found.ensures
