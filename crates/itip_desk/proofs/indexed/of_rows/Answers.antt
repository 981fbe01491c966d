use Rattle.std.proofs.Common.{◌≡◌, ◌++◌, ◌∷◌, [], ◌∙◌, List, map, take, subst, sym, ap}
use Rattle.std.proofs.lemmas.List.{map-append}
use Rattle.itip_items.specs.declared.item.Item.{Item}
use Rattle.itip_view.specs.RowDays.{is_of_rows}
use Rattle.itip_desk.specs.Index.{AreOfRows}
use Rattle.itip_desk.proofs.Touching.{seen_more, seen_all, rows_more, rows_pass}
use Rattle.itip_desk.proofs.indexed.of_rows.Goals as goal
use Rattle.itip_desk.proofs.indexed.of_rows.Goals.{then-is_of_rows+in_ok-push, else-is_of_rows}

pub loop-item-preserved : goal.loop-item-preserved
loop-item-preserved c =
    let news : List Item = map (λ item. item.now) c.args.news.now in
    let item : Item = c.item-item.result.now in
    let before : List Item = map (λ item. item.now) c.loop-item.found.items in
    let test : c.is_of_rows.result ≡ is_of_rows item.key = c.is_of_rows.ensures ∙ ap (λ (i : Item). is_of_rows i.key) c.item.ensures in
    let now = map (λ item. item.now) c.if-is_of_rows.found.items in
    subst (λ (done : List Item). AreOfRows now done)
    (sym (seen_more (λ item. item.now) c.args.news.now c.loop-item.item-index c.item-item.result c.loop-item-test.true c.item-item.is))
    (elim c.if-is_of_rows.branch [
      | then-is_of_rows+in_ok-push w ↦
          let put : now ≡ before ++ item ∷ [] = ap (λ v. map (λ item. item.now) v.items) w.found-is ∙
          ap (map (λ item. item.now)) w.in_ok-push.ensures.items
          ∙ map-append (λ item. item.now) c.loop-item.found.items (c.item-item.result ∷ []) in
          subst (λ (found : List Item). AreOfRows found (take c.loop-item.item-index news ++ item ∷ [])) (sym put)
          (rows_more before (take c.loop-item.item-index news) item c.loop-item.invariant (sym test ∙ w.if-is_of_rows.true))
      | else-is_of_rows w ↦
          subst (λ (found : List Item). AreOfRows found (take c.loop-item.item-index news ++ item ∷ []))
          (sym (ap (λ v. map (λ item. item.now) v.items) w.found-is))
          (rows_pass before (take c.loop-item.item-index news) item c.loop-item.invariant (sym test ∙ w.if-is_of_rows.false))
    ])

pub returns : goal.returns
returns c = subst (λ (done : List Item). AreOfRows (map (λ item. item.now) c.loop-item.found.items) done)
    (seen_all (λ item. item.now) c.args.news.now c.loop-item.item-index c.loop-item-test.false) c.loop-item.invariant
