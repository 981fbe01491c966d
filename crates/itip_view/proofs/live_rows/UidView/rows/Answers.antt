use Rattle.std.proofs.Common.{◌≡◌, ◌+◌, ℕ, take, take_all, ◌++◌, ◌∷◌, [], ◌∙◌, sym, ap, subst, List, Some, None}
use Rattle.std.specs.List.{Contains, AllPairs}
use Rattle.std.specs.Option.{option_to_list}
use Rattle.std.specs.declared.cmp.Ordering.TheVariants.{Less}
use Rattle.std.proofs.lemmas.List.{take_more}
use Rattle.itip_moment.specs.Order.{moment_cmp}
use Rattle.itip_state.proofs.Ascending.{pairs_ascend}
use Rattle.itip_moment.specs.declared.moment.Moment.{Moment}
use Rattle.itip_items.specs.declared.item.Item.{Item}
use Rattle.itip_state.specs.OfUid.{UidPart}
use Rattle.itip_view.specs.RowsOfUid.{ArePlaces, IsAnswerAt}
use Rattle.itip_view.specs.declared.row.Row.{Row}
use Rattle.itip_view.proofs.Collecting.{RowsUpTo, rows_begin, rows_next, rows_of_places, earlier_before}
use Rattle.itip_view.proofs.Made.{made_at}
use Rattle.itip_view.proofs.live_rows.UidView.rows.Goals as goal

pub loop-at-init : goal.loop-at-init
loop-at-init c =
    let items : List Item = c.args.self.now.items.now.items in
    let part : UidPart = c.args.self.now.items.now in
    let answer : IsAnswerAt items c.args.self.now.window part.uid None c.in_ok-row.row =
    made_at part c.args.self.now.window None c.whole_place.result c.whole_place.ensures c.in_ok-row.row c.in_ok-row.ensures in
    let so : c.push_some.new.rows.items ≡ option_to_list c.in_ok-row.row = c.in_ok-push_some.ensures ∙
    ap (λ (xs : List Row). xs ++ option_to_list c.in_ok-row.row) c.in_ok-rows.ensures.items in
    subst (λ (rows : List Row). RowsUpTo items c.args.self.now.window c.args.self.now.items.now.uid [] rows) (sym so) (rows_begin
    items c.args.self.now.window c.args.self.now.items.now.uid c.in_ok-row.row answer)

pub place_at-requires-clause-occurs : goal.place_at-requires-clause-occurs
place_at-requires-clause-occurs c =
    let items : List Item = c.args.self.now.items.now.items in
    let places : ArePlaces items c.args.self.now.window c.args.self.now.items.now.uid c.args.self.now.places.items =
    c.requires.places in
    let here : Contains c.deref-at-items.result.now c.at-item.result = (c.loop-at.at-index, c.loop-at-test.true, sym c.at-item.is) in
    places.each c.at-item.result (subst (λ (ms : List Moment). Contains ms c.at-item.result) c.deref-at-items.ensures.value here)

pub loop-at-preserved : goal.loop-at-preserved
loop-at-preserved c =
    let items : List Item = c.args.self.now.items.now.items in
    let places : ArePlaces items c.args.self.now.window c.args.self.now.items.now.uid c.args.self.now.places.items =
    c.requires.places in
    let moments : List Moment = c.deref-at-items.result.now in
    let i : ℕ = c.loop-at.at-index in
    let at : Moment = c.at-item.result in
    let rows : List Row = c.loop-at.rows.items in
    let done : take (i + 1) moments ≡ take i moments ++ at ∷ [] = take_more moments i at c.loop-at-test.true ∙
    ap (λ (m : Moment). take i moments ++ m ∷ []) (sym c.at-item.is) in
    let pairs : AllPairs (λ (a b : Moment). moment_cmp a b ≡ Less) moments =
    subst (λ (ms : List Moment). AllPairs (λ (a b : Moment). moment_cmp a b ≡ Less) ms) (sym c.deref-at-items.ensures.value)
    (pairs_ascend moment_cmp c.args.self.now.places.items places.ascend) in
    let later : (m : Moment) → Contains (take i moments) m → moment_cmp m at ≡ Less =
    earlier_before (λ (a b : Moment). moment_cmp a b ≡ Less) moments i at pairs c.loop-at-test.true c.at-item.is in
    let part : UidPart = c.args.self.now.items.now in
    let answer : IsAnswerAt items c.args.self.now.window part.uid (Some at) c.in_ok-row-2.row =
    made_at part c.args.self.now.window (Some at) c.place_at.result c.place_at.ensures c.in_ok-row-2.row c.in_ok-row-2.ensures in
    subst (λ (rs : List Row). RowsUpTo items c.args.self.now.window c.args.self.now.items.now.uid (take (i + 1) moments) rs)
    (sym c.in_ok-push_some-2.ensures)
    (subst (λ (ms : List Moment). RowsUpTo items c.args.self.now.window c.args.self.now.items.now.uid ms (rows ++
    option_to_list c.in_ok-row-2.row)) (sym done)
    (rows_next items c.args.self.now.window c.args.self.now.items.now.uid (take i moments) at rows c.loop-at.invariant later
    c.in_ok-row-2.row answer))

pub returns : goal.returns
returns c =
    let items : List Item = c.args.self.now.items.now.items in
    let places : ArePlaces items c.args.self.now.window c.args.self.now.items.now.uid c.args.self.now.places.items =
    c.requires.places in
    let all : take c.loop-at.at-index c.deref-at-items.result.now ≡ c.args.self.now.places.items =
    take_all c.loop-at.at-index c.deref-at-items.result.now c.loop-at-test.false ∙ c.deref-at-items.ensures.value in
    rows_of_places items c.args.self.now.window c.args.self.now.items.now.uid c.args.self.now.places.items c.loop-at.rows.items places
    (subst (λ (ms : List Moment). RowsUpTo items c.args.self.now.window c.args.self.now.items.now.uid ms c.loop-at.rows.items) all
    c.loop-at.invariant)
