use Rattle.std.proofs.Common.{◌≡◌, ◌≤◌, ◌<◌, ◌+◌, ℕ, take, take_all, ◌++◌, ◌∷◌, [], ◌∙◌, sym, ap, subst, length, List, arith}
use Rattle.std.specs.Int.{from_bool}
use Rattle.std.specs.List.{Contains, AllPairs}
use Rattle.std.specs.declared.cmp.Ordering.TheVariants.{Less}
use Rattle.std.proofs.lemmas.List.{take_more, length-take}
use Rattle.itip_moment.specs.Order.{moment_cmp}
use Rattle.itip_state.proofs.Ascending.{pairs_ascend}
use Rattle.itip_moment.specs.declared.moment.Moment.{Moment}
use Rattle.itip_state.specs.OfUid.{UidPart}
use Rattle.itip_view.specs.RowsOfUid.{ArePlaces}
use Rattle.itip_view.specs.declared.wanted.Wanted.{Wanted}
use Rattle.itip_view.specs.declared.window.Window.{Window}
use Rattle.itip_view.proofs.Collecting.{earlier_before}
use Rattle.itip_view.proofs.Counting.{one_at_most}
use Rattle.itip_view.proofs.Putting.{PutUpTo, put_begins, put_more, put_all}
use Rattle.itip_view.proofs.live_rows.UidView.put.Goals as goal

pub loop-at-init : goal.loop-at-init
loop-at-init c =
    let part : UidPart = c.args.self.now.items.now in
    subst (λ (n : ℕ). PutUpTo c.args.wanted.now part c.args.self.now.window [] c.args.out.now.items c.put_place.new.out.items n)
    (sym c.from-number.ensures)
    (put_begins c.args.wanted.now part c.args.self.now.window c.whole_place.result c.whole_place.ensures c.args.out.now.items
    c.put_place.new.out.items c.in_ok-is_put.is_put c.in_ok-is_put.ensures)

pub place_at-requires-clause-occurs : goal.place_at-requires-clause-occurs
place_at-requires-clause-occurs c =
    let part : UidPart = c.args.self.now.items.now in
    let places : ArePlaces part.items c.args.self.now.window part.uid c.args.self.now.places.items = c.requires.places in
    let here : Contains c.deref-at-items.result.now c.at-item.result = (c.loop-at.at-index, c.loop-at-test.true, sym c.at-item.is) in
    places.each c.at-item.result (subst (λ (ms : List Moment). Contains ms c.at-item.result) c.deref-at-items.ensures.value here)

pub overflow_add-number : goal.overflow_add-number
overflow_add-number c =
    let below : c.loop-at.at-index < length c.deref-at-items.result.now = c.loop-at-test.true in
    let long : length c.deref-at-items.result.now ≡ length c.args.self.now.places.items = ap length c.deref-at-items.ensures.value in
    let few : c.loop-at.number ≤ length (take c.loop-at.at-index c.deref-at-items.result.now) + 1 = c.loop-at.invariant.few in
    let one : from_bool c.in_ok-is_put-2.is_put ≤ 1 = one_at_most c.in_ok-is_put-2.is_put in
    omega (
      arith,
      below,
      long,
      few,
      one,
      length-take c.loop-at.at-index c.deref-at-items.result.now,
      c.from-number-in-loop-at.ensures,
      c.args.self.now.places.ok.0,
      c.args.self.now.places.ok.1,
      c.args.self.now.places.small,
    )

pub loop-at-preserved : goal.loop-at-preserved
loop-at-preserved c =
    let part : UidPart = c.args.self.now.items.now in
    let wanted : Wanted = c.args.wanted.now in
    let window : Window = c.args.self.now.window in
    let places : ArePlaces part.items window part.uid c.args.self.now.places.items = c.requires.places in
    let moments : List Moment = c.deref-at-items.result.now in
    let i : ℕ = c.loop-at.at-index in
    let at : Moment = c.at-item.result in
    let done : take (i + 1) moments ≡ take i moments ++ at ∷ [] = take_more moments i at c.loop-at-test.true ∙
    ap (λ (m : Moment). take i moments ++ m ∷ []) (sym c.at-item.is) in
    let pairs : AllPairs (λ (a b : Moment). moment_cmp a b ≡ Less) moments =
    subst (λ (ms : List Moment). AllPairs (λ (a b : Moment). moment_cmp a b ≡ Less) ms) (sym c.deref-at-items.ensures.value)
    (pairs_ascend moment_cmp c.args.self.now.places.items places.ascend) in
    let later : (m : Moment) → Contains (take i moments) m → moment_cmp m at ≡ Less =
    earlier_before (λ (a b : Moment). moment_cmp a b ≡ Less) moments i at pairs c.loop-at-test.true c.at-item.is in
    let old : List ℕ = c.args.out.now.items in
    let mid : List ℕ = c.loop-at.out.items in
    let new : List ℕ = c.put_place-in-loop-at.new.out.items in
    subst (λ (n : ℕ). PutUpTo wanted part window (take (i + 1) moments) old new (c.loop-at.number + n))
    (sym c.from-number-in-loop-at.ensures)
    (subst (λ (ms : List Moment). PutUpTo wanted part window ms old new (c.loop-at.number + from_bool c.in_ok-is_put-2.is_put)) (sym done)
    (put_more wanted part window (take i moments) at old mid new c.loop-at.number c.loop-at.invariant later c.place_at.result
    c.place_at.ensures c.in_ok-is_put-2.is_put c.in_ok-is_put-2.ensures))

pub returns : goal.returns
returns c =
    let part : UidPart = c.args.self.now.items.now in
    let all : take c.loop-at.at-index c.deref-at-items.result.now ≡ c.args.self.now.places.items =
    take_all c.loop-at.at-index c.deref-at-items.result.now c.loop-at-test.false ∙ c.deref-at-items.ensures.value in
    put_all c.args.wanted.now part c.args.self.now.window c.args.self.now.places.items c.args.out.now.items c.loop-at.out.items
    c.loop-at.number c.requires.places
    (subst (λ (ms : List Moment). PutUpTo c.args.wanted.now part c.args.self.now.window ms c.args.out.now.items c.loop-at.out.items
    c.loop-at.number) all c.loop-at.invariant)
