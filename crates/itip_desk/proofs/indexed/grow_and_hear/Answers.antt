use Rattle.std.proofs.Common.{◌≡◌, ◌++◌, ◌∷◌, ◌+◌, ℕ, List, [], map, take, drop, sym, subst}
use Rattle.std.specs.List.{Contains}
use Rattle.std.proofs.lemmas.List.{take-append-drop}
use Rattle.std.proofs.lemmas.List.Elements.{Contains-append_left}
use Rattle.itip_items.specs.declared.item.Item.{Item}
use Rattle.itip_desk.specs.Entries.{IsNoted}
use Rattle.itip_desk.specs.Index.{HasGrown}
use Rattle.itip_desk.proofs.Touching.{grown_more, grown_all, noted_more, seen_more}
use Rattle.itip_desk.proofs.indexed.grow_and_hear.Goals as goal

taken : (n : ℕ) (xs : List Item) (x : Item) → Contains (take n xs) x → Contains xs x
taken n xs x h = subst (λ (ys : List Item). Contains ys x) (take-append-drop n xs) (Contains-append_left (take n xs) (drop n xs) x h)

pub returns-in_err-put_in-clause-grown : goal.returns-in_err-put_in-clause-grown
returns-in_err-put_in-clause-grown c =
    let found : List Item = map (λ item. item.now) c.args.found.now in
    let i : ℕ = c.loop-item.item-index in
    let item : Item = c.item-item.result.now in
    let more : take (i + 1) found ≡ take i found ++ item ∷ [] =
    seen_more (λ item. item.now) c.args.found.now i c.item-item.result c.loop-item-test.true c.item-item.is in
    grown_all (take (i + 1) found) found c.args.index.now c.put_in.new.index (taken (i + 1) found)
    (subst (λ (done : List Item). HasGrown done c.args.index.now c.put_in.new.index) (sym more)
    (grown_more (take i found) item c.args.index.now c.loop-item.index c.put_in.new.index c.loop-item.invariant.grown
    c.put_in.ensures.widens))

pub loop-item-preserved : goal.loop-item-preserved
loop-item-preserved c =
    let found : List Item = map (λ item. item.now) c.args.found.now in
    let i : ℕ = c.loop-item.item-index in
    let item : Item = c.item-item.result.now in
    let more : take (i + 1) found ≡ take i found ++ item ∷ [] =
    seen_more (λ item. item.now) c.args.found.now i c.item-item.result c.loop-item-test.true c.item-item.is in
    record {
      grown = subst (λ (done : List Item). HasGrown done c.args.index.now c.put_in.new.index) (sym more)
          (grown_more (take i found) item c.args.index.now c.loop-item.index c.put_in.new.index c.loop-item.invariant.grown
          c.put_in.ensures.widens);
      all = λ e n. noted_more (take i found) item c.loop-item.index c.put_in.new.index c.loop-item.invariant.all c.in_ok-put_in.ensures.ok e
          (subst (λ (done : List Item). IsNoted done e) more n);
    }
