use Rattle.std.proofs.Common.{◌≡◌, ◌+◌, ◌∷◌, [], ◌++◌, ◌∙◌, ℕ, List, take, sym, ap, subst, Some, Bor}
use Rattle.std.specs.Option.{option_copied}
use Rattle.std.proofs.lemmas.List.{take_more}
use Rattle.itip_explain.specs.declared.told.ToldItem.{ToldItem}
use Rattle.itip_explain.proofs.Picking.{PicksSoFar, picks_skip, picks_more, none_after}
use Rattle.itip_explain.proofs.latest.picked.Goals as goal

pub loop-one-preserved-then-is_at : goal.loop-one-preserved-then-is_at
loop-one-preserved-then-is_at c =
    let sorted : List (Bor ToldItem) = c.args.sorted.now in
    let one : Bor ToldItem = c.one-item.result in
    let i : ℕ = c.loop-one.one-index in
    let done : take (i + 1) sorted ≡ take i sorted ++ one ∷ [] = take_more sorted i one c.loop-one-test.true ∙
    ap (λ (x : Bor ToldItem). take i sorted ++ x ∷ []) (sym c.one-item.is) in
    subst (λ (xs : List (Bor ToldItem)). PicksSoFar xs c.loop-one.picked.items (option_copied c.loop-one.last)) (sym done)
    (picks_skip (take i sorted) c.loop-one.picked.items (option_copied c.loop-one.last) c.loop-one.invariant one
    (c.is_at.ensures.0 c.if-is_at.true) (none_after sorted c.requires i one c.loop-one-test.true c.one-item.is))

pub loop-one-preserved : goal.loop-one-preserved
loop-one-preserved c =
    let sorted : List (Bor ToldItem) = c.args.sorted.now in
    let one : Bor ToldItem = c.one-item.result in
    let i : ℕ = c.loop-one.one-index in
    let picked : List (Bor ToldItem) = c.loop-one.picked.items in
    let done : take (i + 1) sorted ≡ take i sorted ++ one ∷ [] = take_more sorted i one c.loop-one-test.true ∙
    ap (λ (x : Bor ToldItem). take i sorted ++ x ∷ []) (sym c.one-item.is) in
    subst (λ (xs : List (Bor ToldItem)). PicksSoFar xs c.push.new.self.items (Some one.now.item.key)) (sym done)
    (subst (λ (xs : List (Bor ToldItem)). PicksSoFar (take i sorted ++ one ∷ []) xs (Some one.now.item.key))
    (sym c.in_ok-push.ensures.items)
    (picks_more (take i sorted) picked (option_copied c.loop-one.last) c.loop-one.invariant one))
