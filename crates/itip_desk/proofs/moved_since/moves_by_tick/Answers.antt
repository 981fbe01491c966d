use Rattle.std.proofs.Common.{◌≡◌, ◌∙◌, ◌++◌, ◌∷◌, [], ℕ, List, rules, sym, ap, subst}
use Rattle.std.specs.List.{Contains}
use Rattle.std.proofs.lemmas.Cmp.{nat_list_cmp_total}
use Rattle.std.proofs.lemmas.List.Elements.{Contains-append_left, Contains-push}
use Rattle.std.proofs.lemmas.List.Sorted.{Contains-permutation, IsNonDecreasingBy-from_sort_by_key}
use Rattle.std.proofs.lemmas.Map.Lookups.{exact_bytes}
use Rattle.itip_join.proofs.Walk.{walk_next, walk_found, walk_step, walk_end}
use Rattle.itip_desk.specs.MovedSince.{move_tick}
use Rattle.itip_desk.proofs.Ticking.{some_same}
use Rattle.itip_desk.proofs.moved_since.moves_by_tick.Goals as goal

pub loop-uid-preserved : goal.loop-uid-preserved
loop-uid-preserved c =
    let u : List ℕ = c.in-Some.uid.now in
    let t : ℕ = c.in-Some.tick.now in
    let was : List (ℕ × List ℕ) = c.loop-uid.order.items in
    let now : List (ℕ × List ℕ) = c.push.new.self.items in
    let put : now ≡ was ++ (t, u) ∷ [] = c.in_ok-push.ensures.items ∙
    ap (λ (v : List ℕ). was ++ (t, v) ∷ []) c.in_ok-clone.ensures.cases in
    let w = walk_next nat_list_cmp_total exact_bytes c.in-Some.ensures.steps c.loop-uid.invariant in
    walk_step nat_list_cmp_total exact_bytes w _ _
    (λ tick at. subst (λ (n : ℕ). Contains now (n, u))
    (some_same t tick (sym (walk_found nat_list_cmp_total exact_bytes w) ∙ at))
    (subst (λ (ms : List (ℕ × List ℕ)). Contains ms (t, u)) (sym put) (Contains-push was (t, u))))
    (λ q e p tick at. subst (λ (ms : List (ℕ × List ℕ)). Contains ms (tick, q)) (sym put)
    (Contains-append_left was ((t, u) ∷ []) (tick, q) (p tick at)))
    (λ q e u. u)

pub returns-clause-in_order : goal.returns-clause-in_order
returns-clause-in_order c = λ uid tick at above.
    Contains-permutation c.loop-uid.order.items c.sort_unstable_by_key.new.self.items (tick, uid) c.sort_unstable_by_key.ensures.permutation
    (walk_end nat_list_cmp_total exact_bytes c.in-None.ensures.steps.0 c.loop-uid.invariant uid tick at)

pub returns-clause-by_tick : goal.returns-clause-by_tick
returns-clause-by_tick c = IsNonDecreasingBy-from_sort_by_key move_tick _ c.sort_unstable_by_key.ensures.sorted (λ a r q k. search rules)
