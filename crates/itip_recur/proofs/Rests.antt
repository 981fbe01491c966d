-- What a test says of the rest of a list, an item further on.
use Rattle.std.proofs.Common.{◌≡◌, ℕ, ◌+◌, ◌<◌, ◌≤◌, Bool, true, false, cond, ◌&&◌, arith, List, [], ◌∷◌, length, get_or, drop, map, Some}
use Rattle.std.proofs.Common.{None, ap, ◌∙◌}
use denote.Ref.{Bor}
use Rattle.std.specs.List.{list_all, find}
use Rattle.std.proofs.lemmas.List.{drop_more, drop_all, get_or-map, length-map}

module _ (p : List ℕ → Bool) (items : List (Bor (List ℕ))) (i : ℕ) where
  module _ (b : Bor (List ℕ)) (lt : i < length items) where
    rest : drop i (map (λ e. e.now) items) ≡ (get_or items i b).now ∷ drop (i + 1) (map (λ e. e.now) items)
    rest = drop_more (map (λ e. e.now) items) i [] (omega (arith, length-map items (λ e. e.now))) ∙
        ap (λ t. t ∷ drop (i + 1) (map (λ e. e.now) items)) (get_or-map (λ e. e.now) items i b [] lt)

    pub all_more : p (get_or items i b).now ≡ true →
        list_all p (drop i (map (λ e. e.now) items)) ≡ list_all p (drop (i + 1) (map (λ e. e.now) items))
    all_more h = ap (list_all p) rest ∙ ap (λ t. t && list_all p (drop (i + 1) (map (λ e. e.now) items))) h

    pub all_fails : p (get_or items i b).now ≡ false → list_all p (drop i (map (λ e. e.now) items)) ≡ false
    all_fails h = ap (list_all p) rest ∙ ap (λ t. t && list_all p (drop (i + 1) (map (λ e. e.now) items))) h

    pub find_more : p (get_or items i b).now ≡ false →
        find p (drop i (map (λ e. e.now) items)) ≡ find p (drop (i + 1) (map (λ e. e.now) items))
    find_more h = ap (find p) rest ∙ ap (λ t. cond t (Some (get_or items i b).now) (find p (drop (i + 1) (map (λ e. e.now) items)))) h

    pub find_here : p (get_or items i b).now ≡ true → find p (drop i (map (λ e. e.now) items)) ≡ Some (get_or items i b).now
    find_here h = ap (find p) rest ∙ ap (λ t. cond t (Some (get_or items i b).now) (find p (drop (i + 1) (map (λ e. e.now) items)))) h

  pub all_end : length items ≤ i → list_all p (drop i (map (λ e. e.now) items)) ≡ true
  all_end le = ap (list_all p) (drop_all i (map (λ e. e.now) items) (omega (arith, length-map items (λ e. e.now))))

  pub find_end : length items ≤ i → find p (drop i (map (λ e. e.now) items)) ≡ None
  find_end le = ap (find p) (drop_all i (map (λ e. e.now) items) (omega (arith, length-map items (λ e. e.now))))
