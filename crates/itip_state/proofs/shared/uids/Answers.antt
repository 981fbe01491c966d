use Rattle.std.proofs.Common.{◌≡◌, ◌∙◌, ◌∷◌, [], ◌++◌, ap, sym, subst, map, take, length, arith}
use Rattle.std.specs.Prelude.{nat_eq}
use Rattle.std.specs.List.{Contains}
use Rattle.std.specs.Ordering.{nat_cmp}
use Rattle.std.specs.Cmp.Lexicographic.{slice_cmp, pointwise, nat_list_eq_equiv, nat_list_cmp_total, texts_ties}
use Rattle.std.proofs.lemmas.List.{take_all, map-append, map_more, length-map}
use Rattle.std.proofs.lemmas.List.Filters.{dedup_is}
use Rattle.std.proofs.lemmas.List.Kept.{IsStrictlySortedBy-dedup, Contains-dedup, Contains-from_dedup}
use Rattle.std.proofs.lemmas.List.Sorted.{Contains-permutation, IsPermutation-sym, IsPermutation-map}
use Rattle.std.proofs.lemmas.Map.Lookups.{exact_bytes}
use Rattle.std.proofs.lemmas.Map.Views.{tells_apart}
use Rattle.itip_items.specs.KeyParts.{uid_of}
use Rattle.itip_state.proofs.Ascending.{pairs_ascend}
use Rattle.itip_state.proofs.Nothing.{none_left, not_ok}
use Rattle.itip_state.proofs.Once.{dedup_map, sorted_map}
use Rattle.itip_state.proofs.UidSets.{uid_from, uid_among}
use Rattle.itip_state.proofs.shared.uids.Goals as goal

pub loop-item-preserved : goal.loop-item-preserved
loop-item-preserved c =
    let before = take c.loop-item.item-index c.args.items.now in
    ap (map (λ uid. uid.now)) c.in_ok-push.ensures.items ∙ map-append (λ uid. uid.now) c.loop-item.uids.items (c.uid.result ∷ [])
    ∙ ap (λ us. us ++ c.uid.result.now ∷ []) c.loop-item.invariant
    ∙ ap (λ u. map (λ item. uid_of item.now.key) before ++ u ∷ []) (c.uid.ensures ∙ ap (λ item. uid_of item.now.key) c.item-item.is)
    ∙ sym (map_more (λ item. uid_of item.now.key) c.args.items.now c.loop-item.item-index c.item-item.result c.loop-item-test.true)

pub returns-clause-uids : goal.returns-clause-uids
returns-clause-uids c =
    let is = dedup_is _ _ _ c.dedup.ensures.filtered in
    let sort = c.in_ok-sort.ensures in
    let once = ap (map (λ uid. uid.now)) is ∙ dedup_map (λ uid. uid.now) (pointwise nat_eq) c.sort.new.self.items in
    let moved = IsPermutation-map (λ uid. uid.now) _ _ sort.permutation in
    let raw : map (λ uid. uid.now) c.loop-item.uids.items ≡ map (λ item. uid_of item.now.key) c.args.items.now =
    c.loop-item.invariant ∙ ap (map (λ item. uid_of item.now.key))
    (take_all c.loop-item.item-index c.args.items.now c.loop-item-test.false) in
    record {
      ascend = rw once (pairs_ascend (slice_cmp nat_cmp) _
          (IsStrictlySortedBy-dedup nat_list_cmp_total texts_ties (map (λ uid. uid.now) c.sort.new.self.items)
          (sorted_map (λ uid. uid.now) (slice_cmp nat_cmp) c.sort.new.self.items sort.sorted)));
      each = λ uid (h : _). uid_from (λ item. item.now) c.args.items.now uid
          (subst (λ us. Contains us uid) raw (Contains-permutation _ _ uid (IsPermutation-sym _ _ moved)
          (Contains-from_dedup _ _ uid (rw once at h))));
      all = λ item (h : _). rw once (Contains-dedup nat_list_eq_equiv (λ x y e. tells_apart exact_bytes x y (sym (texts_ties x y) ∙ e)) _
          (uid_of item.key)
          (Contains-permutation _ _ (uid_of item.key) moved
          (subst (λ us. Contains us (uid_of item.key)) (sym raw) (uid_among (λ item. item.now) c.args.items.now item h))));
    }

pub returns-in_err-uids-clause-succeeds : goal.returns-in_err-uids-clause-succeeds
returns-in_err-uids-clause-succeeds c = λ none. not_ok (c.in_err-uids.ensures.succeeds (ap length none))

pub returns-in_err-push-clause-succeeds : goal.returns-in_err-push-clause-succeeds
returns-in_err-push-clause-succeeds c = λ none. absurd (none_left c.args.items.now c.loop-item.item-index c.loop-item-test.true none)

pub returns-in_err-sort-clause-succeeds : goal.returns-in_err-sort-clause-succeeds
returns-in_err-sort-clause-succeeds c = λ none.
    let raw : map (λ uid. uid.now) c.loop-item.uids.items ≡ [] =
    c.loop-item.invariant ∙ ap (map (λ item. uid_of item.now.key))
    (take_all c.loop-item.item-index c.args.items.now c.loop-item-test.false ∙ none) in
    let empty : length c.loop-item.uids.items ≡ 0 = sym (length-map c.loop-item.uids.items (λ uid. uid.now)) ∙ ap length raw in
    not_ok (c.in_err-sort.ensures.succeeds (omega (arith, empty, c.loop-item.uids.ok)))
