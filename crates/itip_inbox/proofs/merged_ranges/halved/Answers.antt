use Rattle.std.proofs.Common.{◌≡◌, ◌<◌, ◌*◌, ◌/◌, subst, sym, List, length, ◌∷◌, [], ◌++◌, arith, ℕ}
use Rattle.std.proofs.lemmas.List.Elements.{All-tail}
use Rattle.std.proofs.lemmas.List.Sorted.{All-permutation, IsPermutation-sym, IsPermutation-swap_remove}
use Rattle.std.proofs.lemmas.List.Sorted.{IsPermutation-to_front, IsPermutation-trans}
use Rattle.std.specs.List.Sorted.{IsPermutation}
use Rattle.std.specs.Global.{Vec}
use Rattle.itip_items.specs.declared.item.Item.{Item}
use Rattle.itip_desk.specs.Octets.{AscendOctets}
use Rattle.itip_inbox.proofs.Ranges.{cut_at_own, cut_more, cut_reordered, part_below}
use Rattle.itip_inbox.proofs.merged_ranges.halved.Goals as goal

pub cut-requires : goal.cut-requires
cut-requires c =
    let lists : List (Vec Item) = c.args.lists.items in
    let list : Vec Item = c.swap_remove-front.result in
    let others : List (Vec Item) = c.swap_remove-front.new.self.items in
    let moved : IsPermutation lists (list ∷ others) =
    rw c.swap_remove-front.ensures.items
    (IsPermutation-swap_remove lists c.args.place list c.requires.place c.swap_remove-front.ensures.value) in
    All-tail (λ (v : Vec Item). AscendOctets v.items) list others
    (All-permutation (λ (v : Vec Item). AscendOctets v.items) lists (list ∷ others) moved c.requires.ascend)

pub returns : goal.returns
returns c =
    let lists : List (Vec Item) = c.args.lists.items in
    let pivot : Item = c.index.result.now in
    let list : Vec Item = c.swap_remove-front.result in
    let others : List (Vec Item) = c.swap_remove-front.new.self.items in
    let at_place : list ≡ _ = c.swap_remove-front.ensures.value in
    let up : AscendOctets list.items = subst (λ (v : Vec Item). AscendOctets v.items) (sym at_place)
    (c.requires.ascend c.args.place list c.requires.place) in
    let some : 0 < length list.items = subst (λ (v : Vec Item). 0 < length v.items) (sym at_place) (c.requires.some list) in
    let long : c.len.result ≡ length list.items = omega (arith, c.len.ensures, list.ok.0) in
    let at : ℕ = c.len.result / c.args.threads * c.args.half in
    let own = cut_at_own pivot list.items c.split_off.new.self.items c.in_ok-back.back.items at up
    (subst (λ (n : ℕ). at < n) long (part_below c.len.result c.args.half c.args.threads (omega (arith, some, long)) c.requires.half))
    c.in_ok-back.ensures.items c.in_ok-back.ensures.tail c.index.ensures in
    let more = cut_more pivot others c.in_ok-fronts.field-0.fronts.items c.in_ok-fronts.field-0.backs.items c.in_ok-fronts.ensures list
    c.split_off.new.self c.in_ok-back.back up own in
    let moved : IsPermutation lists (others ++ list ∷ []) = IsPermutation-trans lists (list ∷ others) (others ++ list ∷ [])
    (rw c.swap_remove-front.ensures.items (IsPermutation-swap_remove lists c.args.place list c.requires.place at_place))
    (IsPermutation-sym _ _ (IsPermutation-to_front others list)) in
    (pivot, rw (c.in_ok-push.ensures.items, c.in_ok-push-2.ensures.items) (cut_reordered pivot _ _ _ more lists moved))
