use Rattle.std.proofs.Common.{◌≡◌, ◌∙◌, ◌∷◌, ◌++◌, [], rules, ap, subst, sym, List, arith, map-id, vec_len}
use Rattle.std.proofs.lemmas.Bool.Decides.{Decides-eqb}
use Rattle.std.proofs.lemmas.Iterator.Adapters.{YieldsList-from_vec}
use Rattle.std.proofs.lemmas.Iterator.Consumers.{YieldsList-end}
use Rattle.std.proofs.lemmas.List.{nil_from_length}
use Rattle.std.proofs.lemmas.Result.{IfOk-weaker}
use Rattle.std.specs.Global.{Vec}
use Rattle.itip_items.specs.declared.item.Item.{Item}
use Rattle.itip_state.specs.Kept.{IsItemsOf}
use Rattle.itip_inbox.specs.Ranges.{items_in}
use Rattle.itip_inbox.proofs.Ranges.{last_first, none_in_none, one_in_one}
use Rattle.itip_inbox.proofs.merged_ranges.in_one.Goals as goal

pub returns-in_default : goal.returns-in_default
returns-in_default c = none_in_none c.new.result.items c.args.lists.items c.new.ensures.items
    (nil_from_length c.args.lists.items (omega (arith, c.in_default.ensures.cases.0, c.args.lists.ok.0)))

pub returns-then-is_empty : goal.returns-then-is_empty
returns-then-is_empty c =
    let others = c.pop.new.self in
    let none : vec_len others ≡ 0 = (Decides-eqb (vec_len others) 0).0 (sym c.is_empty.ensures ∙ c.if-is_empty.true) in
    one_in_one c.in-Some.items c.args.lists.items c.requires (c.in-Some.ensures.items ∙
    ap (λ (lists : List (Vec Item)). lists ++ c.in-Some.items ∷ []) (nil_from_length others.items (omega (arith, none, others.ok.0))))

pub returns : goal.returns
returns c =
    let lists : List (Vec Item) = c.args.lists.items in
    let others : List (Vec Item) = c.pop.new.self.items in
    let last : Vec Item = c.in-Some.items in
    let before : List (Vec Item) = c.loop-list.yielded in
    let end = YieldsList-end (YieldsList-from_vec {s = c.into_iter-list-iterator.result} others (search rules) (search rules))
    before c.loop-list.list-iterator c.loop-list.yielded_by c.next.result c.next.new.self c.in-None.is c.next.ensures.steps in
    let all : before ≡ others = sym (map-id before) ∙ end.0 in
    let whole = c.loop-list.invariant ∙ ap (λ (t : List (Vec Item)). last.items ++ items_in t) all in
    IfOk-weaker c.by_octets.result _ _ (λ sorted are. last_first lists others last sorted.items c.in-Some.ensures.items
    (subst (λ (set : List Item). IsItemsOf sorted.items set) whole are)) c.by_octets.ensures.items
