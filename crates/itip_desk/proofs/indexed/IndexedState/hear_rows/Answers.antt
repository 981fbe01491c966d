use Rattle.std.proofs.Common.{◌≡◌, ◌++◌, List, map, true, subst, sym, OnOk}
use Rattle.itip_items.specs.declared.item.Item.{Item}
use Rattle.itip_state.specs.Kept.{AreKept}
use Rattle.itip_desk.specs.Entries.{IndexEntry, IsNoted}
use Rattle.itip_desk.specs.Index.{has, IsIndexOf, HasSettled}
use Rattle.itip_desk.proofs.Touching.{either_way, ok_both, index_after, index_back}
use Rattle.itip_desk.proofs.indexed.IndexedState.hear_rows.Goals as goal

pub invariant_of-self : goal.invariant_of-self
invariant_of-self c =
    let news : List Item = map (λ item. item.now) c.args.news.now in
    let found : List Item = map (λ item. item.now) c.args.found.now in
    let items : List Item = map (λ change. change.item) c.in_ok-changes.changes.items in
    either_way c.grow_and_hear-heard.result
    (ok_both (AreKept c.grow_and_hear-heard.new.state (c.self.inside.state ++ news))
    ((e : IndexEntry) → IsNoted found e → has c.grow_and_hear-heard.new.index e ≡ true) c.grow_and_hear-heard.result
    c.grow_and_hear-heard.ensures.kept c.grow_and_hear-heard.ensures.all)
    c.grow_and_hear-heard.ensures.err
    (λ heard. index_after c.self.inside.state news found c.in_ok-giving.giving.items items c.self.inside.index
    c.grow_and_hear-heard.new.index c.settle.new.index c.self.invariant c.in_ok-changes.ensures.giving c.in_ok-changes.ensures.found
    c.grow_and_hear-heard.ensures.grown c.grow_and_hear-heard.new.state c.lawful.ensures.state c.requires c.in_ok-giving.ensures heard.0
    heard.1 c.settle.ensures)
    (λ same. subst (λ (kept : List Item). IsIndexOf kept c.settle.new.index) (sym same)
    (index_back c.self.inside.state news found c.in_ok-giving.giving.items items c.self.inside.index c.grow_and_hear-heard.new.index
    c.settle.new.index c.self.invariant c.in_ok-changes.ensures.giving c.in_ok-changes.ensures.found c.grow_and_hear-heard.ensures.grown
    (subst (λ (kept : List Item). HasSettled kept items c.grow_and_hear-heard.new.index c.settle.new.index) same c.settle.ensures)))

pub returns-clause-ok : goal.returns-clause-ok
returns-clause-ok c =
    let news : List Item = map (λ item. item.now) c.args.news.now in
    subst (λ (old : List Item). OnOk c.grow_and_hear-heard.result (AreKept c.grow_and_hear-heard.new.state (old ++ news))) c.self.view_is
    c.grow_and_hear-heard.ensures.kept
