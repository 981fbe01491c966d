use Rattle.std.proofs.Common.{◌++◌, List, map, sym, subst, OnOk}
use Rattle.itip_items.specs.declared.item.Item.{Item}
use Rattle.itip_state.specs.Kept.{AreKept}
use Rattle.itip_desk.specs.Index.{IsIndexOf}
use Rattle.itip_desk.proofs.Touching.{index_stays, either_way}
use Rattle.itip_desk.proofs.indexed.IndexedState.hear_others.Goals as goal

pub invariant_of-self : goal.invariant_of-self
invariant_of-self c =
    let news : List Item = map (λ item. item.now) c.args.news.now in
    either_way c.hear.result c.hear.ensures.ok c.hear.ensures.err
    (λ kept. index_stays c.self.inside.state news c.hear.new.self c.lawful.ensures.state c.requires kept c.self.inside.index
    c.self.invariant)
    (λ same. subst (λ (kept : List Item). IsIndexOf kept c.self.inside.index) (sym same) c.self.invariant)

pub returns-clause-ok : goal.returns-clause-ok
returns-clause-ok c =
    let news : List Item = map (λ item. item.now) c.args.news.now in
    subst (λ (old : List Item). OnOk c.hear.result (AreKept c.hear.new.self (old ++ news))) c.self.view_is c.hear.ensures.ok
