use Rattle.std.proofs.Common.{◌∙◌, ap, subst}
use Rattle.std.proofs.lemmas.Result.{IfOk-weaker}
use Rattle.itip_state.specs.Kept.{SameItems}
use Rattle.itip_inbox.specs.Ranges.{items_in}
use Rattle.itip_inbox.specs.Shards.{kept_in}
use Rattle.itip_inbox.proofs.Ranges.{items_alike}
use Rattle.itip_inbox.proofs.shards.Shards.by_octets.Goals as goal

pub returns : goal.returns
returns g c =
    let lists = c.in_ok-lists.lists.items in
    let same = subst (SameItems (items_in lists)) (ap kept_in c.as_slice.ensures.value ∙ c.self.view_is) c.in_ok-lists.ensures.same in
    IfOk-weaker c.merged.result _ _ (λ items are. items_alike items.items (items_in lists) c.args.self.now same are) c.merged.ensures
