use Rattle.std.proofs.Common.{map, subst, ap, List, ◌∙◌}
use Rattle.std.proofs.lemmas.Result.{IfOk-weaker}
use Rattle.itip_items.specs.declared.item.Item.{Item}
use Rattle.itip_state.specs.Kept.{AreKept, IsItemsOf}
use Rattle.itip_state.specs.Told.{AreNews}
use Rattle.itip_inbox.specs.News.{AreLacking}
use Rattle.itip_inbox.proofs.NewsOf.{lacking_of_kept}
use Rattle.itip_inbox.proofs.lacking.lacking.Goals as goal

pub returns : goal.returns
returns c =
    let news : List Item = map (λ item. item.now) c.in_ok-news.news.items in
    let items : List Item = c.in_ok-told.told.items in
    IfOk-weaker c.by_octets.result (λ sorted. IsItemsOf sorted.items c.in_ok-shared.field-0.items)
    (λ sorted. (told heard : List Item) → AreKept c.args.known.now told → AreKept c.args.more.now heard →
    AreLacking told heard sorted.items)
    (λ sorted is told heard of_told of_heard.
    lacking_of_kept told heard c.args.known.now c.args.more.now of_told of_heard items news sorted.items c.in_ok-told.ensures.items
    (subst (λ (t : List Item). AreNews c.args.known.now t news) c.as_slice.ensures.value c.in_ok-news.ensures.news)
    (subst (λ (t : List Item). IsItemsOf sorted.items t)
    (c.in_ok-shared.ensures ∙ ap (map (λ item. item.now)) c.as_slice-2.ensures.value) is))
    c.by_octets.ensures.items
