use Rattle.std.proofs.Common.{◌≡◌, ◌++◌, ap, map, List, subst, sym}
use Rattle.std.proofs.lemmas.Result.{on_ok_weaker}
use Rattle.itip_items.specs.declared.item.Item.{Item}
use Rattle.itip_state.specs.Kept.{IsItemsOf}
use Rattle.itip_state.specs.Told.{AreNews}
use Rattle.itip_inbox.proofs.Keeping.{news_both}
use Rattle.itip_inbox.proofs.texts.add_news.Goals as goal

-- the news of a batch is that of its items
news_given : (kept items batch slice news told : List Item) → IsItemsOf batch items → slice ≡ batch → AreNews kept slice news →
    told ≡ news → AreNews kept items told
news_given kept items batch slice news told batch_is is are same =
    let of : AreNews kept batch told = subst (λ (t : List Item). AreNews kept batch t) (sym same)
    (subst (λ (b : List Item). AreNews kept b news) is are) in
    record {
      among = λ item h. (batch_is.same item).0 (of.among item h);
      new = of.new;
      rest = λ item h. of.rest item ((batch_is.same item).1 h);
    }

pub returns : goal.returns
returns c =
    on_ok_weaker c.add_copies.result (λ copied told before.
    subst (λ (news : List Item). AreNews c.args.kept.now (told ++ c.args.items.items) news) (sym copied)
    (news_both c.args.kept.now told c.args.items.items c.args.news.now.items (map (λ item. item.now) c.as_slice-2.result.now) before
    (news_given c.args.kept.now c.args.items.items c.in_ok-batch.batch c.as_slice.result.now _ _ c.in_ok-batch.ensures.items
    c.as_slice.ensures.items c.in_ok-new.ensures (ap (map (λ item. item.now)) c.as_slice-2.ensures.value)))) c.add_copies.ensures
