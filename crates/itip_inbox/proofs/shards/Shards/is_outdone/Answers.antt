use Rattle.std.proofs.Common.{◌≡◌, ◌∙◌, sym, ap, subst, arith, List, length, map, vec_len}
use Rattle.std.proofs.lemmas.Bool.Decides.{Decides-eqb}
use Rattle.std.proofs.lemmas.List.{nil_from_length, length-map}
use Rattle.itip_items.specs.KeyParts.{uid_of}
use Rattle.itip_items.specs.declared.item.Item.{Item}
use Rattle.itip_state.specs.Told.{IsOutdone, AreNews}
use Rattle.itip_inbox.proofs.Sharding.{outdone_alone, outdone_at}
use Rattle.itip_inbox.proofs.shards.Shards.is_outdone.Goals as goal

pub returns : goal.returns
returns c =
    let item : Item = c.args.item.now in
    let told : List Item = map (λ item. item.now) c.in_ok-news.news.items in
    let set : List Item = c.index.result.now.state in
    let alone = outdone_alone set item told
    (subst (λ (asked : List Item). AreNews set asked told) c.from_ref.ensures.value c.in_ok-news.ensures.news) in
    let many : c.len.result ≡ length c.self.inside.shards.items = omega (arith, c.len.ensures, c.self.inside.shards.ok.0) in
    let long : length told ≡ vec_len c.in_ok-news.news = omega (
      arith,
      length-map c.in_ok-news.news.items (λ item. item.now),
      c.in_ok-news.news.ok.0,
    ) in
    let two = outdone_at c.self.inside.shards.items c.self.invariant c.shard_of-number.result c.len.result c.uid.result.now item
    c.index.result.now c.shard_of-number.ensures.number many (c.uid.ensures ∙ ap (λ (i : Item). uid_of i.key) c.deref.ensures)
    c.index.ensures in (
      λ yes. subst (λ (kept : List Item). IsOutdone kept item) c.self.view_is
          (two.0 (alone.0 (nil_from_length told (long ∙
          (Decides-eqb (vec_len c.in_ok-news.news) 0).0 (sym c.is_empty.ensures ∙ yes))))),
      λ outdone. c.is_empty.ensures ∙ (Decides-eqb (vec_len c.in_ok-news.news) 0).1
          (sym long ∙ ap length (alone.1 (two.1 (subst (λ (kept : List Item). IsOutdone kept item) (sym c.self.view_is) outdone)))),
    )
