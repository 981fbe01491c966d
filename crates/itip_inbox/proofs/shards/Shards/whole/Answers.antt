use Rattle.std.proofs.Common.{◌≡◌, ◌∙◌, sym, ap, subst, arith, List, [], ◌∷◌, ◌++◌, append_assoc, append-nil}
use Rattle.std.proofs.lemmas.List.{nil_from_length}
use Rattle.itip_items.specs.declared.item.Item.{Item}
use Rattle.itip_state.specs.Kept.{AreKept}
use Rattle.itip_inbox.specs.Shards.{kept_in}
use Rattle.itip_inbox.specs.declared.shard.Shard.{Shard}
use Rattle.itip_inbox.proofs.Sharding.{kept_both, merged_one, are_none}
use Rattle.itip_inbox.proofs.shards.Shards.whole.Goals as goal

-- the last of some shards
last_of : (all before : List Shard) (last : Shard) → all ≡ before ++ last ∷ [] → kept_in all ≡ kept_in before ++ last.state
last_of all before last is =
    ap kept_in is ∙ kept_both before (last ∷ []) ∙ ap (λ (t : List Item). kept_in before ++ t) (append-nil last.state)

-- one shard more was taken from the end
moved : (all before : List Shard) (last : Shard) (behind whole : List Item) → all ≡ before ++ last ∷ [] → kept_in all ++ behind ≡ whole →
    kept_in before ++ (last.state ++ behind) ≡ whole
moved all before last behind whole is was =
    sym (append_assoc (kept_in before) last.state behind) ∙ ap (λ (t : List Item). t ++ behind) (sym (last_of all before last is)) ∙ was

-- there is no shard
pub returns-in_default : goal.returns-in_default
returns-in_default c =
    let none : kept_in c.self.inside.shards.items ≡ [] =
    ap kept_in (nil_from_length c.self.inside.shards.items (omega (arith, c.in_default.ensures.cases.0, c.self.inside.shards.ok.0))) in
    are_none c.empty.result c.args.self c.empty.ensures (sym c.self.view_is ∙ none)

pub loop-shard-init : goal.loop-shard-init
loop-shard-init c = record {
  behind = c.in-Some.last.state;
  keeps = c.lawful.ensures.state;
  all = sym (last_of c.self.inside.shards.items c.pop.new.self.items c.in-Some.last c.in-Some.ensures.items) ∙ c.self.view_is;
}

pub loop-shard-preserved : goal.loop-shard-preserved
loop-shard-preserved c = record {
  behind = c.in-Some-pop.shard.state ++ c.loop-shard.invariant.behind;
  keeps = merged_one c.loop-shard.whole c.merge.new.self c.loop-shard.invariant.behind c.in-Some-pop.shard.state
      c.loop-shard.invariant.keeps c.in_ok-merge.ensures.ok;
  all = moved c.loop-shard.shards.items c.pop-in-loop-shard.new.self.items c.in-Some-pop.shard c.loop-shard.invariant.behind c.args.self
      c.in-Some-pop.ensures.items c.loop-shard.invariant.all;
}

pub returns : goal.returns
returns c =
    let none : kept_in c.loop-shard.shards.items ≡ [] =
    ap kept_in (nil_from_length c.loop-shard.shards.items (omega (arith, c.in_default-pop.ensures.cases.0, c.loop-shard.shards.ok.0))) in
    subst (λ (all : List Item). AreKept c.loop-shard.whole all)
    (ap (λ (t : List Item). t ++ c.loop-shard.invariant.behind) (sym none) ∙ c.loop-shard.invariant.all) c.loop-shard.invariant.keeps
