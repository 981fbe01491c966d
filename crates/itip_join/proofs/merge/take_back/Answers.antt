use Rattle.std.proofs.Common.{◌∙◌, ap}
use Rattle.std.proofs.Common.{map as each}
use Rattle.std.proofs.lemmas.List.{map-append}
use Rattle.std.specs.BTreeMap.{get}
use Rattle.itip_join.proofs.TakingBack.{last_there, others_there, one_back}
use Rattle.itip_join.proofs.merge.take_back.Goals as goal

pub put-requires-clause-there : goal.put-requires-clause-there
put-requires-clause-there g c =
    let now = get g.K.Ord.cmp c.loop-key.map in
    last_there g.met.K.Ord.total c.in-Some.key.now c.in-Some.value (each (λ p. (p.0.now, p.1)) c.loop-key.raised.items)
    (each (λ p. (p.0.now, p.1)) c.pop.new.self.items)
    (ap (each (λ p. (p.0.now, p.1))) c.in-Some.ensures.items ∙ map-append (λ p. (p.0.now, p.1)) _ _) now now c.loop-key.invariant.there

pub loop-key-preserved : goal.loop-key-preserved
loop-key-preserved g c =
    let old = each (λ p. (p.0.now, p.1)) c.loop-key.raised.items in
    let left = each (λ p. (p.0.now, p.1)) c.pop.new.self.items in
    let now = get g.K.Ord.cmp c.loop-key.map in
    let next = get g.K.Ord.cmp c.put.new.map in
    let is = ap (each (λ p. (p.0.now, p.1))) c.in-Some.ensures.items ∙ map-append (λ p. (p.0.now, p.1)) _ _ in
    record {
      ordered = c.put.ensures.ordered;
      there = others_there g.met.K.Ord.total c.in-Some.key.now c.in-Some.value old left is now next c.put.ensures.with
          c.loop-key.invariant.there;
      rest = λ q. one_back g.met.K.Ord.total c.in-Some.key.now c.in-Some.value old left is now next c.put.ensures.with q ∙
          c.loop-key.invariant.rest q;
    }
