use Rattle.std.proofs.Common.{◌≡◌, ◌∙◌, sym, ap, subst, refl, inl, true}
use Rattle.std.specs.Ordering.{is_gt}
use Rattle.std.specs.declared.cmp.Ordering.{Ordering}
use Rattle.std.specs.declared.cmp.Ordering.TheVariants.{Less, Equal, Greater}
use Rattle.itip_items.specs.declared.item.Item.{Item}
use Rattle.itip_state.specs.Kept.{IsBest}
use Rattle.itip_explain.specs.Knowing.{heard_by}
use Rattle.itip_explain.proofs.Becoming.{is_latest}
use Rattle.itip_explain.proofs.fates.Fates.fate.Goals as goal

greater_is : (o : Ordering) → is_gt o ≡ true → o ≡ Greater
greater_is Less e = cc
greater_is Equal e = cc
greater_is Greater e = refl

pub returns-then-is_gt : goal.returns-then-is_gt
returns-then-is_gt c = inl (record {
  latest = c.of_key-latest.result.now.item;
  best = c.of_key-latest.ensures.best;
  later = sym c.cmp_rev.ensures ∙ greater_is c.cmp_rev.result (sym c.is_gt.ensures ∙ c.if-is_gt.true);
  place = c.of_key-latest.result.now.place;
  first = c.of_key-latest.ensures.first;
  became_is = refl;
})

pub fate_of_best-requires-clause-best : goal.fate_of_best-requires-clause-best
fate_of_best-requires-clause-best c =
    subst (λ (i : Item). IsBest (heard_by c.args.self.now) c.args.item.now.key i)
    (is_latest (heard_by c.args.self.now) c.args.item.now c.of_key-latest.result.now.item c.requires.heard c.of_key-latest.ensures.best
    (ap is_gt (sym c.cmp_rev.ensures) ∙ sym c.is_gt.ensures ∙ c.if-is_gt.false)) c.of_key-latest.ensures.best
