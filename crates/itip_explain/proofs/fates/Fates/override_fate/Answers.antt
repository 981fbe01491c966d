use Rattle.std.proofs.Common.{sym, subst, refl, inl, inr}
use Rattle.itip_items.specs.declared.key.Key.{Key}
use Rattle.itip_state.specs.Kept.{IsBest}
use Rattle.itip_explain.specs.Knowing.{heard_by}
use Rattle.itip_explain.proofs.fates.Fates.override_fate.Goals as goal

pub place_of-requires-clause-best : goal.place_of-requires-clause-best
place_of-requires-clause-best c =
    subst (λ (k : Key). IsBest (heard_by c.args.self.now) k c.in-Some.series.now) (sym c.in-Some.ensures.best.about) c.in-Some.ensures.best

pub returns-in-Some : goal.returns-in-Some
returns-in-Some c = inr (record {
  not_standing = c.in-Some.ensures.not_standing;
  series = c.in-Some.series.now;
  best = c.in-Some.ensures.best;
  place = c.place_of.result;
  first = c.place_of.ensures;
  became_is = refl;
})

pub returns-in-None : goal.returns-in-None
returns-in-None c = inl (c.in-None.ensures, c.standing_fate.ensures)
