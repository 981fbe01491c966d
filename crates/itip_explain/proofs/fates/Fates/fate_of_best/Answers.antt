use Rattle.std.proofs.Common.{sym, subst, refl, inl, inr}
use Rattle.itip_items.specs.declared.key.Key.{Key}
use Rattle.itip_state.specs.Kept.{IsBest}
use Rattle.itip_explain.specs.Knowing.{heard_by}
use Rattle.itip_explain.proofs.fates.Fates.fate_of_best.Goals as goal

pub place_of-requires-clause-best : goal.place_of-requires-clause-best
place_of-requires-clause-best c =
    subst (λ (k : Key). IsBest (heard_by c.args.self.now) k c.in-Some.series.now) (sym c.in-Some.ensures.best.about) c.in-Some.ensures.best

pub returns-in-Some : goal.returns-in-Some
returns-in-Some c = inr (inl (record {
  best = c.requires.best;
  dead = record {
    can_die = c.in-Some.ensures.can_die;
    series = c.in-Some.series.now;
    best = c.in-Some.ensures.best;
    below = c.in-Some.ensures.below;
  };
  place = c.place_of.result;
  first = c.place_of.ensures;
  became_is = refl;
}))
