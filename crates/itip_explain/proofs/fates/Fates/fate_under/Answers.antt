use Rattle.std.proofs.Common.{◌≡◌, ◌∙◌, sym, refl, inl, inr, true, false}
use Rattle.itip_explain.specs.Knowing.{heard_by}
use Rattle.itip_explain.proofs.Becoming.{governing_best}
use Rattle.itip_explain.proofs.fates.Fates.fate_under.Goals as goal

pub place_of-requires-clause-best : goal.place_of-requires-clause-best
place_of-requires-clause-best c =
    governing_best (heard_by c.args.self.now) c.args.self.now.question.uid c.args.id.now c.args.governing.now c.requires.in_question

pub returns-then-item-governing : goal.returns-then-item-governing
returns-then-item-governing c = inl (record {
  older = c.if-item-governing.true;
  place = c.place_of.result;
  first = c.place_of.ensures;
  became_is = refl;
})

pub returns-then-asks : goal.returns-then-asks
returns-then-asks c = inr (record { since = c.if-item-governing.false; by_attendee = inl (c.asks.ensures.0 c.if-asks.true, refl) })

pub place_of-requires-else-asks-clause-best : goal.place_of-requires-else-asks-clause-best
place_of-requires-else-asks-clause-best c =
    governing_best (heard_by c.args.self.now) c.args.self.now.question.uid c.args.id.now c.args.governing.now c.requires.in_question

pub returns-else-asks : goal.returns-else-asks
returns-else-asks c = inr (record {
  since = c.if-item-governing.false;
  by_attendee = inr (record {
    no_attendee = λ is. let x : true ≡ false = sym (c.asks.ensures.1 is) ∙ c.if-asks.false in cc;
    place = c.place_of-else-asks.result;
    first = c.place_of-else-asks.ensures;
    became_is = refl;
  });
})
