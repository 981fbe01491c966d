use Rattle.itip_desk.proofs.Steps.{heard_below}
use Rattle.itip_desk.proofs.laws.heard_before_is_below.Goals as goal

pub returns : goal.returns
returns c = record {
  step = λ steps start desk batch is there. heard_below steps start desk batch is (λ item h. (batch, there, h));
  items = heard_below;
}
