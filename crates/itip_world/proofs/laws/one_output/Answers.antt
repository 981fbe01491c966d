use Rattle.itip_world.proofs.Determined.{output_one, front_one}
use Rattle.itip_world.proofs.laws.one_output.Goals as goal

pub returns : goal.returns
returns c = record {
  output = output_one;
  front = front_one;
}
