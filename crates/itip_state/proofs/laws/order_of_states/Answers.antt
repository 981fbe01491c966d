use Rattle.itip_state.proofs.Keeping.{below_itself, below_transitive, below_both_ways}
use Rattle.itip_state.proofs.laws.order_of_states.Goals as goal

pub returns-clause-reflexive : goal.returns-clause-reflexive
returns-clause-reflexive c = below_itself

pub returns-clause-transitive : goal.returns-clause-transitive
returns-clause-transitive c = λ x y z is_x _ is_z. below_transitive x y z is_x is_z

pub returns-clause-antisymmetric : goal.returns-clause-antisymmetric
returns-clause-antisymmetric c = λ x y _ _. below_both_ways x y
