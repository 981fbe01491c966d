use Rattle.itip_moment.specs.OrderLaws.{stamp_total, moment_total}
use Rattle.itip_moment.proofs.Same.{stamp_equal, moment_equal}
use Rattle.itip_moment.proofs.laws.orders_tell_values_apart.Goals as goal

pub returns : goal.returns
returns c = record { stamps_total = stamp_total; stamps = stamp_equal; moments_total = moment_total; moments = moment_equal }
