use Rattle.std.proofs.Common.{refl}
use Rattle.itip_running.proofs.Ties.{sees}
use Rattle.itip_running.proofs.monotonic_reads.ReadEnd.look.Goals as goal

pub enter_as-requires : goal.enter_as-requires
enter_as-requires c x = sees _ _ x x (λ e. e) refl
