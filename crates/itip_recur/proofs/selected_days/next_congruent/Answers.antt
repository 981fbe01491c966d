use Rattle.std.proofs.Common.{arith}
use Rattle.itip_recur.proofs.Congruent.{none_before, none_after, wraps}
use Rattle.itip_recur.proofs.selected_days.next_congruent.Goals as goal

pub returns-then-here-wanted-clause-skipped : goal.returns-then-here-wanted-clause-skipped
returns-then-here-wanted-clause-skipped c =
    λ n low high same. none_before c.args.from c.args.wanted n c.args.interval (omega arith) c.if-here-wanted.true low high same

pub returns-else-here-wanted-clause-skipped : goal.returns-else-here-wanted-clause-skipped
returns-else-here-wanted-clause-skipped c =
    λ n low high same. none_after c.args.from c.args.wanted n c.args.interval (omega arith) c.if-here-wanted.false low high same

pub returns-else-here-wanted-clause-congruent : goal.returns-else-here-wanted-clause-congruent
returns-else-here-wanted-clause-congruent c = wraps c.args.from c.args.wanted c.args.interval c.requires.wanted_in
