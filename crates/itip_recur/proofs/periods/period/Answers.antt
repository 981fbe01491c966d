use Rattle.itip_recur.proofs.PeriodWalks.{daily_period, weekly_period}
use Rattle.itip_recur.proofs.periods.period.Goals as goal

pub returns-in-Daily-clause-period : goal.returns-in-Daily-clause-period
returns-in-Daily-clause-period c = daily_period c.args.rule.now c.in-Daily.is

pub returns-in-Weekly-clause-period : goal.returns-in-Weekly-clause-period
returns-in-Weekly-clause-period c = weekly_period c.args.rule.now _ c.in-Weekly.is
