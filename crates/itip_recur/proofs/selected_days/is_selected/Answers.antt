use Rattle.itip_recur.proofs.selected_days.is_selected.Goals as goal

pub is_week_day-requires-clause-set : goal.is_week_day-requires-clause-set
is_week_day-requires-clause-set c = rw c.in-Weekly.is at c.requires.sets.0

pub is_month_day-requires : goal.is_month_day-requires
is_month_day-requires c = rw c.in-Monthly.is at c.requires.sets.0

pub is_year_day-requires : goal.is_year_day-requires
is_year_day-requires c = rw c.in-Yearly.is at c.requires.sets
