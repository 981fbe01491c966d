use Rattle.std.proofs.Common.{◌∙◌, ap, sym, Err}
use Rattle.itip_running.proofs.Seeing.{too_many_rows, never_memory, never_entry}
use Rattle.itip_running.proofs.outside.rows_in.Goals as goal

pub returns-in-Err-clause-many : goal.returns-in-Err-clause-many
returns-in-Err-clause-many c e = c.in-Err.ensures.many (ap Err (too_many_rows c.in-Err.fault (sym c.into.ensures ∙ cc e)))

pub returns-in-Err-clause-memory : goal.returns-in-Err-clause-memory
returns-in-Err-clause-memory c e = never_memory c.in-Err.fault (sym c.into.ensures ∙ cc e)

pub returns-in-Err-clause-entry : goal.returns-in-Err-clause-entry
returns-in-Err-clause-entry c e = never_entry c.in-Err.fault (sym c.into.ensures ∙ cc e)
