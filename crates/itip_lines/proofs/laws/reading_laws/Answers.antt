use Rattle.itip_lines.proofs.Decided.{reads_or_refused}
use Rattle.itip_lines.proofs.OneReading.{one_reading, one_refusal, reading_apart, refusal_place}
use Rattle.itip_lines.proofs.laws.reading_laws.Goals as goal

pub returns-clause-some : goal.returns-clause-some
returns-clause-some c = reads_or_refused

pub returns-clause-one_reading : goal.returns-clause-one_reading
returns-clause-one_reading c = one_reading

pub returns-clause-one_refusal : goal.returns-clause-one_refusal
returns-clause-one_refusal c = one_refusal

pub returns-clause-apart : goal.returns-clause-apart
returns-clause-apart c = reading_apart

pub returns-clause-place : goal.returns-clause-place
returns-clause-place c = refusal_place
