-- To-dos with the same parts are one, and lawful parts are a to-do's.
use Rattle.std.proofs.Common.{◌≡◌}
use mathlib.Core.HLevel.{is_prop→PathP}
use Rattle.itip_todo.specs.Lawful.{IsLawful, IsLawful-prop}
use Rattle.itip_todo.specs.Parts.{Parts}
use Rattle.itip_todo.specs.PartsOf.{parts_of}
use Rattle.itip_todo.specs.declared.todo.Todo.{Todo}

pub same_todo : (a b : Todo) → parts_of a ≡ parts_of b → a ≡ b
same_todo a b e = λ i. record {
  uid = (e i).uid;
  stamp = (e i).stamp;
  seq = (e i).seq;
  base = (e i).base;
  rid = (e i).rid;
  range = (e i).range;
  start = (e i).start;
  due = (e i).due;
  status = (e i).status;
  percent = (e i).percent;
  priority = (e i).priority;
  summary = (e i).summary;
  organizer = (e i).organizer;
  attendees = (e i).attendees;
  rule = (e i).rule;
  rdates = (e i).rdates;
  exdates = (e i).exdates;
  others = (e i).others;
  lawful = is_prop→PathP (λ j. IsLawful (e j)) (λ j. IsLawful-prop (e j)) a.lawful b.lawful i;
}

-- the to-do of lawful parts
abbrev pub todo_of : (parts : Parts) → IsLawful parts → Todo
todo_of p h = record {
  uid = p.uid;
  stamp = p.stamp;
  seq = p.seq;
  base = p.base;
  rid = p.rid;
  range = p.range;
  start = p.start;
  due = p.due;
  status = p.status;
  percent = p.percent;
  priority = p.priority;
  summary = p.summary;
  organizer = p.organizer;
  attendees = p.attendees;
  rule = p.rule;
  rdates = p.rdates;
  exdates = p.exdates;
  others = p.others;
  lawful = h;
}
