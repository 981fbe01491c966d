-- The parts of a to-do that the program holds (our own form).
use Rattle.itip_todo.specs.Parts.{Parts}
use Rattle.itip_todo.specs.declared.todo.Todo.{Todo}

abbrev pub parts_of : Todo → Parts
parts_of todo = record {
  uid = todo.uid;
  stamp = todo.stamp;
  seq = todo.seq;
  base = todo.base;
  rid = todo.rid;
  range = todo.range;
  start = todo.start;
  due = todo.due;
  status = todo.status;
  percent = todo.percent;
  priority = todo.priority;
  summary = todo.summary;
  organizer = todo.organizer;
  attendees = todo.attendees;
  rule = todo.rule;
  rdates = todo.rdates;
  exdates = todo.exdates;
  others = todo.others;
}
