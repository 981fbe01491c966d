use Rattle.std.proofs.Common.{take}
use Rattle.itip_writing.specs.Requesting.{AreNext, AreRequested}
use Rattle.itip_writing.proofs.request.requested.Given as goal

abbrev pub invariant-loop-todo : goal.invariant-loop-todo
invariant-loop-todo l = record {
  each : AreRequested l.state l.at (take l.todo-index l.draft) l.all.items;
  next : AreNext l.state l.known;
}
