use Rattle.itip_office.specs.LooksAndCarries.{IsOneOf}
use Rattle.itip_office.specs.Merged.{IsIdle, GrewShown, GrewTexts}
use Rattle.itip_office.proofs.desk_loop.merge_all.Given as goal

abbrev pub invariant-loop : goal.invariant-loop
invariant-loop g l = record {
  idle : IsIdle l.shown;
  texts : GrewTexts l.desk l.fn.texts l.texts l.found.0.items;
  shown : GrewShown l.desk (IsOneOf l.found.1.items) l.fn.shown l.shown l.found.0.items;
}
