use Rattle.std.proofs.Common.{Option}
use Rattle.itip_desk.specs.Desk.{Shown}
use Rattle.itip_running.specs.declared.keeper.Keeper.{Keeper}
use Rattle.itip_office.specs.LooksAndCarries.{IsOneOf}
use Rattle.itip_office.specs.Merged.{IsIdle, GrewShown, GrewTexts}
use Rattle.itip_office.proofs.desk_loop.merge_some.Given as goal

abbrev pub invariant-loop-merge : goal.invariant-loop-merge
invariant-loop-merge g l = record {
  idle : IsIdle l.shown;
  texts : (first : Shown) → GrewTexts l.desk first l.fn.texts l.fn.found.0.items → GrewTexts l.desk first l.texts l.found.0.items;
  shown : (first : Option Keeper) → GrewShown l.desk (IsOneOf l.fn.found.1.items) first l.fn.shown l.fn.found.0.items →
      GrewShown l.desk (IsOneOf l.found.1.items) first l.shown l.found.0.items;
}
