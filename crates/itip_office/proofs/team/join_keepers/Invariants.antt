use Rattle.std.proofs.Common.{All}
use Rattle.std.specs.Prelude.{IfOk, IsErrOf}
use Rattle.itip_office.specs.declared.error.OfficeError.TheVariants as error
use Rattle.itip_office.specs.LooksAndCarries.{IsOneOf}
use Rattle.itip_office.specs.Pairs.{HasKept}
use Rattle.itip_office.proofs.team.join_keepers.Given as goal

abbrev pub invariant-loop-keeper : goal.invariant-loop-keeper
invariant-loop-keeper g l = record {
  kept : IfOk l.all (λ all. All (λ k. HasKept (g.N.Pairs.pair k.desk) (IsOneOf all.1.items) k.desk k.answers.items
      k.held.texts k.held.shown)
      all.0.items);
  closed : IsErrOf l.all error.GateClosed → g.G.Gate.may_close;
}
