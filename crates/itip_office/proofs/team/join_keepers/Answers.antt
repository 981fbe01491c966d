use Rattle.std.proofs.Common.{inl, inr}
use Rattle.itip_office.proofs.team.join_keepers.Goals as goal

pub loop-keeper-preserved : goal.loop-keeper-preserved
loop-keeper-preserved g c = record {
  kept = c.with_kept-all.ensures.kept c.loop-keeper.invariant.kept c.join.ensures.0;
  closed = λ e. elim (c.with_kept-all.ensures.closed e) [ inl h ↦ c.loop-keeper.invariant.closed h | inr h ↦ c.join.ensures.1 h ];
}
