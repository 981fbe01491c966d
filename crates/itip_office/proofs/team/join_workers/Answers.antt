use Rattle.std.proofs.Common.{◌≡◌, ℕ, ◌∷◌, All, subst, inl, inr}
use Rattle.std.specs.Prelude.{IfOk}
use Rattle.std.specs.Vec.Iter.{into_iter_items}
use Rattle.std.proofs.lemmas.List.Elements.{All-head, All-tail}
use Rattle.itip_office.specs.LooksAndCarries.{IsOneOf, IsAnswered}
use Rattle.itip_office.proofs.team.join_workers.Goals as goal

pub loop-worker-preserved : goal.loop-worker-preserved
loop-worker-preserved g c = record {
  answered = λ desks all.
      let was = c.loop-worker.invariant.answered desks all in
      let worker = c.in-Some.worker in
      let left = into_iter_items c.next.new.self in
      let both : All (λ t. t.promise.desks ≡ desks) (worker ∷ left) =
      subst (All (λ t. t.promise.desks ≡ desks)) c.in-Some.ensures.steps.0 was.0 in (
        All-tail (λ t. t.promise.desks ≡ desks) worker left both,
        c.with_answers-all.ensures.answered desks was.1
            (subst (λ (n : ℕ). IfOk c.join.result (λ v. All (IsAnswered n (IsOneOf v.1.items)) v.0.items))
            (All-head (λ t. t.promise.desks ≡ desks) worker left both) c.join.ensures.0),
      );
  closed = λ e. elim (c.with_answers-all.ensures.closed e) [ inl h ↦ c.loop-worker.invariant.closed h | inr h ↦ c.join.ensures.1 h ];
}

pub returns-clause-answered : goal.returns-clause-answered
returns-clause-answered g c = λ desks all. (c.loop-worker.invariant.answered desks all).1
