use Rattle.std.proofs.Common.{rules, ◌≡◌, List, ◌++◌, ◌∷◌, [], sym, subst}
use Rattle.itip_desk.specs.Desk.{IsDeskOf}
use Rattle.itip_running.specs.History.{Items}
use Rattle.itip_running.proofs.Seeing.{stepped}
use Rattle.itip_running.proofs.published.PublishedAbsorbOp.absorb_first.Goals as goal

pub invariant_of-self : goal.invariant_of-self
invariant_of-self c =
    let k = c.args.self.now in
    let b : Items = c.in-Take.batch in
    let log : c.followed_by.result ≡ k.history ++ b ∷ [] = search rules in
    record {
      is = subst (λ (l : List Items). ∥ IsDeskOf l 0 c.take.new.self ∥₁) (sym log)
          (stepped k.history k.desk c.take.new.self b c.in-Ok.ensures.step k.is);
    }
