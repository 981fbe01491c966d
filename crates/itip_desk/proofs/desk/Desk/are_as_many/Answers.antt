use Rattle.std.proofs.Common.{◌≡◌, ◌∙◌, length, inl, sym, ap, subst, arith}
use Rattle.itip_state.specs.Kept.{AreUidsOf}
use Rattle.itip_desk.specs.Desk.{Shown}
use Rattle.itip_desk.proofs.desk.Desk.are_as_many.Goals as goal

-- the number of UIDs of which the desk keeps something
pub returns-then-all-eq0 : goal.returns-then-all-eq0
returns-then-all-eq0 c = λ all are.
    let long : length all ≡ c.uid_count-all.result = c.uid_count-all.ensures all (subst (AreUidsOf all)
    (sym (c.state.ensures ∙ ap (λ (d : Shown). d.kept) c.self.view_is)) are) in
    inl (grind (arith, long))
