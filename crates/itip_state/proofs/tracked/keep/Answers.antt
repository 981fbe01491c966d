use Rattle.std.proofs.Common.{◌∙◌, inl, inr, ap, sym}
use Rattle.std.specs.BTreeMap.{get}
use Rattle.itip_join.specs.KeyByKey.{value_at}
use Rattle.itip_state.proofs.Members.{on_both}
use Rattle.itip_state.proofs.Maps.{uid_cmp}
use Rattle.itip_state.proofs.tracked.keep.Goals as goal

pub returns-in-Ok-clause-here : goal.returns-in-Ok-clause-here
returns-in-Ok-clause-here c = on_both c.insert.result
    (λ updates. inl (ap (get uid_cmp c.insert.new.self) (sym c.in-Ok.ensures.cases) ∙ updates.1 ∙ sym c.in-Some.is))
    (λ same. inr (ap (λ es. value_at uid_cmp es c.args.uid.now) same))
    c.insert.ensures.updates c.insert.ensures.err
