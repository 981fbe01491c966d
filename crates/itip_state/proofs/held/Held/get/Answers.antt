use Rattle.std.proofs.Common.{ap, ◌∙◌, subst}
use Rattle.std.specs.Prelude.{option_map}
use Rattle.itip_state.specs.Held.{at, AreOrdered}
use Rattle.itip_state.specs.UidStates.{uid_state}
use Rattle.itip_state.proofs.Seeing.{seen_at, in_order}
use Rattle.itip_state.proofs.held.Held.get.Goals as goal

pub returns-clause-found : goal.returns-clause-found
returns-clause-found c = ap (option_map uid_state) c.get.ensures ∙ seen_at uid_state c.self.inside.map.map c.args.uid.now ∙
    ap (λ es. at es c.args.uid.now) c.self.view_is

pub returns-clause-ordered : goal.returns-clause-ordered
returns-clause-ordered c = subst AreOrdered c.self.view_is (in_order uid_state c.self.inside.map.map c.self.inside.map.ordered)
