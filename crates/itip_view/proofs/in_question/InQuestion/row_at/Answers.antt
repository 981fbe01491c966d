use Rattle.std.proofs.Common.{subst}
use Rattle.itip_state.specs.OfUid.{UidPart}
use Rattle.itip_view.specs.Standing.{NoneStands}
use Rattle.itip_view.proofs.in_question.InQuestion.row_at.Goals as goal

pub row_between-requires : goal.row_between-requires
row_between-requires c = subst (λ (p : UidPart). NoneStands p.items p.uid c.args.at.now) c.self.view_is c.in-None.ensures
