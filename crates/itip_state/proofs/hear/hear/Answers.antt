use Rattle.std.proofs.Common.{◌∙◌, ap, subst}
use Rattle.std.specs.Prelude.{is_some}
use Rattle.itip_items.specs.KeyParts.{uid_of}
use Rattle.itip_state.specs.Held.{at}
use Rattle.itip_state.specs.Newer.{IsNewerOf}
use Rattle.itip_state.proofs.Members.{on_ok_then}
use Rattle.itip_state.proofs.Waiting.{heard_here, raised_here}
use Rattle.itip_state.proofs.hear.hear.Goals as goal

pub returns-in-None-clause-kept : goal.returns-in-None-clause-kept
returns-in-None-clause-kept c = on_ok_then c.join_one.result
    (λ joined. (heard_here c.args.item.now c.args.held.now c.join_one.new.self c.join_one.ensures.ordered joined
    c.join_one.ensures.others).kept)
    c.join_one.ensures.joined

pub returns-in-Some-clause-kept : goal.returns-in-Some-clause-kept
returns-in-Some-clause-kept c =
    let newer = subst (IsNewerOf (at c.args.held.now (uid_of c.args.item.now.key)) c.args.item.now) c.in-Some.is c.in_ok-newer_of.ensures in
    (raised_here c.args.item.now c.in-Some.best c.uid.result.now c.args.held.now c.raise.new.self c.uid.ensures c.raise.ensures.ordered
    (ap (λ u. is_some (at c.args.held.now u)) c.uid.ensures ∙ newer.2) newer.1 newer.0 c.raise.ensures.raised c.raise.ensures.others).kept
