use Rattle.std.proofs.Common.{rules, ◌≡◌, List, All, ◌∙◌, ap, subst}
use Rattle.std.proofs.lemmas.List.Elements.{All-weaker}
use mathlib.Core.List.{IsPrefix}
use Rattle.itip_desk.specs.Desk.{IsDeskOf}
use Rattle.itip_desk.proofs.Stable.{desk_of}
use Rattle.itip_running.specs.History.{Items, Group, batches_of}
use Rattle.itip_running.specs.declared.pass.Pass.{Pass}
use Rattle.itip_running.specs.ContractViews.{publishes, published, publishes_seen, seen}
use Rattle.itip_running.proofs.Groups.{prefix_batches}
use Rattle.itip_running.proofs.meeting.meet.Goals as goal

pub returns-clause-whole : goal.returns-clause-whole
returns-clause-whole g c =
    let log : c.again-front.result.seen.log ≡ publishes c.args.keeper = search rules in
    let all = subst (λ (l : List Pass). All (λ p. IsPrefix (publishes_seen p) c.again-front.result.seen.log) l) c.as_slice.ensures.value
    c.in_ok-seen.ensures.within in
    subst (λ (l : List Group). All (λ p. IsPrefix (publishes_seen p) l) c.args.passes.items) log all

pub returns-clause-within : goal.returns-clause-within
returns-clause-within g c =
    let log : c.again-front.result.seen.log ≡ publishes c.args.keeper = search rules in
    let all = subst (λ (l : List Pass). All (λ p. IsPrefix (publishes_seen p) c.again-front.result.seen.log) l) c.as_slice.ensures.value
    c.in_ok-seen.ensures.within in
    All-weaker (λ (p : Pass). IsPrefix (publishes_seen p) (publishes c.args.keeper))
    (λ (p : Pass). IsPrefix (seen p) (published c.args.keeper))
    (λ p h. prefix_batches (publishes_seen p) (publishes c.args.keeper) h) c.args.passes.items
    (subst (λ (l : List Group). All (λ p. IsPrefix (publishes_seen p) l) c.args.passes.items) log all)

pub returns-clause-desk : goal.returns-clause-desk
returns-clause-desk g c =
    let end = c.unwrap-end.result in
    let shown = c.into_inner-shown.result in
    let value : shown.history ≡ end.writer.desk.shown.value.history = search rules in
    let groups : end.writer.desk.shown.value.front.seen.log ≡ publishes c.args.keeper = search rules in
    desk_of (published c.args.keeper) 0 shown.desk
    (subst (λ (l : List Items). ∥ IsDeskOf l 0 shown.desk ∥₁) (value ∙ (end.kept_is ∙ ap batches_of groups)) shown.is)
