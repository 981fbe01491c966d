use Rattle.std.proofs.Common.{◌≡◌, sym, ◌∙◌, ap, inl, inr, true, false}
use Rattle.itip_state.specs.Held.{at, kills}
use Rattle.itip_state.specs.UidStates.{uid_state}
use Rattle.itip_state.proofs.News.{not_outdone, told_here, dead_here, outdone_here}
use Rattle.itip_state.proofs.told.outdoes.Goals as goal

pub returns-in_default : goal.returns-in_default
returns-in_default c = λ is. (
  λ t. let x : false ≡ true = t in absurd (cc),
  λ old. absurd (not_outdone c.args.held.now is c.args.item.now (sym (ap (at c.args.held.now) c.uid.ensures) ∙
      sym c.in_default.ensures.found) old),
)

pub returns-then-holds_no_earlier : goal.returns-then-holds_no_earlier
returns-then-holds_no_earlier c =
    let there = sym (ap (at c.args.held.now) c.uid.ensures) ∙ sym c.in-Some.ensures.found in
    λ is. (
      λ t. told_here c.args.held.now is c.args.item.now (uid_state c.in-Some.series.now) there (c.holds_no_earlier.ensures.0 t),
      λ old. c.if-holds_no_earlier.true,
    )

pub returns-else-holds_no_earlier : goal.returns-else-holds_no_earlier
returns-else-holds_no_earlier c =
    let there = sym (ap (at c.args.held.now) c.uid.ensures) ∙ sym c.in-Some.ensures.found in
    let dies : c.is_dead_below.result ≡ kills c.in-Some.series.now.guard c.args.item.now.key c.args.item.now =
    c.is_dead_below.ensures ∙ (λ x. kills c.in-Some.series.now.guard (c.key.ensures x) (c.item.ensures x)) in
    λ is. (
      λ t. dead_here c.args.held.now is c.args.item.now (uid_state c.in-Some.series.now) there (sym dies ∙ t),
      λ old. elim (outdone_here c.args.held.now is c.args.item.now (uid_state c.in-Some.series.now) there old) [
        | inl dead ↦ dies ∙ dead
        | inr holds ↦ let x : true ≡ false = sym (c.holds_no_earlier.ensures.1 holds) ∙ c.if-holds_no_earlier.false in absurd (cc)
      ],
    )
