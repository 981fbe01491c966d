use Rattle.std.proofs.Common.{◌≡◌, ◌+◌, ◌++◌, [], ℕ, List, inl, inr, refl, ap, subst, sym, ◌∙◌, length, map, arith}
use Rattle.itip_items.specs.declared.item.Item.{Item}
use Rattle.itip_state.specs.Kept.{AreKept, AreMoved, AreUidsOf}
use Rattle.itip_state.specs.Order.{IsState, IsBelow}
use Rattle.itip_state.specs.Told.{AreNews}
use Rattle.itip_state.proofs.Keeping.{are_kept_by}
use Rattle.itip_state.proofs.News.{news_kept, news_move}
use Rattle.itip_state.proofs.Nothing.{no_news, no_uids, no_view, not_ok}
use Rattle.std.specs.Prelude.{cond, Some}
use Rattle.itip_desk.specs.Desk.{Shown}
use Rattle.itip_desk.specs.MovedSince.{is_listed, tick_at, HavePlaces, AreReady}
use Rattle.itip_desk.proofs.Ticking.{carried_on, carry_step, marked_ticks, marked_up_to, nothing_carried}
use Rattle.itip_desk.proofs.Steps.{moved_by_news, none_moved, none_in, some_moved, still_carry, one_more_step}
use Rattle.itip_desk.proofs.FileTold.{told_on}
use Rattle.itip_desk.proofs.desk.Desk.take.Goals as goal
use Rattle.itip_desk.proofs.desk.Desk.take.Goals.{In_ok-uids}

-- the news to what the desk keeps
abbrev news : (c : In_ok-uids) → List Item
news c = map (λ item. item.now) c.in_ok-news.news.items

are_news : (c : In_ok-uids) → AreNews c.args.self.now.kept c.args.batch.now (news c)
are_news c =
    let kept : c.state.result.now ≡ c.args.self.now.kept = c.state.ensures ∙ ap (λ (d : Shown). d.kept) c.self.view_is in
    subst (λ (k : List Item). AreNews k c.args.batch.now (news c)) kept
    (subst (λ (step : List Item). AreNews c.state.result.now step (news c)) c.as_slice.ensures.items c.in_ok-news.ensures.news)

-- the UIDs are those that the batch moves
moved : (c : In_ok-uids) → AreMoved c.in_ok-uids.uids.items c.args.self.now.kept c.args.batch.now
moved c =
    let uids : AreUidsOf c.in_ok-uids.uids.items (news c) =
    subst (λ xs. AreUidsOf c.in_ok-uids.uids.items (map (λ item. item.now) xs)) c.deref.ensures.value c.in_ok-uids.ensures.uids in
    moved_by_news c.in_ok-uids.uids.items c.args.self.now.kept c.args.batch.now (news c) uids
    (news_move c.args.self.now.kept c.args.batch.now (news c) (are_news c))

-- what the desk keeps is a state
state : (c : In_ok-uids) → IsState c.args.self.now.kept
state c =
    let kept : c.state.result.now ≡ c.args.self.now.kept = c.state.ensures ∙ ap (λ (d : Shown). d.kept) c.self.view_is in
    subst IsState kept c.in_ok-news.ensures.state

-- hearing the news is hearing the batch
kept_with : (c : In_ok-uids) (new : List Item) → AreKept new (c.self.inside.kept ++ news c) →
    AreKept new (c.args.self.now.kept ++ c.args.batch.now)
kept_with c new are_new =
    let kept : c.self.inside.kept ≡ c.args.self.now.kept = ap (λ (d : Shown). d.kept) c.self.view_is in
    are_kept_by new (c.args.self.now.kept ++ news c) (c.args.self.now.kept ++ c.args.batch.now)
    (news_kept c.args.self.now.kept c.args.batch.now (news c) (are_news c))
    (subst (λ (k : List Item). AreKept new (k ++ news c)) kept are_new)

pub returns-then-is_empty-clause-kept : goal.returns-then-is_empty-clause-kept
returns-then-is_empty-clause-kept c =
    let before = (goal.at.returns-then-is_empty-clause-kept c).In_ok-uids in
    let none : length c.in_ok-uids.uids.items ≡ 0 = grind arith in
    none_moved c.args.self.now.kept c.args.batch.now (state before) (none_in
    c.in_ok-uids.uids.items c.args.self.now.kept c.args.batch.now (moved before) none)

pub returns-then-is_empty-clause-uids : goal.returns-then-is_empty-clause-uids
returns-then-is_empty-clause-uids c = moved (goal.at.returns-then-is_empty-clause-uids c).In_ok-uids

pub returns-then-is_empty-clause-rises : goal.returns-then-is_empty-clause-rises
returns-then-is_empty-clause-rises c =
    let before = (goal.at.returns-then-is_empty-clause-rises c).In_ok-uids in
    let none : length c.in_ok-uids.uids.items ≡ 0 = grind arith in
    inr (none_in c.in_ok-uids.uids.items c.args.self.now.kept c.args.batch.now (moved before) none, refl)

pub returns-then-is_empty-clause-carried : goal.returns-then-is_empty-clause-carried
returns-then-is_empty-clause-carried c =
    let before = (goal.at.returns-then-is_empty-clause-carried c).In_ok-uids in
    let none : length c.in_ok-uids.uids.items ≡ 0 = grind arith in
    nothing_carried c.args.self.now c.args.batch.now (none_in
    c.in_ok-uids.uids.items c.args.self.now.kept c.args.batch.now (moved before) none)

pub returns-then-is_empty-clause-step : goal.returns-then-is_empty-clause-step
returns-then-is_empty-clause-step c = λ steps start.
    let before = (goal.at.returns-then-is_empty-clause-step c).In_ok-uids in
    let none : length c.in_ok-uids.uids.items ≡ 0 = grind arith in
    let same = none_in c.in_ok-uids.uids.items c.args.self.now.kept c.args.batch.now (moved before) none in
    one_more_step steps start c.args.self.now c.args.self.now c.args.batch.now
    (none_moved c.args.self.now.kept c.args.batch.now (state before) same) (inr (same, refl))
    (still_carry c.args.self.now c.args.batch.now same)

pub returns-then-self-clause-spent : goal.returns-then-self-clause-spent
returns-then-self-clause-spent c = λ _.
    let before = (goal.at.returns-then-self-clause-spent c).In_ok-uids in
    let some : ¬ (length c.in_ok-uids.uids.items ≡ 0) = grind arith in
    let at : c.self.inside.tick ≡ c.args.self.now.tick = ap (λ (d : Shown). d.tick) c.self.view_is in
    (sym at ∙ c.if-self.true, some_moved c.in_ok-uids.uids.items c.args.self.now.kept c.args.batch.now (moved before) some)

pub returns-clause-kept : goal.returns-clause-kept
returns-clause-kept c =
    kept_with (goal.at.returns-clause-kept c).In_ok-uids c.hear.new.self
    (subst (λ xs. AreKept c.hear.new.self (c.self.inside.kept ++ map (λ item. item.now) xs)) c.deref-3.ensures.value
    c.in_default.ensures.ok)

pub returns-clause-uids : goal.returns-clause-uids
returns-clause-uids c = moved (goal.at.returns-clause-uids c).In_ok-uids

pub returns-clause-rises : goal.returns-clause-rises
returns-clause-rises c =
    let before = (goal.at.returns-clause-rises c).In_ok-uids in
    let some : ¬ (length c.in_ok-uids.uids.items ≡ 0) = grind arith in
    let at : c.self.inside.tick ≡ c.args.self.now.tick = ap (λ (d : Shown). d.tick) c.self.view_is in
    inl (some_moved c.in_ok-uids.uids.items c.args.self.now.kept c.args.batch.now (moved before) some, ap (λ t. t + 1) at)

pub returns-clause-step : goal.returns-clause-step
returns-clause-step c = λ steps start.
    let before = (goal.at.returns-clause-step c).In_ok-uids in
    let some : ¬ (length c.in_ok-uids.uids.items ≡ 0) = grind arith in
    let at : c.self.inside.tick ≡ c.args.self.now.tick = ap (λ (d : Shown). d.tick) c.self.view_is in
    let new : Shown = record { kept = c.hear.new.self; tick = c.self.inside.tick + 1; changed = c.mark.new.self.carried } in
    one_more_step steps start c.args.self.now new c.args.batch.now
    (kept_with before c.hear.new.self (subst (λ xs. AreKept c.hear.new.self (c.self.inside.kept ++ map (λ item. item.now) xs))
    c.deref-3.ensures.value c.in_default.ensures.ok))
    (inl (some_moved c.in_ok-uids.uids.items c.args.self.now.kept c.args.batch.now (moved before) some, ap (λ t. t + 1) at))
    (carry_step c.in_ok-uids.uids.items c.self.inside.moves.carried c.prepare.new.self.carried c.mark.new.self.carried
    (subst (λ us. HavePlaces us c.self.inside.moves.carried c.prepare.new.self.carried) c.deref-2.ensures.value c.prepare.ensures.places)
    (c.self.inside.tick + 1)
    (λ uid. c.mark.ensures uid ∙ ap (λ us. cond (is_listed us uid) (Some (c.self.inside.tick + 1))
    (tick_at c.prepare.new.self.carried uid)) c.deref-4.ensures.value)
    c.args.self.now new c.args.batch.now (sym (ap (λ (d : Shown). d.changed) c.self.view_is)) refl refl (moved before))

pub returns-clause-carried : goal.returns-clause-carried
returns-clause-carried c =
    let before = (goal.at.returns-clause-carried c).In_ok-uids in
    let new : Shown = record { kept = c.hear.new.self; tick = c.self.inside.tick + 1; changed = c.mark.new.self.carried } in
    carried_on c.in_ok-uids.uids.items c.self.inside.moves.carried c.prepare.new.self.carried c.mark.new.self.carried
    (subst (λ us. HavePlaces us c.self.inside.moves.carried c.prepare.new.self.carried) c.deref-2.ensures.value c.prepare.ensures.places)
    (c.self.inside.tick + 1)
    (λ uid. c.mark.ensures uid ∙ ap (λ us. cond (is_listed us uid) (Some (c.self.inside.tick + 1))
    (tick_at c.prepare.new.self.carried uid)) c.deref-4.ensures.value)
    c.args.self.now new c.args.batch.now (sym (ap (λ (d : Shown). d.changed) c.self.view_is)) refl refl (moved before)

pub mark-requires : goal.mark-requires
mark-requires c = subst (λ us. AreReady us (c.self.inside.tick + 1) c.prepare.new.self)
    (c.deref-2.ensures.value ∙ sym c.deref-4.ensures.value) c.in_ok-prepare.ensures.ready

pub invariant_of-self-2 : goal.invariant_of-self-2
invariant_of-self-2 c =
    let places = subst (λ us. HavePlaces us c.self.inside.moves.carried c.prepare.new.self.carried) c.deref-2.ensures.value
    c.prepare.ensures.places in
    let marked = λ (uid : List ℕ). c.mark.ensures uid ∙ ap (λ us. cond (is_listed us uid) (Some (c.self.inside.tick + 1))
    (tick_at c.prepare.new.self.carried uid)) c.deref-4.ensures.value in (
      marked_ticks c.in_ok-uids.uids.items c.self.inside.moves.carried c.prepare.new.self.carried c.mark.new.self.carried
          (c.self.inside.tick + 1) (omega arith) c.self.invariant.0 places marked,
      marked_up_to c.in_ok-uids.uids.items c.self.inside.moves.carried c.prepare.new.self.carried c.mark.new.self.carried
          c.self.inside.tick (c.self.inside.tick + 1) (omega arith) c.self.invariant.1 places marked,
    )

-- a batch without news moves nothing
still : (c : In_ok-uids) → IsBelow c.args.batch.now c.args.self.now.kept → length c.in_ok-uids.uids.items ≡ 0
still c below =
    let none : news c ≡ [] = no_news c.args.self.now.kept c.args.batch.now (news c) (are_news c) below in
    let uids : AreUidsOf c.in_ok-uids.uids.items (news c) =
    subst (λ xs. AreUidsOf c.in_ok-uids.uids.items (map (λ item. item.now) xs)) c.deref.ensures.value c.in_ok-uids.ensures.uids in
    ap length (no_uids c.in_ok-uids.uids.items (subst (AreUidsOf c.in_ok-uids.uids.items) none uids))

pub returns-in_err-news-clause-succeeds : goal.returns-in_err-news-clause-succeeds
returns-in_err-news-clause-succeeds c = λ below.
    let kept : c.state.result.now ≡ c.args.self.now.kept = c.state.ensures ∙ ap (λ (d : Shown). d.kept) c.self.view_is in
    not_ok (c.in_err-news.ensures.succeeds (subst (λ (k : List Item). IsBelow c.as_slice.result.now k) (sym kept)
    (subst (λ (step : List Item). IsBelow step c.args.self.now.kept) (sym c.as_slice.ensures.items) below)))

pub returns-in_err-uids-clause-succeeds : goal.returns-in_err-uids-clause-succeeds
returns-in_err-uids-clause-succeeds c = λ below.
    let kept : c.state.result.now ≡ c.args.self.now.kept = c.state.ensures ∙ ap (λ (d : Shown). d.kept) c.self.view_is in
    let told : List Item = map (λ item. item.now) c.in_ok-news.news.items in
    let are : AreNews c.args.self.now.kept c.args.batch.now told = subst (λ (k : List Item). AreNews k c.args.batch.now told) kept
    (subst (λ (step : List Item). AreNews c.state.result.now step told) c.as_slice.ensures.items c.in_ok-news.ensures.news) in
    not_ok (c.in_err-uids.ensures.succeeds (c.deref.ensures.value ∙ no_view (λ item. item.now) c.in_ok-news.news.items
    (no_news c.args.self.now.kept c.args.batch.now told are below)))

pub returns-then-self-clause-succeeds : goal.returns-then-self-clause-succeeds
returns-then-self-clause-succeeds c = λ below.
    let some : ¬ (length c.in_ok-uids.uids.items ≡ 0) = grind arith in
    absurd (some (still (goal.at.returns-then-self-clause-succeeds c).In_ok-uids below))

pub returns-in_err-prepare-clause-succeeds : goal.returns-in_err-prepare-clause-succeeds
returns-in_err-prepare-clause-succeeds c = λ below.
    let some : ¬ (length c.in_ok-uids.uids.items ≡ 0) = grind arith in
    absurd (some (still (goal.at.returns-in_err-prepare-clause-succeeds c).In_ok-uids below))

pub returns-in-Err-clause-succeeds : goal.returns-in-Err-clause-succeeds
returns-in-Err-clause-succeeds c = λ below.
    let some : ¬ (length c.in_ok-uids.uids.items ≡ 0) = grind arith in
    absurd (some (still (goal.at.returns-in-Err-clause-succeeds c).In_ok-uids below))

pub returns-clause-told : goal.returns-clause-told
returns-clause-told c = λ told.
    let before = (goal.at.returns-clause-told c).In_ok-uids in
    let some : ¬ (length c.in_ok-uids.uids.items ≡ 0) = grind arith in
    let at : c.self.inside.tick ≡ c.args.self.now.tick = ap (λ (d : Shown). d.tick) c.self.view_is in
    let fits = told.fits in
    let new : Shown = record { kept = c.hear.new.self; tick = c.self.inside.tick + 1; changed = c.mark.new.self.carried } in
    told_on c.args.self.now new c.args.batch.now told
    (kept_with before c.hear.new.self (subst (λ xs. AreKept c.hear.new.self (c.self.inside.kept ++ map (λ item. item.now) xs))
    c.deref-3.ensures.value c.in_default.ensures.ok))
    (inl (some_moved c.in_ok-uids.uids.items c.args.self.now.kept c.args.batch.now (moved before) some, ap (λ t. t + 1) at))
    (carried_on c.in_ok-uids.uids.items c.self.inside.moves.carried c.prepare.new.self.carried c.mark.new.self.carried
    (subst (λ us. HavePlaces us c.self.inside.moves.carried c.prepare.new.self.carried) c.deref-2.ensures.value c.prepare.ensures.places)
    (c.self.inside.tick + 1)
    (λ uid. c.mark.ensures uid ∙ ap (λ us. cond (is_listed us uid) (Some (c.self.inside.tick + 1))
    (tick_at c.prepare.new.self.carried uid)) c.deref-4.ensures.value)
    c.args.self.now new c.args.batch.now (sym (ap (λ (d : Shown). d.changed) c.self.view_is)) refl refl (moved before))
    (marked_ticks c.in_ok-uids.uids.items c.self.inside.moves.carried c.prepare.new.self.carried c.mark.new.self.carried
    (c.self.inside.tick + 1) (omega arith) c.self.invariant.0
    (subst (λ us. HavePlaces us c.self.inside.moves.carried c.prepare.new.self.carried) c.deref-2.ensures.value c.prepare.ensures.places)
    (λ uid. c.mark.ensures uid ∙ ap (λ us. cond (is_listed us uid) (Some (c.self.inside.tick + 1))
    (tick_at c.prepare.new.self.carried uid)) c.deref-4.ensures.value))
    (omega (arith, at, fits, c.if-self.false))
