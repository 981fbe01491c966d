use Rattle.std.proofs.Common.{◌≡◌, ◌∙◌, List, ℕ, map, true, false, sym, subst}
use Rattle.itip_items.specs.declared.item.Item.{Item}
use Rattle.itip_state.specs.Held.{UidState, HoldKept, AreHeld, items_of}
use Rattle.itip_state.specs.Told.{AreOutdone}
use Rattle.itip_state.proofs.Nothing.{outdone_hold}
use Rattle.itip_state.proofs.hear.hear_all.Goals as goal

-- nothing is news, so nothing has to be heard
pub returns-then-outdoes_all-clause-ok : goal.returns-then-outdoes_all-clause-ok
returns-then-outdoes_all-clause-ok c = λ heard hold.
    let items : List Item = map (λ item. item.now) c.args.items.now in
    let same : c.hear_each.new.held ≡ c.args.held.now = c.in-Err.ensures.err in
    let now : HoldKept heard c.hear_each.new.held = subst (HoldKept heard) (sym same) hold in
    outdone_hold c.hear_each.new.held heard items ((c.outdoes_all.ensures now.held).0 c.if-outdoes_all.true) now

-- if an allocation fails, something is news
pub returns-else-outdoes_all-clause-succeeds : goal.returns-else-outdoes_all-clause-succeeds
returns-else-outdoes_all-clause-succeeds c = λ held outdone.
    let items : List Item = map (λ item. item.now) c.args.items.now in
    let same : c.args.held.now ≡ c.hear_each.new.held = sym c.in-Err.ensures.err in
    let x : true ≡ false = sym ((c.outdoes_all.ensures (subst AreHeld same held)).1
    (subst (λ (es : List (List ℕ × UidState)). AreOutdone (items_of es) items) same outdone)) ∙ c.if-outdoes_all.false in
    absurd (cc)
