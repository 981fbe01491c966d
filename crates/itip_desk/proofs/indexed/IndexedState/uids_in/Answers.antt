use Rattle.std.proofs.Common.{◌≡◌, ◌≤ℤ◌, ◌<ℤ◌, ◌∙◌, ℕ, ℤ, List, map, true, subst, sym, inl}
use Rattle.std.specs.List.{Contains}
use Rattle.itip_items.specs.KeyParts.{uid_of}
use Rattle.itip_items.specs.declared.item.Item.{Item}
use Rattle.itip_view.specs.RowDays.{HasRowsIn}
use Rattle.itip_desk.specs.Entries.{day_entry}
use Rattle.itip_desk.specs.Index.{has, IsIndexOf}
use Rattle.itip_desk.specs.declared.entry.Mark.TheVariants.{Day, Always}
use Rattle.itip_desk.proofs.Between.{found_in, no_days}
use Rattle.itip_desk.proofs.Listing.{if_ok_both}
use Rattle.itip_desk.proofs.indexed.IndexedState.uids_in.Goals as goal

pub returns-clause-uids : goal.returns-clause-uids
returns-clause-uids c =
    if_ok_both (λ uids. (item : Item) (day : ℤ) → c.args.window.from ≤ℤ day → day <ℤ c.args.window.to →
    has c.self.inside.index (inl (day_entry item (Day day))) ≡ true → Contains (map (λ u. u.now) uids.items) (uid_of item.key))
    (λ uids. (item : Item) → has c.self.inside.index (inl (day_entry item Always)) ≡ true →
    Contains (map (λ u. u.now) uids.items) (uid_of item.key))
    (λ uids. (uid : List ℕ) → HasRowsIn c.args.self.now c.args.window uid → Contains (map (λ u. u.now) uids.items) uid) c.find_in.result
    (λ uids days always uid rows. found_in c.self.inside.state c.self.inside.index c.args.window (map (λ u. u.now) uids.items)
    c.self.invariant days always uid
    (subst (λ (kept : List Item). HasRowsIn kept c.args.window uid) (sym c.self.view_is) rows))
    c.find_in.ensures.days c.find_in.ensures.always

pub returns-clause-none : goal.returns-clause-none
returns-clause-none c = λ none. c.find_in.ensures.none (no_days c.self.inside.index
    (subst (λ (kept : List Item). IsIndexOf kept c.self.inside.index) (c.self.view_is ∙ none) c.self.invariant))

pub returns-clause-succeeds : goal.returns-clause-succeeds
returns-clause-succeeds c = λ none. c.find_in.ensures.succeeds (no_days c.self.inside.index
    (subst (λ (kept : List Item). IsIndexOf kept c.self.inside.index) (c.self.view_is ∙ none) c.self.invariant))
