use Rattle.std.proofs.Common.{◌≡◌, ◌∙◌, ℕ, List, map, true, subst, sym, inr}
use Rattle.std.specs.List.{Contains}
use Rattle.itip_todo.specs.Table.{attendee_key}
use Rattle.itip_items.specs.KeyParts.{uid_of}
use Rattle.itip_items.specs.declared.item.Item.{Item}
use Rattle.itip_state.proofs.Members.{if_ok_then}
use Rattle.itip_view.specs.RowDays.{NamesIn}
use Rattle.itip_desk.specs.Entries.{name_entry, address_number}
use Rattle.itip_desk.specs.Found.{NamesLine}
use Rattle.itip_desk.specs.Index.{has, IsIndexOf}
use Rattle.itip_desk.proofs.Between.{found_named, no_names}
use Rattle.itip_desk.proofs.indexed.IndexedState.uids_naming.Goals as goal

pub returns-clause-uids : goal.returns-clause-uids
returns-clause-uids c =
    if_ok_then (λ uids. (item : Item) → NamesLine c.args.address.now item →
    has c.self.inside.index (inr (name_entry item (address_number c.args.address.now))) ≡ true →
    Contains (map (λ u. u.now) uids.items) (uid_of item.key))
    (λ uids. (uid : List ℕ) → NamesIn c.args.self.now (attendee_key c.args.address.now) uid → Contains (map (λ u. u.now) uids.items) uid)
    c.find_named.result
    (λ uids by_line uid names. found_named c.self.inside.state c.self.inside.index c.args.address.now (map (λ u. u.now) uids.items)
    c.self.invariant by_line uid
    (subst (λ (kept : List Item). NamesIn kept (attendee_key c.args.address.now) uid) (sym c.self.view_is) names))
    c.find_named.ensures.names

pub returns-clause-none : goal.returns-clause-none
returns-clause-none c = λ none. c.find_named.ensures.none (no_names c.self.inside.index
    (subst (λ (kept : List Item). IsIndexOf kept c.self.inside.index) (c.self.view_is ∙ none) c.self.invariant))

pub returns-clause-succeeds : goal.returns-clause-succeeds
returns-clause-succeeds c = λ none. c.find_named.ensures.succeeds (no_names c.self.inside.index
    (subst (λ (kept : List Item). IsIndexOf kept c.self.inside.index) (c.self.view_is ∙ none) c.self.invariant))
