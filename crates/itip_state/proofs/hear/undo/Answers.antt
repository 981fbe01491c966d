use Rattle.std.proofs.Common.{◌≡◌, ◌∙◌, List, ℕ, ap, sym, subst, Some, None}
use Rattle.std.specs.Prelude.{is_some}
use Rattle.itip_join.specs.Changes.{replaced}
use Rattle.itip_items.specs.KeyParts.{uid_of}
use Rattle.itip_state.specs.Held.{UidState, at}
use Rattle.itip_state.specs.UidStates.{uid_state}
use Rattle.itip_state.specs.Undone.{LeadsBack}
use Rattle.itip_state.specs.declared.hear.Before.{Before}
use Rattle.itip_state.proofs.Undoing.{undone_put, put_at, put_apart, replaced_some, entry_leads, not_absent}
use Rattle.itip_state.proofs.hear.undo.Goals as goal

pub returns-in-Absent : goal.returns-in-Absent
returns-in-Absent c = λ old is.
    let u : List ℕ = uid_of c.args.change.item.now.key in
    let none : at old u ≡ None =
    subst (λ (b : Before). LeadsBack b c.args.change.item.now (at c.args.held.now u) (at old u)) c.in-Absent.is is.there in
    undone_put c.args.held.now c.remove.new.self old c.uid-uid.result.now u None c.uid-uid.ensures c.remove.ensures.ordered is.ordered
    c.remove.ensures.without (sym none) is.others

pub put_back-requires : goal.put_back-requires
put_back-requires c =
    let u : List ℕ = uid_of c.args.change.item.now.key in
    let was = subst (λ (b : Before). LeadsBack b c.args.change.item.now (at c.args.held.now u) (at c.requires.0 u)) c.in-Entry.is
    (c.requires.1).there in
    let back = entry_leads c.in-Entry.slot c.args.change.item.now c.in-Entry.best (at c.args.held.now u) (at c.requires.0 u)
    (uid_state c.in-Some.series) (sym (ap (at c.args.held.now) c.uid-uid.ensures) ∙ sym c.in-Some.ensures.before) was in
    (back.0, back.2)

pub returns-in-Some : goal.returns-in-Some
returns-in-Some c = λ old is.
    let u : List ℕ = uid_of c.args.change.item.now.key in
    let k : List ℕ = c.uid-uid.result.now in
    let now : List (List ℕ × UidState) = c.args.held.now in
    let mid : List (List ℕ × UidState) = c.replace.new.self in
    let was = subst (λ (b : Before). LeadsBack b c.args.change.item.now (at now u) (at old u)) c.in-Entry.is is.there in
    let back = entry_leads c.in-Entry.slot c.args.change.item.now c.in-Entry.best (at now u) (at old u) (uid_state c.in-Some.series)
    (sym (ap (at now) c.uid-uid.ensures) ∙ sym c.in-Some.ensures.before) was in
    let nothing : UidState = uid_state c.of_nothing.result in
    let there : at mid k ≡ Some nothing = put_at now mid k u (replaced (at now k) nothing) c.uid-uid.ensures c.in-Some.ensures.with ∙
    replaced_some (at now k) nothing (sym (ap is_some c.in-Some.ensures.before)) in
    let again : UidState = uid_state c.put_back.result in
    undone_put mid c.replace-in-Some.new.self old k u (replaced (at mid k) again) c.uid-uid.ensures c.replace-in-Some.ensures.ordered
    is.ordered c.replace-in-Some.ensures.with
    (replaced_some (at mid k) again (ap is_some there)
    ∙ ap Some (c.put_back.ensures back.0 back.2) ∙ sym back.1)
    (λ q n. put_apart now mid k u (replaced (at now k) nothing) c.uid-uid.ensures c.in-Some.ensures.with q n ∙ is.others q n)

pub returns-in_default : goal.returns-in_default
returns-in_default c = λ old is.
    let u : List ℕ = uid_of c.args.change.item.now.key in
    let was = subst (λ (b : Before). LeadsBack b c.args.change.item.now (at c.args.held.now u) (at old u)) c.in-Entry.is is.there in
    absurd (not_absent c.in-Entry.slot c.args.change.item.now c.in-Entry.best (at c.args.held.now u) (at old u)
    (sym (ap (at c.args.held.now) c.uid-uid.ensures) ∙ sym c.in_default.ensures.before) was)
