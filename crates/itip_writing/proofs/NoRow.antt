-- After a cancellation the to-do has no row, or none at the instance, or none from a moment on.
use Rattle.std.proofs.Common.{◌≡◌, ◌∙◌, ℕ, List, [], ◌∷◌, ◌++◌, refl, sym, ap, subst, inl, inr, Bool, true, false, Option, Some, None}
use Rattle.std.specs.List.{AllZip, Contains}
use Rattle.itip_moment.specs.declared.moment.Moment.{Moment}
use Rattle.itip_moment.specs.declared.stamp.Stamp.{Stamp}
use Rattle.itip_todo.specs.Parts.{Parts}
use Rattle.itip_items.specs.Given.{AreItemsOf}
use Rattle.itip_items.specs.Items.{drafts, instance_key}
use Rattle.itip_items.specs.declared.item.Item.{Item}
use Rattle.itip_items.specs.declared.key.Key.{Key}
use Rattle.itip_items.specs.declared.key.Key.TheVariants as key
use Rattle.itip_items.specs.declared.kind.Kind.TheVariants as kind
use Rattle.itip_items.specs.declared.kind.Method.TheVariants as method
use Rattle.itip_state.proofs.Members.{none_in, cons_cases, cons_first}
use Rattle.itip_view.specs.Rows.{IsRow, moment_of}
use Rattle.itip_view.specs.Standing.{Reaches}
use Rattle.itip_view.specs.declared.row.Row.{Row}
use Rattle.itip_view.specs.declared.window.Window.{Window}
use Rattle.itip_writing.specs.Cancelling.{Ends, IsCancelOf, IsOnwardOf, cancelled, cancelled_key}
use Rattle.itip_writing.proofs.CancelDrafts.{IsNewOf, IsOneNew, IsShaped, each_new, not_series, one_new, shaped}
use Rattle.itip_writing.proofs.CancelHeard.{AreCancels, HasKey, instance_no_row, onward_no_row, whole_no_row}
use Rattle.itip_writing.proofs.GivenItems.{left_of, right_of}

-- ---- one item

module _ (n : ℕ) (k : Key) (items : List Item) (one : IsOneNew n k items) where
  only : (i : Item) → Contains items i → one.item ≡ i
  only i h = elim (cons_cases one.item [] i (subst (λ (xs : List Item). Contains xs i) one.items_are h)) [
    | inl same ↦ same
    | inr none ↦ absurd (none_in i none)
  ]

  one_cancels : AreCancels n items
  one_cancels i h = subst (λ (j : Item). (j.kind ≡ kind.Cancel) × (j.eff ≡ n)) (only i h) (one.new.kind_is, one.new.eff_is)

  one_has : HasKey items k
  one_has = record {
    item = one.item;
    there = subst (λ (xs : List Item). Contains xs one.item) (sym one.items_are) (cons_first one.item []);
    about = one.new.about;
  }

  one_key : (i : Item) → Contains items i → i.key ≡ k
  one_key i h = subst (λ (j : Item). j.key ≡ k) (only i h) one.new.about

module _ (heard : List Item) (uid : List ℕ) (id : Option Moment) (at : Stamp) (parts : Parts) (is : IsCancelOf heard uid id at parts)
    (items : List Item) where
  one_item : AreItemsOf (drafts method.Cancel (parts ∷ [])) items → IsOneNew is.sequence (cancelled_key uid id false) items
  one_item given = one_new uid is.item id is.sequence is.stamp items
      (subst (λ (p : Parts). AreItemsOf (drafts method.Cancel (p ∷ [])) items) is.parts_are given)

pub cancelled_no_row : (heard : List Item) (uid : List ℕ) (at : Stamp) (parts : Parts) → IsCancelOf heard uid None at parts →
    (items : List Item) → AreItemsOf (drafts method.Cancel (parts ∷ [])) items → (window : Window) (row : Row) →
    IsRow (heard ++ items) window row → row.uid ≡ uid → ⊥
cancelled_no_row heard uid at parts is items given =
    let k : Key = key.Series uid in
    let one : IsOneNew is.sequence k items = one_item heard uid None at parts is items given in
    whole_no_row heard items uid is.sequence is.next (one_cancels is.sequence k items one) (one_has is.sequence k items one)

pub cancelled_no_row_at : (heard : List Item) (uid : List ℕ) (id : Moment) (at : Stamp) (parts : Parts) →
    IsCancelOf heard uid (Some id) at parts → (items : List Item) → AreItemsOf (drafts method.Cancel (parts ∷ [])) items →
    (window : Window) (row : Row) → IsRow (heard ++ items) window row → row.uid ≡ uid → moment_of row.id ≡ Some id → ⊥
cancelled_no_row_at heard uid id at parts is items given =
    let k : Key = key.Instance uid id in
    let one : IsOneNew is.sequence k items = one_item heard uid (Some id) at parts is items given in
    let none : (i : Item) → Contains items i → i.key ≡ key.Series uid → ⊥ =
    λ i h e. not_series false uid uid id (sym (one_key is.sequence k items one i h) ∙ e) in
    instance_no_row heard items uid is.sequence is.next (one_cancels is.sequence k items one) none id (one_has is.sequence k items one)

-- ---- an instance and all after it

module _ (heard : List Item) (uid : List ℕ) (from : Moment) (at : Stamp) (all : List Parts) (is : IsOnwardOf heard uid from at all)
    (items : List Item) (given : AreItemsOf (drafts method.Cancel all) items) where
  shapes : (p : Parts) → Contains all p → IsShaped uid is.sequence p
  shapes p h = shaped heard uid from is.sequence is.stamp p (is.are.each p h)

  zipped : AllZip (IsNewOf uid is.sequence) all items
  zipped = each_new uid is.sequence all all shapes shapes items given

  onward_cancels : AreCancels is.sequence items
  onward_cancels i h =
      let found = left_of (IsNewOf uid is.sequence) all items zipped i h in (found.related.kind_is, found.related.eff_is)

  onward_ends : (id : Moment) (range : Bool) (i : Item) → Ends heard uid from id range i → HasKey items (instance_key range uid id)
  onward_ends id range i ends =
      let p : Parts = cancelled uid i (Some id) range is.sequence is.stamp in
      let found = right_of (IsNewOf uid is.sequence) all items zipped p
      (is.are.every p (record { id = id; range = range; item = i; ends = ends; parts_are = refl })) in
      record { item = found.one; there = found.there; about = found.related.about }

  onward_has : HasKey items (key.Range uid from)
  onward_has = onward_ends from true is.there.item (inl (refl, is.there.governs))

  onward_none : (i : Item) → Contains items i → i.key ≡ key.Series uid → ⊥
  onward_none i h e =
      let found = left_of (IsNewOf uid is.sequence) all items zipped i h in
      let p : Parts = found.one in
      let s : IsShaped uid is.sequence p = shapes p found.there in
      let named : cancelled_key uid p.rid p.range ≡ instance_key p.range uid s.id =
      ap (λ (id : Option Moment). cancelled_key uid id p.range) s.rid_is in
      not_series p.range uid uid s.id (sym named ∙ sym found.related.about ∙ e)

pub onward_no_rows : (heard : List Item) (uid : List ℕ) (from : Moment) (at : Stamp) (all : List Parts) →
    IsOnwardOf heard uid from at all → (items : List Item) → AreItemsOf (drafts method.Cancel all) items →
    (window : Window) (row : Row) → IsRow (heard ++ items) window row → row.uid ≡ uid → (m : Moment) → moment_of row.id ≡ Some m →
    Reaches from m → ⊥
onward_no_rows heard uid from at all is items given =
    onward_no_row heard items uid is.sequence is.next (onward_cancels heard uid from at all is items given)
    (onward_none heard uid from at all is items given) from (onward_has heard uid from at all is items given)
    (onward_ends heard uid from at all is items given)
