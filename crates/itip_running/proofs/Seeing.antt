-- What the desk of a history shows.
use Rattle.std.proofs.Common.{◌≡◌, ◌↔◌, inl, inr, ℕ, List, [], ◌∷◌, ◌++◌, refl, sym, subst}
use Rattle.std.specs.List.{Contains}
use Rattle.std.proofs.Math.Logic.{∥∥₁_map}
use Rattle.itip_items.specs.KeyParts.{uid_of}
use Rattle.itip_items.specs.declared.item.Item.{Item}
use Rattle.itip_state.specs.Kept.{AreKept, ArePartOf}
use Rattle.itip_state.proofs.Keeping.{kept_again, are_kept_by}
use Rattle.itip_state.proofs.Members.{none_in, cons_cases, cons_first}
use Rattle.itip_view.specs.Rows.{IsRow, AreRows}
use Rattle.itip_view.specs.Showing.{Shows, AreRowsWhere}
use Rattle.itip_view.specs.declared.row.Row.{Row}
use Rattle.itip_view.specs.declared.window.Window.{Window}
use Rattle.itip_view.proofs.Alike.{alike_back}
use Rattle.itip_view.proofs.OfKept.{row_of_same}
use Rattle.itip_view.specs.declared.error.ViewError.{ViewError}
use Rattle.itip_view.specs.declared.error.ViewError.TheVariants as view
use Rattle.itip_desk.specs.Desk.{Shown, IsDeskOf, IsDeltaOf}
use Rattle.itip_running.specs.Refusals.{of_view}
use Rattle.itip_running.specs.declared.error.PassError.TheVariants as pass
use Rattle.itip_running.specs.Deltas.{IsDeltaAfter}
use Rattle.itip_running.specs.Parts.{HasRowsOf, HasRowsFor, AreKeptOf}

-- a desk that takes a batch is the desk of one more batch
pub stepped : (steps : List (List Item)) (old new : Shown) (batch : List Item) →
    ((s : List (List Item)) (start : ℕ) → IsDeskOf s start old → IsDeskOf (s ++ batch ∷ []) start new)
    → ∥ IsDeskOf steps 0 old ∥₁ → ∥ IsDeskOf (steps ++ batch ∷ []) 0 new ∥₁
stepped steps old new batch step is = ∥∥₁_map is (step steps 0)

-- what a desk tells since a tick is what is kept of the UIDs that moved after it
pub delta_after : (steps : List (List Item)) (desk : Shown) (since : ℕ) (batch : List Item) → IsDeltaOf desk since batch →
    IsDeskOf steps 0 desk → IsDeltaAfter steps since batch
delta_after steps desk since batch delta is = record {
  ascend = delta.ascend;
  same = λ item.
      let s = delta.same item in
      let k = is.kept item in
      let c = is.changed since (uid_of item.key) in
      (λ h. (k.0 (s.0 h).0, c.0 (s.0 h).1), λ h. s.1 (k.1 h.0, c.1 h.1));
}

-- a pass refuses a list for its length if the desk did
pub too_many_rows : (fault : ViewError) → of_view fault ≡ pass.TooManyRows → fault ≡ view.TooManyRows
too_many_rows view.TooManyRows e = refl
too_many_rows view.NoMemory e = absurd (cc e)

-- which errors a list never has
pub never_memory : (fault : ViewError) → of_view fault ≡ pass.NoMemory → ⊥
never_memory view.TooManyRows e = absurd (cc e)
never_memory view.NoMemory e = absurd (cc e)

pub never_entry : (fault : ViewError) → of_view fault ≡ pass.NoEntry → ⊥
never_entry view.TooManyRows e = absurd (cc e)
never_entry view.NoMemory e = absurd (cc e)

module _ (part kept all : List Item) (are : AreKept kept all) where
  -- a part that has the rows of what is kept has those of all that was heard
  pub rows_through : (window : Window) → ((row : Row) → IsRow part window row ↔ IsRow kept window row) → HasRowsOf part all window
  rows_through window same row =
      let alike = kept_again kept all are in (
        λ h. row_of_same kept all alike window row ((same row).0 h),
        λ h. (same row).1 (row_of_same all kept (alike_back kept all alike) window row h),
      )

  pub rows_for_through : (address : List ℕ) → ((window : Window) (row : Row) → Shows address row →
      IsRow part window row ↔ IsRow kept window row) → HasRowsFor address part all
  rows_for_through address same window row shows =
      let alike = kept_again kept all are in (
        λ h. row_of_same kept all alike window row ((same window row shows).0 h),
        λ h. (same window row shows).1 (row_of_same all kept (alike_back kept all alike) window row h),
      )

  -- what is kept of what is kept is what is kept of all
  pub kept_through : AreKept part kept → AreKept part all
  kept_through is = are_kept_by part kept all (kept_again kept all are) is

-- a state of items that have the rows of what is kept has those of all that was heard
module _ (state items kept all : List Item) (of_items : AreKept state items) (are : AreKept kept all) where
  pub rows_of_items : (window : Window) → ((row : Row) → IsRow items window row ↔ IsRow kept window row) → HasRowsOf state all window
  rows_of_items window same = rows_through state kept all are window (λ row.
      let own = rows_through state state items of_items window (λ r. (λ h. h, λ h. h)) row in
      (λ h. (same row).0 (own.0 h), λ h. own.1 ((same row).1 h)))

  pub rows_for_of_items : (address : List ℕ) → ((window : Window) (row : Row) → Shows address row →
      IsRow items window row ↔ IsRow kept window row) → HasRowsFor address state all
  rows_for_of_items address same = rows_for_through state kept all are address (λ window row shows.
      let own = rows_for_through state state items of_items address (λ w r s. (λ h. h, λ h. h)) window row shows in
      (λ h. (same window row shows).0 (own.0 h), λ h. own.1 ((same window row shows).1 h)))

one_uid : (uid other : List ℕ) → Contains (uid ∷ []) other → uid ≡ other
one_uid uid other h = elim (cons_cases uid [] other h) [ inl same ↦ same | inr none ↦ absurd (none_in other none) ]

-- the part of one UID has what is kept of it
pub part_of_one : (uid : List ℕ) (part kept all : List Item) → AreKept kept all → ArePartOf part kept (uid ∷ []) → AreKeptOf uid part all
part_of_one uid part kept all are of item = (
  λ h. let both = (of item).0 h in ((are item).0 both.0, sym (one_uid uid (uid_of item.key) both.1)),
  λ h. (of item).1 ((are item).1 h.0, subst (λ (u : List ℕ). Contains (uid ∷ []) u) (sym h.1) (cons_first uid [])),
)

-- a part that has the same rows has the same lists of them
module _ (part all : List Item) (window : Window) (same : HasRowsOf part all window) where
  pub rows_there : (rows : List Row) → AreRows part window rows → AreRows all window rows
  rows_there rows are = record {
    ascend = are.ascend;
    each = λ row h. (same row).0 (are.each row h);
    all = λ row is. are.all row ((same row).1 is);
  }

module _ (address : List ℕ) (part all : List Item) (window : Window) (same : HasRowsFor address part all) where
  pub rows_for_there : (rows : List Row) → AreRowsWhere (Shows address) part window rows → AreRowsWhere (Shows address) all window rows
  rows_for_there rows are = record {
    ascend = are.ascend;
    each = λ row h. (same window row (are.holds row h)).0 (are.each row h);
    holds = are.holds;
    all = λ row is shows. are.all row ((same window row shows).1 is) shows;
  }

-- nothing is kept of nothing
pub none_kept : (kept : List Item) → AreKept kept [] → kept ≡ []
none_kept [] are = refl
none_kept (x ∷ kept) are = absurd (none_in x ((are x).0 (cons_first x kept)).best.is_heard)
