-- Each item that drafts give is of one of them, and each of them gives one.
use Rattle.std.proofs.Common.{List, [], ◌∷◌, subst, inl, inr}
use Rattle.std.specs.List.{AllZip, Contains}
use Rattle.itip_items.specs.Items.{ItemDraft}
use Rattle.itip_items.specs.Given.{IsItemOf, AreItemsOf}
use Rattle.itip_items.specs.declared.item.Item.{Item}
use Rattle.itip_state.proofs.Members.{none_in, cons_cases, cons_first, cons_later}

-- two lists related element by element: each element of one is related to one of the other
module _ {X Y : Type 0} (R : X → Y → Type 0) where
  pub record HasLeft (xs : List X) (y : Y) : Type 0 where
    pub one : X
    pub there : Contains xs one
    pub related : R one y

  pub record HasRight (x : X) (ys : List Y) : Type 0 where
    pub one : Y
    pub there : Contains ys one
    pub related : R x one

  pub left_of : (xs : List X) (ys : List Y) → AllZip R xs ys → (y : Y) → Contains ys y → HasLeft xs y
  left_of [] [] all y h = absurd (none_in y h)
  left_of [] (z ∷ ys) all y h = absurd all
  left_of (x ∷ xs) [] all y h = absurd all
  left_of (x ∷ xs) (z ∷ ys) all y h = elim (cons_cases z ys y h) [
    | inl same ↦ record { one = x; there = cons_first x xs; related = subst (R x) same all.0 }
    | inr rest ↦
        let found = left_of xs ys all.1 y rest in
        record { one = found.one; there = cons_later x xs found.one found.there; related = found.related }
  ]

  pub right_of : (xs : List X) (ys : List Y) → AllZip R xs ys → (x : X) → Contains xs x → HasRight x ys
  right_of [] [] all x h = absurd (none_in x h)
  right_of [] (z ∷ ys) all x h = absurd all
  right_of (w ∷ xs) [] all x h = absurd all
  right_of (w ∷ xs) (z ∷ ys) all x h = elim (cons_cases w xs x h) [
    | inl same ↦ record { one = z; there = cons_first z ys; related = subst (λ (v : X). R v z) same all.0 }
    | inr rest ↦
        let found = right_of xs ys all.1 x rest in
        record { one = found.one; there = cons_later z ys found.one found.there; related = found.related }
  ]

pub zip_items : (ds : List ItemDraft) (items : List Item) → AreItemsOf ds items → AllZip IsItemOf ds items
zip_items [] [] are = tt
zip_items [] (i ∷ items) are = absurd are
zip_items (d ∷ ds) [] are = absurd are
zip_items (d ∷ ds) (i ∷ items) are = (are.0, zip_items ds items are.1)
