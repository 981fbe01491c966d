-- Sets that share no UID: the rows of both, and what is kept of both, are those of each.
use Rattle.std.proofs.Common.{◌≡◌, ◌↔◌, ◌⊎◌, ℕ, List, [], ◌∷◌, ◌++◌, refl, sym, inl, inr}
use Rattle.std.specs.List.{Contains}
use Rattle.std.proofs.lemmas.List.Elements.{Contains-append_cases, Contains-append_left, Contains-append_right}
use Rattle.itip_items.specs.KeyParts.{uid_of}
use Rattle.itip_items.specs.declared.item.Item.{Item}
use Rattle.itip_items.specs.declared.key.Key.TheVariants.{Series}
use Rattle.itip_state.specs.Kept.{IsKept}
use Rattle.itip_state.proofs.Members.{none_in, cons_first, cons_later}
use Rattle.itip_view.specs.Blocks.{ShareNoUid, joined}
use Rattle.itip_view.specs.RowDays.{HasRowsIn}
use Rattle.itip_view.specs.Rows.{IsRow}
use Rattle.itip_view.specs.declared.row.Row.{Row}
use Rattle.itip_view.specs.declared.window.Window.{Window}
use Rattle.itip_view.proofs.Needing.{row_needs_days}
use Rattle.itip_view.proofs.OfPart.{HaveSameBest, swapped, part_same, row_there}

-- an item of a set is about the UID
record IsAbout (heard : List Item) (uid : List ℕ) : Type 0 where
  item : Item
  is_heard : Contains heard item
  about : uid_of item.key ≡ uid

about_row : (heard : List Item) (window : Window) (row : Row) → IsRow heard window row → IsAbout heard row.uid
about_row heard window row is =
    let need : HasRowsIn heard window row.uid = row_needs_days heard window row is in
    record { item = need.item; is_heard = need.is_heard; about = need.about }

about_itself : (heard : List Item) (item : Item) → Contains heard item → IsAbout heard (uid_of item.key)
about_itself heard item h = record { item = item; is_heard = h; about = refl }

-- sets that have the same best items of a UID keep the same of it
kept_there : (x y : List Item) (item : Item) → HaveSameBest (uid_of item.key) x y → IsKept x item → IsKept y item
kept_there x y item same kept = record {
  best = (same item.key refl item).0 kept.best;
  alive = λ dead. kept.alive (record {
    can_die = dead.can_die;
    series = dead.series;
    best = (same (Series (uid_of item.key)) refl dead.series).1 dead.best;
    below = dead.below;
  });
}

module _ (x y : List Item) (apart : ShareNoUid x y) where
  first_best : (uid : List ℕ) → IsAbout x uid → HaveSameBest uid x (x ++ y)
  first_best = part_same (IsAbout x) x (x ++ y) (λ item. (
    λ h. (Contains-append_left x y item h, about_itself x item h),
    λ h. elim (Contains-append_cases x y item h.0) [
      | inl here ↦ here
      | inr other ↦ absurd (apart h.1.item item h.1.is_heard other h.1.about)
    ],
  ))

  later_best : (uid : List ℕ) → IsAbout y uid → HaveSameBest uid y (x ++ y)
  later_best = part_same (IsAbout y) y (x ++ y) (λ item. (
    λ h. (Contains-append_right x y item h, about_itself y item h),
    λ h. elim (Contains-append_cases x y item h.0) [
      | inl other ↦ absurd (apart item h.1.item other h.1.is_heard (sym h.1.about))
      | inr here ↦ here
    ],
  ))

  -- if something is about the UID, one set or the other has the same best items of it
  best_of_two : (uid : List ℕ) → IsAbout (x ++ y) uid → HaveSameBest uid (x ++ y) x ⊎ HaveSameBest uid (x ++ y) y
  best_of_two uid is = elim (Contains-append_cases x y is.item is.is_heard) [
    | inl here ↦ inl (swapped uid x (x ++ y) (first_best uid (record { item = is.item; is_heard = here; about = is.about })))
    | inr here ↦ inr (swapped uid y (x ++ y) (later_best uid (record { item = is.item; is_heard = here; about = is.about })))
  ]

  pub row_of_two : (window : Window) (row : Row) → IsRow (x ++ y) window row ↔ (IsRow x window row ⊎ IsRow y window row)
  row_of_two window row = (
    λ is. elim (best_of_two row.uid (about_row (x ++ y) window row is)) [
      | inl same ↦ inl (row_there (x ++ y) x window row same is)
      | inr same ↦ inr (row_there (x ++ y) y window row same is)
    ],
    λ either. elim either [
      | inl is ↦ row_there x (x ++ y) window row (first_best row.uid (about_row x window row is)) is
      | inr is ↦ row_there y (x ++ y) window row (later_best row.uid (about_row y window row is)) is
    ],
  )

  pub kept_of_two : (item : Item) → IsKept (x ++ y) item ↔ (IsKept x item ⊎ IsKept y item)
  kept_of_two item = (
    λ kept. elim (best_of_two (uid_of item.key) (about_itself (x ++ y) item kept.best.is_heard)) [
      | inl same ↦ inl (kept_there (x ++ y) x item same kept)
      | inr same ↦ inr (kept_there (x ++ y) y item same kept)
    ],
    λ either. elim either [
      | inl kept ↦ kept_there x (x ++ y) item (first_best (uid_of item.key) (about_itself x item kept.best.is_heard)) kept
      | inr kept ↦ kept_there y (x ++ y) item (later_best (uid_of item.key) (about_itself y item kept.best.is_heard)) kept
    ],
  )

-- a set that shares no UID with each of some others shares none with all of them
pub apart_from_all : (part : List Item) (others : List (List Item)) →
    ((other : List Item) → Contains others other → ShareNoUid part other) → ShareNoUid part (joined others)
apart_from_all part [] apart a b h g = absurd (none_in b g)
apart_from_all part (other ∷ others) apart a b h g = elim (Contains-append_cases other (joined others) b g) [
  | inl here ↦ apart other (cons_first other others) a b h here
  | inr later ↦ apart_from_all part others (λ one there. apart one (cons_later other others one there)) a b h later
]
