-- The rows that pass a test.
use Rattle.std.proofs.Common.{◌≡◌, ◌↔◌, ◌∙◌, ℕ, List, [], ◌∷◌, sym, ap, subst, inl, inr, Bool, true, cond, ◌||◌}
use Rattle.std.specs.List.{Contains, list_any, filter}
use Rattle.std.proofs.lemmas.List.Kept.{AllPairs-filter}
use Rattle.itip_items.specs.declared.item.Item.{Item}
use Rattle.itip_state.specs.Kept.{ArePart}
use Rattle.itip_state.proofs.Members.{by_bool, none_in, cons_cases, cons_first, cons_later}
use Rattle.std.specs.declared.cmp.Ordering.TheVariants.{Less}
use Rattle.itip_view.specs.RowsOfUid.{AreRowsOf}
use Rattle.itip_view.specs.Rows.{row_cmp}
use Rattle.itip_view.specs.Showing.{IsOf, AreRowsWhere}
use Rattle.itip_view.specs.declared.row.Row.{Row}
use Rattle.itip_view.specs.declared.window.Window.{Window}
use Rattle.itip_view.proofs.OfPart.{row_of_part, row_in_part}

module _ {X : Type 0} (p : X → Bool) where
  pub in_filter : (xs : List X) (x : X) → Contains (filter p xs) x → Contains xs x
  in_filter [] x h = absurd (none_in x h)
  in_filter (y ∷ ys) x h = by_bool (p y) (Contains (y ∷ ys) x)
      (λ yes. elim (cons_cases y (filter p ys) x (subst (λ b. Contains (cond b (y ∷ filter p ys) (filter p ys)) x) yes h)) [
        | inl same ↦ subst (Contains (y ∷ ys)) same (cons_first y ys)
        | inr rest ↦ cons_later y ys x (in_filter ys x rest)
      ])
      (λ no. cons_later y ys x (in_filter ys x (subst (λ b. Contains (cond b (y ∷ filter p ys) (filter p ys)) x) no h)))

  pub passes : (xs : List X) (x : X) → Contains (filter p xs) x → p x ≡ true
  passes [] x h = absurd (none_in x h)
  passes (y ∷ ys) x h = by_bool (p y) (p x ≡ true)
      (λ yes. elim (cons_cases y (filter p ys) x (subst (λ b. Contains (cond b (y ∷ filter p ys) (filter p ys)) x) yes h)) [
        | inl same ↦ subst (λ z. p z ≡ true) same yes
        | inr rest ↦ passes ys x rest
      ])
      (λ no. passes ys x (subst (λ b. Contains (cond b (y ∷ filter p ys) (filter p ys)) x) no h))

  pub into_filter : (xs : List X) (x : X) → Contains xs x → p x ≡ true → Contains (filter p xs) x
  into_filter [] x h pass = absurd (none_in x h)
  into_filter (y ∷ ys) x h pass = elim (cons_cases y ys x h) [
    | inl same ↦ subst (λ b. Contains (cond b (y ∷ filter p ys) (filter p ys)) x) (sym (subst (λ z. p z ≡ true) (sym same) pass))
        (subst (Contains (y ∷ filter p ys)) same (cons_first y (filter p ys)))
    | inr rest ↦ by_bool (p y) (Contains (filter p (y ∷ ys)) x)
        (λ yes. subst (λ b. Contains (cond b (y ∷ filter p ys) (filter p ys)) x) (sym yes)
        (cons_later y (filter p ys) x (into_filter ys x rest pass)))
        (λ no. subst (λ b. Contains (cond b (y ∷ filter p ys) (filter p ys)) x) (sym no) (into_filter ys x rest pass))
  ]

  pub found : (xs : List X) → list_any p xs ≡ true → (x : X) × Contains xs x × (p x ≡ true)
  found [] e = cc
  found (y ∷ ys) e = by_bool (p y) ((x : X) × Contains (y ∷ ys) x × (p x ≡ true))
      (λ yes. (y, cons_first y ys, yes))
      (λ no. let rest = found ys (subst (λ b. (b || list_any p ys) ≡ true) no e) in (rest.0, cons_later y ys rest.0 rest.1, rest.2))

  pub finds : (xs : List X) (x : X) → Contains xs x → p x ≡ true → list_any p xs ≡ true
  finds [] x h pass = absurd (none_in x h)
  finds (y ∷ ys) x h pass = elim (cons_cases y ys x h) [
    | inl same ↦ ap (λ b. b || list_any p ys) (subst (λ z. p z ≡ true) (sym same) pass)
    | inr rest ↦ by_bool (p y) (list_any p (y ∷ ys) ≡ true)
        (λ yes. ap (λ b. b || list_any p ys) yes)
        (λ no. ap (λ b. b || list_any p ys) no ∙ finds ys x rest pass)
  ]

-- of the rows of a UID, those that pass a test are the ones for which P, which the test decides, holds
module _ (heard : List Item) (window : Window) (uid : List ℕ) (P : Row → Type 0) (p : Row → Bool)
    (decides : (row : Row) → (p row ≡ true) ↔ P row) where
  pub rows_passing : (part : List Item) (rows : List Row) → ArePart uid part heard → AreRowsOf part window uid rows →
      AreRowsWhere (IsOf uid P) heard window (filter p rows)
  rows_passing part rows are of = record {
    ascend = AllPairs-filter (λ (a b : Row). row_cmp a b ≡ Less) p rows of.ascend;
    each = λ row h. let r = of.each row (in_filter p rows row h) in row_of_part uid part heard are window row r.1 r.0;
    holds = λ row h. record {
      uid_is = (of.each row (in_filter p rows row h)).1;
      holds = (decides row).0 (passes p rows row h);
    };
    all = λ row is of_uid. into_filter p rows row
        (of.all row (row_in_part uid part heard are window row of_uid.uid_is is) of_uid.uid_is)
        ((decides row).1 of_uid.holds);
  }
