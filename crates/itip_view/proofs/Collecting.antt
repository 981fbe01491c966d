-- The rows of one UID, place by place.
use Rattle.std.proofs.Common.{◌≡◌, ◌<◌, ℕ, List, [], ◌∷◌, ◌++◌, sym, ◌∙◌, ap, subst, ◌⊎◌, inl, inr, arith, zero, suc, length, take, Option}
use Rattle.std.proofs.Common.{Some, None, get_or}
use Rattle.std.specs.List.{Contains, AllPairs}
use Rattle.std.specs.Option.{option_cmp, option_to_list}
use Rattle.std.specs.Ordering.{nat_cmp, ordering_then}
use Rattle.std.specs.Cmp.{tied_itself}
use Rattle.std.specs.Cmp.Lexicographic.{slice_cmp}
use Rattle.std.specs.declared.cmp.Ordering.TheVariants.{Less}
use Rattle.std.proofs.lemmas.Cmp.{nat_list_cmp_total}
use Rattle.std.proofs.lemmas.List.{append-nil}
use Rattle.std.proofs.lemmas.List.Elements.{Contains-append_left, Contains-get_or, Contains-push, Contains-push_cases}
use Rattle.std.proofs.lemmas.List.Quantifiers.{all_pairs_push}
use Rattle.itip_moment.specs.Order.{moment_cmp}
use Rattle.itip_moment.specs.declared.moment.Moment.{Moment}
use Rattle.itip_items.specs.declared.item.Item.{Item}
use Rattle.itip_state.proofs.Members.{none_in, cons_cases, no_pairs}
use Rattle.itip_view.specs.RowsOfUid.{IsRowAt, IsAnswerAt, ArePlaces, AreRowsOf}
use Rattle.itip_view.specs.Rows.{IsRow, IsInstanceRow, IsOccurrenceRow, IsRangeRow, IsSingleRow, IsOpaqueRow, AscendRows, moment_of}
use Rattle.itip_view.specs.Rows.{row_cmp}
use Rattle.itip_view.specs.Standing.{IsLiveSeries, Stands}
use Rattle.itip_view.specs.declared.row.Row.{Row}
use Rattle.itip_view.specs.declared.window.Window.{Window}
use Rattle.itip_state.proofs.OfKey.{head_pair, tail_pairs}
use Rattle.itip_view.proofs.OneRow.{one_place}

-- the row is without a moment, or at one of these
abbrev pub IsNamedIn : List Moment → Row → Type 0
IsNamedIn done row = (moment_of row.id ≡ None) ⊎ ((at : Moment) × Contains done at × (moment_of row.id ≡ Some at))

-- the row without a moment, and those at these moments
pub record RowsUpTo (items : List Item) (window : Window) (uid : List ℕ) (done : List Moment) (rows : List Row) : Type 0 where
  pub ascend : AscendRows rows
  pub each : (row : Row) → Contains rows row → IsRow items window row × (row.uid ≡ uid) × IsNamedIn done row
  pub whole : (row : Row) → IsRowAt items window uid None row → Contains rows row
  pub at : (at : Moment) (row : Row) → Contains done at → IsRowAt items window uid (Some at) row → Contains rows row

module _ (items : List Item) (window : Window) (uid : List ℕ) where
  same_row : (m : Option Moment) (a b : Row) → IsRowAt items window uid m a → IsRowAt items window uid m b → a ≡ b
  same_row m a b p q = one_place items window a b (p.uid_is ∙ sym q.uid_is) (p.at_is ∙ sym q.at_is) p.is_row q.is_row

  in_one : (x y : Row) → Contains (x ∷ []) y → x ≡ y
  in_one x y h = elim (Contains-push_cases [] x y h) [ inl none ↦ absurd (none_in y none) | inr same ↦ same ]

  pub rows_begin : (o : Option Row) → IsAnswerAt items window uid None o → RowsUpTo items window uid [] (option_to_list o)
  rows_begin None none = record {
    ascend = no_pairs (λ (a b : Row). row_cmp a b ≡ Less);
    each = λ row h. absurd (none_in row h);
    whole = λ row is. absurd (none row is);
    at = λ at row h. absurd (none_in at h);
  }
  rows_begin (Some one) is = record {
    ascend = all_pairs_push (λ (a b : Row). row_cmp a b ≡ Less) [] one (no_pairs (λ (a b : Row). row_cmp a b ≡ Less))
        (λ k d below. absurd (omega (arith, below)));
    each = λ row h. subst (λ (r : Row). IsRow items window r × (r.uid ≡ uid) × IsNamedIn [] r) (in_one one row h) (
      is.is_row,
      is.uid_is,
      inl is.at_is,
    );
    whole = λ row also. subst (Contains (one ∷ [])) (same_row None one row is also) (Contains-push [] one);
    at = λ at row h. absurd (none_in at h);
  }

  module _ (done : List Moment) (next : Moment) (rows : List Row) (so : RowsUpTo items window uid done rows) where
    more_named : (row : Row) → IsNamedIn done row → IsNamedIn (done ++ next ∷ []) row
    more_named row (inl none) = inl none
    more_named row (inr (at, h, is)) = inr (at, Contains-append_left done (next ∷ []) at h, is)

    rows_pass : ((row : Row) → IsRowAt items window uid (Some next) row → ⊥) → RowsUpTo items window uid (done ++ next ∷ []) rows
    rows_pass none = record {
      ascend = so.ascend;
      each = λ row h. let r = so.each row h in (r.0, r.1, more_named row r.2);
      whole = so.whole;
      at = λ at row h is. elim (Contains-push_cases done next at h) [
        | inl earlier ↦ so.at at row earlier is
        | inr same ↦ absurd (none row (subst (λ (m : Moment). IsRowAt items window uid (Some m) row) (sym same) is))
      ];
    }

    module _ (later : (at : Moment) → Contains done at → moment_cmp at next ≡ Less) where
      before_next : (m : Option Moment) → ((m ≡ None) ⊎ ((at : Moment) × Contains done at × (m ≡ Some at))) →
          option_cmp moment_cmp m (Some next) ≡ Less
      before_next m (inl none) = ap (λ (o : Option Moment). option_cmp moment_cmp o (Some next)) none
      before_next m (inr (at, h, is)) = ap (λ (o : Option Moment). option_cmp moment_cmp o (Some next)) is ∙ later at h

      before : (new row : Row) → IsRowAt items window uid (Some next) new → Contains rows row → row_cmp row new ≡ Less
      before new row is h =
          let r = so.each row h in
          ap (λ (u : List ℕ). ordering_then (slice_cmp nat_cmp u new.uid) (option_cmp moment_cmp (moment_of row.id) (moment_of new.id)))
          (r.1 ∙ sym is.uid_is)
          ∙ ap (λ o. ordering_then o (option_cmp moment_cmp (moment_of row.id) (moment_of new.id))) (tied_itself nat_list_cmp_total new.uid)
          ∙ ap (λ (o : Option Moment). option_cmp moment_cmp (moment_of row.id) o) is.at_is ∙ before_next (moment_of row.id) r.2

      rows_more : (new : Row) → IsRowAt items window uid (Some next) new → RowsUpTo items window uid (done ++ next ∷ []) (rows ++ new ∷ [])
      rows_more new is = record {
        ascend = all_pairs_push (λ (a b : Row). row_cmp a b ≡ Less) rows new so.ascend
            (λ k d below. before new (get_or rows k d) is (Contains-get_or rows k d below));
        each = λ row h. elim (Contains-push_cases rows new row h) [
          | inl earlier ↦ let r = so.each row earlier in (r.0, r.1, more_named row r.2)
          | inr same ↦ subst (λ (r : Row). IsRow items window r × (r.uid ≡ uid) × IsNamedIn (done ++ next ∷ []) r) same (
            is.is_row,
            is.uid_is,
            inr (next, Contains-push done next, is.at_is),
          )
        ];
        whole = λ row also. Contains-append_left rows (new ∷ []) row (so.whole row also);
        at = λ at row h also. elim (Contains-push_cases done next at h) [
          | inl earlier ↦ Contains-append_left rows (new ∷ []) row (so.at at row earlier also)
          | inr same ↦ subst (Contains (rows ++ new ∷ []))
              (same_row (Some next) new row is (subst (λ (m : Moment). IsRowAt items window uid (Some m) row) (sym same) also))
              (Contains-push rows new)
        ];
      }

      pub rows_next : (row : Option Row) → IsAnswerAt items window uid (Some next) row →
          RowsUpTo items window uid (done ++ next ∷ []) (rows ++ option_to_list row)
      rows_next None none =
          subst (λ (rs : List Row). RowsUpTo items window uid (done ++ next ∷ []) rs) (sym (append-nil rows)) (rows_pass none)
      rows_next (Some new) is = rows_more new is

  -- with all places the rows are those of the UID
  pub rows_of_places : (places : List Moment) (rows : List Row) → ArePlaces items window uid places →
      RowsUpTo items window uid places rows → AreRowsOf items window uid rows
  rows_of_places places rows are so = record {
    ascend = so.ascend;
    each = λ row h. let r = so.each row h in (r.0, r.1);
    all = λ row is here. by row here is;
  }
    where
      by : (row : Row) → row.uid ≡ uid → IsInstanceRow items window row ⊎
          (IsOccurrenceRow items window row ⊎ (IsRangeRow items window row ⊎
          (IsSingleRow items window row ⊎ IsOpaqueRow items window row))) →
          Contains rows row
      by row here (inl p) =
          so.at p.at row (are.instances p.at p.item (subst (λ (u : List ℕ). Stands items u p.at p.item) here p.live.stands))
          (record { is_row = inl p; uid_is = here; at_is = ap moment_of p.id })
      by row here (inr (inl p)) = so.at p.at row
          (are.occurrences p.at (record {
            item = p.item;
            series = p.series;
            live =
                subst (λ (u : List ℕ). IsLiveSeries items u p.item) here p.live;
            repeats = p.repeats;
            occurs = p.occurs;
          }))
          (record { is_row = inr (inl p); uid_is = here; at_is = ap moment_of p.id })
      by row here (inr (inr (inl p))) = so.at p.at row
          (are.occurrences p.at (record {
            item = p.whole;
            series = p.series;
            live =
                subst (λ (u : List ℕ). IsLiveSeries items u p.whole) here p.live_series;
            repeats = p.repeats;
            occurs = p.occurs;
          }))
          (record { is_row = inr (inr (inl p)); uid_is = here; at_is = ap moment_of p.id })
      by row here (inr (inr (inr (inl p)))) =
          so.whole row (record { is_row = inr (inr (inr (inl p))); uid_is = here; at_is = ap moment_of p.id })
      by row here (inr (inr (inr (inr p)))) =
          so.whole row (record { is_row = inr (inr (inr (inr p))); uid_is = here; at_is = ap moment_of p.id })

-- what comes before a moment in an ascending list is before it
pub earlier_before : {X : Type 0} (R : X → X → Type 0) (xs : List X) (i : ℕ) (x : X) → AllPairs R xs → i < length xs → x ≡ get_or xs i x →
    (y : X) → Contains (take i xs) y → R y x
earlier_before R [] i x p below is y h = absurd (omega (arith, below))
earlier_before R (z ∷ zs) zero x p below is y h = absurd (none_in y h)
earlier_before R (z ∷ zs) (suc i) x p below is y h = elim (cons_cases z (take i zs) y h) [
  | inl same ↦ subst (λ (w : _). R w x) same (head_pair R z zs p x (i, omega (arith, below), sym is))
  | inr rest ↦ earlier_before R zs i x (tail_pairs R z zs p) (omega (arith, below)) is y rest
]
