-- The rows of several UIDs, one UID after another.
use Rattle.std.proofs.Common.{◌≡◌, ◌↔◌, ◌+◌, ◌<◌, ℕ, List, [], ◌∷◌, ◌++◌, sym, ◌∙◌, ap, subst, inl, inr, length, length-append}
use Rattle.std.specs.List.{Contains}
use Rattle.std.specs.Option.{option_cmp}
use Rattle.std.specs.Ordering.{nat_cmp, ordering_then}
use Rattle.std.specs.Cmp.Lexicographic.{slice_cmp}
use Rattle.std.specs.declared.cmp.Ordering.TheVariants.{Less}
use Rattle.std.proofs.lemmas.List.Elements.{Contains-append_cases, Contains-append_left, Contains-append_right, Contains-push}
use Rattle.std.proofs.lemmas.List.Elements.{Contains-push_cases}
use Rattle.itip_moment.specs.Order.{moment_cmp}
use Rattle.itip_items.specs.KeyParts.{uid_of}
use Rattle.itip_items.specs.declared.item.Item.{Item}
use Rattle.itip_state.specs.Kept.{AreUidsOf}
use Rattle.itip_state.proofs.Members.{none_in, no_pairs, pairs_append}
use Rattle.itip_view.specs.Rows.{IsRow, row_limit, moment_of, row_cmp}
use Rattle.itip_view.specs.Showing.{AreRowsWhere, AreTooManyWhere, IsOf, IsAmong}
use Rattle.itip_view.specs.declared.row.Row.{Row}
use Rattle.itip_view.specs.declared.window.Window.{Window}
use Rattle.itip_view.proofs.SameAsked.{rows_same, many_same}

module _ (heard : List Item) (window : Window) (P : Row → Type 0) where
  pub gather_none : AreRowsWhere (IsAmong [] P) heard window []
  gather_none = record {
    ascend = no_pairs (λ (a b : Row). row_cmp a b ≡ Less);
    each = λ row h. absurd (none_in row h);
    holds = λ row h. absurd (none_in row h);
    all = λ row is among. absurd (none_in row.uid among.uid_is);
  }

  module _ (done : List (List ℕ)) (rows : List Row) (so : AreRowsWhere (IsAmong done P) heard window rows) (uid : List ℕ)
      (more : List Row)
      (later : (u : List ℕ) → Contains done u → slice_cmp nat_cmp u uid ≡ Less) (of : AreRowsWhere (IsOf uid P) heard window more) where
    before : (row new : Row) → Contains rows row → Contains more new → row_cmp row new ≡ Less
    before row new h g =
        ap (λ o. ordering_then o (option_cmp moment_cmp (moment_of row.id) (moment_of new.id)))
        (ap (λ (u : List ℕ). slice_cmp nat_cmp row.uid u) (of.holds new g).uid_is ∙ later row.uid (so.holds row h).uid_is)

    pub gather_more : AreRowsWhere (IsAmong (done ++ uid ∷ []) P) heard window (rows ++ more)
    gather_more = record {
      ascend = pairs_append (λ (a b : Row). row_cmp a b ≡ Less) rows more so.ascend of.ascend before;
      each = λ row h. elim (Contains-append_cases rows more row h) [
        | inl earlier ↦ so.each row earlier
        | inr new ↦ of.each row new
      ];
      holds = λ row h. elim (Contains-append_cases rows more row h) [
        | inl earlier ↦ let r = so.holds row earlier in
            record { uid_is = Contains-append_left done (uid ∷ []) row.uid r.uid_is; holds = r.holds }
        | inr new ↦ let r = of.holds row new in
            record { uid_is = subst (Contains (done ++ uid ∷ [])) (sym r.uid_is) (Contains-push done uid); holds = r.holds }
      ];
      all = λ row is among. elim (Contains-push_cases done uid row.uid among.uid_is) [
        | inl earlier ↦ Contains-append_left rows more row (so.all row is (record { uid_is = earlier; holds = among.holds }))
        | inr same ↦ Contains-append_right rows more row (of.all row is (record { uid_is = sym same; holds = among.holds }))
      ];
    }

    -- with UIDs after these there are at least as many rows
    pub gather_too_many : (rest : List (List ℕ)) → row_limit < length rows + length more →
        AreTooManyWhere (IsAmong ((done ++ uid ∷ []) ++ rest) P) heard window
    gather_too_many rest over = record {
      some = rows ++ more;
      ascend = gather_more.ascend;
      each = gather_more.each;
      holds = λ row h. let r = gather_more.holds row h in
          record { uid_is = Contains-append_left (done ++ uid ∷ []) rest row.uid r.uid_is; holds = r.holds };
      many = rw (length-append rows more) over;
    }

module _ (heard : List Item) (window : Window) where
  -- each row is of a UID of which something was heard
  pub uid_of_row : (uids : List (List ℕ)) → ((item : Item) → Contains heard item → Contains uids (uid_of item.key)) → (row : Row) →
      IsRow heard window row → Contains uids row.uid
  uid_of_row uids of row (inl p) = subst (Contains uids) (ap uid_of p.live.stands.best.about) (of p.item p.live.stands.best.is_heard)
  uid_of_row uids of row (inr (inl p)) = subst (Contains uids) (ap uid_of p.live.best.about) (of p.item p.live.best.is_heard)
  uid_of_row uids of row (inr (inr (inl p))) =
      subst (Contains uids) (ap uid_of p.live_series.best.about) (of p.whole p.live_series.best.is_heard)
  uid_of_row uids of row (inr (inr (inr (inl p)))) = subst (Contains uids) (ap uid_of p.live.best.about) (of p.item p.live.best.is_heard)
  uid_of_row uids of row (inr (inr (inr (inr p)))) = subst (Contains uids) (ap uid_of p.live.best.about) (of p.item p.live.best.is_heard)

  -- those of all UIDs of which something was heard are all for which it holds
  module _ (uids : List (List ℕ)) (of : AreUidsOf uids heard) (P : Row → Type 0) where
    pub among_all : (row : Row) → (IsRow heard window row × IsAmong uids P row) ↔ (IsRow heard window row × P row)
    among_all row = (
      λ h. (h.0, h.1.holds),
      λ h. (h.0, record { uid_is = uid_of_row uids of.all row h.0; holds = h.1 }),
    )

    pub all_gathered : (rows : List Row) → AreRowsWhere (IsAmong uids P) heard window rows → AreRowsWhere P heard window rows
    all_gathered = rows_same (IsAmong uids P) P heard heard window among_all

    pub all_among : (rows : List Row) → AreRowsWhere P heard window rows → AreRowsWhere (IsAmong uids P) heard window rows
    all_among = rows_same P (IsAmong uids P) heard heard window (λ row. ((among_all row).1, (among_all row).0))

    pub all_too_many : AreTooManyWhere (IsAmong uids P) heard window → AreTooManyWhere P heard window
    all_too_many = many_same (IsAmong uids P) P heard heard window among_all
