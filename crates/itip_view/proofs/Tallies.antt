-- How many rows several UIDs have, and which of them has the most, UID by UID.
use Rattle.std.proofs.Common.{◌≡◌, ◌≤◌, ◌<◌, ◌+◌, ℕ, List, [], ◌∷◌, ◌++◌, refl, subst, length, length-append, min, arith}
use Rattle.std.proofs.Common.{Option, Some, None}
use Rattle.std.specs.List.{Contains}
use Rattle.std.specs.Ordering.{nat_cmp}
use Rattle.std.specs.Cmp.Lexicographic.{slice_cmp}
use Rattle.std.specs.declared.cmp.Ordering.TheVariants.{Less}
use Rattle.itip_items.specs.declared.item.Item.{Item}
use Rattle.itip_view.specs.UidWithMostRows.{HasRows, IsCountAmong}
use Rattle.itip_view.specs.Rows.{row_limit}
use Rattle.itip_view.specs.Showing.{AreRowsWhere, IsAmong}
use Rattle.itip_view.specs.declared.row_count.RowCount.TheVariants.{Few, TooMany}
use Rattle.itip_view.specs.declared.row.Row.{Row}
use Rattle.itip_view.specs.declared.window.Window.{Window}
use Rattle.itip_view.proofs.Gathering.{gather_none, gather_more}
use Rattle.itip_view.proofs.Leading.{Leads, leads_none, leads_next, leads_still}
use Rattle.itip_view.proofs.SameAsked.{over_limit}

-- the UIDs so far have `number` rows, as far as 64 bits go, and this UID has the most of them
pub record Tallied (P : Row → Type 0) (heard : List Item) (window : Window) (done : List (List ℕ)) (leader : Option (List ℕ))
    (most number : ℕ) : Type 0 where
  pub leads : Leads P heard window done leader most
  pub rows : List Row
  pub are_rows : AreRowsWhere (IsAmong done P) heard window rows
  pub number_is : number ≡ min (length rows) 18446744073709551615
  pub if_none : leader ≡ None → number ≡ 0

module _ (P : Row → Type 0) (heard : List Item) (window : Window) where
  pub tallied_none : Tallied P heard window [] None 0 0
  tallied_none = record {
    leads = leads_none P heard window;
    rows = [];
    are_rows = gather_none heard window P;
    number_is = omega arith;
    if_none = λ e. refl;
  }

  pub tallied_as : (done others : List (List ℕ)) (leader other : Option (List ℕ)) (most high number : ℕ) → done ≡ others →
      leader ≡ other → most ≡ high → Tallied P heard window done leader most number → Tallied P heard window others other high number
  tallied_as done others leader other most high number p q r so =
      subst (λ (n : ℕ). Tallied P heard window others other n number) r
      (subst (λ (o : Option (List ℕ)). Tallied P heard window others o most number) q
      (subst (λ (us : List (List ℕ)). Tallied P heard window us leader most number) p so))

  module _ (done : List (List ℕ)) (leader : Option (List ℕ)) (most number : ℕ) (so : Tallied P heard window done leader most number)
      (uid : List ℕ) (later : (u : List ℕ) → Contains done u → slice_cmp nat_cmp u uid ≡ Less) (count : ℕ)
      (has : HasRows P heard window uid count) (sum : ℕ) (sum_is : sum ≡ min (number + count) 18446744073709551615) where
    both : AreRowsWhere (IsAmong (done ++ uid ∷ []) P) heard window (so.rows ++ has.rows)
    both = gather_more heard window P done so.rows so.are_rows uid has.rows later has.are_rows

    both_long : sum ≡ min (length (so.rows ++ has.rows)) 18446744073709551615
    both_long =
        let long : length (so.rows ++ has.rows) ≡ length so.rows + length has.rows = length-append so.rows has.rows in
        let before : number ≡ min (length so.rows) 18446744073709551615 = so.number_is in
        let more : length has.rows ≡ count = has.number_is in
        omega (arith, sum_is, long, before, more)

    -- the next UID has more
    pub tallied_next : most < count → Tallied P heard window (done ++ uid ∷ []) (Some uid) count sum
    tallied_next more = record {
      leads = leads_next P heard window done uid later count has leader most so.leads more;
      rows = so.rows ++ has.rows;
      are_rows = both;
      number_is = both_long;
      if_none = λ e. absurd (let x : Some uid ≡ None = e in cc);
    }

    -- the next UID has no more
    pub tallied_still : count ≤ most → Tallied P heard window (done ++ uid ∷ []) leader most sum
    tallied_still few = record {
      leads = leads_still P heard window done uid later count has leader most so.leads few;
      rows = so.rows ++ has.rows;
      are_rows = both;
      number_is = both_long;
      if_none = λ e.
          let nothing : number ≡ 0 = so.if_none e in
          let least : most ≡ 0 = so.leads.if_none e in
          omega (arith, sum_is, nothing, least, few);
    }

  module _ (uids : List (List ℕ)) where
    pub few_tallied : (leader : Option (List ℕ)) (most number : ℕ) → Tallied P heard window uids leader most number → number ≤ row_limit →
        IsCountAmong P heard window uids (Few number)
    few_tallied leader most number so few = record {
      rows = so.rows;
      are_rows = so.are_rows;
      number_is = (let long : number ≡ min (length so.rows) 18446744073709551615 = so.number_is in omega (arith, long, few));
      few = few;
    }

    -- where no UID leads there is no row
    pub none_tallied : (most number : ℕ) → Tallied P heard window uids None most number → IsCountAmong P heard window uids (Few 0)
    none_tallied most number so =
        let nothing : number ≡ 0 = so.if_none refl in
        subst (λ (n : ℕ). IsCountAmong P heard window uids (Few n)) nothing (few_tallied None most number so (omega (arith, nothing)))

    pub many_tallied : (uid : List ℕ) (most number : ℕ) → Tallied P heard window uids (Some uid) most number → row_limit < number →
        IsCountAmong P heard window uids (TooMany (record { uid = uid; rows = most }))
    many_tallied uid most number so many = (
      over_limit (IsAmong uids P) heard window so.rows so.are_rows
          (let long : number ≡ min (length so.rows) 18446744073709551615 = so.number_is in omega (arith, long, many)),
      so.leads.among,
    )
