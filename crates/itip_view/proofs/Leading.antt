-- Which of several UIDs has the most rows.
use Rattle.std.proofs.Common.{◌≡◌, ◌≢◌, ◌<◌, ◌≤◌, ◌∙◌, ℕ, List, [], ◌∷◌, ◌++◌, refl, sym, ap, subst, ◌⊎◌, inl, inr, length, arith, Option}
use Rattle.std.proofs.Common.{Some, None}
use Rattle.std.specs.List.{Contains}
use Rattle.std.specs.Ordering.{nat_cmp}
use Rattle.std.specs.Cmp.Lexicographic.{slice_cmp, bytes_decides}
use Rattle.std.specs.declared.cmp.Ordering.TheVariants.{Less}
use Rattle.std.proofs.lemmas.Bool.{false≢true}
use Rattle.std.proofs.lemmas.Cmp.{nat_list_cmp_total}
use Rattle.std.proofs.lemmas.List.Elements.{Contains-append_left, Contains-push, Contains-push_cases}
use Rattle.itip_todo.specs.Participation.{same_text}
use Rattle.itip_items.specs.declared.item.Item.{Item}
use Rattle.itip_state.specs.Kept.{AreKept, AreUidsOf}
use Rattle.itip_state.proofs.Keeping.{kept_again}
use Rattle.itip_state.proofs.Members.{by_bool, none_in, cons_first}
use Rattle.itip_state.proofs.OneOrder.{less_one_way}
use Rattle.itip_view.specs.UidWithMostRows.{HasRows, HasMost, IsMostOf, IsMostAmong}
use Rattle.itip_view.specs.Rows.{IsRow}
use Rattle.itip_view.specs.Showing.{AreRowsWhere, IsOf}
use Rattle.itip_view.specs.declared.row_count.MostRows.{MostRows}
use Rattle.itip_view.specs.declared.row.Row.{Row}
use Rattle.itip_view.specs.declared.window.Window.{Window}
use Rattle.itip_view.proofs.Alike.{KeepAlike, alike_back}
use Rattle.itip_view.proofs.Gathering.{uid_of_row}
use Rattle.itip_view.proofs.OfKept.{row_of_same}
use Rattle.itip_view.proofs.OneList.{one_where}
use Rattle.itip_view.proofs.SameAsked.{rows_same}

abbrev pub led_by : Option (List ℕ) → ℕ → Option MostRows
led_by None most = None
led_by (Some uid) most = Some (record { uid = uid; rows = most })

-- of the UIDs so far this one has the most rows, or none has any
pub record Leads (P : Row → Type 0) (heard : List Item) (window : Window) (done : List (List ℕ)) (leader : Option (List ℕ)) (most : ℕ) :
    Type 0 where
  pub among : IsMostAmong P heard window done (led_by leader most)
  pub if_none : leader ≡ None → most ≡ 0

-- there is none in an empty list
none_there : (rows : List Row) (row : Row) → length rows ≡ 0 → Contains rows row → ⊥
none_there rows row nothing h = let below : h.0 < length rows = h.1 in omega (arith, nothing, below)

same_or_apart : (x y : List ℕ) → (x ≡ y) ⊎ (x ≢ y)
same_or_apart x y = by_bool (same_text x y) ((x ≡ y) ⊎ (x ≢ y))
    (λ yes. inl ((bytes_decides x y).0 yes))
    (λ no. inr (λ same. false≢true (sym no ∙ (bytes_decides x y).1 same)))

module _ (P : Row → Type 0) (heard : List Item) (window : Window) where
  one_number : (uid : List ℕ) (m n : ℕ) → HasRows P heard window uid m → HasRows P heard window uid n → m ≡ n
  one_number uid m n a b =
      sym a.number_is ∙ ap length (one_where (IsOf uid P) heard window a.rows b.rows a.are_rows b.are_rows) ∙ b.number_is

  pub leads_none : Leads P heard window [] None 0
  leads_none = record { among = λ uid h. absurd (none_in uid h); if_none = λ e. refl }

  pub leads_as : (done others : List (List ℕ)) (leader other : Option (List ℕ)) (most number : ℕ) → done ≡ others → leader ≡ other →
      most ≡ number → Leads P heard window done leader most → Leads P heard window others other number
  leads_as done others leader other most number p q r so =
      subst (λ (n : ℕ). Leads P heard window others other n) r
      (subst (λ (o : Option (List ℕ)). Leads P heard window others o most) q
      (subst (λ (us : List (List ℕ)). Leads P heard window us leader most) p so))

  -- no UID so far has more than the one that leads
  few_before : (done : List (List ℕ)) (leader : Option (List ℕ)) (most : ℕ) → Leads P heard window done leader most → (other : List ℕ)
      (n : ℕ) → Contains done other → HasRows P heard window other n → n ≤ most
  few_before done None most so other n h r =
      let nothing : n ≡ 0 = one_number other n 0 r (so.among other h) in omega (arith, nothing)
  few_before done (Some uid) most so other n h r = so.among.no_more other n h r

  module _ (done : List (List ℕ)) (uid : List ℕ) (later : (u : List ℕ) → Contains done u → slice_cmp nat_cmp u uid ≡ Less) (number : ℕ)
      (has : HasRows P heard window uid number) where
    few_with : (bound : ℕ) → ((other : List ℕ) (n : ℕ) → Contains done other → HasRows P heard window other n → n ≤ bound) →
        number ≤ bound → (other : List ℕ) (n : ℕ) → Contains (done ++ uid ∷ []) other → HasRows P heard window other n → n ≤ bound
    few_with bound before here other n h r = elim (Contains-push_cases done uid other h) [
      | inl earlier ↦ before other n earlier r
      | inr same ↦
          (let one : n ≡ number = one_number uid n number (subst (λ (u : List ℕ). HasRows P heard window u n) (sym same) r) has in
          omega (arith, one, here))
    ]

    -- the next UID has more
    pub leads_next : (leader : Option (List ℕ)) (most : ℕ) → Leads P heard window done leader most → most < number →
        Leads P heard window (done ++ uid ∷ []) (Some uid) number
    leads_next leader most so more =
        let some : 0 < number = omega (arith, more) in
        let itself : number ≤ number = omega arith in
        let fewer : (other : List ℕ) (n : ℕ) → Contains done other → HasRows P heard window other n → n < number = λ other n h r.
        (let few : n ≤ most = few_before done leader most so other n h r in omega (arith, few, more)) in
        record {
          among = record {
            there = Contains-push done uid;
            some = some;
            has = has;
            no_more = few_with number (λ other n h r. (let less : n < number = fewer other n h r in omega (arith, less))) itself;
            least = λ other h r apart. elim (Contains-push_cases done uid other h) [
              | inl earlier ↦ absurd (let less : number < number = fewer other number earlier r in omega (arith, less))
              | inr same ↦ absurd (apart (sym same))
            ];
          };
          if_none = λ e. absurd (let x : Some uid ≡ None = e in cc);
        }

    -- the next UID has no more
    pub leads_still : (leader : Option (List ℕ)) (most : ℕ) → Leads P heard window done leader most → number ≤ most →
        Leads P heard window (done ++ uid ∷ []) leader most
    leads_still None most so few =
        let none : most ≡ 0 = so.if_none refl in
        let nothing : number ≡ 0 = omega (arith, none, few) in
        record {
          among = λ other h. elim (Contains-push_cases done uid other h) [
            | inl earlier ↦ so.among other earlier
            | inr same ↦ subst (λ (u : List ℕ). HasRows P heard window u 0) same
                (subst (λ (n : ℕ). HasRows P heard window uid n) nothing has)
          ];
          if_none = so.if_none;
        }
    leads_still (Some first) most so few = record {
      among = record {
        there = Contains-append_left done (uid ∷ []) first so.among.there;
        some = so.among.some;
        has = so.among.has;
        no_more = few_with most so.among.no_more few;
        least = λ other h r apart. elim (Contains-push_cases done uid other h) [
          | inl earlier ↦ so.among.least other earlier r apart
          | inr same ↦ subst (λ (u : List ℕ). slice_cmp nat_cmp first u ≡ Less) same (later first so.among.there)
        ];
      };
      if_none = λ e. absurd (let x : Some first ≡ None = e in cc);
    }

  module _ (uids : List (List ℕ)) (of : AreUidsOf uids heard) where
    -- a UID that is none of these has no row
    there_or_none : (uid : List ℕ) (rows : List Row) → AreRowsWhere (IsOf uid P) heard window rows → (length rows ≡ 0) ⊎ Contains uids uid
    there_or_none uid [] are = inl refl
    there_or_none uid (row ∷ rows) are =
        let first : Contains (row ∷ rows) row = cons_first row rows in
        inr (subst (Contains uids) (are.holds row first).uid_is (uid_of_row heard window uids of.all row (are.each row first)))

    pub most_of_all : (most : Option MostRows) → IsMostAmong P heard window uids most → IsMostOf P heard window most
    most_of_all None none = λ row is holds.
        let has : HasRows P heard window row.uid 0 = none row.uid (uid_of_row heard window uids of.all row is) in
        none_there has.rows row has.number_is (has.are_rows.all row is (record { uid_is = refl; holds = holds }))
    most_of_all (Some most) is = record {
      some = is.some;
      has = is.has;
      no_more = λ uid n r. elim (there_or_none uid r.rows r.are_rows) [
        | inl nothing ↦ (let number : length r.rows ≡ n = r.number_is in omega (arith, nothing, number))
        | inr there ↦ is.no_more uid n there r
      ];
      least = λ uid r apart. elim (there_or_none uid r.rows r.are_rows) [
        | inl nothing ↦
            absurd (let number : length r.rows ≡ most.rows = r.number_is in let some : 0 < most.rows = is.some in
            omega (arith, nothing, number, some))
        | inr there ↦ is.least uid there r apart
      ];
    }

  -- one UID at most has the most rows
  first_row : (uid : List ℕ) (rows : List Row) → AreRowsWhere (IsOf uid P) heard window rows → 0 < length rows →
      ((row : Row) → IsRow heard window row → ¬ P row) → ⊥
  first_row uid [] are some none = omega (arith, some)
  first_row uid (row ∷ rows) are some none =
      let first : Contains (row ∷ rows) row = cons_first row rows in none row (are.each row first) (are.holds row first).holds

  has_row : (most : MostRows) → HasMost P heard window most → ((row : Row) → IsRow heard window row → ¬ P row) → ⊥
  has_row most is =
      let number : length is.has.rows ≡ most.rows = is.has.number_is in
      let some : 0 < most.rows = is.some in
      first_row most.uid is.has.rows is.has.are_rows (omega (arith, number, some))

  one_uid : (most other : MostRows) → HasMost P heard window most → HasMost P heard window other → most.rows ≡ other.rows →
      most.uid ≡ other.uid
  one_uid most other a b same = elim (same_or_apart most.uid other.uid) [
    | inl one ↦ one
    | inr apart ↦ absurd (less_one_way nat_list_cmp_total most.uid other.uid
        (a.least other.uid (subst (λ (n : ℕ). HasRows P heard window other.uid n) (sym same) b.has) (λ e. apart (sym e)))
        (b.least most.uid (subst (λ (n : ℕ). HasRows P heard window most.uid n) same a.has) apart))
  ]

  pub one_most : (most other : Option MostRows) → IsMostOf P heard window most → IsMostOf P heard window other → most ≡ other
  one_most None None a b = refl
  one_most None (Some other) a b = absurd (has_row other b a)
  one_most (Some most) None a b = absurd (has_row most a b)
  one_most (Some most) (Some other) a b =
      let low : most.rows ≤ other.rows = b.no_more most.uid most.rows a.has in
      let high : other.rows ≤ most.rows = a.no_more other.uid other.rows b.has in
      let rows : most.rows ≡ other.rows = omega (arith, low, high) in
      let uid : most.uid ≡ other.uid = one_uid most other a b rows in
      λ i. Some (record { uid = uid i; rows = rows i })

-- what is kept has it where all that was heard has it
module _ (P : Row → Type 0) (window : Window) where
  has_alike : (x y : List Item) → KeepAlike x y → (uid : List ℕ) (n : ℕ) → HasRows P x window uid n → HasRows P y window uid n
  has_alike x y same uid n r = record {
    rows = r.rows;
    are_rows = rows_same (IsOf uid P) (IsOf uid P) x y window (λ row. (
      λ h. (row_of_same x y same window row h.0, h.1),
      λ h. (row_of_same y x (alike_back x y same) window row h.0, h.1),
    )) r.rows r.are_rows;
    number_is = r.number_is;
  }

  pub most_of_kept : (kept heard : List Item) → AreKept kept heard → (most : Option MostRows) → IsMostOf P kept window most →
      IsMostOf P heard window most
  most_of_kept kept heard are None none = λ row is.
      none row (row_of_same heard kept (alike_back kept heard (kept_again kept heard are)) window row is)
  most_of_kept kept heard are (Some most) is =
      let same = kept_again kept heard are in
      let back = alike_back kept heard same in
      record {
        some = is.some;
        has = has_alike kept heard same most.uid most.rows is.has;
        no_more = λ uid n r. is.no_more uid n (has_alike heard kept back uid n r);
        least = λ uid r apart. is.least uid (has_alike heard kept back uid most.rows r) apart;
      }
