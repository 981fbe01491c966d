-- What holds if nothing is news, or nothing is there.
use Rattle.std.proofs.Common.{◌≡◌, ◌↔◌, ℕ, List, [], ◌∷◌, ◌++◌, ◌<◌, ◌≤◌, ◌⊎◌, inl, inr, refl}
use Rattle.std.proofs.Common.{sym, ◌∙◌, ap, subst, Bool, true, false, nat_lt, length, map, get_or, arith, append-nil}
use Rattle.std.specs.List.{Contains}
use Rattle.std.specs.Ordering.{nat_cmp}
use Rattle.std.specs.Cmp.Lexicographic.{slice_cmp}
use Rattle.std.specs.declared.cmp.Ordering.TheVariants.{Less}
use Rattle.std.proofs.Math.ListN.{get_or-map}
use Rattle.std.proofs.lemmas.List.{length-map}
use Rattle.std.proofs.lemmas.List.Elements.{Contains-append_left, Contains-append_right}
use Rattle.itip_items.specs.KeyParts.{uid_of}
use Rattle.itip_items.specs.declared.item.Item.{Item}
use Rattle.itip_items.specs.declared.key.Key.{Key}
use Rattle.itip_items.specs.declared.key.Key.TheVariants.{Series}
use Rattle.itip_state.specs.DyingLaws.{less_from, from_less}
use Rattle.std.specs.Map.{keys_of}
use Rattle.itip_join.specs.declared.lift.Lift.TheVariants.{Known}
use Rattle.itip_state.specs.Held.{UidState, Best, can_die, items_of, series_items, series_list, uid_state_items, AreSound, HoldKept}
use Rattle.itip_state.specs.Kept.{IsBest, IsKept, IsDead, CanDie, AreKept, AreSeriesOf, AreUidsOf, IsItemsOf}
use Rattle.itip_state.specs.Order.{IsBelow}
use Rattle.itip_state.specs.Told.{AreOutdone, AreNews}
use Rattle.itip_state.proofs.Best.{has_best, best_above}
use Rattle.itip_state.proofs.Keeping.{eff_up, best_part, series_kept, kept_beside}
use Rattle.itip_state.proofs.Maps.{held_state}
use Rattle.itip_state.proofs.Members.{by_bool, none_in, cons_first, no_pairs}
use Rattle.itip_state.proofs.News.{news_kept}
use Rattle.itip_state.proofs.Tests.{dies, can}

-- an item is dead beside a set, or it is not
told_dead : (heard : List Item) (b : Item) → IsDead heard b ⊎ (¬ IsDead heard b)
told_dead heard b = by_bool (can_die b.key) (IsDead heard b ⊎ (¬ IsDead heard b)) dying
    (λ never. inr (λ dead. let x : true ≡ false = sym (can b.key dead.can_die) ∙ never in cc))
  where
    dying : can_die b.key ≡ true → IsDead heard b ⊎ (¬ IsDead heard b)
    dying can_it = elim (has_best heard (Series (uid_of b.key))) [
      | inl none ↦ inr (λ dead. none dead.series dead.best.is_heard dead.best.about)
      | inr found ↦ by_bool (nat_lt b.eff (found.0).eff) (IsDead heard b ⊎ (¬ IsDead heard b))
          (λ low. inl (record { can_die = dies b.key can_it; series = found.0; best = found.1; below = less_from b.eff (found.0).eff low }))
          (λ high. inr (λ dead.
          let up : dead.series.eff ≤ (found.0).eff = eff_up dead.series found.0
          (found.1.none_later dead.series dead.best.is_heard dead.best.about) in
          let below : b.eff < dead.series.eff = dead.below in
          let low : b.eff < (found.0).eff = omega (arith, up, below) in
          let x : true ≡ false = sym (from_less b.eff (found.0).eff low) ∙ high in
          cc))
    ]

-- what adds nothing to a set is told by it or dead beside it
pub below_outdone : (set items : List Item) → IsBelow items set → AreOutdone set items
below_outdone set items adds i h =
    let whole : List Item = items ++ set in
    let heard : Contains whole i = Contains-append_left items set i h in
    let found = best_above whole i heard in
    let about : (found.0).key ≡ i.key = found.1.about in
    let not_later = found.1.none_later i heard refl in
    elim (told_dead whole found.0) [
      | inl dead ↦ inr (record {
        can_die = subst CanDie about dead.can_die;
        series = dead.series;
        best = subst (λ (k : Key). IsBest set (Series (uid_of k)) dead.series) about
            (best_part whole set (Series (uid_of (found.0).key)) dead.series (Contains-append_right items set) dead.best
            ((adds dead.series).1 (series_kept whole (uid_of (found.0).key) dead.series dead.best)));
        below =
            let up : i.eff ≤ (found.0).eff = eff_up i found.0 not_later in let low : (found.0).eff < dead.series.eff = dead.below in
            omega (arith, up, low);
      })
      | inr alive ↦ inl (record {
        teller = found.0;
        there = (adds found.0).1 (record { best = subst (λ (k : Key). IsBest whole k found.0) (sym about) found.1; alive = alive });
        same = about;
        not_later = not_later;
      })
    ]

-- if hearing items changes nothing, what is held is also what is kept with them
pub outdone_hold : (es : List (List ℕ × UidState)) (heard items : List Item) → AreOutdone (items_of es) items → HoldKept heard es →
    HoldKept (heard ++ items) es
outdone_hold es heard items outdone hold = record { held = hold.held; kept = kept }
  where
    set : List Item
    set = items_of es

    no_news : AreNews set items []
    no_news = record {
      among = λ i h. absurd (none_in i h);
      new = λ i h. absurd (none_in i h);
      rest = λ i h. inr (outdone i h);
    }

    kept : AreKept set (heard ++ items)
    kept i =
        let alone = news_kept set items [] no_news i in
        let beside = kept_beside heard items set hold.kept i in
        let state = held_state es hold.held i in (
          λ h. beside.0 (alone.0 (subst (λ (xs : List Item). IsKept xs i) (sym (append-nil set)) (state.0 h))),
          λ k. state.1 (subst (λ (xs : List Item). IsKept xs i) (append-nil set) (alone.1 (beside.1 k))),
        )

-- a call that failed did not succeed
pub not_ok : {G : Type 0} → ◌≡◌ {A = Bool} false true → G
not_ok e = absurd (cc)

-- ---- lists
pub nothing_of_none : (items : List Item) → IsItemsOf items [] → items ≡ []
nothing_of_none [] is = refl
nothing_of_none (x ∷ items) is = absurd (none_in x ((is.same x).0 (cons_first x items)))

pub none_left : {A : Type 0} (xs : List A) (i : ℕ) → i < length xs → xs ≡ [] → ⊥
none_left xs i below none = let e : length xs ≡ 0 = ap length none in omega (arith, e, below)

pub none_after : {A : Type 0} (xs ys : List A) → xs ++ ys ≡ [] → ys ≡ []
none_after [] ys none = none
none_after (x ∷ xs) ys none = cc

pub none_first : {A : Type 0} (x : A) (xs : List A) → x ∷ xs ≡ [] → ⊥
none_first x xs none = cc

pub map_has : {A B : Type 0} (f : A → B) (xs : List A) (k : ℕ) (x : A) → k < length xs → x ≡ get_or xs k x → Contains (map f xs) (f x)
map_has f xs k x below is = (k, rw (length-map xs f) below, get_or-map f xs k x ∙ ap f (sym is))

pub no_uids : (uids : List (List ℕ)) → AreUidsOf uids [] → uids ≡ []
no_uids [] are = refl
no_uids (u ∷ uids) are = let some = are.each u (cons_first u uids) in absurd (none_in some.0 some.1)

pub no_series : (series set : List Item) → AreSeriesOf series set → AreSeriesOf [] set → series ≡ []
no_series [] set are none = refl
no_series (x ∷ series) set are none = let there = are.each x (cons_first x series) in absurd (none_in x (none.all x there.0 there.1))

pub uids_of_nothing : AreUidsOf [] []
uids_of_nothing = record {
  ascend = no_pairs (λ (a b : List ℕ). slice_cmp nat_cmp a b ≡ Less);
  each = λ uid h. absurd (none_in uid h);
  all = λ item h. absurd (none_in item h);
}

-- a list with the members of an empty list is empty
module _ {A : Type 0} where
  pub no_texts : (xs ys : List A) → ((x : A) → Contains xs x ↔ Contains ys x) → ys ≡ [] → xs ≡ []
  no_texts [] ys same none = refl
  no_texts (x ∷ xs) ys same none =
      absurd (none_in x (subst (λ (zs : List A). Contains zs x) none ((same x).0 (cons_first x xs))))

pub no_view : {A B : Type 0} (f : A → B) (xs : List A) → map f xs ≡ [] → xs ≡ []
no_view f [] none = refl
no_view f (x ∷ xs) none = absurd (none_first (f x) (map f xs) none)

pub no_news : (set items news : List Item) → AreNews set items news → IsBelow items set → news ≡ []
no_news set items [] are below = refl
no_news set items (x ∷ news) are below =
    let here : Contains (x ∷ news) x = cons_first x news in absurd (are.new x here (below_outdone set items below x (are.among x here)))

-- if nothing is there of these UIDs, nothing is held of one of them
pub none_of_these : {A : Type 0} (set : List Item) (uid : A → List ℕ) (uids : List A) (k : ℕ) (u : A) → k < length uids →
    u ≡ get_or uids k u → ((item : Item) → Contains [] item ↔ (Contains set item × Contains (map uid uids) (uid_of item.key))) →
    (x : Item) → Contains set x → uid_of x.key ≡ uid u → ⊥
none_of_these set uid uids k u below is none x there about =
    none_in x ((none x).1 (there, subst (Contains (map uid uids)) (sym about) (map_has uid uids k u below is)))

-- if a key is left, there are keys
pub none_keyed : {K V : Type 0} (done : List K) (es rest : List (K × V)) (e : K × V) → es ≡ e ∷ rest → done ++ keys_of es ≡ [] → ⊥
none_keyed done es rest e cut none = none_first e.0 (keys_of rest) (ap keys_of (sym cut) ∙ none_after done (keys_of es) none)

-- if a series item is left, there are series items
pub none_known : (done : List Item) (es rest : List (List ℕ × UidState)) (e : List ℕ × UidState) (series : Best) → es ≡ e ∷ rest →
    e.1.series ≡ Known series → done ++ series_list es ≡ [] → ⊥
none_known done es rest e series cut known none =
    none_first series.value (series_list rest)
    (ap (λ s. series_items s ++ series_list rest) (sym known) ∙ ap series_list (sym cut) ∙ none_after done (series_list es) none)

-- if something is held, there are items
pub none_held : (done : List Item) (es rest : List (List ℕ × UidState)) (e : List ℕ × UidState) → es ≡ e ∷ rest → AreSound es →
    done ++ items_of es ≡ [] → ⊥
none_held done es rest e cut sound none =
    none_of (uid_state_items e.1) (items_of rest) (none_after done (items_of (e ∷ rest)) (ap (λ xs. done ++ items_of xs) (sym cut) ∙ none))
    (subst AreSound cut sound).0.1
  where
    none_of : (xs ys : List Item) → xs ++ ys ≡ [] → 0 < length xs → ⊥
    none_of [] ys none some = omega (arith, some)
    none_of (x ∷ xs) ys none some = none_first x (xs ++ ys) none
