-- What is kept of all follows from the latest of each key.
use Rattle.std.proofs.Common.{◌+◌, zero, suc, length, get_or, take, arith}
use Rattle.std.proofs.Common.{◌≡◌, ◌<◌, ◌↔◌, ℕ, List, [], ◌∷◌, ◌++◌, map, refl, sym, ◌∙◌, ap, subst, inl, inr, false, append-nil, Option}
use Rattle.std.proofs.Common.{Some, None, Bor}
use Rattle.std.specs.List.{Contains}
use Rattle.std.specs.declared.cmp.Ordering.TheVariants.{Less, Equal, Greater}
use Rattle.std.proofs.lemmas.List.{take_more, get_or_default}
use Rattle.std.proofs.lemmas.List.Sorted.{ranks_by, sorted_far}
use Rattle.std.specs.List.Sorted.{IsSortedBy}
use Rattle.std.proofs.lemmas.List.Elements.{Contains-append_left, Contains-push, Contains-push_cases}
use Rattle.itip_items.specs.RevisionOrder.{revision_cmp, IsLater}
use Rattle.itip_items.specs.declared.item.Item.{Item}
use Rattle.itip_items.specs.declared.key.Key.{Key}
use Rattle.itip_items.proofs.Revisions.{revision_exact}
use Rattle.itip_state.specs.Kept.{IsKept, AreKept}
use Rattle.itip_state.proofs.Best.{later_than_less, not_later_itself}
use Rattle.itip_state.proofs.Keeping.{Covers, covers_itself, kept_of_parts, kept_beside, are_kept_by}
use Rattle.itip_state.proofs.Members.{none_in, cons_cases}
use Rattle.itip_explain.specs.Latest.{is_before, AreLatestFirst, ArePicked, items_in}
use Rattle.itip_explain.specs.Told.{heard_of}
use Rattle.itip_explain.specs.declared.told.ToldItem.{ToldItem}
use Rattle.itip_explain.proofs.Firsts.{told_total, into_map, from_map, map_append, not_later_than, in_order, from_order}

-- what was picked so far, and the key of the last item gone through
pub record PicksSoFar (done picked : List (Bor ToldItem)) (last : Option Key) : Type 0 where
  pub are : ArePicked done picked
  pub last_is : (key : Key) → last ≡ Some key → (pick : Bor ToldItem) × Contains picked pick × (pick.now.item.key ≡ key)

pub picks_none : PicksSoFar [] [] None
picks_none = record {
  are = record { each = λ one h. absurd (none_in one h); all = λ one h. absurd (none_in one h) };
  last_is = λ key e. absurd (let no : None ≡ Some key = e in cc);
}

module _ (done picked : List (Bor ToldItem)) (last : Option Key) (so : PicksSoFar done picked last) (one : Bor ToldItem) where
  -- an item with the last key is not later than what was picked for that key
  pub picks_skip : last ≡ Some one.now.item.key → ((earlier : Bor ToldItem) → Contains done earlier → is_before one earlier ≡ false) →
      PicksSoFar (done ++ one ∷ []) picked last
  picks_skip same after = record {
    are = record {
      each = λ pick h. Contains-append_left done (one ∷ []) pick (so.are.each pick h);
      all = λ z h. elim (Contains-push_cases done one z h) [
        | inl before ↦ so.are.all z before
        | inr here ↦
            let pick = so.last_is one.now.item.key same in
            let not = not_later_than pick.0.now one.now (sym pick.2) (after pick.0 (so.are.each pick.0 pick.1)) in (
              pick.0,
              pick.1,
              pick.2 ∙ ap (λ (w : Bor ToldItem). w.now.item.key) here,
              subst (λ (w : Bor ToldItem). ¬ IsLater w.now.item pick.0.now.item) here not,
            )
      ];
    };
    last_is = so.last_is;
  }

  pub picks_more : PicksSoFar (done ++ one ∷ []) (picked ++ one ∷ []) (Some one.now.item.key)
  picks_more = record {
    are = record {
      each = λ pick h. elim (Contains-push_cases picked one pick h) [
        | inl before ↦ Contains-append_left done (one ∷ []) pick (so.are.each pick before)
        | inr here ↦ subst (Contains (done ++ one ∷ [])) here (Contains-push done one)
      ];
      all = λ z h. elim (Contains-push_cases done one z h) [
        | inl before ↦ let pick = so.are.all z before in
            (pick.0, Contains-append_left picked (one ∷ []) pick.0 pick.1, pick.2, pick.3)
        | inr here ↦ (
          one,
          Contains-push picked one,
          ap (λ (w : Bor ToldItem). w.now.item.key) here,
          subst (λ (w : Bor ToldItem). ¬ IsLater w.now.item one.now.item) here (not_later_itself one.now.item),
        )
      ];
    };
    last_is = λ key e. (one, Contains-push picked one, let k : one.now.item.key ≡ key = cc in k);
  }

-- an item that is neither later nor earlier than another is the same
same_revision : (a b : Item) → (¬ IsLater a b) → (¬ IsLater b a) → a ≡ b
same_revision a b p q =
    elim (revision_cmp a b) as (λ o. revision_cmp a b ≡ o → a ≡ b) [
      | Less ↦ λ e. absurd (q (later_than_less b a e))
      | Equal ↦ λ e. revision_exact a b e
      | Greater ↦ λ e. absurd (p e)
    ] refl

module _ (given sorted : List (Bor ToldItem)) (order : AreLatestFirst given sorted) where
  into_heard : (one : Bor ToldItem) → Contains given one → Contains (heard_of (map (λ z. z.now) given)) one.now.item
  into_heard one h = into_map (λ (t : ToldItem). t.item) (map (λ z. z.now) given) one.now
      (into_map (λ (z : Bor ToldItem). z.now) given one h)

  -- what is picked covers all that is told
  pub picked_covers : (picked : List (Bor ToldItem)) → ArePicked sorted picked →
      Covers (items_in picked) (heard_of (map (λ z. z.now) given))
  picked_covers picked are item = (
    λ h.
        let pick = from_map (λ (z : Bor ToldItem). z.now.item) picked item h in
        subst (Contains (heard_of (map (λ z. z.now) given))) pick.2
        (into_heard pick.0 (from_order given sorted order pick.0 (are.each pick.0 pick.1))),
    λ kept.
        let t = from_map (λ (t : ToldItem). t.item) (map (λ z. z.now) given) item kept.best.is_heard in
        let z = from_map (λ (z : Bor ToldItem). z.now) given t.0 t.1 in
        let same : z.0.now.item ≡ item = ap (λ (t : ToldItem). t.item) z.2 ∙ t.2 in
        let pick = are.all z.0 (in_order given sorted order z.0 z.1) in
        let key : pick.0.now.item.key ≡ item.key = pick.2 ∙ ap (λ (i : Item). i.key) same in
        let none : ¬ IsLater pick.0.now.item item =
        kept.best.none_later pick.0.now.item (into_heard pick.0 (from_order given sorted order pick.0 (are.each pick.0 pick.1))) key
        in
        let not : ¬ IsLater item pick.0.now.item = subst (λ (i : Item). ¬ IsLater i pick.0.now.item) same pick.3 in
        subst (Contains (items_in picked)) (same_revision pick.0.now.item item none not)
        (into_map (λ (z : Bor ToldItem). z.now.item) picked pick.0 pick.1),
  )

-- what is kept of a part that covers a set is what is kept of the set
pub kept_of_cover : (kept part whole : List Item) → Covers part whole → AreKept kept part → AreKept kept whole
kept_of_cover kept part whole covers are = are_kept_by kept part whole (λ i.
    let two = kept_of_parts whole [] part [] covers (covers_itself []) i in
    let P : List Item → List Item → Type 0 = λ a b. IsKept a i ↔ IsKept b i in
    subst (λ (a : List Item). P a whole) (append-nil part) (subst (λ (b : List Item). P (part ++ []) b) (append-nil whole) two)) are

-- what is kept once one more is heard
pub kept_more : (state next done : List Item) (item : Item) → AreKept state done → AreKept next (state ++ item ∷ []) →
    AreKept next (done ++ item ∷ [])
kept_more state next done item are more =
    are_kept_by next (state ++ item ∷ []) (done ++ item ∷ []) (kept_beside done (item ∷ []) state are) more

pub kept_none : (state : List Item) → state ≡ [] → AreKept state []
kept_none state e item = (
  λ h. absurd (none_in item (subst (λ (s : List Item). Contains s item) e h)),
  λ kept. absurd (none_in item kept.best.is_heard),
)

-- the same for told items, one by one
pub kept_step : (state next : List Item) (told : List (Bor ToldItem)) (i : ℕ) (one : Bor ToldItem) (item : Item) → i < length told →
    one ≡ get_or told i one → item ≡ one.now.item → AreKept state (items_in (take i told)) → AreKept next (state ++ item ∷ []) →
    AreKept next (items_in (take (i + 1) told))
kept_step state next told i one item below is same are more =
    let done : take (i + 1) told ≡ take i told ++ one ∷ [] = take_more told i one below ∙
    ap (λ (x : Bor ToldItem). take i told ++ x ∷ []) (sym is) in
    let all : items_in (take (i + 1) told) ≡ items_in (take i told) ++ one.now.item ∷ [] =
    ap items_in done ∙ map_append (λ (z : Bor ToldItem). z.now.item) (take i told) (one ∷ []) in
    subst (AreKept next) (sym all)
    (subst (λ (x : Item). AreKept next (items_in (take i told) ++ x ∷ [])) same
    (kept_more state next (items_in (take i told)) item are more))

-- what was gone through comes before what is next
in_take : (xs : List (Bor ToldItem)) (i : ℕ) (x : Bor ToldItem) → Contains (take i xs) x →
    (j : ℕ) × (j < i) × (j < length xs) × (get_or xs j x ≡ x)
in_take [] zero x h = absurd (none_in x h)
in_take [] (suc i) x h = absurd (none_in x h)
in_take (y ∷ ys) zero x h = absurd (none_in x h)
in_take (y ∷ ys) (suc i) x h = elim (cons_cases y (take i ys) x h) [
  | inl first ↦ (zero, omega arith, omega arith, first)
  | inr rest ↦ let r = in_take ys i x rest in (suc r.0, omega (arith, r.1), omega (arith, r.2), r.3)
]

-- in order, what comes next isn't before what was gone through
pub none_after : (sorted : List (Bor ToldItem)) → IsSortedBy is_before sorted → (i : ℕ) (one : Bor ToldItem) → i < length sorted →
    one ≡ get_or sorted i one
    → (earlier : Bor ToldItem) → Contains (take i sorted) earlier → is_before one earlier ≡ false
none_after sorted up i one below is earlier h =
    let r = in_take sorted i earlier h in
    let far : is_before (get_or sorted i one) (get_or sorted r.0 one) ≡ false =
    sorted_far is_before (ranks_by told_total (λ (t : Bor ToldItem). t.now)) sorted up r.0 i one (omega (arith, r.1)) below in
    let there : get_or sorted r.0 one ≡ earlier = get_or_default sorted r.0 one earlier r.2 ∙ r.3 in
    ap (λ (z : Bor ToldItem). is_before z earlier) is ∙ ap (λ (z : Bor ToldItem). is_before (get_or sorted i one) z) (sym there) ∙ far

-- what is kept of what is picked is what is kept of all that is told
pub kept_of_picked : (told : List ToldItem) (given sorted : List (Bor ToldItem)) → map (λ z. z.now) given ≡ told →
    AreLatestFirst given sorted → (picked : List (Bor ToldItem)) → ArePicked sorted picked → (state : List Item)
    → AreKept state (items_in picked) → AreKept state (heard_of told)
kept_of_picked told given sorted is order picked are state kept =
    subst (λ (ts : List ToldItem). AreKept state (heard_of ts)) is
    (kept_of_cover state (items_in picked) (heard_of (map (λ z. z.now) given)) (picked_covers given sorted order picked are) kept)
