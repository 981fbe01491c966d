-- Items that are heard one after another, some of which wait to be heard last.
use Rattle.std.proofs.Common.{◌≡◌, ℕ, List, [], ◌∷◌, ◌++◌, refl, sym, ◌∙◌, ap, subst, inl, inr, true, false, Option, Some, None}
use Rattle.std.proofs.Common.{append_assoc, append-nil}
use Rattle.std.specs.Prelude.{cond, is_some}
use Rattle.std.specs.Ordering.{is_eq}
use Rattle.std.proofs.lemmas.Cmp.{nat_list_cmp_total}
use Rattle.std.proofs.lemmas.Map.Lookups.{exact_bytes}
use Rattle.std.proofs.lemmas.List.Elements.{Contains-append_cases, Contains-append_left, Contains-append_right}
use Rattle.itip_join.specs.declared.lift.Lift.TheVariants.{Nothing}
use Rattle.itip_items.specs.KeyParts.{uid_of}
use Rattle.itip_items.specs.declared.item.Item.{Item}
use Rattle.itip_state.specs.Kept.{SameItems}
use Rattle.itip_state.specs.Held.{Best, UidState, best, is_series, at, alone, series_alone, items_of, AreOrdered, HoldKept}
use Rattle.itip_state.specs.Joined.{IsJoinedAt}
use Rattle.itip_state.specs.Raised.{IsRaisedAt}
use Rattle.itip_state.specs.Newer.{IsAwaited, AreAwaited, newer_items, IsHeard, IsTakenIn, AreTakenIn}
use Rattle.itip_state.specs.declared.hear.Newer.{Newer}
use Rattle.itip_state.proofs.Members.{by_bool}
use Rattle.itip_state.proofs.Lookups.{one_key}
use Rattle.itip_state.proofs.Keeping.{are_kept_same}
use Rattle.itip_state.proofs.Hearing.{heard_once}
use Rattle.itip_state.proofs.Undoing.{joined_some}
use Rattle.itip_state.proofs.Maps.{uid_cmp}

abbrev pub All : Type 0
All = List (List ℕ × UidState)

-- ---- one item
module _ (item : Item) (old new : All) (ordered : AreOrdered new)
    (joined : IsJoinedAt (at old (uid_of item.key)) (Some (alone item)) (at new (uid_of item.key)))
    (others : (q : List ℕ) → is_eq (uid_cmp (uid_of item.key) q) ≡ false → at new q ≡ at old q) where
  pub heard_here : IsHeard old new item
  heard_here = record {
    kept = heard_once item old new ordered joined others;
    there = λ q some. by_bool (is_eq (uid_cmp (uid_of item.key) q)) (is_some (at new q) ≡ true)
        (λ same. subst (λ (r : List ℕ). is_some (at new r) ≡ true) (one_key nat_list_cmp_total exact_bytes (uid_of item.key) q same)
        (joined_some (at old (uid_of item.key)) (alone item) (at new (uid_of item.key)) joined))
        (λ apart. ap is_some (others q apart) ∙ some);
  }

alone_series : (item : Item) → is_series item.key ≡ true → alone item ≡ series_alone (best item)
alone_series item e = ap (λ b. cond b (series_alone (best item)) (record { series = Nothing; entries = (item.key, best item) ∷ [] })) e

raised_joined : (o n : Option UidState) (item : Item) (newer : Best) → is_some o ≡ true → is_series item.key ≡ true → newer ≡ best item →
    IsRaisedAt o newer n → IsJoinedAt o (Some (alone item)) n
raised_joined None n item newer some series is r = let x : false ≡ true = some in absurd (cc)
raised_joined (Some a) n item newer some series is r =
    subst (λ (st : UidState). IsJoinedAt (Some a) (Some st) n) (sym (alone_series item series ∙ ap series_alone (sym is))) r

-- a series item of a UID of which something is held
pub raised_here : (item : Item) (newer : Best) (u : List ℕ) (old new : All) → u ≡ uid_of item.key → AreOrdered new →
    is_some (at old u) ≡ true → is_series item.key ≡ true → newer ≡ best item → IsRaisedAt (at old u) newer (at new u) →
    ((q : List ℕ) → is_eq (uid_cmp u q) ≡ false → at new q ≡ at old q) → IsHeard old new item
raised_here item newer u old new about ordered some series is raised others =
    heard_here item old new ordered
    (subst (λ (v : List ℕ). IsJoinedAt (at old v) (Some (alone item)) (at new v)) about
    (raised_joined (at old u) (at new u) item newer some series is raised))
    (λ q n. others q (ap (λ (v : List ℕ). is_eq (uid_cmp v q)) about ∙ n))

-- ---- the same items
module _ (done waiting items : List Item) (item : Item) (same : SameItems (done ++ waiting) items) where
  same_heard : SameItems ((done ++ item ∷ []) ++ waiting) (items ++ item ∷ [])
  same_heard i = (
    λ h. elim (Contains-append_cases (done ++ item ∷ []) waiting i h) [
      | inl front ↦ elim (Contains-append_cases done (item ∷ []) i front) [
        | inl before ↦ Contains-append_left items (item ∷ []) i ((same i).0 (Contains-append_left done waiting i before))
        | inr one ↦ Contains-append_right items (item ∷ []) i one
      ]
      | inr late ↦ Contains-append_left items (item ∷ []) i ((same i).0 (Contains-append_right done waiting i late))
    ],
    λ h. elim (Contains-append_cases items (item ∷ []) i h) [
      | inl before ↦ elim (Contains-append_cases done waiting i ((same i).1 before)) [
        | inl front ↦ Contains-append_left (done ++ item ∷ []) waiting i (Contains-append_left done (item ∷ []) i front)
        | inr late ↦ Contains-append_right (done ++ item ∷ []) waiting i late
      ]
      | inr one ↦ Contains-append_left (done ++ item ∷ []) waiting i (Contains-append_right done (item ∷ []) i one)
    ],
  )

  same_waiting : SameItems (done ++ (waiting ++ item ∷ [])) (items ++ item ∷ [])
  same_waiting i = (
    λ h. elim (Contains-append_cases done (waiting ++ item ∷ []) i h) [
      | inl front ↦ Contains-append_left items (item ∷ []) i ((same i).0 (Contains-append_left done waiting i front))
      | inr late ↦ elim (Contains-append_cases waiting (item ∷ []) i late) [
        | inl before ↦ Contains-append_left items (item ∷ []) i ((same i).0 (Contains-append_right done waiting i before))
        | inr one ↦ Contains-append_right items (item ∷ []) i one
      ]
    ],
    λ h. elim (Contains-append_cases items (item ∷ []) i h) [
      | inl before ↦ elim (Contains-append_cases done waiting i ((same i).1 before)) [
        | inl front ↦ Contains-append_left done (waiting ++ item ∷ []) i front
        | inr late ↦ Contains-append_right done (waiting ++ item ∷ []) i (Contains-append_left waiting (item ∷ []) i late)
      ]
      | inr one ↦ Contains-append_right done (waiting ++ item ∷ []) i (Contains-append_right waiting (item ∷ []) i one)
    ],
  )

pub hold_same : (heard items : List Item) (es : All) → SameItems heard items → HoldKept heard es → HoldKept items es
hold_same heard items es same h = record { held = h.held; kept = are_kept_same (items_of es) heard items same h.kept }

-- ---- the ones that wait
newer_push : (ns : List Newer) (n : Newer) → newer_items (ns ++ n ∷ []) ≡ newer_items ns ++ (n.best).value ∷ []
newer_push [] n = refl
newer_push (m ∷ ns) n = ap (λ is. (m.best).value ∷ is) (newer_push ns n)

awaited_on : (old new : All) → ((uid : List ℕ) → is_some (at old uid) ≡ true → is_some (at new uid) ≡ true) → (ns : List Newer) →
    AreAwaited old ns → AreAwaited new ns
awaited_on old new there [] a = tt
awaited_on old new there (n ∷ ns) a = (
  record { about = (a.0).about; series = (a.0).series; there = there n.uid.now (a.0).there },
  awaited_on old new there ns a.1,
)

awaited_push : (es : All) (ns : List Newer) (n : Newer) → AreAwaited es ns → IsAwaited es n → AreAwaited es (ns ++ n ∷ [])
awaited_push es [] n a one = (one, tt)
awaited_push es (m ∷ ns) n a one = (a.0, awaited_push es ns n a.1 one)

-- ---- several items
pub none_taken : (start : All) → AreTakenIn start start [] []
none_taken start = record {
  done = [];
  hold = λ heard h. subst (λ (xs : List Item). HoldKept xs start) (sym (append-nil heard)) h;
  same = λ i. (λ h. h, λ h. h);
  awaited = tt;
}

pub taken_more : (start held next : All) (items : List Item) (item : Item) (newer newer' : List Newer) →
    AreTakenIn start held items newer → IsTakenIn held next item newer newer' → AreTakenIn start next (items ++ item ∷ []) newer'
taken_more start held next items item newer newer' taken (inl (same, heard)) = record {
  done = taken.done ++ item ∷ [];
  hold = λ before h. subst (λ (xs : List Item). HoldKept xs next) (append_assoc before taken.done (item ∷ []))
      (heard.kept (before ++ taken.done) (taken.hold before h));
  same = subst (λ (ns : List Newer). SameItems ((taken.done ++ item ∷ []) ++ newer_items ns) (items ++ item ∷ [])) (sym same)
      (same_heard taken.done (newer_items newer) items item taken.same);
  awaited = subst (AreAwaited next) (sym same) (awaited_on held next heard.there newer taken.awaited);
}
taken_more start held next items item newer newer' taken (inr waits) = record {
  done = taken.done;
  hold = λ before h. subst (λ (es : All). HoldKept (before ++ taken.done) es) (sym waits.same) (taken.hold before h);
  same = subst (λ (is : List Item). SameItems (taken.done ++ is) (items ++ item ∷ []))
      (sym (ap newer_items waits.put ∙ newer_push newer waits.newer ∙ ap (λ i. newer_items newer ++ i ∷ []) waits.item_is))
      (same_waiting taken.done (newer_items newer) items item taken.same);
  awaited = subst (AreAwaited next) (sym waits.put)
      (subst (λ (es : All). AreAwaited es (newer ++ waits.newer ∷ [])) (sym waits.same)
      (awaited_push held newer waits.newer taken.awaited waits.awaited));
}

-- all were taken in, and those that waited were heard
pub all_taken : (start held last : All) (items : List Item) (newer : List Newer) → AreTakenIn start held items newer →
    (AreAwaited held newer → (heard : List Item) → HoldKept heard held → HoldKept (heard ++ newer_items newer) last) →
    (heard : List Item) → HoldKept heard start → HoldKept (heard ++ items) last
all_taken start held last items newer taken late heard h =
    hold_same (heard ++ (taken.done ++ newer_items newer)) (heard ++ items) last (beside (taken.done ++ newer_items newer) items taken.same)
    (subst (λ (xs : List Item). HoldKept xs last) (append_assoc heard taken.done (newer_items newer))
    (late taken.awaited (heard ++ taken.done) (taken.hold heard h)))
  where
    beside : (xs ys : List Item) → SameItems xs ys → SameItems (heard ++ xs) (heard ++ ys)
    beside xs ys same i = (
      λ g. elim (Contains-append_cases heard xs i g) [
        | inl before ↦ Contains-append_left heard ys i before
        | inr late ↦ Contains-append_right heard ys i ((same i).0 late)
      ],
      λ g. elim (Contains-append_cases heard ys i g) [
        | inl before ↦ Contains-append_left heard xs i before
        | inr late ↦ Contains-append_right heard xs i ((same i).1 late)
      ],
    )

-- ---- those that wait are heard
pub record RaisedSoFar (start held : All) (all rest : List Newer) : Type 0 where
  pub done : List Newer
  pub whole : all ≡ done ++ rest
  pub hold : (heard : List Item) → HoldKept heard start → HoldKept (heard ++ newer_items done) held
  pub awaited : AreAwaited held rest

pub raised_none : (start : All) (all rest : List Newer) → rest ≡ all → AreAwaited start all → RaisedSoFar start start all rest
raised_none start all rest is a = record {
  done = [];
  whole = sym is;
  hold = λ heard h. subst (λ (xs : List Item). HoldKept xs start) (sym (append-nil heard)) h;
  awaited = subst (AreAwaited start) (sym is) a;
}

pub raised_more : (start held next : All) (all rest before : List Newer) (n : Newer) → before ≡ n ∷ rest →
    RaisedSoFar start held all before →
    (IsAwaited held n → IsHeard held next (n.best).value) → RaisedSoFar start next all rest
raised_more start held next all rest before n cut so step =
    let a : AreAwaited held (n ∷ rest) = subst (AreAwaited held) cut so.awaited in
    let heard_now = step a.0 in
    record {
      done = so.done ++ n ∷ [];
      whole = so.whole ∙ ap (λ ns. so.done ++ ns) cut ∙ sym (append_assoc so.done (n ∷ []) rest);
      hold = λ heard h. subst (λ (is : List Item). HoldKept (heard ++ is) next) (sym (newer_push so.done n))
          (subst (λ (xs : List Item). HoldKept xs next) (append_assoc heard (newer_items so.done) ((n.best).value ∷ []))
          (heard_now.kept (heard ++ newer_items so.done) (so.hold heard h)));
      awaited = awaited_on held next heard_now.there rest a.1;
    }

pub raised_all : (start held : All) (all rest : List Newer) → rest ≡ [] → RaisedSoFar start held all rest → (heard : List Item) →
    HoldKept heard start → HoldKept (heard ++ newer_items all) held
raised_all start held all rest none so heard h =
    let whole : so.done ≡ all = sym (append-nil so.done) ∙ sym (ap (λ ns. so.done ++ ns) none) ∙ sym so.whole in
    subst (λ (ns : List Newer). HoldKept (heard ++ newer_items ns) held) whole (so.hold heard h)
