-- What is kept when more is heard.
use Rattle.std.proofs.Common.{subst, List, [], ◌∷◌, ◌++◌, append_assoc, inl, inr}
use Rattle.std.proofs.lemmas.List.Elements.{Contains-append_cases, Contains-append_left, Contains-append_right}
use Rattle.itip_items.specs.declared.item.Item.{Item}
use Rattle.itip_state.specs.Kept.{AreKept, SameItems}
use Rattle.itip_state.specs.Told.{AreNews}
use Rattle.itip_state.proofs.Keeping.{Covers, AreAmong, covers_itself, kept_of_parts, kept_beside, are_kept_by, are_kept_same}
use Rattle.itip_state.proofs.News.{news_kept}

-- one item more is heard
pub keeps_one : (old new heard done : List Item) (item : Item) → AreKept old (heard ++ done) → AreKept new (old ++ item ∷ []) →
    AreKept new (heard ++ (done ++ item ∷ []))
keeps_one old new heard done item keeps kept =
    subst (λ (all : List Item). AreKept new all) (append_assoc heard done (item ∷ []))
    (are_kept_by new (old ++ item ∷ []) ((heard ++ done) ++ item ∷ []) (kept_beside (heard ++ done) (item ∷ []) old keeps) kept)

-- a set with some items, beside what was heard, of which the set is a part
beside : (first heard items : List Item) → AreAmong first heard → SameItems (heard ++ items) ((first ++ items) ++ heard)
beside first heard items among i = (
  λ h. elim (Contains-append_cases heard items i h) [
    | inl left ↦ Contains-append_right (first ++ items) heard i left
    | inr right ↦ Contains-append_left (first ++ items) heard i (Contains-append_right first items i right)
  ],
  λ h. elim (Contains-append_cases (first ++ items) heard i h) [
    | inl left ↦ elim (Contains-append_cases first items i left) [
      | inl one ↦ Contains-append_left heard items i (among i one)
      | inr more ↦ Contains-append_right heard items i more
    ]
    | inr right ↦ Contains-append_left heard items i right
  ],
)

news_cover : (first items news : List Item) → AreNews first items news → Covers (first ++ news) (first ++ items)
news_cover first items news are i = (
  λ h. elim (Contains-append_cases first news i h) [
    | inl old ↦ Contains-append_left first items i old
    | inr new ↦ Contains-append_right first items i (are.among i new)
  ],
  λ kept. ((news_kept first items news are i).1 kept).best.is_heard,
)

-- What is news beside a set changes what is kept as all items do, also if more was heard since.
pub keeps_news : (first new heard items news : List Item) → AreAmong first heard → AreNews first items news → AreKept new (heard ++ news) →
    AreKept new (heard ++ items)
keeps_news first new heard items news among are kept =
    are_kept_same new ((first ++ items) ++ heard) (heard ++ items) (λ i. let two = beside first heard items among i in (two.1, two.0))
    (are_kept_by new ((first ++ news) ++ heard) ((first ++ items) ++ heard)
    (kept_of_parts (first ++ items) heard (first ++ news) heard (news_cover first items news are) (covers_itself heard))
    (are_kept_same new (heard ++ news) ((first ++ news) ++ heard) (beside first heard news among) kept))

-- the news of two sets
pub news_both : (kept xs ys news more : List Item) → AreNews kept xs news → AreNews kept ys more → AreNews kept (xs ++ ys) (news ++ more)
news_both kept xs ys news more one two = record {
  among = λ i h. elim (Contains-append_cases news more i h) [
    | inl left ↦ Contains-append_left xs ys i (one.among i left)
    | inr right ↦ Contains-append_right xs ys i (two.among i right)
  ];
  new = λ i h. elim (Contains-append_cases news more i h) [ inl left ↦ one.new i left | inr right ↦ two.new i right ];
  rest = λ i h. elim (Contains-append_cases xs ys i h) [
    | inl left ↦ elim (one.rest i left) [ inl is ↦ inl (Contains-append_left news more i is) | inr out ↦ inr out ]
    | inr right ↦ elim (two.rest i right) [ inl is ↦ inl (Contains-append_right news more i is) | inr out ↦ inr out ]
  ];
}

pub kept_among : (kept heard : List Item) → AreKept kept heard → AreAmong kept heard
kept_among kept heard are i h = ((are i).0 h).best.is_heard

-- what is kept of what was kept and of what is news beside it
pub keeps_more : (old new heard items news : List Item) → AreKept old heard → AreNews old items news → AreKept new (old ++ news) →
    AreKept new (heard ++ items)
keeps_more old new heard items news keeps are kept =
    keeps_news old new heard items news (kept_among old heard keeps) are
    (are_kept_by new (old ++ news) (heard ++ news) (kept_beside heard news old keeps) kept)
