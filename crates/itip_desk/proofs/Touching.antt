-- The index after a hearing.
use Rattle.std.proofs.Common.{◌≡◌, ◌∙◌, ◌⊎◌, inl, inr, ℕ, List, [], ◌∷◌, ◌++◌, map, refl, sym, ap, subst, Bool, true, false, ◌||◌}
use Rattle.std.proofs.Common.{◌&&◌, not, cond, Result, Ok, Err, OnOk, OnErr, ◌+◌, ◌<◌, ◌≤◌, length, take, take_all}
use Rattle.std.proofs.Common.{get_or, option_to_list}
use Rattle.std.specs.List.{Contains}
use Rattle.std.specs.Ordering.{is_eq}
use Rattle.std.proofs.lemmas.List.{length-map, take_more}
use Rattle.std.proofs.lemmas.List.Elements.{Contains-append_cases, Contains-append_left, Contains-push}
use Rattle.std.proofs.lemmas.List.Elements.{Contains-push_cases}
use Rattle.std.proofs.Math.ListN.{get_or-map}
use Rattle.itip_items.specs.KeyParts.{uid_of}
use Rattle.itip_items.specs.RevisionOrder.{revision_cmp}
use Rattle.itip_items.specs.Revisions.{revisions_total}
use Rattle.itip_items.proofs.Revisions.{revision_exact}
use Rattle.itip_items.specs.declared.item.Item.{Item}
use Rattle.itip_items.specs.declared.key.Key.TheVariants.{Series}
use Rattle.itip_state.specs.Giving.{AreGivingWay}
use Rattle.itip_state.specs.Kept.{IsKept, AreKept}
use Rattle.itip_state.specs.Order.{IsState}
use Rattle.itip_state.proofs.Keeping.{best_part}
use Rattle.itip_state.proofs.Lookups.{one_key, itself}
use Rattle.itip_state.proofs.Members.{by_bool, none_in, cons_cases, cons_first, cons_later}
use Rattle.itip_view.specs.RowDays.{is_of_rows, has_rows, row_days}
use Rattle.itip_view.specs.Standing.{is_live}
use Rattle.itip_desk.specs.Entries.{IndexEntry, same_entry, item_of, days_entry, line_entry, day_entries, line_entries, entries_of, IsNoted}
use Rattle.itip_desk.specs.Index.{has, is_in, IsIndexOf, AreOfRows, HasGrown, HasSettled}
use Rattle.itip_desk.specs.declared.index.Index.{Index}
use Rattle.itip_desk.proofs.Noting.{one_entry, entry_itself}

-- a list has what a test finds in it
pub in_list : (es : List IndexEntry) (e : IndexEntry) → is_in es e ≡ true → Contains es e
in_list [] e is = cc
in_list (x ∷ es) e is = by_bool (same_entry e x) (Contains (x ∷ es) e)
    (λ here. subst (Contains (x ∷ es)) (sym (one_entry e x here)) (cons_first x es))
    (λ other. cons_later x es e (in_list es e (subst (λ b. (b || is_in es e) ≡ true) other is)))

pub finds_in : (es : List IndexEntry) (e : IndexEntry) → Contains es e → is_in es e ≡ true
finds_in [] e h = absurd (none_in e h)
finds_in (x ∷ es) e h = elim (cons_cases x es e h) [
  | inl same ↦ ap (λ b. b || is_in es e) (subst (λ (k : IndexEntry). same_entry k x ≡ true) same (entry_itself x))
  | inr rest ↦ by_bool (same_entry e x) (is_in (x ∷ es) e ≡ true) (λ here. ap (λ b. b || is_in es e) here)
      (λ other. ap (λ b. b || is_in es e) other ∙ finds_in es e rest)
]

-- ---- an entry tells the item that has it
of_map : {A : Type 0} (item : Item) (f : A → IndexEntry) → ((x : A) → item_of (f x) ≡ item) → (xs : List A) (e : IndexEntry) →
    Contains (map f xs) e → item_of e ≡ item
of_map item f gives [] e h = absurd (none_in e h)
of_map item f gives (x ∷ xs) e h = elim (cons_cases (f x) (map f xs) e h) [
  | inl same ↦ ap item_of (sym same) ∙ gives x
  | inr rest ↦ of_map item f gives xs e rest
]

pub entry_item : (item : Item) (e : IndexEntry) → Contains (entries_of item) e → item_of e ≡ item
entry_item item e h = by_bool (has_rows item) (item_of e ≡ item)
    (λ rows. elim (Contains-append_cases (day_entries item) (line_entries item item.todo.attendees) e
    (subst (λ b. Contains (cond b (day_entries item ++ line_entries item item.todo.attendees) []) e) rows h)) [
      | inl day ↦ of_map item (days_entry item) (λ d. refl) (option_to_list (row_days item)) e day
      | inr line ↦ of_map item (line_entry item) (λ l. refl) item.todo.attendees e line
    ])
    (λ no_rows. absurd (none_in e (subst (λ b. Contains (cond b (day_entries item ++ line_entries item item.todo.attendees) []) e) no_rows
    h)))

one_item : (e : IndexEntry) (i j : Item) → Contains (entries_of i) e → Contains (entries_of j) e → i ≡ j
one_item e i j h g = sym (entry_item i e h) ∙ entry_item j e g

pub entry_rows : (item : Item) (e : IndexEntry) → Contains (entries_of item) e → is_of_rows item.key ≡ true
entry_rows item e h = by_bool (is_of_rows item.key) (is_of_rows item.key ≡ true) (λ rows. rows)
    (λ others. absurd (none_in e (subst (λ b. Contains (cond (cond b (is_live item.kind) false)
    (day_entries item ++ line_entries item item.todo.attendees) []) e) others h)))

-- what follows from either outcome holds
pub either_way : {A E P Q G : Type 0} (r : Result A E) → OnOk r P → OnErr r Q → (P → G) → (Q → G) → G
either_way (Ok x) p q f g = f p
either_way (Err e) p q f g = g q

-- two facts about an outcome are one
pub ok_both : {A E : Type 0} (P Q : Type 0) (r : Result A E) → OnOk r P → OnOk r Q → OnOk r (P × Q)
ok_both P Q (Ok x) p q = (p, q)
ok_both P Q (Err e) p q = tt

-- ---- a kept item stays, or can give way
among : (giving : List Item) (i : Item) → Contains giving i ⊎ (Contains giving i → ⊥)
among [] i = inr (λ h. none_in i h)
among (g ∷ giving) i = elim (among giving i) [
  | inl there ↦ inl (cons_later g giving i there)
  | inr apart ↦ by_bool (is_eq (revision_cmp g i)) (Contains (g ∷ giving) i ⊎ (Contains (g ∷ giving) i → ⊥))
      (λ same. inl (subst (Contains (g ∷ giving)) (one_key revisions_total revision_exact g i same) (cons_first g giving)))
      (λ other. inr (λ h. elim (cons_cases g giving i h) [
        | inl is ↦ differ (sym (itself revisions_total revision_exact g) ∙ ap (λ (j : Item). is_eq (revision_cmp g j)) is ∙ other)
        | inr rest ↦ apart rest
      ]))
]
  where
    differ : true ≡ false → ⊥
    differ e = cc

module _ (old news found giving after : List Item) (state : IsState old) (of : AreOfRows found news) (gives : AreGivingWay old found giving)
    (hears : AreKept after (old ++ news)) where
  stays : (i : Item) → Contains old i → is_of_rows i.key ≡ true → (Contains giving i → ⊥) → Contains after i
  stays i there rows apart =
      let was : IsKept old i = (state i).0 there in
      (hears i).1 (record {
        best = record {
          is_heard = Contains-append_left old news i there;
          about = refl;
          none_later = λ j h same. elim (Contains-append_cases old news j h) [
            | inl before ↦ was.best.none_later j before same
            | inr new ↦ absurd (apart (gives.at_key i j there ((of j).1 (new, ap is_of_rows same ∙ rows)) same))
          ];
        };
        alive = λ dead. elim (Contains-append_cases old news dead.series dead.best.is_heard) [
          | inl before ↦ was.alive (record {
            can_die = dead.can_die;
            series = dead.series;
            best = best_part (old ++ news) old (Series (uid_of i.key)) dead.series (λ j h. Contains-append_left old news j h)
                dead.best before;
            below = dead.below;
          })
          | inr new ↦ apart (gives.below i dead.series there ((of dead.series).1 (new, ap is_of_rows dead.best.about)) dead.best.about
              dead.can_die dead.below)
        ];
      })

  pub stays_or_gives : (i : Item) → Contains old i → is_of_rows i.key ≡ true → Contains giving i ⊎ Contains after i
  stays_or_gives i there rows = elim (among giving i) [ inl gone ↦ inl gone | inr apart ↦ inr (stays i there rows apart) ]

-- ---- the index
module _ (kept items : List Item) (grown index : Index) (settled : HasSettled kept items grown index)
    (sound : (e : IndexEntry) → has grown e ≡ true → (i : Item) × Contains (entries_of i) e × (Contains items i ⊎ Contains kept i))
    (whole : (e : IndexEntry) → IsNoted kept e → has grown e ≡ true) where
  settled_from : (e : IndexEntry) → has index e ≡ true → IsNoted kept e
  settled_from e h =
      let one = sound e (settled.none_new e h) in
      elim one.2 [
        | inl among_these ↦ elim (settled.gone one.0 among_these) [
          | inl there ↦ record { item = one.0; there = there; gives = one.1 }
          | inr out ↦ absurd (differ (sym h ∙ out e one.1))
        ]
        | inr there ↦ record { item = one.0; there = there; gives = one.1 }
      ]
    where
      differ : true ≡ false → ⊥
      differ e = cc

  settled_to : (e : IndexEntry) → IsNoted kept e → has index e ≡ true
  settled_to e n = settled.stays e (whole e n) (λ i g. subst (Contains kept) (one_item e n.item i n.gives g) n.there)

  index_settled : IsIndexOf kept index
  index_settled e = (settled_from e, settled_to e)

-- what can't govern a row leaves the index as it is
pub index_stays : (old news after : List Item) → IsState old → AreOfRows [] news → AreKept after (old ++ news) → (index : Index) →
    IsIndexOf old index → IsIndexOf after index
index_stays old news after state of hears index is = index_settled after [] index index
    (record { none_new = λ e h. h; stays = λ e h all. h; gone = λ i h. absurd (none_in i h) })
    (λ e h. let n = (is e).0 h in
    (n.item, n.gives, stays_or_gives old news [] [] after state of nothing hears n.item n.there (entry_rows n.item e n.gives)))
    (λ e n. (is e).1 (record { item = n.item; there = old_one n.item e n.gives n.there; gives = n.gives }))
  where
    nothing : AreGivingWay old [] []
    nothing = record {
      among = λ i h. absurd (none_in i h);
      at_key = λ i j h g same. absurd (none_in j g);
      below = λ i s h g about can less. absurd (none_in s g);
    }

    old_one : (i : Item) (e : IndexEntry) → Contains (entries_of i) e → Contains after i → Contains old i
    old_one i e gives there = elim (Contains-append_cases old news i ((hears i).0 there).best.is_heard) [
      | inl before ↦ before
      | inr new ↦ absurd (none_in i ((of i).1 (new, entry_rows i e gives)))
    ]

module _ (old news found giving items : List Item) (index grown settled : Index) (is : IsIndexOf old index)
    (gives_in : (i : Item) → Contains giving i → Contains items i) (found_in : (i : Item) → Contains found i → Contains items i)
    (grows : HasGrown found index grown) where
  -- the entries of what is heard were added, and then those of what is not kept were removed
  pub index_after : (after : List Item) → IsState old → AreOfRows found news → AreGivingWay old found giving → AreKept after (old ++ news) →
      ((e : IndexEntry) → IsNoted found e → has grown e ≡ true) → HasSettled after items grown settled → IsIndexOf after settled
  index_after after state of gives hears all settles = index_settled after items grown settled settles
      (λ e h. elim (grows.among e h) [
        | inl before ↦
            let n = (is e).0 before in (
              n.item,
              n.gives,
              elim (stays_or_gives old news found giving after state of gives hears n.item n.there
                  (entry_rows n.item e n.gives)) [ inl gone ↦ inl (gives_in n.item gone) | inr stays ↦ inr stays ],
            )
        | inr new ↦ (new.item, new.gives, inl (found_in new.item new.there))
      ])
      (λ e n. elim (Contains-append_cases old news n.item ((hears n.item).0 n.there).best.is_heard) [
        | inl before ↦ grows.keeps e ((is e).1 (record { item = n.item; there = before; gives = n.gives }))
        | inr new ↦ all e (record {
          item = n.item;
          there = (of n.item).1 (new, entry_rows n.item e n.gives);
          gives = n.gives;
        })
      ])

  -- if an allocation failed, nothing was heard
  pub index_back : HasSettled old items grown settled → IsIndexOf old settled
  index_back settles = index_settled old items grown settled settles
      (λ e h. elim (grows.among e h) [
        | inl before ↦ let n = (is e).0 before in (n.item, n.gives, inr n.there)
        | inr new ↦ (new.item, new.gives, inl (found_in new.item new.there))
      ])
      (λ e n. grows.keeps e ((is e).1 n))

-- ---- on the way
pub grown_more : (items : List Item) (item : Item) (index now next : Index) → HasGrown items index now →
    ((e : IndexEntry) → (has now e ≡ true → has next e ≡ true) × (has next e ≡ true → (has now e || is_in (entries_of item) e) ≡ true)) →
    HasGrown (items ++ item ∷ []) index next
grown_more items item index now next grown widens = record {
  keeps = λ e h. (widens e).0 (grown.keeps e h);
  among = λ e h. by_bool (has now e) ((has index e ≡ true) ⊎ IsNoted (items ++ item ∷ []) e)
      (λ there. elim (grown.among e there) [
        | inl before ↦ inl before
        | inr n ↦ inr (record { item = n.item; there = Contains-append_left items (item ∷ []) n.item n.there; gives = n.gives })
      ])
      (λ new. inr (record {
        item = item;
        there = Contains-push items item;
        gives = in_list (entries_of item) e (sym (ap (λ b. b || is_in (entries_of item) e) new) ∙ (widens e).1 h);
      }));
}

-- it has grown for all items if it has for a part of them
pub grown_all : (items all : List Item) (index now : Index) → ((i : Item) → Contains items i → Contains all i) →
    HasGrown items index now → HasGrown all index now
grown_all items all index now part grown = record {
  keeps = grown.keeps;
  among = λ e h. elim (grown.among e h) [
    | inl before ↦ inl before
    | inr n ↦ inr (record { item = n.item; there = part n.item n.there; gives = n.gives })
  ];
}

pub noted_more : (items : List Item) (item : Item) (now next : Index) → ((e : IndexEntry) → IsNoted items e → has now e ≡ true) →
    ((e : IndexEntry) → has next e ≡ (has now e || is_in (entries_of item) e)) → (e : IndexEntry) → IsNoted (items ++ item ∷ []) e →
    has next e ≡ true
noted_more items item now next all is e n = elim (Contains-push_cases items item n.item n.there) [
  | inl before ↦ is e ∙ ap (λ b. b || is_in (entries_of item) e) (all e (record { item = n.item; there = before; gives = n.gives }))
  | inr same ↦ is e ∙ ap (λ b. has now e || b) (finds_in (entries_of item) e
      (subst (λ (i : Item). Contains (entries_of i) e) (sym same) n.gives)) ∙ or_true (has now e)
]
  where
    or_true : (b : Bool) → (b || true) ≡ true
    or_true true = refl
    or_true false = refl

-- the items gone through so far have lost their entries, unless they are kept
pub settled_none : (state : List Item) (index : Index) → HasSettled state [] index index
settled_none state index = record { none_new = λ e h. h; stays = λ e h all. h; gone = λ i h. absurd (none_in i h) }

pub settled_kept : (state items : List Item) (item : Item) (index now : Index) → Contains state item →
    HasSettled state items index now → HasSettled state (items ++ item ∷ []) index now
settled_kept state items item index now kept so = record {
  none_new = so.none_new;
  stays = so.stays;
  gone = λ i h. elim (Contains-push_cases items item i h) [
    | inl before ↦ so.gone i before
    | inr same ↦ inl (subst (Contains state) same kept)
  ];
}

pub settled_out : (state items : List Item) (item : Item) (index now next : Index) → (Contains state item → ⊥) →
    ((e : IndexEntry) → has next e ≡ (has now e && not (is_in (entries_of item) e))) → HasSettled state items index now →
    HasSettled state (items ++ item ∷ []) index next
settled_out state items item index now next gone is so = record {
  none_new = λ e h. so.none_new e (first_part (has now e) (not (is_in (entries_of item) e)) (sym (is e) ∙ h));
  stays = λ e h all. is e ∙ both (has now e) (is_in (entries_of item) e) (so.stays e h all)
      (λ given. gone (all item (in_list (entries_of item) e given)));
  gone = λ i h. elim (Contains-push_cases items item i h) [
    | inl before ↦ elim (so.gone i before) [
      | inl kept ↦ inl kept
      | inr out ↦ inr (λ e g. is e ∙ ap (λ b. b && not (is_in (entries_of item) e)) (out e g))
    ]
    | inr same ↦ inr (λ e g. is e ∙ ap (λ b. has now e && not b) (finds_in (entries_of item) e
        (subst (λ (j : Item). Contains (entries_of j) e) (sym same) g)) ∙ and_false (has now e))
  ];
}
  where
    first_part : (a b : Bool) → (a && b) ≡ true → a ≡ true
    first_part true b e = refl
    first_part false b e = e

    both : (a b : Bool) → a ≡ true → (b ≡ true → ⊥) → (a && not b) ≡ true
    both true true p q = absurd (q refl)
    both true false p q = refl
    both false b p q = p

    and_false : (b : Bool) → (b && not true) ≡ false
    and_false true = refl
    and_false false = refl

module _ {A B : Type 0} (f : A → B) (xs : List A) (i : ℕ) where
  pub seen_more : (x : A) → i < length xs → x ≡ get_or xs i x → take (i + 1) (map f xs) ≡ take i (map f xs) ++ f x ∷ []
  seen_more x below is =
      take_more (map f xs) i (f x) (rw (length-map xs f) below) ∙
      ap (λ (y : B). take i (map f xs) ++ y ∷ []) (get_or-map f xs i x ∙ ap f (sym is))

  pub seen_all : length xs ≤ i → take i (map f xs) ≡ map f xs
  seen_all over = take_all i (map f xs) (rw (length-map xs f) over)

pub rows_more : (found done : List Item) (item : Item) → AreOfRows found done → is_of_rows item.key ≡ true →
    AreOfRows (found ++ item ∷ []) (done ++ item ∷ [])
rows_more found done item so rows other = (
  λ h. elim (Contains-push_cases found item other h) [
    | inl before ↦ let was = (so other).0 before in (Contains-append_left done (item ∷ []) other was.0, was.1)
    | inr same ↦ (
      subst (Contains (done ++ item ∷ [])) same (Contains-push done item),
      subst (λ (i : Item). is_of_rows i.key ≡ true) same rows,
    )
  ],
  λ h. elim (Contains-push_cases done item other h.0) [
    | inl before ↦ Contains-append_left found (item ∷ []) other ((so other).1 (before, h.1))
    | inr same ↦ subst (Contains (found ++ item ∷ [])) same (Contains-push found item)
  ],
)

pub rows_pass : (found done : List Item) (item : Item) → AreOfRows found done → is_of_rows item.key ≡ false →
    AreOfRows found (done ++ item ∷ [])
rows_pass found done item so others other = (
  λ h. let was = (so other).0 h in (Contains-append_left done (item ∷ []) other was.0, was.1),
  λ h. elim (Contains-push_cases done item other h.0) [
    | inl before ↦ (so other).1 (before, h.1)
    | inr same ↦ absurd (let no : is_of_rows item.key ≡ true = subst (λ (i : Item). is_of_rows i.key ≡ true) (sym same) h.1 in cc)
  ],
)
