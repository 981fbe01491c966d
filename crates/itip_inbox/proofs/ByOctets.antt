-- Items of a list, sorted by canonical bytes, each once: the kept ones, or others, if it can be decided which are meant.
use Rattle.std.proofs.Common.{◌≡◌, ◌∙◌, sym, ap, refl, subst, ℕ, suc, ◌⊎◌, ◌↔◌, List, [], ◌∷◌, inl, inr, arith}
use Rattle.std.specs.List.{Contains}
use Rattle.std.specs.Ordering.{ordering_reverse}
use Rattle.std.specs.declared.cmp.Ordering.{Ordering}
use Rattle.std.specs.declared.cmp.Ordering.TheVariants.{Less, Equal, Greater}
use Rattle.std.proofs.lemmas.List.Kept.{AllPairs-cons}
use Rattle.std.proofs.lemmas.Map.Lookups.{exact_bytes}
use Rattle.itip_items.specs.OctetOrder.{octets_cmp, octets_total}
use Rattle.itip_items.specs.declared.item.Item.{Item}
use Rattle.itip_items.proofs.SameItem.{same_item}
use Rattle.itip_state.specs.Kept.{IsKept}
use Rattle.itip_state.proofs.Members.{none_in, cons_cases, cons_first, cons_later, all_each, no_pairs}
use Rattle.itip_desk.specs.Octets.{AscendOctets}
use Rattle.itip_desk.proofs.Told.{told_kept}
use Rattle.itip_desk.specs.DeltaFormat.{delta_octets}
use Rattle.itip_inbox.specs.Compaction.{AreKeptOctets}

either_in : (x : Item) (xs : List Item) (i : Item) → (x ≡ i) ⊎ Contains xs i → Contains (x ∷ xs) i
either_in x xs i (inl is) = subst (Contains (x ∷ xs)) is (cons_first x xs)
either_in x xs i (inr later) = cons_later x xs i later

abbrev IsBefore : Item → Item → Type 0
IsBefore i j = octets_cmp i j ≡ Less

before_all : (x : Item) (xs : List Item) → AscendOctets (x ∷ xs) → (i : Item) → Contains xs i → IsBefore x i
before_all x xs up i (k, within, is) = subst (IsBefore x) is (up 0 (suc k) i (omega arith) (omega arith))

rest_up : (x : Item) (xs : List Item) → AscendOctets (x ∷ xs) → AscendOctets xs
rest_up x xs up i j d less within = up (suc i) (suc j) d (omega arith) (omega arith)

-- ---- one item more

record HasOneMore (item : Item) (items more : List Item) : Type 0 where
  ascend : AscendOctets more
  same : (i : Item) → Contains more i ↔ ((item ≡ i) ⊎ Contains items i)

put_first : (x : Item) (ys : List Item) → AscendOctets ys → ((i : Item) → Contains ys i → IsBefore x i) → HasOneMore x ys (x ∷ ys)
put_first x ys up before = record {
  ascend = AllPairs-cons IsBefore x ys (all_each (IsBefore x) ys before) up;
  same = λ i. (cons_cases x ys i, either_in x ys i);
}

put_tied : (x y : Item) (ys : List Item) → AscendOctets (y ∷ ys) → y ≡ x → HasOneMore x (y ∷ ys) (y ∷ ys)
put_tied x y ys up tied = record {
  ascend = up;
  same = λ i. (inr, λ h. elim h [ inl is ↦ either_in y ys i (inl (tied ∙ is)) | inr there ↦ there ]);
}

put_later : (x y : Item) (ys more : List Item) → AscendOctets (y ∷ ys) → IsBefore y x → HasOneMore x ys more →
    HasOneMore x (y ∷ ys) (y ∷ more)
put_later x y ys more up before has = record {
  ascend = AllPairs-cons IsBefore y more
      (all_each (IsBefore y) more (λ i h. elim ((has.same i).0 h)
      [ inl is ↦ subst (IsBefore y) is before | inr there ↦ before_all y ys up i there ])) has.ascend;
  same = λ i. (
    λ h. elim (cons_cases y more i h) [
      | inl is ↦ inr (either_in y ys i (inl is))
      | inr later ↦ elim ((has.same i).0 later) [ inl is ↦ inl is | inr there ↦ inr (cons_later y ys i there) ]
    ],
    λ h. either_in y more i (elim h [
      | inl is ↦ inr ((has.same i).1 (inl is))
      | inr there ↦ elim (cons_cases y ys i there) [ inl is ↦ inl is | inr later ↦ inr ((has.same i).1 (inr later)) ]
    ]),
  );
}

put : (x : Item) (ys : List Item) → AscendOctets ys → (more : List Item) × HasOneMore x ys more
put x [] up = (x ∷ [], put_first x [] up (λ i h. absurd (none_in i h)))
put x (y ∷ ys) up =
    elim (octets_cmp x y) as (λ (o : Ordering). octets_cmp x y ≡ o → (more : List Item) × HasOneMore x (y ∷ ys) more) [
      | Less ↦ λ e. (
        x ∷ (y ∷ ys),
        put_first x (y ∷ ys) up (λ i h. elim (cons_cases y ys i h)
            [ inl is ↦ subst (IsBefore x) is e | inr later ↦ octets_total.trans x y i e (before_all y ys up i later) ]),
      )
      | Equal ↦ λ e. (y ∷ ys, put_tied x y ys up (sym (same_item x y (exact_bytes x.bytes y.bytes e))))
      | Greater ↦ λ e.
          let rest = put x ys (rest_up y ys up) in
          (y ∷ rest.0, put_later x y ys rest.0 up (octets_total.antisymm y x ∙ ap ordering_reverse e) rest.1)
    ] refl

-- ---- those of which something holds

-- the items of which this holds, sorted by canonical bytes
pub record AreThose (P : Item → Type 0) (items those : List Item) : Type 0 where
  pub ascend : AscendOctets those
  pub same : (i : Item) → Contains those i ↔ (Contains items i × P i)

module _ (P : Item → Type 0) (told : (i : Item) → P i ⊎ (¬ P i)) where
  put_one : (x : Item) (xs those : List Item) → AreThose P xs those → P x → (more : List Item) × HasOneMore x those more →
      (more : List Item) × AreThose P (x ∷ xs) more
  put_one x xs those rest holds more = (
    more.0,
    record {
      ascend = more.1.ascend;
      same = λ i. (
        λ h. elim ((more.1.same i).0 h) [
          | inl is ↦ (either_in x xs i (inl is), subst P is holds)
          | inr there ↦ let both = (rest.same i).0 there in (cons_later x xs i both.0, both.1)
        ],
        λ h. (more.1.same i).1 (elim (cons_cases x xs i h.0) [ inl is ↦ inl is | inr later ↦ inr ((rest.same i).1 (later, h.1)) ]),
      );
    },
  )

  leave_one : (x : Item) (xs those : List Item) → AreThose P xs those → (¬ P x) → AreThose P (x ∷ xs) those
  leave_one x xs those rest not = record {
    ascend = rest.ascend;
    same = λ i. (
      λ h. let both = (rest.same i).0 h in (cons_later x xs i both.0, both.1),
      λ h. elim (cons_cases x xs i h.0) [ inl is ↦ absurd (not (subst P (sym is) h.1)) | inr later ↦ (rest.same i).1 (later, h.1) ],
    );
  }

  pub those_of : (items : List Item) → (those : List Item) × AreThose P items those
  those_of [] = ([], record { ascend = no_pairs IsBefore; same = λ i. (λ h. absurd (none_in i h), λ h. absurd (none_in i h.0)) })
  those_of (x ∷ xs) =
      let rest = those_of xs in
      elim (told x) [
        | inl holds ↦ put_one x xs rest.0 rest.1 holds (put x rest.0 rest.1.ascend)
        | inr not ↦ (rest.0, leave_one x xs rest.0 rest.1 not)
      ]

pub some_kept_octets : (heard : List Item) → (octets : List ℕ) × AreKeptOctets heard octets
some_kept_octets heard =
    let kept = those_of (IsKept heard) (told_kept heard) heard in (
      delta_octets kept.0,
      record {
        batch = kept.0;
        ascend = kept.1.ascend;
        kept = λ i. (λ h. ((kept.1.same i).0 h).1, λ keeps. (kept.1.same i).1 (keeps.best.is_heard, keeps));
        octets_are = refl;
      },
    )
