-- Which items are reported, by what is known of their UID.
use Rattle.std.proofs.Common.{◌≡◌, ◌↔◌, ℕ, List, refl, sym, ◌∙◌, ap, subst, ◌⊎◌, inl, inr, Bool, true, Option}
use Rattle.std.specs.Prelude.{IsTrue}
use Rattle.std.specs.List.{Contains}
use Rattle.std.specs.Ordering.{is_lt}
use Rattle.std.specs.declared.cmp.Ordering.{Ordering}
use Rattle.std.specs.declared.cmp.Ordering.TheVariants.{Less, Equal, Greater}
use Rattle.itip_moment.specs.Order.{stamp_cmp}
use Rattle.itip_moment.specs.declared.moment.Moment.{Moment}
use Rattle.itip_items.specs.KeyParts.{uid_of, instance_of}
use Rattle.itip_items.specs.declared.item.Item.{Item}
use Rattle.itip_items.specs.declared.key.Key.{Key}
use Rattle.itip_items.specs.declared.key.Key.TheVariants.{Series, Instance, Range}
use Rattle.itip_state.specs.Kept.{IsBest, AreOf, AscendKeys}
use Rattle.itip_state.specs.Order.{IsState}
use Rattle.itip_view.specs.RowsOfUid.{IsSeriesItem, StandsBesideOf}
use Rattle.itip_view.specs.Standing.{IsCancelled, StandsUnder, Governs}
use Rattle.itip_view.proofs.Beside.{stands_from, beside_from}
use Rattle.itip_state.proofs.OfKey.{best_in}
use Rattle.itip_view.proofs.Governed.{one_governs}
use Rattle.itip_report.specs.Reports.{IsStanding, IsCancellation, IsOfAttendee, IsRefresh, NoneAtInstance, IsOrphan, IsWanted}

-- ---- what stands
module _ (items : List Item) (uid : List ℕ) (of_uid : AreOf uid items) (ascend : AscendKeys items) (series : Option Item)
    (of : IsSeriesItem items uid series)
    (item : Item) (there : Contains items item) where
  -- its key names the UID
  here_named : (key : List ℕ → Key) → ((u : List ℕ) → uid_of (key u) ≡ u) → (u : List ℕ) → item.key ≡ key u → item.key ≡ key uid
  here_named key names u about = about ∙ ap key (sym (names u) ∙ sym (ap uid_of about) ∙ of_uid item there)

  stands_under : (key : Key) → item.key ≡ key → StandsBesideOf series item → StandsUnder items uid key item
  stands_under key about = stands_from items uid key series item of (best_in items ascend key item there about)

  pub standing_of : ((u : List ℕ) × (id : Moment) × (item.key ≡ Instance u id)) ⊎
      ((u : List ℕ) × (id : Moment) × (item.key ≡ Range u id)) → StandsBesideOf series item → IsStanding items uid item
  standing_of (inl (u, id, about)) beside =
      record {
        id = id;
        stands =
            inl (stands_under (Instance uid id) (here_named (λ (v : List ℕ). Instance v id) (λ v. refl) u about) beside);
      }
  standing_of (inr (u, id, about)) beside =
      record { id = id; stands = inr (stands_under (Range uid id) (here_named (λ (v : List ℕ). Range v id) (λ v. refl) u about) beside) }

  pub standing_beside : IsStanding items uid item → StandsBesideOf series item
  standing_beside s = elim s.stands [
    | inl at ↦ beside_from items uid (Instance uid s.id) series item of at
    | inr on ↦ beside_from items uid (Range uid s.id) series item of on
  ]

-- ---- cancellations
pub series_cancelled : (items : List Item) → AscendKeys items → (item : Item) → Contains items item → (uid : List ℕ) →
    item.key ≡ Series uid → IsCancelled item → IsCancellation items item
series_cancelled items ascend item there uid about is = inl (record {
  best = best_in items ascend (Series (uid_of item.key)) item there (about ∙ ap Series (sym (ap uid_of about)));
  cancelled = is;
})

pub standing_cancelled : (items : List Item) (uid : List ℕ) (item : Item) → uid_of item.key ≡ uid → IsCancelled item →
    ((u : List ℕ) → item.key ≡ Series u → ⊥) → (r : Bool)
    → (IsTrue r ↔ IsStanding items uid item) → IsTrue r ↔ IsCancellation items item
standing_cancelled items uid item about is other r stands = (
  λ e. inr (record { standing = subst (λ (u : List ℕ). IsStanding items u item) (sym about) (stands.0 e); cancelled = is }),
  λ cancels. elim cancels [
    | inl s ↦ absurd (other (uid_of item.key) s.best.about)
    | inr s ↦ stands.1 (subst (λ (u : List ℕ). IsStanding items u item) about s.standing)
  ],
)

-- ---- what attendees sent
module _ (items : List Item) (ascend : AscendKeys items) (state : IsState items) (item : Item) (there : Contains items item) (uid : List ℕ)
    (about : uid_of item.key ≡ uid)
    (id : Option Moment) (names : id ≡ instance_of item.key) where
  pub not_orphan : (s : Item) → IsBest items (Series uid) s → ¬ IsOrphan items item
  not_orphan s best orphan = orphan.no_series s best.is_heard (best.about ∙ ap Series (sym about))

  pub orphan_where : IsOfAttendee item.key → ((i : Item) → Contains items i → i.key ≡ Series uid → ⊥) → (r : Bool) →
      (IsTrue r ↔ NoneAtInstance items uid id) → IsTrue r ↔ IsOrphan items item
  orphan_where of none r is = (
    λ e. record {
      kept = (state item).0 there;
      of_attendee = of;
      no_series = λ i h same. none i h (same ∙ ap Series about);
      no_instance = subst (λ (u : List ℕ). NoneAtInstance items u (instance_of item.key)) (sym about)
          (subst (NoneAtInstance items uid) names (is.0 e));
    },
    λ orphan. is.1 (subst (NoneAtInstance items uid) (sym names)
        (subst (λ (u : List ℕ). NoneAtInstance items u (instance_of item.key)) about orphan.no_instance)),
  )

  is_less : (o : Ordering) → is_lt o ≡ true → o ≡ Less
  is_less Less e = refl
  is_less Equal e = cc
  is_less Greater e = cc

  here : (g : Item) → Governs items uid id g → Governs items (uid_of item.key) (instance_of item.key) g
  here g governs = subst (λ (u : List ℕ). Governs items u (instance_of item.key) g) (sym about)
      (subst (λ (o : Option Moment). Governs items uid o g) names governs)

  back : (g : Item) → Governs items (uid_of item.key) (instance_of item.key) g → Governs items uid id g
  back g governs = subst (λ (o : Option Moment). Governs items uid o g) (sym names)
      (subst (λ (u : List ℕ). Governs items u (instance_of item.key) g) about governs)

  pub wanted_where : IsRefresh item.key → (g : Item) → Governs items uid id g → (r : Bool) → r ≡ is_lt (stamp_cmp g.stamp item.stamp) →
      IsTrue r ↔ IsWanted items item
  wanted_where refresh g governs r is = (
    λ e. record {
      kept = (state item).0 there;
      refresh = refresh;
      governing = g;
      governs = here g governs;
      older =
          is_less (stamp_cmp g.stamp item.stamp) (sym is ∙ e);
    },
    λ wanted. is ∙ ap is_lt (ap (λ (h : Item). stamp_cmp h.stamp item.stamp)
        (one_governs items uid id g wanted.governing governs (back wanted.governing wanted.governs)) ∙ wanted.older),
  )

  pub not_wanted : ((g : Item) → ¬ Governs items uid id g) → ¬ IsWanted items item
  not_wanted none wanted = none wanted.governing (back wanted.governing wanted.governs)
