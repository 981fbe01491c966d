-- Which items end after a moment, by what is known of their UID, and how the to-dos that cancel them are put together.
use Rattle.std.proofs.Common.{◌≡◌, ◌↔◌, ◌∙◌, ℕ, ◌+◌, ◌<◌, List, [], ◌∷◌, ◌++◌, length, map, take, get_or, refl, sym, ap, ◌⊎◌, inl, inr}
use Rattle.std.proofs.Common.{subst, append_assoc, Bool, true, false, Option, Some, None, Bor}
use Rattle.std.specs.Prelude.{IsTrue}
use Rattle.std.specs.List.{Contains}
use Rattle.std.specs.Ordering.{is_gt}
use Rattle.std.specs.declared.cmp.Ordering.{Ordering}
use Rattle.std.specs.declared.cmp.Ordering.TheVariants.{Less, Equal, Greater}
use Rattle.std.proofs.lemmas.List.{take_more}
use Rattle.std.proofs.lemmas.Option.{same_Some}
use Rattle.itip_moment.specs.Order.{moment_cmp}
use Rattle.itip_moment.specs.declared.moment.Moment.{Moment}
use Rattle.itip_todo.specs.Parts.{Parts}
use Rattle.itip_items.specs.declared.item.Item.{Item}
use Rattle.itip_items.specs.declared.key.Key.{Key}
use Rattle.itip_items.specs.declared.key.Key.TheVariants.{Series, Instance, Range, Answer, Refresh}
use Rattle.itip_state.specs.Kept.{AreOf, AscendKeys}
use Rattle.itip_view.specs.RowsOfUid.{IsSeriesItem, StandsBesideOf}
use Rattle.itip_view.specs.Standing.{HaveOneForm, IsLive}
use Rattle.itip_report.specs.Reports.{IsStanding}
use Rattle.itip_report.proofs.Mapped.{map_both}
use Rattle.itip_report.proofs.Telling.{standing_beside, standing_of}
use Rattle.itip_writing.specs.Cancelling.{IsAfter}
use Rattle.itip_writing.specs.Endings.{EndsLater, override_of}

-- ---- moments

gt_tested : (o : Ordering) (b : Bool) → b ≡ is_gt o → IsTrue b ↔ (o ≡ Greater)
gt_tested Less b is = (λ yes. let x : true ≡ false = sym yes ∙ is in absurd cc, λ same. absurd cc)
gt_tested Equal b is = (λ yes. let x : true ≡ false = sym yes ∙ is in absurd cc, λ same. absurd cc)
gt_tested Greater b is = (λ yes. refl, λ same. is)

pub after_where : (from at : Moment) → HaveOneForm from at → (b : Bool) → b ≡ is_gt (moment_cmp at from) → IsTrue b ↔ IsAfter from at
after_where from at one_form b is =
    let tested = gt_tested (moment_cmp at from) b is in
    (λ yes. record { one_form = one_form; later = tested.0 yes }, λ after. tested.1 after.later)

-- ---- items

pub ends_heard : (heard : List Item) (uid : List ℕ) (from : Moment) (item : Item) → EndsLater heard uid from item → Contains heard item
ends_heard heard uid from item is = elim is.standing.stands [ inl at ↦ at.best.is_heard | inr on ↦ on.best.is_heard ]

-- it is of an instance or range
override_standing : (items : List Item) (uid : List ℕ) (item : Item) (s : IsStanding items uid item) → override_of item.key ≡ Some s.id
override_standing items uid item s =
    elim s.stands [ inl at ↦ ap override_of at.best.about | inr on ↦ ap override_of on.best.about ]

pub none_ends : (items : List Item) (uid : List ℕ) (from : Moment) (item : Item) → override_of item.key ≡ None →
    EndsLater items uid from item → ⊥
none_ends items uid from item none is =
    let x : None ≡ Some is.standing.id = sym none ∙ override_standing items uid item is.standing in cc

abbrev IsOverride : Key → Type 0
IsOverride key = ((u : List ℕ) × (id : Moment) × (key ≡ Instance u id)) ⊎ ((u : List ℕ) × (id : Moment) × (key ≡ Range u id))

as_override : (key : Key) (id : Moment) → override_of key ≡ Some id → IsOverride key
as_override (Series u) id e = absurd cc
as_override (Instance u other) id e = inl (u, other, refl)
as_override (Range u other) id e = inr (u, other, refl)
as_override (Answer u other attendee) id e = absurd cc
as_override (Refresh u other attendee) id e = absurd cc

module _ (items : List Item) (uid : List ℕ) (item : Item) (from id : Moment) (named : override_of item.key ≡ Some id) where
  same_id : (s : IsStanding items uid item) → s.id ≡ id
  same_id s = same_Some s.id id (sym (override_standing items uid item s) ∙ named)

  pub ends_after : EndsLater items uid from item → IsAfter from id
  ends_after is = subst (IsAfter from) (same_id is.standing) is.after

module _ (items : List Item) (uid : List ℕ) (of_uid : AreOf uid items) (ascend : AscendKeys items) (series : Option Item)
    (of : IsSeriesItem items uid series) (item : Item) (there : Contains items item) (from id : Moment)
    (named : override_of item.key ≡ Some id) where
  pub ends_where : IsAfter from id → (IsLive item × StandsBesideOf series item) → EndsLater items uid from item
  ends_where after (live, beside) =
      let s : IsStanding items uid item =
      standing_of items uid of_uid ascend series of item there (as_override item.key id named) beside in
      record { standing = s; live = live; after = subst (IsAfter from) (sym (same_id items uid item from id named s)) after }

  pub ends_beside : EndsLater items uid from item → IsLive item × StandsBesideOf series item
  ends_beside is = (is.live, standing_beside items uid of_uid ascend series of item there is.standing)

-- ---- one more to-do

pub ending_more : (f : Item → Parts) (first : List Parts) (later : List (Bor Item)) (i : ℕ) (one : Bor Item) → i < length later →
    one ≡ get_or later i one → (all : List Parts) → all ≡ first ++ map f (map (λ item. item.now) (take i later)) →
    all ++ f one.now ∷ [] ≡ first ++ map f (map (λ item. item.now) (take (i + 1) later))
ending_more f first later i one below here all are =
    let now : Bor Item → Item = λ item. item.now in
    let before : List (Bor Item) = take i later in
    let more : take (i + 1) later ≡ before ++ one ∷ [] =
    take_more later i one below ∙ ap (λ (x : Bor Item). before ++ x ∷ []) (sym here) in
    let mapped : map f (map now (take (i + 1) later)) ≡ map f (map now before) ++ f one.now ∷ [] =
    ap (λ (items : List (Bor Item)). map f (map now items)) more
    ∙ ap (map f) (map_both now before (one ∷ []))
    ∙ map_both f (map now before) (one.now ∷ []) in
    ap (λ (parts : List Parts). parts ++ f one.now ∷ []) are
    ∙ append_assoc first (map f (map now before)) (f one.now ∷ [])
    ∙ ap (λ (rest : List Parts). first ++ rest) (sym mapped)
