-- An item has one fate, and what was told has one explanation.
use Rattle.std.proofs.Common.{◌≡◌, ◌<◌, ◌≤◌, ℕ, List, [], ◌∷◌, ◌++◌, sym, ◌∙◌, ap, subst, inl, inr, arith, Option}
use Rattle.std.specs.List.{Contains}
use Rattle.itip_moment.specs.declared.moment.Moment.{Moment}
use Rattle.itip_items.specs.KeyParts.{uid_of}
use Rattle.itip_items.specs.declared.item.Item.{Item}
use Rattle.itip_items.specs.declared.key.Key.{Key}
use Rattle.itip_items.specs.declared.key.Key.TheVariants.{Series, Instance, Range, Answer, Refresh}
use Rattle.itip_state.proofs.Members.{cons_first, cons_later}
use Rattle.itip_streams.specs.declared.source_name.SourceName.{SourceName}
use Rattle.itip_view.proofs.Asking.{one_in_question}
use Rattle.itip_view.proofs.OneRow.{one_best}
use Rattle.itip_explain.specs.Explanation.{AreLines}
use Rattle.itip_explain.specs.Fates.{IsOlder, IsStranger, IsNotOlder, IsUnder, IsOverrideFate, IsAnswerFate, IsRefreshFate, IsFateAt}
use Rattle.itip_explain.specs.Fates.{IsFate}
use Rattle.itip_explain.specs.Fates.{IsWaitingOrAnswered}
use Rattle.itip_explain.specs.Lines.{line_text}
use Rattle.itip_explain.specs.Told.{heard_of, IsFirstToTell}
use Rattle.itip_explain.specs.declared.fate.Fate.{Fate}
use Rattle.itip_explain.specs.declared.fate.Fate.TheVariants as fate
use Rattle.itip_explain.specs.declared.told.Place.{Place}
use Rattle.itip_explain.specs.declared.told.ToldItem.{ToldItem}

module _ (item : Item) where
  heads : (x y : ToldItem) (xs ys : List ToldItem) → x ∷ xs ≡ y ∷ ys → x ≡ y
  heads x y xs ys e = cc

  tails : (x y : ToldItem) (xs ys : List ToldItem) → x ∷ xs ≡ y ∷ ys → xs ≡ ys
  tails x y xs ys e = cc

  tells_it : (z : ToldItem) (zs : List ToldItem) → z.item ≡ item → Contains (heard_of (z ∷ zs)) item
  tells_it z zs e = subst (Contains (heard_of (z ∷ zs))) e (cons_first z.item (heard_of zs))

  -- two cuts before the first that tells an item are the same
  one_cut : (front : List ToldItem) (x : ToldItem) (xs : List ToldItem) (other : List ToldItem) (y : ToldItem) (ys : List ToldItem) →
      front ++ x ∷ xs ≡ other ++ y ∷ ys → x.item ≡ item → y.item ≡ item → (Contains (heard_of front) item → ⊥)
      → (Contains (heard_of other) item → ⊥) → x ≡ y
  one_cut [] x xs [] y ys e p q f g = heads x y xs ys e
  one_cut [] x xs (z ∷ zs) y ys e p q f g =
      absurd (g (tells_it z zs (ap (λ (t : ToldItem). t.item) (sym (heads x z xs (zs ++ y ∷ ys) e)) ∙ p)))
  one_cut (z ∷ zs) x xs [] y ys e p q f g =
      absurd (f (tells_it z zs (ap (λ (t : ToldItem). t.item) (heads z y (zs ++ x ∷ xs) ys e) ∙ q)))
  one_cut (z ∷ zs) x xs (w ∷ ws) y ys e p q f g =
      one_cut zs x xs ws y ys (tails z w (zs ++ x ∷ xs) (ws ++ y ∷ ys) e) p q
      (λ h. f (cons_later z.item (heard_of zs) item h)) (λ h. g (cons_later w.item (heard_of ws) item h))

pub one_first : (told : List ToldItem) (item : Item) (place other : Place) → IsFirstToTell told item place → IsFirstToTell told item other →
    place ≡ other
one_first told item place other p q =
    sym p.place_is ∙ ap (λ (t : ToldItem). t.place)
    (one_cut item p.before p.first p.after q.before q.first q.after (sym p.cut ∙ q.cut) p.tells q.tells p.none_before q.none_before)
    ∙ q.place_is

module _ (told : List ToldItem) where
  -- equal items are first told at one place
  one_place : (a b : Item) (p q : Place) → a ≡ b → IsFirstToTell told a p → IsFirstToTell told b q → p ≡ q
  one_place a b p q same first other =
      one_first told b p q (subst (λ (i : Item). IsFirstToTell told i p) same first) other

  module _ (item : Item) where
    one_override : (uid : List ℕ) (key : Key) (cancels a b : Fate) → IsOverrideFate told uid key cancels item a →
        IsOverrideFate told uid key cancels item b → a ≡ b
    one_override uid key cancels a b (inl p) (inl q) = p.1 ∙ sym q.1
    one_override uid key cancels a b (inl p) (inr q) = absurd (q.not_standing p.0)
    one_override uid key cancels a b (inr p) (inl q) = absurd (p.not_standing q.0)
    one_override uid key cancels a b (inr p) (inr q) =
        p.became_is ∙
        ap fate.CancelledWithToDoBy
        (one_place p.series q.series p.place q.place (one_best (heard_of told) (Series uid) p.series q.series p.best q.best) p.first
        q.first) ∙ sym q.became_is

    module _ (uid : List ℕ) (id : Option Moment) (attendee : List ℕ) where
      one_stranger : (g : Item) (a b : Fate) → IsStranger told uid id attendee g a → IsStranger told uid id attendee g b → a ≡ b
      one_stranger g a b p q =
          p.became_is ∙ ap fate.FromNoAttendeeOf (one_first told g p.place q.place p.first q.first) ∙ sym q.became_is

      one_not_older : (g : Item) (a b : Fate) → IsNotOlder told uid id attendee g item a → IsNotOlder told uid id attendee g item b → a ≡ b
      one_not_older g a b p q = elim p.by_attendee [
        | inl here ↦ elim q.by_attendee [ inl also ↦ here.1 ∙ sym also.1 | inr not ↦ absurd (not.no_attendee here.0) ]
        | inr not ↦ elim q.by_attendee [ inl here ↦ absurd (not.no_attendee here.0) | inr also ↦ one_stranger g a b not also ]
      ]

      apart : (g : Item) (a b : Fate) → IsOlder told g item a → IsNotOlder told uid id attendee g item b → ⊥
      apart g a b p q = let below : item.own < g.own = p.older in let since : g.own ≤ item.own = q.since in omega arith

      one_under : (g : Item) (a b : Fate) → IsUnder told uid id attendee g item a → IsUnder told uid id attendee g item b → a ≡ b
      one_under g a b (inl p) (inl q) =
          p.became_is ∙ ap fate.ForOlderThan (one_first told g p.place q.place p.first q.first) ∙ sym q.became_is
      one_under g a b (inl p) (inr q) = absurd (apart g a b p q)
      one_under g a b (inr p) (inl q) = absurd (apart g b a q p)
      one_under g a b (inr p) (inr q) = one_not_older g a b p q

      one_answer : (a b : Fate) → IsAnswerFate told uid id attendee item a → IsAnswerFate told uid id attendee item b → a ≡ b
      one_answer a b (inl p) (inl q) = p.1 ∙ sym q.1
      one_answer a b (inl p) (inr q) = absurd (p.0 q.governing q.in_question)
      one_answer a b (inr p) (inl q) = absurd (q.0 p.governing p.in_question)
      one_answer a b (inr p) (inr q) =
          let same : q.governing ≡ p.governing =
          one_in_question (heard_of told) uid id q.governing p.governing q.in_question p.in_question in
          one_under p.governing a b p.under (subst (λ (g : Item). IsUnder told uid id attendee g item b) same q.under)

    one_report : (a b : Fate) → IsWaitingOrAnswered (heard_of told) item a → IsWaitingOrAnswered (heard_of told) item b → a ≡ b
    one_report a b (inl p) (inl q) = p.1 ∙ sym q.1
    one_report a b (inl p) (inr q) = absurd (q.0 p.0)
    one_report a b (inr p) (inl q) = absurd (p.0 q.0)
    one_report a b (inr p) (inr q) = p.1 ∙ sym q.1

    one_refresh : (uid : List ℕ) (id : Option Moment) (a b : Fate) → IsRefreshFate told uid id item a → IsRefreshFate told uid id item b →
        a ≡ b
    one_refresh uid id a b (inl p) (inl q) = p.1 ∙ sym q.1
    one_refresh uid id a b (inl p) (inr q) = absurd (p.0 q.governing q.governs)
    one_refresh uid id a b (inr p) (inl q) = absurd (q.0 p.governing p.governs)
    one_refresh uid id a b (inr p) (inr q) = one_report a b p.by_report q.by_report

    one_at : (key : Key) (a b : Fate) → IsFateAt told key item a → IsFateAt told key item b → a ≡ b
    one_at (Series uid) a b p q = p ∙ sym q
    one_at (Instance uid id) a b p q = one_override uid (Instance uid id) fate.CancelsInstance a b p q
    one_at (Range uid id) a b p q = one_override uid (Range uid id) fate.CancelsOnward a b p q
    one_at (Answer uid id attendee) a b p q = one_answer uid id attendee a b p q
    one_at (Refresh uid id attendee) a b p q = one_refresh uid id a b p q

    pub one_fate : (a b : Fate) → IsFate told item a → IsFate told item b → a ≡ b
    one_fate a b (inl p) (inl q) =
        p.became_is ∙
        ap fate.OvertakenBy
        (one_place p.latest q.latest p.place q.place (one_best (heard_of told) item.key p.latest q.latest p.best q.best) p.first q.first) ∙
        sym q.became_is
    one_fate a b (inl p) (inr (inl q)) = absurd (q.best.none_later p.latest p.best.is_heard p.best.about p.later)
    one_fate a b (inl p) (inr (inr q)) = absurd (q.kept.best.none_later p.latest p.best.is_heard p.best.about p.later)
    one_fate a b (inr (inl p)) (inl q) = absurd (p.best.none_later q.latest q.best.is_heard q.best.about q.later)
    one_fate a b (inr (inr p)) (inl q) = absurd (p.kept.best.none_later q.latest q.best.is_heard q.best.about q.later)
    one_fate a b (inr (inl p)) (inr (inl q)) =
        p.became_is ∙
        ap fate.VoidBy
        (one_place p.dead.series q.dead.series p.place q.place
        (one_best (heard_of told) (Series (uid_of item.key)) p.dead.series q.dead.series p.dead.best q.dead.best) p.first q.first) ∙
        sym q.became_is
    one_fate a b (inr (inl p)) (inr (inr q)) = absurd (q.kept.alive p.dead)
    one_fate a b (inr (inr p)) (inr (inl q)) = absurd (p.kept.alive q.dead)
    one_fate a b (inr (inr p)) (inr (inr q)) = one_at item.key a b p.by_key q.by_key

  pub one_text : (names : List SourceName) (rest : List ToldItem) (text other : List ℕ) → AreLines told names rest text →
      AreLines told names rest other → text ≡ other
  one_text names [] text other p q = p ∙ sym q
  one_text names (one ∷ others) text other (a, xs, fate_a, lines_a, is_a) (b, ys, fate_b, lines_b, is_b) =
      let same : a ≡ b = one_fate one.item a b fate_a fate_b in
      let more : xs ≡ ys = one_text names others xs ys lines_a lines_b in
      is_a ∙ (λ i. line_text names one (same i) ++ more i) ∙ sym is_b
