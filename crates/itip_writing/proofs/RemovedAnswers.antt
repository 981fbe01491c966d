-- The kept answers of those who are removed, one after the other: the latest with a sequence, and that none has a greater one.
use Rattle.std.proofs.Common.{◌≡◌, ◌∙◌, ℕ, ◌+◌, ◌<◌, ◌==◌, List, [], ◌∷◌, ◌++◌, length, take, get_or, refl, sym, ap, subst, ◌⊎◌, inl}
use Rattle.std.proofs.Common.{inr, arith, Bool, true, false, Option, Some, None}
use Rattle.std.specs.Prelude.{if◌then◌else◌}
use Rattle.std.specs.List.{Contains}
use Rattle.std.proofs.lemmas.Bool.{eqb-false, eqb-true}
use Rattle.std.proofs.lemmas.List.{take_more}
use Rattle.std.proofs.lemmas.List.Elements.{Contains-append_cases, Contains-append_left, Contains-push}
use Rattle.itip_moment.specs.declared.moment.Moment.{Moment}
use Rattle.itip_moment.specs.declared.stamp.Stamp.{Stamp}
use Rattle.itip_todo.specs.Properties.{Property}
use Rattle.itip_items.specs.declared.item.Item.{Item}
use Rattle.itip_items.specs.declared.key.Key.{Key}
use Rattle.itip_state.specs.Kept.{IsKept}
use Rattle.itip_state.proofs.Members.{cons_cases, none_in}
use Rattle.itip_view.specs.Answers.{answer_key}
use Rattle.itip_report.proofs.Mapped.{map_both}
use Rattle.itip_writing.specs.Removing.{IsGreater, IsNoGreater, IsOvertaken, removed_keys, with_stamp}
use Rattle.itip_writing.specs.Stamping.{IsEqualRevision, IsKeptOf, IsLatestOf, equal_stamp}
use Rattle.itip_writing.proofs.Latest.{latest_with, one_kept}

-- stamps for which the same holds have the same latest
latest_there : (P Q : Stamp → Type 0) → ((s : Stamp) → P s → Q s) → ((s : Stamp) → Q s → P s) → (latest : Option Stamp) →
    IsLatestOf P latest → IsLatestOf Q latest
latest_there P Q to back None none = λ s is. none s (back s is)
latest_there P Q to back (Some latest) is =
    record { is_one = to latest is.is_one; none_later = λ other h. is.none_later other (back other h) }

module _ (heard : List Item) (keys : List Key) (key : Key) (n : ℕ) where
  abbrev more : List Key
  more = keys ++ key ∷ []

  abbrev Before : Stamp → Type 0
  Before = IsEqualRevision heard keys n

  abbrev After : Stamp → Type 0
  After = IsEqualRevision heard more n

  key_cases : (k : Key) → Contains more k → Contains keys k ⊎ (k ≡ key)
  key_cases k h = elim (Contains-append_cases keys (key ∷ []) k h) [
    | inl old ↦ inl old
    | inr new ↦ elim (cons_cases key [] k new) [ inl same ↦ inr (sym same) | inr none ↦ absurd (none_in k none) ]
  ]

  still : (s : Stamp) → Before s → After s
  still s is = record {
    item = is.item;
    kept = is.kept;
    about = Contains-append_left keys (key ∷ []) is.item.key is.about;
    same = is.same;
    stamp_is = is.stamp_is;
  }

  old : (s : Stamp) (is : After s) → Contains keys is.item.key → Before s
  old s is about = record { item = is.item; kept = is.kept; about = about; same = is.same; stamp_is = is.stamp_is }

  -- no item of the key is kept
  unmoved : ((item : Item) → IsKept heard item → item.key ≡ key → item.eff ≡ n → ⊥) → (latest : Option Stamp) →
      IsLatestOf Before latest → IsLatestOf After latest
  unmoved none latest is = latest_there Before After still
      (λ s h. elim (key_cases h.item.key h.about) [ inl about ↦ old s h about | inr new ↦ absurd (none h.item h.kept new h.same) ])
      latest is

  -- the kept item of the key has the sequence
  moved : (item : Item) → IsKept heard item → item.key ≡ key → item.eff ≡ n → (latest : Option Stamp) → IsLatestOf Before latest →
      IsLatestOf After (with_stamp latest (Some item.stamp))
  moved item kept about same latest is =
      latest_there (λ s. Before s ⊎ (s ≡ item.stamp)) After
      (λ s h. elim h [
        | inl before ↦ still s before
        | inr new ↦ record {
          item = item;
          kept = kept;
          about = subst (Contains more) (sym about) (Contains-push keys key);
          same = same;
          stamp_is = new;
        }
      ])
      (λ s h. elim (key_cases h.item.key h.about) [
        | inl among ↦ inl (old s h among)
        | inr new ↦ inr (h.stamp_is ∙ ap (λ (i : Item). i.stamp) (one_kept heard key h.item item h.kept kept new about))
      ])
      (with_stamp latest (Some item.stamp)) (latest_with Before item.stamp latest is)

  pub latest_more : (answer : Option Item) → IsKeptOf heard key answer → (latest : Option Stamp) → IsLatestOf Before latest →
      IsLatestOf After (with_stamp latest (equal_stamp n answer))
  latest_more None none latest is = unmoved (λ item kept about same. none item kept about) latest is
  latest_more (Some item) (kept, about) latest is = by (item.eff == n) refl
    where
      by : (b : Bool) → (item.eff == n) ≡ b → IsLatestOf After (with_stamp latest (if b then Some item.stamp else None))
      by true e = moved item kept about (eqb-true item.eff n e) latest is
      by false e = unmoved
          (λ other also named same. eqb-false item.eff n e
          (ap (λ (i : Item). i.eff) (one_kept heard key item other kept also about named) ∙ same)) latest is

  pub first_more : (answer : Option Item) → IsKeptOf heard key answer → IsNoGreater n answer → ¬ IsOvertaken heard keys n →
      ¬ IsOvertaken heard more n
  first_more None none up first over = elim (key_cases over.item.key over.about) [
    | inl among ↦ first (record { item = over.item; kept = over.kept; about = among; greater = over.greater })
    | inr new ↦ none over.item over.kept new
  ]
  first_more (Some item) (kept, about) up first over = elim (key_cases over.item.key over.about) [
    | inl among ↦ first (record { item = over.item; kept = over.kept; about = among; greater = over.greater })
    | inr new ↦
        let same : over.item.eff ≡ item.eff =
        ap (λ (i : Item). i.eff) (one_kept heard key over.item item over.kept kept new about) in
        let above : n < over.item.eff = over.greater in
        omega (arith, up, same, above)
  ]

-- a kept answer of one of the keys has a greater sequence
pub overtaken_by : (heard : List Item) (keys : List Key) (key : Key) (n : ℕ) → Contains keys key → (answer : Option Item) →
    IsKeptOf heard key answer → IsGreater n answer → IsOvertaken heard keys n
overtaken_by heard keys key n there None none over = absurd over
overtaken_by heard keys key n there (Some item) (kept, about) over =
    record { item = item; kept = kept; about = subst (Contains keys) (sym about) there; greater = over }

-- before the first of them
pub latest_none : (heard : List Item) (n : ℕ) → IsLatestOf (IsEqualRevision heard [] n) None
latest_none heard n = λ s is. none_in is.item.key is.about

pub first_none : (heard : List Item) (n : ℕ) → ¬ IsOvertaken heard [] n
first_none heard n over = none_in over.item.key over.about

-- the keys, with one more line
pub keys_more : (uid : List ℕ) (id : Option Moment) (lines : List Property) (i : ℕ) (line : Property) → i < length lines →
    line ≡ get_or lines i line →
    removed_keys uid id (take (i + 1) lines) ≡ removed_keys uid id (take i lines) ++ answer_key uid id line ∷ []
keys_more uid id lines i line below here =
    let more : take (i + 1) lines ≡ take i lines ++ line ∷ [] =
    take_more lines i line below ∙ ap (λ (l : Property). take i lines ++ l ∷ []) (sym here) in
    ap (removed_keys uid id) more ∙ map_both (answer_key uid id) (take i lines) (line ∷ [])
