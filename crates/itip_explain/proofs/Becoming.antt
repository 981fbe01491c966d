-- What becomes of an item, step by step.
use Rattle.std.proofs.Common.{◌≡◌, ◌<◌, ◌≤◌, ◌↔◌, ℕ, List, refl, sym, ◌∙◌, ap, subst, inl, inr, arith, Bool, true, false, cond}
use Rattle.std.proofs.Common.{IsTrue, Option, Some}
use Rattle.std.proofs.Common.{None}
use Rattle.std.specs.Prelude.{MatchOption}
use Rattle.std.specs.List.{Contains}
use Rattle.std.specs.Ordering.{is_gt}
use Rattle.std.specs.declared.cmp.Ordering.TheVariants.{Less, Equal, Greater}
use Rattle.itip_moment.specs.declared.moment.Moment.{Moment}
use Rattle.itip_items.specs.KeyParts.{uid_of}
use Rattle.itip_items.specs.RevisionOrder.{revision_cmp}
use Rattle.itip_items.specs.declared.item.Item.{Item}
use Rattle.itip_items.specs.declared.key.Key.{Key}
use Rattle.itip_items.specs.declared.key.Key.TheVariants.{Series, Instance, Range, Answer, Refresh}
use Rattle.itip_items.proofs.Revisions.{revision_exact}
use Rattle.itip_state.specs.Held.{is_series, is_below}
use Rattle.itip_state.specs.Kept.{IsBest, IsBestOf, IsDead, IsKept, CanDie, AreKept, AreOf, ArePart}
use Rattle.itip_state.proofs.Best.{later_than_less}
use Rattle.itip_state.proofs.Keeping.{kept_again, series_kept}
use Rattle.itip_state.proofs.Members.{by_bool}
use Rattle.itip_state.proofs.Tests.{dead_below, below_dead}
use Rattle.itip_view.specs.InQuestion.{IsInQuestion, NoneInQuestion}
use Rattle.itip_view.specs.RowsOfUid.{StandsBesideOf}
use Rattle.itip_view.specs.RowDays.{has_rows, is_of_rows}
use Rattle.itip_view.specs.Standing.{is_live, IsLive, StandsBeside, StandsUnder, StandsFrom, IsLiveSeries, Governs}
use Rattle.itip_view.proofs.Alike.{KeepAlike, alike_back, series_alike, governs_alike, under_kept}
use Rattle.itip_view.proofs.Asking.{question_alike, none_in_question_alike, question_governs}
use Rattle.itip_view.proofs.OneRow.{one_best}
use Rattle.itip_report.specs.Reports.{IsWanted}
use Rattle.itip_report.specs.declared.report.Report.TheVariants as report
use Rattle.itip_report.proofs.OfKept.{reported_alike}
use Rattle.itip_explain.specs.Asking.{is_of_whole, AsksBy, IsAskedBy, asking_key}
use Rattle.itip_explain.specs.Fates.{HasAttendee, IsAttendee, standing_fate, IsOverrideFate, IsAnswerFate, IsRefreshFate, IsFateAt}
use Rattle.itip_explain.specs.Fates.{IsWaitingOrAnswered, waiting_fate}
use Rattle.itip_explain.specs.Knowing.{Kills, Hides}
use Rattle.itip_explain.specs.Told.{heard_of, IsFirstToTell, IsBestTold}
use Rattle.itip_explain.specs.declared.fate.Fate.{Fate}
use Rattle.itip_explain.specs.declared.fate.Fate.TheVariants as fate
use Rattle.itip_explain.specs.declared.told.ToldItem.{ToldItem}

-- what a state keeps of a UID is what is kept of all that was told of it
pub part_kept : (uid : List ℕ) (part state heard : List Item) → AreOf uid heard → AreKept state heard → ArePart uid part state →
    AreKept part heard
part_kept uid part state heard of kept are item = (
  λ h. (kept item).0 ((are item).0 h).0,
  λ k. (are item).1 ((kept item).1 k, of item k.best.is_heard),
)

-- an item that the latest of its key isn't later than is the latest
pub is_latest : (heard : List Item) (item latest : Item) → Contains heard item → IsBest heard item.key latest →
    is_gt (revision_cmp latest item) ≡ false → latest ≡ item
is_latest heard item latest h best not =
    elim (revision_cmp latest item) as (λ o. revision_cmp latest item ≡ o → latest ≡ item) [
      | Less ↦ λ e. absurd (best.none_later item h refl (later_than_less item latest e))
      | Equal ↦ λ e. revision_exact latest item e
      | Greater ↦ λ e. let x : true ≡ false = sym (ap is_gt e) ∙ not in absurd (cc)
    ] refl

-- the place where the best of a key is first told
pub first_of_best : (told : List ToldItem) (item : Item) (one : ToldItem) → IsBestTold told item.key one →
    IsBest (heard_of told) item.key item →
    IsFirstToTell told item one.place
first_of_best told item one is best =
    subst (λ (i : Item). IsFirstToTell told i one.place) (one_best (heard_of told) item.key one.item item is.best best) is.first

-- what is kept of what was told of a UID
module _ (heard part : List Item) (uid : List ℕ) (about : AreOf uid heard) (kept : AreKept part heard) where
  pub same : KeepAlike part heard
  same = kept_again part heard kept

  in_heard : (item : Item) → Contains part item → Contains heard item
  in_heard item h = ((kept item).0 h).best.is_heard

  -- a series item that is best of one is best of the other
  pub series_up : (item : Item) → IsBest part (Series uid) item → IsBest heard (Series uid) item
  series_up item = series_alike part heard same uid item

  series_down : (item : Item) → IsBest heard (Series uid) item → IsBest part (Series uid) item
  series_down item = series_alike heard part (alike_back part heard same) uid item

  -- the best item of a key is dead below the series item if it isn't kept, and isn't dead if it is kept
  pub kept_alive : (item found : Item) → IsBest heard item.key item → IsBest part item.key found → ¬ IsDead heard item
  kept_alive item found best is =
      let kept_found : IsKept heard found = (kept found).0 is.is_heard in
      let best_found : IsBest heard item.key found = subst (λ (k : Key). IsBest heard k found) is.about kept_found.best in
      subst (λ (i : Item). ¬ IsDead heard i) (one_best heard item.key found item best_found best) kept_found.alive

  pub dead_where : (item : Item) → IsBest heard item.key item → ((i : Item) → Contains part i → i.key ≡ item.key → ⊥) →
      (series : Option Item) → IsBestOf part (Series uid) series → MatchOption series (¬ IsDead heard item) (Kills heard item)
  dead_where item best none None no_series = λ dead.
      let of : uid_of item.key ≡ uid = about item best.is_heard in
      let series : IsBest heard (Series uid) dead.series = subst (λ (u : List ℕ). IsBest heard (Series u) dead.series) of dead.best in
      let there : IsBest part (Series uid) dead.series = series_down dead.series series in
      no_series dead.series there.is_heard there.about
  dead_where item best none (Some series) is =
      let of : uid_of item.key ≡ uid = about item best.is_heard in
      let up : IsBest heard (Series (uid_of item.key)) series =
      subst (λ (u : List ℕ). IsBest heard (Series u) series) (sym of) (series_up series is) in
      by_bool (is_below series item) (Kills heard item series)
      (λ below. let dead : IsDead heard item = dead_below heard series item up.is_heard (ap is_series up.about) below in
      record {
        can_die = dead.can_die;
        best = up;
        below = subst (λ (s : Item). item.eff < s.eff)
            (one_best heard (Series (uid_of item.key)) dead.series series dead.best up) dead.below;
      })
      (λ not_so. absurd (none item ((kept item).1 (record {
        best = best;
        alive = λ dead. let x : true ≡ false = sym (ap (λ (s : Item). is_below s item)
            (one_best heard (Series (uid_of item.key)) series dead.series up dead.best) ∙ below_dead heard item dead) ∙ not_so in cc;
      })) refl))

  -- a kept instance or range item stands beside the series item of what was told if it stands beside that of what is kept
  pub stands_up : (item : Item) → IsKept heard item → (series : Option Item) → IsBestOf part (Series uid) series →
      StandsBesideOf series item →
      StandsUnder heard uid item.key item
  stands_up item is None none beside = record {
    best = is.best;
    beside = λ s best. let there : IsBest part (Series uid) s = series_down s best in absurd (none s there.is_heard there.about);
  }
  stands_up item is (Some t) of beside = record {
    best = is.best;
    beside = λ s best. subst (λ (x : Item). StandsBeside x item) (one_best part (Series uid) t s of (series_down s best)) beside;
  }

  pub hidden_up : (item : Item) → (series : Option Item) → IsBestOf part (Series uid) series → (StandsBesideOf series item → ⊥) →
      MatchOption series (StandsUnder heard uid item.key item) (Hides heard uid item)
  hidden_up item None none not = absurd (not tt)
  hidden_up item (Some t) of not =
      let up : IsBest heard (Series uid) t = series_up t of in record { best = up; not_standing = λ stands. not (stands.beside t up) }

  -- the same for rows in question, and for what governs
  pub question_up : (id : Option Moment) (item : Item) → IsInQuestion part uid id item → IsInQuestion heard uid id item
  question_up = question_alike part heard same uid

  pub no_question_up : (id : Option Moment) → NoneInQuestion part uid id → NoneInQuestion heard uid id
  no_question_up = none_in_question_alike part heard same uid

  pub governs_up : (id : Option Moment) (item : Item) → Governs part uid id item → Governs heard uid id item
  governs_up = governs_alike part heard same uid

  pub governs_down : (id : Option Moment) (item : Item) → Governs heard uid id item → Governs part uid id item
  governs_down = governs_alike heard part (alike_back part heard same) uid

  wanted_up : (item : Item) → IsWanted part item → IsWanted heard item
  wanted_up = reported_alike part heard same report.Refresh

  wanted_down : (item : Item) → IsWanted heard item → IsWanted part item
  wanted_down = reported_alike heard part (alike_back part heard same) report.Refresh

  -- whether a kept refresh request waits or is answered
  pub report_up : (item : Item) (b : Bool) → IsTrue b ↔ IsWanted part item → IsWaitingOrAnswered heard item (waiting_fate b)
  report_up item true wanted = inl (wanted_up item (wanted.0 refl), refl)
  report_up item false wanted = inr (λ is. let x : false ≡ true = wanted.1 (wanted_down item is) in cc, refl)

-- what governs is kept, and rows can come from it
module _ (heard : List Item) (uid : List ℕ) where
  from_key : (k : Key) (item : Item) → item.key ≡ k → is_of_rows k ≡ true → IsLive item → has_rows item ≡ true
  from_key k item about of_rows live = ap (λ (q : Key). cond (is_of_rows q) (is_live item.kind) false) about ∙
      ap (λ b. cond b (is_live item.kind) false) of_rows ∙ live

  -- what governs is the best of a key of these, kept and live
  pub record Stays (item : Item) : Type 0 where
    pub kept : IsKept heard item
    pub rows : has_rows item ≡ true

  series_stays : (item : Item) → IsLiveSeries heard uid item → Stays item
  series_stays item is = record {
    kept = series_kept heard uid item is.best;
    rows = from_key (Series uid) item is.best.about refl is.live;
  }

  pub governing_stays : (id : Option Moment) (item : Item) → Governs heard uid id item → Stays item
  governing_stays None item is = series_stays item is
  governing_stays (Some at) item (inl is) = record {
    kept = under_kept heard uid (Instance uid at) item refl is.stands;
    rows = from_key (Instance uid at) item is.stands.best.about refl is.live;
  }
  governing_stays (Some at) item (inr (none, inl is)) = record {
    kept = under_kept heard uid (Range uid is.id) item refl is.rules.stands;
    rows = from_key (Range uid is.id) item is.rules.stands.best.about refl is.live;
  }
  governing_stays (Some at) item (inr (none, inr is)) = series_stays item is.1

  pub governing_best : (id : Option Moment) (item : Item) → IsInQuestion heard uid id item → IsBest heard item.key item
  governing_best id item is = (governing_stays id item (question_governs heard uid id item is)).kept.best

-- whom the items of a UID ask
module _ (heard part : List Item) (uid : List ℕ) (about : AreOf uid heard) (kept : AreKept part heard) (governing : Item) where
  there : IsKept heard governing → Contains part governing
  there = (kept governing).1

  one_there : (item : Item) → Contains part item → IsKept heard governing → item.key ≡ governing.key → item ≡ governing
  one_there item h is same =
      let is_kept : IsKept heard item = (kept item).0 h in
      one_best heard governing.key item governing (subst (λ (k : Key). IsBest heard k item) same is_kept.best) is.best

  -- the item that governs asks
  pub asks_itself : Stays heard uid governing → (attendee : List ℕ) → IsAskedBy part (Some governing.key) attendee ↔
      HasAttendee governing attendee
  asks_itself is attendee = (
    λ p. subst (λ (i : Item). HasAttendee i attendee) (one_there p.item p.there is.kept p.asks.1) p.asks.2,
    λ has. record { item = governing; there = there is.kept; asks = (is.rows, refl, has) },
  )

  is_series_of : (item : Item) (u : List ℕ) → Contains heard item → item.key ≡ Series u → item.key ≡ Series uid
  is_series_of item u h e = e ∙ ap Series (sym (ap uid_of e) ∙ about item h)

  is_range_of : (item : Item) (u : List ℕ) (id : Moment) → Contains heard item → item.key ≡ Range u id → item.key ≡ Range uid id
  is_range_of item u id h e = e ∙ ap (λ (v : List ℕ). Range v id) (sym (ap uid_of e) ∙ about item h)

  live_from : (item : Item) → has_rows item ≡ true → IsLive item
  live_from item on =
      elim (is_of_rows item.key) as (λ b. cond b (is_live item.kind) false ≡ true → is_live item.kind ≡ true) [
        | true ↦ λ e. e
        | false ↦ λ e. let x : false ≡ true = e in absurd (cc)
      ] on

  -- a kept range item stands beside the live series item
  range_stands : IsLiveSeries heard uid governing → (item : Item) (id : Moment) → Contains part item → item.key ≡ Range uid id →
      StandsFrom heard uid id item
  range_stands series item id h e =
      let is : IsKept heard item = (kept item).0 h in
      record {
        best = subst (λ (k : Key). IsBest heard k item) e is.best;
        beside = λ s best.
            subst (λ (x : Item). StandsBeside x item) (one_best heard (Series uid) governing s series.best best) (record {
              live = λ live. not_under governing.eff item.eff (λ below. is.alive (record {
                can_die = subst CanDie (sym e) tt;
                series = governing;
                best = subst (λ (k : Key). IsBest heard (Series (uid_of k)) governing) (sym e) series.best;
                below = below;
              }));
              cancelled = λ off. absurd (let x : true ≡ false = sym series.live ∙ off in cc);
            });
      }
    where
      not_under : (a b : ℕ) → (b < a → ⊥) → a ≤ b
      not_under a b h = omega (arith, h)

  -- the to-do as a whole asks whom its live series item or a live range item that stands names
  pub asks_whole : IsLiveSeries heard uid governing → (attendee : List ℕ) → IsAskedBy part None attendee ↔
      IsAttendee heard uid None governing attendee
  asks_whole series attendee = (λ p. by p.item p.there p.asks (p.item.key) refl, back)
    where
      kept_series : IsKept heard governing
      kept_series = series_kept heard uid governing series.best

      by : (item : Item) → Contains part item → AsksBy item None attendee → (k : Key) → item.key ≡ k →
          IsAttendee heard uid None governing attendee
      by item h asks (Series u) e =
          let key : item.key ≡ governing.key = is_series_of item u ((kept item).0 h).best.is_heard e ∙ sym series.best.about in
          inl (subst (λ (i : Item). HasAttendee i attendee) (one_there item h kept_series key) asks.2)
      by item h asks (Range u id) e =
          let key : item.key ≡ Range uid id = is_range_of item u id ((kept item).0 h).best.is_heard e in
          inr (record { id = id; range = item; stands = range_stands series item id h key; live = live_from item asks.0; has = asks.2 })
      by item h asks (Instance u id) e = absurd (let x : false ≡ true = sym (ap is_of_whole e) ∙ asks.1 in cc)
      by item h asks (Answer u id a) e = absurd (let x : false ≡ true = sym (ap is_of_whole e) ∙ asks.1 in cc)
      by item h asks (Refresh u id a) e = absurd (let x : false ≡ true = sym (ap is_of_whole e) ∙ asks.1 in cc)

      back : IsAttendee heard uid None governing attendee → IsAskedBy part None attendee
      back (inl has) = record {
        item = governing;
        there = there kept_series;
        asks = (from_key heard uid (Series uid) governing series.best.about refl series.live, ap is_of_whole series.best.about, has);
      }
      back (inr range) = record {
        item = range.range;
        there = (kept range.range).1 (under_kept heard uid (Range uid range.id) range.range refl range.stands);
        asks = (
          from_key heard uid (Range uid range.id) range.range range.stands.best.about refl range.live,
          ap is_of_whole range.stands.best.about,
          range.has,
        );
      }

  -- whom a row in question asks
  pub asks_row : (id : Option Moment) → IsInQuestion heard uid id governing → (attendee : List ℕ) → (by : Option Key) →
      by ≡ asking_key governing id → IsAskedBy part by attendee ↔ IsAttendee heard uid id governing attendee
  asks_row None is attendee by e =
      subst (λ (b : Option Key). IsAskedBy part b attendee ↔ IsAttendee heard uid None governing attendee) (sym e) (asks_whole is attendee)
  asks_row (Some at) is attendee by e =
      subst (λ (b : Option Key). IsAskedBy part b attendee ↔ HasAttendee governing attendee) (sym e)
      (asks_itself (governing_stays heard uid (Some at) governing (question_governs heard uid (Some at) governing is)) attendee)

-- the fate of a kept item by its key, given its UID
module _ (told : List ToldItem) (item : Item) (became : Fate) (uid : List ℕ) (about : uid_of item.key ≡ uid) where
  of_uid : (key : Key) → item.key ≡ key → uid ≡ uid_of key
  of_uid key e = sym about ∙ ap uid_of e

  pub at_series : (u : List ℕ) → item.key ≡ Series u → became ≡ standing_fate item.kind fate.CancelsToDo →
      IsFateAt told item.key item became
  at_series u e p = subst (λ (k : Key). IsFateAt told k item became) (sym e) p

  pub at_instance : (u : List ℕ) (id : Moment) → item.key ≡ Instance u id →
      IsOverrideFate told uid item.key fate.CancelsInstance item became → IsFateAt told item.key item became
  at_instance u id e p = subst (λ (k : Key). IsFateAt told k item became) (sym e)
      (subst (λ (v : List ℕ). IsOverrideFate told v (Instance u id) fate.CancelsInstance item became) (of_uid (Instance u id) e)
      (subst (λ (k : Key). IsOverrideFate told uid k fate.CancelsInstance item became) e p))

  pub at_range : (u : List ℕ) (id : Moment) → item.key ≡ Range u id → IsOverrideFate told uid item.key fate.CancelsOnward item became →
      IsFateAt told item.key item became
  at_range u id e p = subst (λ (k : Key). IsFateAt told k item became) (sym e)
      (subst (λ (v : List ℕ). IsOverrideFate told v (Range u id) fate.CancelsOnward item became) (of_uid (Range u id) e)
      (subst (λ (k : Key). IsOverrideFate told uid k fate.CancelsOnward item became) e p))

  pub at_answer : (u : List ℕ) (id : Option Moment) (attendee : List ℕ) → item.key ≡ Answer u id attendee →
      IsAnswerFate told uid id attendee item became → IsFateAt told item.key item became
  at_answer u id attendee e p = subst (λ (k : Key). IsFateAt told k item became) (sym e)
      (subst (λ (v : List ℕ). IsAnswerFate told v id attendee item became) (of_uid (Answer u id attendee) e) p)

  pub at_refresh : (u : List ℕ) (id : Option Moment) (attendee : List ℕ) → item.key ≡ Refresh u id attendee →
      IsRefreshFate told uid id item became → IsFateAt told item.key item became
  at_refresh u id attendee e p = subst (λ (k : Key). IsFateAt told k item became) (sym e)
      (subst (λ (v : List ℕ). IsRefreshFate told v id item became) (of_uid (Refresh u id attendee) e) p)
