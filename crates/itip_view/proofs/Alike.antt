-- What stands, governs, counts and decides depends only on what is kept.
use Rattle.std.proofs.Common.{◌≡◌, sym, ◌∙◌, ap, refl, ℕ, List, [], ◌∷◌, subst, inl, inr, arith, ◌<◌, ◌≤◌, ◌↔◌, max, Option, Some, None}
use Rattle.std.specs.Prelude.{true, false}
use Rattle.std.specs.List.{AllByRecursion}
use Rattle.itip_moment.specs.declared.moment.Moment.{Moment}
use Rattle.itip_todo.specs.Properties.{Property}
use Rattle.itip_items.specs.KeyParts.{uid_of}
use Rattle.itip_items.specs.declared.item.Item.{Item}
use Rattle.itip_items.specs.declared.key.Key.{Key}
use Rattle.itip_items.specs.declared.key.Key.TheVariants.{Series, Instance, Range, Answer}
use Rattle.itip_state.specs.Kept.{IsBest, IsDead, IsKept, CanDie}
use Rattle.itip_state.proofs.Keeping.{series_kept, eff_up}
use Rattle.itip_view.specs.Standing.{is_live, StandsBeside, StandsUnder, Stands, NoneStands, StandsFrom, Rules, NoneRules, IsLiveSeries}
use Rattle.itip_view.specs.Standing.{IsLiveInstance, GovernsBetween, Governs}
use Rattle.itip_view.specs.Answers.{Asked, Counts, NoneCounts, Decides, AreShown}
use Rattle.itip_view.specs.Rows.{answers_since, instance_answers, occurrence_answers, range_answers, series_answers}
use Rattle.itip_view.specs.declared.row.ShownAttendee.{ShownAttendee}
use Rattle.itip_view.proofs.Sequences.{series_eff, answer_eff}

-- two sets that keep the same
abbrev pub KeepAlike : List Item → List Item → Type 0
KeepAlike x y = (item : Item) → IsKept x item ↔ IsKept y item

pub alike_back : (x y : List Item) → KeepAlike x y → KeepAlike y x
alike_back x y same item = ((same item).1, (same item).0)

-- a kept item that is best of a key is best of it in both
best_alike : (x y : List Item) → KeepAlike x y → (key : Key) (item : Item) → IsBest x key item → IsKept x item → IsBest y key item
best_alike x y same key item best kept = subst (λ (k : Key). IsBest y k item) best.about ((same item).0 kept).best

pub series_alike : (x y : List Item) → KeepAlike x y → (uid : List ℕ) (item : Item) → IsBest x (Series uid) item →
    IsBest y (Series uid) item
series_alike x y same uid item best = best_alike x y same (Series uid) item best (series_kept x uid item best)

-- a best item that is not dead is kept
kept_best : (x : List Item) (key : Key) (item : Item) → IsBest x key item → (¬ IsDead x item) → IsKept x item
kept_best x key item best alive = record { best = subst (λ (k : Key). IsBest x k item) (sym best.about) best; alive = alive }

not_below : (series item : Item) → StandsBeside series item → item.eff < series.eff → ⊥
not_below series item beside below =
    elim (is_live series.kind) as (λ b. is_live series.kind ≡ b → ⊥) [
      | true ↦ λ e. let x : series.eff ≤ item.eff = beside.live e in absurd (omega arith)
      | false ↦ λ e. let x : series.eff < item.eff = beside.cancelled e in absurd (omega arith)
    ] refl

-- of an instance, or of it and all after it
pub under_kept : (x : List Item) (uid : List ℕ) (key : Key) (item : Item) → uid_of key ≡ uid → StandsUnder x uid key item → IsKept x item
under_kept x uid key item of stands = kept_best x key item stands.best (λ (dead : IsDead x item).
    let of_uid : IsBest x (Series uid) dead.series =
    subst (λ (u : List ℕ). IsBest x (Series u) dead.series) (ap uid_of stands.best.about ∙ of) dead.best in
    not_below dead.series item (stands.beside dead.series of_uid) dead.below)

under_alike : (x y : List Item) → KeepAlike x y → (uid : List ℕ) (key : Key) (item : Item) → uid_of key ≡ uid →
    StandsUnder x uid key item → StandsUnder y uid key item
under_alike x y same uid key item of stands = record {
  best = best_alike x y same key item stands.best (under_kept x uid key item of stands);
  beside = λ series best. stands.beside series (series_alike y x (alike_back x y same) uid series best);
}

pub stands_alike : (x y : List Item) → KeepAlike x y → (uid : List ℕ) (id : Moment) (item : Item) → Stands x uid id item →
    Stands y uid id item
stands_alike x y same uid id item = under_alike x y same uid (Instance uid id) item refl

pub none_stands_alike : (x y : List Item) → KeepAlike x y → (uid : List ℕ) (id : Moment) → NoneStands x uid id → NoneStands y uid id
none_stands_alike x y same uid id none item stands = none item (stands_alike y x (alike_back x y same) uid id item stands)

pub stands_from_alike : (x y : List Item) → KeepAlike x y → (uid : List ℕ) (id : Moment) (item : Item) → StandsFrom x uid id item →
    StandsFrom y uid id item
stands_from_alike x y same uid id item = under_alike x y same uid (Range uid id) item refl

pub rules_alike : (x y : List Item) → KeepAlike x y → (uid : List ℕ) (at id : Moment) (item : Item) → Rules x uid at id item →
    Rules y uid at id item
rules_alike x y same uid at id item rules = record {
  stands = stands_from_alike x y same uid id item rules.stands;
  reaches = rules.reaches;
  greatest = λ other earlier stands. rules.greatest other earlier (stands_from_alike y x (alike_back x y same) uid other earlier stands);
}

pub none_rules_alike : (x y : List Item) → KeepAlike x y → (uid : List ℕ) (at : Moment) → NoneRules x uid at → NoneRules y uid at
none_rules_alike x y same uid at none id item stands = none id item (stands_from_alike y x (alike_back x y same) uid id item stands)

pub live_series_alike : (x y : List Item) → KeepAlike x y → (uid : List ℕ) (item : Item) → IsLiveSeries x uid item → IsLiveSeries y uid item
live_series_alike x y same uid item is = record { best = series_alike x y same uid item is.best; live = is.live }

pub live_instance_alike : (x y : List Item) → KeepAlike x y → (uid : List ℕ) (id : Moment) (item : Item) → IsLiveInstance x uid id item →
    IsLiveInstance y uid id item
live_instance_alike x y same uid id item is = record { stands = stands_alike x y same uid id item is.stands; live = is.live }

pub between_alike : (x y : List Item) → KeepAlike x y → (uid : List ℕ) (at : Moment) (item : Item) → GovernsBetween x uid at item →
    GovernsBetween y uid at item
between_alike x y same uid at item (inl is) =
    inl (record { id = is.id; rules = rules_alike x y same uid at is.id item is.rules; live = is.live })
between_alike x y same uid at item (inr (none, is)) = inr (none_rules_alike x y same uid at none, live_series_alike x y same uid item is)

pub governs_alike : (x y : List Item) → KeepAlike x y → (uid : List ℕ) (id : Option Moment) (item : Item) → Governs x uid id item →
    Governs y uid id item
governs_alike x y same uid None item is = live_series_alike x y same uid item is
governs_alike x y same uid (Some at) item (inl is) = inl (live_instance_alike x y same uid at item is)
governs_alike x y same uid (Some at) item (inr (none, is)) =
    inr (none_stands_alike x y same uid at none, between_alike x y same uid at item is)

-- an answer to an instance counts in both or in none: it never dies
pub instance_counts : (x y : List Item) → KeepAlike x y → (uid : List ℕ) (id : Moment) (attendee : List ℕ) (since : ℕ) (answer : Item) →
    Counts x (record { key = Answer uid (Some id) attendee; since = since }) answer →
    Counts y (record { key = Answer uid (Some id) attendee; since = since }) answer
instance_counts x y same uid id attendee since answer counts = record {
  best = best_alike x y same (Answer uid (Some id) attendee) answer counts.best
      (kept_best x (Answer uid (Some id) attendee) answer counts.best
      (λ (dead : IsDead x answer). subst CanDie counts.best.about dead.can_die));
  since = counts.since;
}

-- an answer to the to-do as a whole counts in both or in none, where only those count that are no earlier than the best
-- series item: such a one isn't dead
pub series_counts : (x y : List Item) → KeepAlike x y → (series : Item) (uid attendee : List ℕ) (since : ℕ) (answer : Item) →
    IsBest x (Series uid) series → series.own ≤ since →
    Counts x (record { key = Answer uid None attendee; since = since }) answer →
    Counts y (record { key = Answer uid None attendee; since = since }) answer
series_counts x y same series uid attendee since answer best no_earlier counts = record {
  best = best_alike x y same (Answer uid None attendee) answer counts.best
      (kept_best x (Answer uid None attendee) answer counts.best not_dead);
  since = counts.since;
}
  where
    not_dead : ¬ IsDead x answer
    not_dead dead =
        let of_uid : IsBest x (Series uid) dead.series =
        subst (λ (u : List ℕ). IsBest x (Series u) dead.series) (ap uid_of counts.best.about) dead.best in
        let up : dead.series.eff ≤ series.eff = eff_up dead.series series (best.none_later dead.series of_uid.is_heard of_uid.about) in
        let below : answer.eff < dead.series.eff = dead.below in
        let asked : since ≤ answer.own = counts.since in
        let mine : answer.eff ≡ answer.own = answer_eff answer uid None attendee counts.best.about in
        let theirs : series.eff ≡ series.own = series_eff series uid best.about in
        absurd (omega arith)

-- the same answers count in two sets
abbrev CountAlike : List Item → List Item → Asked → Type 0
CountAlike x y asked = (answer : Item) → Counts x asked answer ↔ Counts y asked answer

none_counts : (x y : List Item) (asked : Asked) → CountAlike x y asked → NoneCounts x asked → NoneCounts y asked
none_counts x y asked alike none answer counts = none answer ((alike answer).1 counts)

decides_alike : (x y : List Item) (all : List Asked) (answer : Option Item) → AllByRecursion (CountAlike x y) all → Decides x all answer →
    Decides y all answer
decides_alike x y [] None alike decides = tt
decides_alike x y [] (Some answer) alike decides = decides
decides_alike x y (asked ∷ rest) None (here, later) (none, decides) =
    (none_counts x y asked here none, decides_alike x y rest None later decides)
decides_alike x y (asked ∷ rest) (Some answer) (here, later) (inl counts) = inl ((here answer).0 counts)
decides_alike x y (asked ∷ rest) (Some answer) (here, later) (inr (none, decides)) =
    inr (none_counts x y asked here none, decides_alike x y rest (Some answer) later decides)

-- lines show the same attendees in two sets in which the same answers count
shown_alike : (x y : List Item) (asked_of : Property → List Asked) → ((line : Property) → AllByRecursion (CountAlike x y) (asked_of line)) →
    (lines : List Property) (shown : List ShownAttendee) → AreShown x asked_of lines shown → AreShown y asked_of lines shown
shown_alike x y asked_of alike [] shown are = are
shown_alike x y asked_of alike (line ∷ lines) shown (answer, others, decides, rest, is) =
    (answer, others, decides_alike x y (asked_of line) answer (alike line) decides, shown_alike x y asked_of alike lines others rest, is)

module _ (x y : List Item) (same : KeepAlike x y) (uid : List ℕ) where
  at_instance : (since : ℕ) (id : Moment) (line : Property) → CountAlike x y (answers_since since uid (Some id) line)
  at_instance since id line answer =
      (instance_counts x y same uid id _ since answer, instance_counts y x (alike_back x y same) uid id _ since answer)

  at_series : (series : Item) → IsBest x (Series uid) series → (since : ℕ) → series.own ≤ since → (line : Property) →
      CountAlike x y (answers_since since uid None line)
  at_series series best since no_earlier line answer = (
    series_counts x y same series uid _ since answer best no_earlier,
    series_counts y x (alike_back x y same) series uid _ since answer (series_alike x y same uid series best) no_earlier,
  )

  -- on the row of an instance: answers to the instance
  pub instance_shown : (item : Item) (id : Moment) (lines : List Property) (shown : List ShownAttendee) →
      AreShown x (instance_answers uid id item) lines shown →
      AreShown y (instance_answers uid id item) lines shown
  instance_shown item id = shown_alike x y (instance_answers uid id item) (λ line. (at_instance item.own id line, tt))

  -- on the row of an occurrence: answers to the occurrence, then to the to-do as a whole
  pub occurrence_shown : (item : Item) → IsBest x (Series uid) item → (id : Moment) (lines : List Property) (shown : List ShownAttendee) →
      AreShown x (occurrence_answers uid id item) lines shown → AreShown y (occurrence_answers uid id item) lines shown
  occurrence_shown item best id =
      shown_alike x y (occurrence_answers uid id item)
      (λ line. (at_instance item.own id line, (at_series item best item.own (omega arith) line, tt)))

  -- under a range item the same, where those to the to-do as a whole are no earlier than the series item either
  pub range_shown : (item series : Item) → IsBest x (Series uid) series →
      (id : Moment) (lines : List Property) (shown : List ShownAttendee) →
      AreShown x (range_answers uid id item series) lines shown → AreShown y (range_answers uid id item series) lines shown
  range_shown item series best id =
      shown_alike x y (range_answers uid id item series)
      (λ line. (at_instance item.own id line, (at_series series best (max item.own series.own) (omega arith) line, tt)))

  -- on any other row: answers to the to-do as a whole
  pub series_shown : (item : Item) → IsBest x (Series uid) item → (lines : List Property) (shown : List ShownAttendee) →
      AreShown x (series_answers uid item) lines shown →
      AreShown y (series_answers uid item) lines shown
  series_shown item best = shown_alike x y (series_answers uid item) (λ line. (at_series item best item.own (omega arith) line, tt))
