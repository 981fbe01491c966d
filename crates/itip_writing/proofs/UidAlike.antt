-- What is said of a UID depends only on what is kept of it: it is the same for a part and the whole, for what is kept and what was heard.
use Rattle.std.proofs.Common.{◌≡◌, ◌↔◌, ◌<◌, ◌≤◌, ℕ, zero, suc, List, [], ◌∷◌, max, refl, sym, ◌∙◌, ap, subst, inl, inr, true, false, arith}
use Rattle.std.proofs.Common.{Option, Some, None}
use Rattle.std.specs.List.{AllByRecursion, Contains}
use Rattle.itip_moment.specs.declared.moment.Moment.{Moment}
use Rattle.itip_moment.specs.declared.stamp.Stamp.{Stamp}
use Rattle.itip_todo.specs.Properties.{Property}
use Rattle.itip_items.specs.KeyParts.{uid_of}
use Rattle.itip_items.specs.declared.item.Item.{Item}
use Rattle.itip_items.specs.declared.key.Key.{Key}
use Rattle.itip_items.specs.declared.key.Key.TheVariants.{Series, Instance, Range, Answer}
use Rattle.itip_state.specs.Kept.{IsBest, IsDead, IsKept, CanDie, AreKept, ArePart, KeepSame}
use Rattle.itip_state.specs.Organizers.{IsOrganizers, IsLastUsed}
use Rattle.itip_state.proofs.Keeping.{eff_up, kept_again, kept_in_part}
use Rattle.itip_view.specs.Answers.{Asked, Counts, Decides, AreShown}
use Rattle.itip_view.specs.InQuestion.{OccursAt, IsInQuestion, NoneInQuestion, ShowsRange, ShowsOccurrence, ShowsBetween, ShowsInQuestion}
use Rattle.itip_view.specs.Rows.{answers_since, instance_answers, occurrence_answers, range_answers, series_answers}
use Rattle.itip_view.specs.Standing.{is_live, StandsBeside, StandsUnder, NoneStands, StandsFrom, Rules, NoneRules, IsLiveSeries}
use Rattle.itip_view.specs.Standing.{IsLiveInstance, GovernsBetween}
use Rattle.itip_view.specs.declared.row.ShownAttendee.{ShownAttendee}
use Rattle.itip_view.proofs.Sequences.{series_eff, answer_eff}
use Rattle.itip_report.specs.NextSequence.{IsNext, last_sequence}
use Rattle.itip_writing.specs.Stamping.{IsEqualRevision, IsStampAfter, IsTimeSpent}

-- what is kept of a part that has all items of a UID, and what is kept of what is kept, is the same of the UID
pub same_part : (uid : List ℕ) (part whole : List Item) → ArePart uid part whole → KeepSame uid part whole
same_part uid part whole are item about = kept_in_part uid part whole are item about

pub same_kept : (uid : List ℕ) (kept heard : List Item) → AreKept kept heard → KeepSame uid kept heard
same_kept uid kept heard are item about = kept_again kept heard are item

pub same_back : (uid : List ℕ) (x y : List Item) → KeepSame uid x y → KeepSame uid y x
same_back uid x y same item about = let two = same item about in (two.1, two.0)

-- ---- what stands and governs

not_below : (series item : Item) → StandsBeside series item → item.eff < series.eff → ⊥
not_below series item beside below =
    elim (is_live series.kind) as (λ b. is_live series.kind ≡ b → ⊥) [
      | true ↦ λ e. let x : series.eff ≤ item.eff = beside.live e in absurd (omega arith)
      | false ↦ λ e. let x : series.eff < item.eff = beside.cancelled e in absurd (omega arith)
    ] refl

module _ (uid : List ℕ) (x y : List Item) (same : KeepSame uid x y) where
  best_there : (key : Key) (item : Item) → uid_of key ≡ uid → IsBest x key item → (¬ IsDead x item) → IsBest y key item
  best_there key item of best alive =
      let kept : IsKept x item = record { best = subst (λ (k : Key). IsBest x k item) (sym best.about) best; alive = alive } in
      subst (λ (k : Key). IsBest y k item) best.about ((same item (ap uid_of best.about ∙ of)).0 kept).best

  pub series_there : (item : Item) → IsBest x (Series uid) item → IsBest y (Series uid) item
  series_there item best = best_there (Series uid) item refl best (λ dead. subst CanDie best.about dead.can_die)

  pub live_there : (item : Item) → IsLiveSeries x uid item → IsLiveSeries y uid item
  live_there item is = record { best = series_there item is.best; live = is.live }

  -- what stands isn't dead
  alive_under : (key : Key) (item : Item) → uid_of key ≡ uid → StandsUnder x uid key item → ¬ IsDead x item
  alive_under key item of stands dead =
      let series : IsBest x (Series uid) dead.series =
      subst (λ (u : List ℕ). IsBest x (Series u) dead.series) (ap uid_of stands.best.about ∙ of) dead.best in
      not_below dead.series item (stands.beside dead.series series) dead.below

module _ (uid : List ℕ) (x y : List Item) (same : KeepSame uid x y) where
  pub under_there : (key : Key) (item : Item) → uid_of key ≡ uid → StandsUnder x uid key item → StandsUnder y uid key item
  under_there key item of stands = record {
    best = best_there uid x y same key item of stands.best (alive_under uid x y same key item of stands);
    beside = λ series best. stands.beside series (series_there uid y x (same_back uid x y same) series best);
  }

  pub instance_there : (at : Moment) (item : Item) → IsLiveInstance x uid at item → IsLiveInstance y uid at item
  instance_there at item is = record { stands = under_there (Instance uid at) item refl is.stands; live = is.live }

module _ (uid : List ℕ) (x y : List Item) (same : KeepSame uid x y) where
  none_stands_there : (at : Moment) → NoneStands x uid at → NoneStands y uid at
  none_stands_there at none item stands = none item (under_there uid y x (same_back uid x y same) (Instance uid at) item refl stands)

  from_back : (id : Moment) (item : Item) → StandsFrom y uid id item → StandsFrom x uid id item
  from_back id item = under_there uid y x (same_back uid x y same) (Range uid id) item refl

  rules_there : (at id : Moment) (item : Item) → Rules x uid at id item → Rules y uid at id item
  rules_there at id item rules = record {
    stands = under_there uid x y same (Range uid id) item refl rules.stands;
    reaches = rules.reaches;
    greatest = λ other earlier stands. rules.greatest other earlier (from_back other earlier stands);
  }

  none_rules_there : (at : Moment) → NoneRules x uid at → NoneRules y uid at
  none_rules_there at none id item stands = none id item (from_back id item stands)

  between_there : (at : Moment) (item : Item) → GovernsBetween x uid at item → GovernsBetween y uid at item
  between_there at item (inl range) =
      inl (record { id = range.id; rules = rules_there at range.id item range.rules; live = range.live })
  between_there at item (inr (none, live)) = inr (none_rules_there at none, live_there uid x y same item live)

  occurs_there : (at : Moment) → OccursAt x uid at → OccursAt y uid at
  occurs_there at o = record {
    item = o.item;
    series = o.series;
    live = live_there uid x y same o.item o.live;
    repeats = o.repeats;
    occurs = o.occurs;
  }

  pub question_there : (id : Option Moment) (item : Item) → IsInQuestion x uid id item → IsInQuestion y uid id item
  question_there None item is = live_there uid x y same item is
  question_there (Some at) item (inl is) = inl (instance_there uid x y same at item is)
  question_there (Some at) item (inr is) = inr (record {
    none_stands = none_stands_there at is.none_stands;
    occurs = occurs_there at is.occurs;
    governs = between_there at item is.governs;
  })

pub none_there : (uid : List ℕ) (x y : List Item) → KeepSame uid x y → (id : Option Moment) → NoneInQuestion x uid id →
    NoneInQuestion y uid id
none_there uid x y same id none item is = none item (question_there uid y x (same_back uid x y same) id item is)

-- ---- what counts and is shown

-- the same answers count
abbrev CountAlike : List Item → List Item → Asked → Type 0
CountAlike x y asked = (answer : Item) → Counts x asked answer ↔ Counts y asked answer

module _ (uid : List ℕ) (x y : List Item) (same : KeepSame uid x y) where
  -- an answer to an instance never dies
  to_instance : (at : Moment) (attendee : List ℕ) (since : ℕ) (answer : Item) →
      Counts x (record { key = Answer uid (Some at) attendee; since = since }) answer →
      Counts y (record { key = Answer uid (Some at) attendee; since = since }) answer
  to_instance at attendee since answer counts = record {
    best = best_there uid x y same (Answer uid (Some at) attendee) answer refl counts.best
        (λ dead. subst CanDie counts.best.about dead.can_die);
    since = counts.since;
  }

  -- one to the to-do as a whole that is no earlier than the series item isn't dead
  to_whole : (series : Item) → IsBest x (Series uid) series → (attendee : List ℕ) (since : ℕ) → series.own ≤ since → (answer : Item) →
      Counts x (record { key = Answer uid None attendee; since = since }) answer →
      Counts y (record { key = Answer uid None attendee; since = since }) answer
  to_whole series best attendee since no_earlier answer counts = record {
    best = best_there uid x y same (Answer uid None attendee) answer refl counts.best alive;
    since = counts.since;
  }
    where
      alive : ¬ IsDead x answer
      alive dead =
          let of : IsBest x (Series uid) dead.series =
          subst (λ (u : List ℕ). IsBest x (Series u) dead.series) (ap uid_of counts.best.about) dead.best in
          let up : dead.series.eff ≤ series.eff = eff_up dead.series series (best.none_later dead.series of.is_heard of.about) in
          let below : answer.eff < dead.series.eff = dead.below in
          let asked : since ≤ answer.own = counts.since in
          let mine : answer.eff ≡ answer.own = answer_eff answer uid None attendee counts.best.about in
          let theirs : series.eff ≡ series.own = series_eff series uid best.about in
          absurd (omega (arith, up, below, asked, mine, theirs, no_earlier))

decides_there : (x y : List Item) (all : List Asked) (answer : Option Item) → AllByRecursion (CountAlike x y) all → Decides x all answer →
    Decides y all answer
decides_there x y [] None alike decides = tt
decides_there x y [] (Some answer) alike decides = decides
decides_there x y (asked ∷ rest) None (here, later) (none, decides) =
    (λ answer counts. none answer ((here answer).1 counts), decides_there x y rest None later decides)
decides_there x y (asked ∷ rest) (Some answer) (here, later) (inl counts) = inl ((here answer).0 counts)
decides_there x y (asked ∷ rest) (Some answer) (here, later) (inr (none, decides)) =
    inr (λ other counts. none other ((here other).1 counts), decides_there x y rest (Some answer) later decides)

are_shown_there : (x y : List Item) (asked_of : Property → List Asked) →
    ((line : Property) → AllByRecursion (CountAlike x y) (asked_of line)) → (lines : List Property) (shown : List ShownAttendee) →
    AreShown x asked_of lines shown → AreShown y asked_of lines shown
are_shown_there x y asked_of alike [] shown are = are
are_shown_there x y asked_of alike (line ∷ lines) shown (answer, others, decides, rest, is) =
    let there = decides_there x y (asked_of line) answer (alike line) decides in
    (answer, others, there, are_shown_there x y asked_of alike lines others rest, is)

module _ (uid : List ℕ) (x y : List Item) (same : KeepSame uid x y) where
  at_instance : (since : ℕ) (at : Moment) (line : Property) → CountAlike x y (answers_since since uid (Some at) line)
  at_instance since at line answer =
      (to_instance uid x y same at _ since answer, to_instance uid y x (same_back uid x y same) at _ since answer)

  at_whole : (series : Item) → IsBest x (Series uid) series → (since : ℕ) → series.own ≤ since → (line : Property) →
      CountAlike x y (answers_since since uid None line)
  at_whole series best since no_earlier line answer = (
    to_whole uid x y same series best _ since no_earlier answer,
    to_whole uid y x (same_back uid x y same) series (series_there uid x y same series best) _ since no_earlier answer,
  )

  range_shows_there : (at : Moment) (item : Item) (shown : List ShownAttendee) → ShowsRange x uid at item shown →
      ShowsRange y uid at item shown
  range_shows_there at item shown p = record {
    id = p.id;
    rules = rules_there uid x y same at p.id item p.rules;
    live = p.live;
    whole = p.whole;
    live_series = live_there uid x y same p.whole p.live_series;
    attendees = are_shown_there x y (range_answers uid at item p.whole)
        (λ line. (
          at_instance item.own at line,
          (at_whole p.whole p.live_series.best (max item.own p.whole.own) (omega arith) line, tt),
        )) item.todo.attendees shown p.attendees;
  }

  occurrence_shows_there : (at : Moment) (item : Item) (shown : List ShownAttendee) → ShowsOccurrence x uid at item shown →
      ShowsOccurrence y uid at item shown
  occurrence_shows_there at item shown p = record {
    none_rules = none_rules_there uid x y same at p.none_rules;
    live = live_there uid x y same item p.live;
    attendees = are_shown_there x y (occurrence_answers uid at item)
        (λ line. (at_instance item.own at line, (at_whole item p.live.best item.own (omega arith) line, tt)))
        item.todo.attendees shown p.attendees;
  }

  between_shows_there : (at : Moment) (item : Item) (shown : List ShownAttendee) → ShowsBetween x uid at item shown →
      ShowsBetween y uid at item shown
  between_shows_there at item shown p = record {
    none_stands = none_stands_there uid x y same at p.none_stands;
    occurs = occurs_there uid x y same at p.occurs;
    shows = elim p.shows [
      | inl range ↦ inl (range_shows_there at item shown range)
      | inr series ↦ inr (occurrence_shows_there at item shown series)
    ];
  }

  pub shows_there : (id : Option Moment) (item : Item) (shown : List ShownAttendee) → ShowsInQuestion x uid id item shown →
      ShowsInQuestion y uid id item shown
  shows_there None item shown p = record {
    live = live_there uid x y same item p.live;
    attendees = are_shown_there x y (series_answers uid item)
        (λ line. (at_whole item p.live.best item.own (omega arith) line, tt)) item.todo.attendees shown p.attendees;
  }
  shows_there (Some at) item shown (inl p) = inl (record {
    live = instance_there uid x y same at item p.live;
    attendees = are_shown_there x y (instance_answers uid at item) (λ line. (at_instance item.own at line, tt))
        item.todo.attendees shown p.attendees;
  })
  shows_there (Some at) item shown (inr p) = inr (between_shows_there at item shown p)

-- ---- sequences and stamps

module _ (uid : List ℕ) (x y : List Item) (same : KeepSame uid x y) where
  organizers_there : (item : Item) → IsOrganizers x uid item → IsOrganizers y uid item
  organizers_there item is = record { kept = (same item is.about).0 is.kept; about = is.about; sent = is.sent }

last_there : (uid : List ℕ) (x y : List Item) → KeepSame uid x y → (last : Option ℕ) → IsLastUsed x uid last → IsLastUsed y uid last
last_there uid x y same None none = λ item is. none item (organizers_there uid y x (same_back uid x y same) item is)
last_there uid x y same (Some n) (used, above) = (
  record { item = used.item; of_organizer = organizers_there uid x y same used.item used.of_organizer; eff_is = used.eff_is },
  λ item is. above item (organizers_there uid y x (same_back uid x y same) item is),
)

pub next_there : (uid : List ℕ) (x y : List Item) → KeepSame uid x y → (next : Option ℕ) → IsNext x uid next → IsNext y uid next
next_there uid x y same None is = last_there uid x y same (Some last_sequence) is
next_there uid x y same (Some zero) is = last_there uid x y same None is
next_there uid x y same (Some (suc n)) (is, few) = (last_there uid x y same (Some n) is, few)

-- the next sequence, by a part that has all items of the UID
pub next_in_part : (uid other : List ℕ) (part whole : List Item) → ArePart uid part whole → other ≡ uid → (next : Option ℕ) →
    IsNext whole uid next → IsNext part other next
next_in_part uid other part whole are same next is =
    subst (λ (u : List ℕ). IsNext part u next) (sym same)
    (next_there uid whole part (same_back uid part whole (same_part uid part whole are)) next is)

-- keys of the UID
abbrev pub AreOfUid : List ℕ → List Key → Type 0
AreOfUid uid keys = (k : Key) → Contains keys k → uid_of k ≡ uid

pub equal_there : (uid : List ℕ) (x y : List Item) → KeepSame uid x y → (keys : List Key) → AreOfUid uid keys → (n : ℕ) (stamp : Stamp) →
    IsEqualRevision x keys n stamp → IsEqualRevision y keys n stamp
equal_there uid x y same keys of n stamp is = record {
  item = is.item;
  kept = (same is.item (of is.item.key is.about)).0 is.kept;
  about = is.about;
  same = is.same;
  stamp_is = is.stamp_is;
}

-- stamps for which the same holds
module _ (P Q : Stamp → Type 0) (to : (s : Stamp) → P s → Q s) (back : (s : Stamp) → Q s → P s) (at : Stamp) where
  pub stamped_there : (stamp : Stamp) → IsStampAfter P at stamp → IsStampAfter Q at stamp
  stamped_there stamp (inl in_time) =
      inl (record { stamp_is = in_time.stamp_is; later = λ other is. in_time.later other (back other is) })
  stamped_there stamp (inr delayed) = inr (record {
    latest = delayed.latest;
    is_latest = record {
      is_one = to delayed.latest delayed.is_latest.is_one;
      none_later = λ other is. delayed.is_latest.none_later other (back other is);
    };
    not_before = delayed.not_before;
    next = delayed.next;
  })

  pub spent_there : IsTimeSpent P at → IsTimeSpent Q at
  spent_there spent = record {
    latest = spent.latest;
    is_latest = record {
      is_one = to spent.latest spent.is_latest.is_one;
      none_later = λ other is. spent.is_latest.none_later other (back other is);
    };
    not_before = spent.not_before;
    last = spent.last;
  }

pub equal_stamped_there : (uid : List ℕ) (x y : List Item) → KeepSame uid x y → (keys : List Key) → AreOfUid uid keys → (n : ℕ)
    (at stamp : Stamp) → IsStampAfter (IsEqualRevision x keys n) at stamp → IsStampAfter (IsEqualRevision y keys n) at stamp
equal_stamped_there uid x y same keys of n at stamp =
    stamped_there (IsEqualRevision x keys n) (IsEqualRevision y keys n) (equal_there uid x y same keys of n)
    (equal_there uid y x (same_back uid x y same) keys of n) at stamp

pub equal_spent_there : (uid : List ℕ) (x y : List Item) → KeepSame uid x y → (keys : List Key) → AreOfUid uid keys → (n : ℕ)
    (at : Stamp) → IsTimeSpent (IsEqualRevision x keys n) at → IsTimeSpent (IsEqualRevision y keys n) at
equal_spent_there uid x y same keys of n at =
    spent_there (IsEqualRevision x keys n) (IsEqualRevision y keys n) (equal_there uid x y same keys of n)
    (equal_there uid y x (same_back uid x y same) keys of n) at
