-- Which row is in question, that one at most is, and that it needs only what is kept.
use Rattle.std.proofs.Common.{◌≡◌, ℕ, List, refl, sym, ap, subst, inl, inr, true, false, Option, Some, None}
use Rattle.std.specs.Prelude.{MatchOption, if◌then◌else◌}
use Rattle.itip_moment.specs.declared.moment.Moment.{Moment}
use Rattle.itip_items.specs.declared.item.Item.{Item}
use Rattle.itip_items.specs.declared.key.Key.TheVariants.{Series, Instance}
use Rattle.itip_view.specs.Answers.{AreShown}
use Rattle.itip_view.specs.InQuestion.{OccursAt, IsInQuestion, NoneInQuestion, ShowsRange, ShowsOccurrence, ShowsBetween, ShowsInQuestion}
use Rattle.itip_view.specs.InQuestion.{IsRowInQuestion}
use Rattle.itip_view.specs.Rows.{HasFields, IsRow, moment_of, series_answers, instance_answers, occurrence_answers, range_answers}
use Rattle.itip_view.specs.Standing.{is_live, if_live, IsLive, Stands, NoneStands, Rules, NoneRules, IsLiveSeries, GovernsBetween, Governs}
use Rattle.itip_view.specs.declared.row.Row.{Row}
use Rattle.itip_view.specs.declared.row.ShownAttendee.{ShownAttendee}
use Rattle.itip_view.specs.declared.window.Window.{Window}
use Rattle.itip_view.proofs.Alike.{KeepAlike, alike_back, none_stands_alike, rules_alike, none_rules_alike, live_series_alike}
use Rattle.itip_view.proofs.Alike.{live_instance_alike, between_alike, instance_shown, occurrence_shown, range_shown, series_shown}
use Rattle.itip_view.proofs.Governed.{not_both, one_governs}
use Rattle.itip_view.proofs.OneRow.{one_best, one_rules, same_shown}

module _ (items : List Item) (uid : List ℕ) where
  -- the instance item that stands is in question where it is live
  pub question_standing : (at : Moment) (item : Item) → Stands items uid at item
      → MatchOption (if_live (Some item)) (NoneInQuestion items uid (Some at)) (IsInQuestion items uid (Some at))
  question_standing at item stands =
      elim (is_live item.kind) as (λ b. is_live item.kind ≡ b →
      MatchOption (if b then Some item else None) (NoneInQuestion items uid (Some at)) (IsInQuestion items uid (Some at))) [
        | true ↦ λ e. inl (record { stands = stands; live = e })
        | false ↦ λ e. λ g is. elim is [
          | inl here ↦ not_both item (subst IsLive (one_best items (Instance uid at) g item here.stands.best stands.best) here.live) e
          | inr other ↦ other.none_stands item stands
        ]
      ] refl

  -- nothing is where no instance item stands and nothing occurs
  pub question_nowhere : (at : Moment) → NoneStands items uid at → (OccursAt items uid at → ⊥) → NoneInQuestion items uid (Some at)
  question_nowhere at none not g is = elim is [ inl here ↦ none g here.stands | inr other ↦ not other.occurs ]

  -- at an occurrence it is what governs between the instances
  pub question_between : (at : Moment) → NoneStands items uid at → OccursAt items uid at → (o : Option Item) →
      MatchOption o ((g : Item) → ¬ GovernsBetween items uid at g) (GovernsBetween items uid at)
      → MatchOption o (NoneInQuestion items uid (Some at)) (IsInQuestion items uid (Some at))
  question_between at none occurs None not = λ g is. elim is [ inl here ↦ none g here.stands | inr other ↦ not g other.governs ]
  question_between at none occurs (Some s) between = inr (record { none_stands = none; occurs = occurs; governs = between })

  -- where the instance item that stands, or the range item that rules, is cancelled
  pub cancelled_instance : (at : Moment) (item : Item) → Stands items uid at item → (IsLive item → ⊥) → NoneInQuestion items uid (Some at)
  cancelled_instance at item stands not g is = elim is [
    | inl here ↦ not (subst IsLive (one_best items (Instance uid at) g item here.stands.best stands.best) here.live)
    | inr other ↦ other.none_stands item stands
  ]

  pub cancelled_range : (at id : Moment) (item : Item) → NoneStands items uid at → Rules items uid at id item → (IsLive item → ⊥) →
      NoneInQuestion items uid (Some at)
  cancelled_range at id item none rules not g is = elim is [
    | inl here ↦ none g here.stands
    | inr other ↦ elim other.governs [
      | inl range ↦ not (subst IsLive (one_rules items uid at range.id id g item range.rules rules) range.live)
      | inr series ↦ series.0 id item rules.stands rules.reaches
    ]
  ]

  -- where no series item is live, nothing occurs
  pub none_occurs : ((item : Item) → ¬ IsLiveSeries items uid item) → (at : Moment) → OccursAt items uid at → ⊥
  none_occurs none at occurs = none occurs.item occurs.live

  -- what is in question governs
  pub question_governs : (id : Option Moment) (item : Item) → IsInQuestion items uid id item → Governs items uid id item
  question_governs None item is = is
  question_governs (Some at) item (inl here) = inl here
  question_governs (Some at) item (inr other) = inr (other.none_stands, other.governs)

  pub one_in_question : (id : Option Moment) (a b : Item) → IsInQuestion items uid id a → IsInQuestion items uid id b → a ≡ b
  one_in_question id a b p q = one_governs items uid id a b (question_governs id a p) (question_governs id b q)

  shows_governs : (at : Moment) (item : Item) (shown : List ShownAttendee) → ShowsBetween items uid at item shown →
      GovernsBetween items uid at item
  shows_governs at item shown p = elim p.shows [
    | inl range ↦ inl (record { id = range.id; rules = range.rules; live = range.live })
    | inr series ↦ inr (series.none_rules, series.live)
  ]

  -- what shows is in question
  pub shows_is : (id : Option Moment) (item : Item) (shown : List ShownAttendee) → ShowsInQuestion items uid id item shown →
      IsInQuestion items uid id item
  shows_is None item shown p = p.live
  shows_is (Some at) item shown (inl p) = inl p.live
  shows_is (Some at) item shown (inr p) =
      inr (record { none_stands = p.none_stands; occurs = p.occurs; governs = shows_governs at item shown p })

  -- what a row shows is shown by the row in question
  pub shows_whole : (item found : Item) (shown : List ShownAttendee) → IsLiveSeries items uid item →
      AreShown items (series_answers uid item) item.todo.attendees shown → found ≡ item → ShowsInQuestion items uid None found shown
  shows_whole item found shown live are same =
      subst (λ (i : Item). ShowsInQuestion items uid None i shown) (sym same) (record { live = live; attendees = are })

  pub shows_instance : (at : Moment) (item found : Item) (shown : List ShownAttendee) → Stands items uid at item → IsLive item →
      AreShown items (instance_answers uid at item) item.todo.attendees shown → found ≡ item
      → ShowsInQuestion items uid (Some at) found shown
  shows_instance at item found shown stands live are same =
      subst (λ (i : Item). ShowsInQuestion items uid (Some at) i shown) (sym same)
      (inl (record { live = record { stands = stands; live = live }; attendees = are }))

  pub shows_range : (at id : Moment) (item whole found : Item) (shown : List ShownAttendee) → NoneStands items uid at →
      OccursAt items uid at → Rules items uid at id item → IsLive item → IsLiveSeries items uid whole
      → AreShown items (range_answers uid at item whole) item.todo.attendees shown → found ≡ item
      → ShowsInQuestion items uid (Some at) found shown
  shows_range at id item whole found shown none occurs rules live series are same =
      subst (λ (i : Item). ShowsInQuestion items uid (Some at) i shown) (sym same) (inr (record {
        none_stands = none;
        occurs = occurs;
        shows = inl (record { id = id; rules = rules; live = live; whole = whole; live_series = series; attendees = are });
      }))

  pub shows_occurrence : (at : Moment) (item found : Item) (shown : List ShownAttendee) → NoneStands items uid at →
      OccursAt items uid at → NoneRules items uid at → IsLiveSeries items uid item
      → AreShown items (occurrence_answers uid at item) item.todo.attendees shown → found ≡ item
      → ShowsInQuestion items uid (Some at) found shown
  shows_occurrence at item found shown none occurs none_rules live are same =
      subst (λ (i : Item). ShowsInQuestion items uid (Some at) i shown) (sym same) (inr (record {
        none_stands = none;
        occurs = occurs;
        shows = inr (record { none_rules = none_rules; live = live; attendees = are });
      }))

  ranges_show_one : (at : Moment) (a b : Item) (shown others : List ShownAttendee) → a ≡ b → ShowsRange items uid at a shown →
      ShowsRange items uid at b others → shown ≡ others
  ranges_show_one at a b shown others same p q =
      let whole : p.whole ≡ q.whole = one_best items (Series uid) p.whole q.whole p.live_series.best q.live_series.best in
      same_shown items a b (range_answers uid at a p.whole) (range_answers uid at b q.whole) shown others same
      (λ i. range_answers uid at (same i) (whole i)) p.attendees q.attendees

  between_shows_one : (at : Moment) (a b : Item) (shown others : List ShownAttendee) → a ≡ b → ShowsBetween items uid at a shown →
      ShowsBetween items uid at b others → shown ≡ others
  between_shows_one at a b shown others same p q = elim p.shows [
    | inl range ↦ elim q.shows [
      | inl other ↦ ranges_show_one at a b shown others same range other
      | inr none ↦ absurd (none.none_rules range.id a range.rules.stands range.rules.reaches)
    ]
    | inr none ↦ elim q.shows [
      | inl range ↦ absurd (none.none_rules range.id b range.rules.stands range.rules.reaches)
      | inr other ↦ same_shown items a b (occurrence_answers uid at a) (occurrence_answers uid at b) shown others same
          (ap (occurrence_answers uid at) same) none.attendees other.attendees
    ]
  ]

  -- it shows one list of attendees
  pub one_shown_in_question : (id : Option Moment) (a b : Item) (shown others : List ShownAttendee) →
      ShowsInQuestion items uid id a shown → ShowsInQuestion items uid id b others → shown ≡ others
  one_shown_in_question id a b shown others p q =
      by id (one_in_question id a b (shows_is id a shown p) (shows_is id b others q)) p q
    where
      by : (id : Option Moment) → a ≡ b → ShowsInQuestion items uid id a shown → ShowsInQuestion items uid id b others → shown ≡ others
      by None same p q = same_shown items a b (series_answers uid a) (series_answers uid b) shown others same
          (ap (series_answers uid) same) p.attendees q.attendees
      by (Some at) same (inl p) (inl q) = same_shown items a b (instance_answers uid at a) (instance_answers uid at b) shown others same
          (ap (instance_answers uid at) same) p.attendees q.attendees
      by (Some at) same (inl p) (inr q) = absurd (q.none_stands a p.live.stands)
      by (Some at) same (inr p) (inl q) = absurd (p.none_stands b q.live.stands)
      by (Some at) same (inr p) (inr q) = between_shows_one at a b shown others same p q

module _ (x y : List Item) (same : KeepAlike x y) (uid : List ℕ) where
  occurs_alike : (at : Moment) → OccursAt x uid at → OccursAt y uid at
  occurs_alike at o = record {
    item = o.item;
    series = o.series;
    live = live_series_alike x y same uid o.item o.live;
    repeats = o.repeats;
    occurs = o.occurs;
  }

  pub question_alike : (id : Option Moment) (item : Item) → IsInQuestion x uid id item → IsInQuestion y uid id item
  question_alike None item is = live_series_alike x y same uid item is
  question_alike (Some at) item (inl is) = inl (live_instance_alike x y same uid at item is)
  question_alike (Some at) item (inr is) = inr (record {
    none_stands = none_stands_alike x y same uid at is.none_stands;
    occurs = occurs_alike at is.occurs;
    governs = between_alike x y same uid at item is.governs;
  })

  range_alike : (at : Moment) (item : Item) (shown : List ShownAttendee) → ShowsRange x uid at item shown → ShowsRange y uid at item shown
  range_alike at item shown p = record {
    id = p.id;
    rules = rules_alike x y same uid at p.id item p.rules;
    live = p.live;
    whole = p.whole;
    live_series = live_series_alike x y same uid p.whole p.live_series;
    attendees = range_shown x y same uid item p.whole p.live_series.best at item.todo.attendees shown p.attendees;
  }

  occurrence_alike : (at : Moment) (item : Item) (shown : List ShownAttendee) → ShowsOccurrence x uid at item shown →
      ShowsOccurrence y uid at item shown
  occurrence_alike at item shown p = record {
    none_rules = none_rules_alike x y same uid at p.none_rules;
    live = live_series_alike x y same uid item p.live;
    attendees = occurrence_shown x y same uid item p.live.best at item.todo.attendees shown p.attendees;
  }

  shows_between_alike : (at : Moment) (item : Item) (shown : List ShownAttendee) → ShowsBetween x uid at item shown →
      ShowsBetween y uid at item shown
  shows_between_alike at item shown p = record {
    none_stands = none_stands_alike x y same uid at p.none_stands;
    occurs = occurs_alike at p.occurs;
    shows = elim p.shows [
      | inl range ↦ inl (range_alike at item shown range)
      | inr series ↦ inr (occurrence_alike at item shown series)
    ];
  }

  pub shows_alike : (id : Option Moment) (item : Item) (shown : List ShownAttendee) → ShowsInQuestion x uid id item shown →
      ShowsInQuestion y uid id item shown
  shows_alike None item shown p = record {
    live = live_series_alike x y same uid item p.live;
    attendees = series_shown x y same uid item p.live.best item.todo.attendees shown p.attendees;
  }
  shows_alike (Some at) item shown (inl p) = inl (record {
    live = live_instance_alike x y same uid at item p.live;
    attendees = instance_shown x y same uid item at item.todo.attendees shown p.attendees;
  })
  shows_alike (Some at) item shown (inr p) = inr (shows_between_alike at item shown p)

pub none_in_question_alike : (x y : List Item) → KeepAlike x y → (uid : List ℕ) (id : Option Moment) → NoneInQuestion x uid id →
    NoneInQuestion y uid id
none_in_question_alike x y same uid id none item is = none item (question_alike y x (alike_back x y same) uid id item is)

-- a row is the one in question
module _ (heard : List Item) (window : Window) (row : Row) where
  in_question : (m : Option Moment) (item : Item) → moment_of row.id ≡ m → ShowsInQuestion heard row.uid m item row.attendees →
      HasFields item row → IsRowInQuestion heard row
  in_question m item named shows fields = record {
    item = item;
    shows = subst (λ (o : Option Moment). ShowsInQuestion heard row.uid o item row.attendees) (sym named) shows;
    fields = fields;
  }

  pub row_in_question : IsRow heard window row → IsRowInQuestion heard row
  row_in_question (inl p) =
      in_question (Some p.at) p.item (ap moment_of p.id) (inl (record { live = p.live; attendees = p.attendees })) p.fields
  row_in_question (inr (inl p)) = in_question (Some p.at) p.item (ap moment_of p.id)
      (inr (record {
        none_stands = p.none_stands;
        occurs = record { item = p.item; series = p.series; live = p.live; repeats = p.repeats; occurs = p.occurs.occurs };
        shows = inr (record { none_rules = p.none_rules; live = p.live; attendees = p.attendees });
      })) p.fields
  row_in_question (inr (inr (inl p))) = in_question (Some p.at) p.item (ap moment_of p.id)
      (inr (record {
        none_stands = p.none_stands;
        occurs = record { item = p.whole; series = p.series; live = p.live_series; repeats = p.repeats; occurs = p.occurs.occurs };
        shows = inl (record {
          id = p.from;
          rules = p.rules;
          live = p.live;
          whole = p.whole;
          live_series = p.live_series;
          attendees = p.attendees;
        });
      })) p.fields
  row_in_question (inr (inr (inr (inl p)))) =
      in_question None p.item (ap moment_of p.id) (record { live = p.live; attendees = p.attendees }) p.fields
  row_in_question (inr (inr (inr (inr p)))) =
      in_question None p.item (ap moment_of p.id) (record { live = p.live; attendees = p.attendees }) p.fields
