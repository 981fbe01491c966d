-- One item of an attendee is heard: what stands and governs stays, and it is the best of its key if it is later than the kept one.
use Rattle.std.proofs.Common.{◌≡◌, ◌↔◌, ◌∙◌, ℕ, ◌<◌, ◌≤◌, List, [], ◌∷◌, ◌++◌, refl, sym, ap, subst, ◌⊎◌, inl, inr, arith, Option, Some}
use Rattle.std.proofs.Common.{None}
use Rattle.std.specs.List.{Contains}
use Rattle.std.proofs.lemmas.Bool.{cases_lt}
use Rattle.std.proofs.lemmas.List.Elements.{Contains-append_cases, Contains-append_left, Contains-append_right}
use Rattle.itip_moment.specs.declared.moment.Moment.{Moment}
use Rattle.itip_todo.specs.Properties.{Property}
use Rattle.itip_items.specs.RevisionOrder.{IsLater}
use Rattle.itip_items.specs.declared.item.Item.{Item}
use Rattle.itip_items.specs.declared.key.Key.{Key}
use Rattle.itip_items.specs.declared.key.Key.TheVariants as key
use Rattle.itip_state.specs.Kept.{IsBest, IsDead, IsKept}
use Rattle.itip_state.proofs.Best.{best_above, greater_eff, has_best, later_transitive, not_later_itself, not_later_transitive}
use Rattle.itip_state.proofs.Keeping.{best_part}
use Rattle.itip_state.proofs.Members.{cons_cases, cons_first, none_in}
use Rattle.itip_view.specs.Answers.{Asked, AreShown, Counts, Decides, NoneCounts, in_front, shown_line}
use Rattle.itip_view.specs.InQuestion.{IsInQuestion, OccursAt, ShowsInQuestion}
use Rattle.itip_view.specs.Rows.{instance_answers, occurrence_answers, range_answers, series_answers}
use Rattle.itip_view.specs.Standing.{GovernsBetween, IsLiveInstance, IsLiveSeries, NoneRules, NoneStands, Rules, StandsFrom, StandsUnder}
use Rattle.itip_view.specs.declared.row.ShownAttendee.{ShownAttendee}
use Rattle.itip_view.proofs.Deciding.{decides_later, shows_more}
use Rattle.itip_view.proofs.OneRow.{one_best}
use Rattle.itip_writing.proofs.RequestStands.{IsTask}

-- ---- sets with the same best items of to-dos, instances and ranges

abbrev pub SameTasks : List Item → List Item → Type 0
SameTasks x y = (k : Key) → IsTask k → (item : Item) → IsBest x k item ↔ IsBest y k item

pub tasks_back : (x y : List Item) → SameTasks x y → SameTasks y x
tasks_back x y same k task item = let two = same k task item in (two.1, two.0)

module _ (x y : List Item) (same : SameTasks x y) (uid : List ℕ) where
  under_kept : (k : Key) → IsTask k → (item : Item) → StandsUnder x uid k item → StandsUnder y uid k item
  under_kept k task item stands = record {
    best = (same k task item).0 stands.best;
    beside = λ series best. stands.beside series ((same (key.Series uid) tt series).1 best);
  }

  pub series_kept : (item : Item) → IsLiveSeries x uid item → IsLiveSeries y uid item
  series_kept item live = record { best = (same (key.Series uid) tt item).0 live.best; live = live.live }

  instance_kept : (at : Moment) (item : Item) → IsLiveInstance x uid at item → IsLiveInstance y uid at item
  instance_kept at item live = record { stands = under_kept (key.Instance uid at) tt item live.stands; live = live.live }

module _ (x y : List Item) (same : SameTasks x y) (uid : List ℕ) where
  none_stands_kept : (at : Moment) → NoneStands x uid at → NoneStands y uid at
  none_stands_kept at none item stands = none item (under_kept y x (tasks_back x y same) uid (key.Instance uid at) tt item stands)

  from_back : (id : Moment) (item : Item) → StandsFrom y uid id item → StandsFrom x uid id item
  from_back id item = under_kept y x (tasks_back x y same) uid (key.Range uid id) tt item

  rules_kept : (at id : Moment) (item : Item) → Rules x uid at id item → Rules y uid at id item
  rules_kept at id item rules = record {
    stands = under_kept x y same uid (key.Range uid id) tt item rules.stands;
    reaches = rules.reaches;
    greatest = λ other earlier stands. rules.greatest other earlier (from_back other earlier stands);
  }

  none_rules_kept : (at : Moment) → NoneRules x uid at → NoneRules y uid at
  none_rules_kept at none id item stands = none id item (from_back id item stands)

  between_kept : (at : Moment) (item : Item) → GovernsBetween x uid at item → GovernsBetween y uid at item
  between_kept at item (inl range) =
      inl (record { id = range.id; rules = rules_kept at range.id item range.rules; live = range.live })
  between_kept at item (inr (none, live)) = inr (none_rules_kept at none, series_kept x y same uid item live)

  occurs_kept : (at : Moment) → OccursAt x uid at → OccursAt y uid at
  occurs_kept at o = record {
    item = o.item;
    series = o.series;
    live = series_kept x y same uid o.item o.live;
    repeats = o.repeats;
    occurs = o.occurs;
  }

  pub question_kept : (id : Option Moment) (item : Item) → IsInQuestion x uid id item → IsInQuestion y uid id item
  question_kept None item is = series_kept x y same uid item is
  question_kept (Some at) item (inl is) = inl (instance_kept x y same uid at item is)
  question_kept (Some at) item (inr is) = inr (record {
    none_stands = none_stands_kept at is.none_stands;
    occurs = occurs_kept at is.occurs;
    governs = between_kept at item is.governs;
  })

-- ---- one more item

module _ (heard : List Item) (new : Item) where
  new_there : Contains (heard ++ new ∷ []) new
  new_there = Contains-append_right heard (new ∷ []) new (cons_first new [])

  old_or_new : (item : Item) → Contains (heard ++ new ∷ []) item → Contains heard item ⊎ (item ≡ new)
  old_or_new item h = elim (Contains-append_cases heard (new ∷ []) item h) [
    | inl old ↦ inl old
    | inr here ↦ elim (cons_cases new [] item here) [ inl same ↦ inr (sym same) | inr none ↦ absurd (none_in item none) ]
  ]

  -- an item of an attendee is of no to-do, instance or range
  pub tasks_stay : (IsTask new.key → ⊥) → SameTasks heard (heard ++ new ∷ [])
  tasks_stay other k task item = (
    λ best. record {
      is_heard = Contains-append_left heard (new ∷ []) item best.is_heard;
      about = best.about;
      none_later = λ j h same. elim (old_or_new j h) [
        | inl old ↦ best.none_later j old same
        | inr is ↦ absurd (not_new j is same)
      ];
    },
    λ best. best_part (heard ++ new ∷ []) heard k item (Contains-append_left heard (new ∷ [])) best (elim (old_or_new item best.is_heard) [
      | inl old ↦ old
      | inr is ↦ absurd (not_new item is best.about)
    ]),
  )
    where
      not_new : (j : Item) → j ≡ new → j.key ≡ k → ⊥
      not_new j is same = other (subst IsTask (sym same ∙ ap (λ (i : Item). i.key) is) task)

  -- the item is the best of its key if it is later than the kept one and above each that is dead
  module _ (earlier : (b : Item) → IsKept heard b → b.key ≡ new.key → IsLater new b)
      (above : (b : Item) → IsBest heard new.key b → IsDead heard b → b.eff < new.eff) where
    not_over : (b : Item) → IsBest heard new.key b → ¬ IsLater b new
    not_over b best later =
        let alive : ¬ IsDead heard b = λ dead.
        not_later_itself b (later_transitive b new b later (greater_eff new b (above b best dead))) in
        let kept : IsKept heard b =
        record { best = subst (λ (k : Key). IsBest heard k b) (sym best.about) best; alive = alive } in
        not_later_itself b (later_transitive b new b later (earlier b kept best.about))

    pub new_best : IsBest (heard ++ new ∷ []) new.key new
    new_best = record {
      is_heard = new_there;
      about = refl;
      none_later = λ j h same. elim (old_or_new j h) [
        | inl old ↦
            let found = best_above heard j old in
            let best : IsBest heard new.key found.0 = subst (λ (k : Key). IsBest heard k found.0) same found.1 in
            not_later_transitive j found.0 new (best.none_later j old same) (not_over found.0 best)
        | inr is ↦ subst (λ (i : Item). ¬ IsLater i new) (sym is) (not_later_itself new)
      ];
    }

-- ---- who is shown if an item governs

module _ (heard : List Item) where
  -- an answer counts, or none does
  counted : (asked : Asked) → ((answer : Item) × Counts heard asked answer) ⊎ NoneCounts heard asked
  counted asked = by (has_best heard asked.key)
    where
      low : (b answer : Item) → IsBest heard asked.key b → b.own < asked.since → Counts heard asked answer → ⊥
      low b answer best under counts =
          let same : answer ≡ b = one_best heard asked.key answer b counts.best best in
          let own : answer.own ≡ b.own = ap (λ (i : Item). i.own) same in
          let since : asked.since ≤ answer.own = counts.since in
          omega (arith, own, since, under)

      by : ((item : Item) → Contains heard item → item.key ≡ asked.key → ⊥) ⊎ ((b : Item) × IsBest heard asked.key b) →
          ((answer : Item) × Counts heard asked answer) ⊎ NoneCounts heard asked
      by (inl none) = inr (λ answer counts. none answer counts.best.is_heard counts.best.about)
      by (inr (b, best)) = elim (cases_lt b.own asked.since) [
        | inl under ↦ inr (λ answer counts. low b answer best under counts)
        | inr since ↦ inl (b, record { best = best; since = since })
      ]

  decided : (asked : List Asked) → (answer : Option Item) × Decides heard asked answer
  decided [] = (None, tt)
  decided (first ∷ rest) = elim (counted first) [
    | inl counts ↦ (Some counts.0, inl counts.1)
    | inr none ↦ let later = decided rest in (later.0, decides_later heard first rest none later.0 later.1)
  ]

  all_shown : (asked_of : Property → List Asked) (lines : List Property) → (shown : List ShownAttendee) ×
      AreShown heard asked_of lines shown
  all_shown asked_of [] = ([], refl)
  all_shown asked_of (line ∷ lines) =
      let here = decided (asked_of line) in
      let rest = all_shown asked_of lines in
      (in_front (shown_line line here.0) rest.0, shows_more heard asked_of line lines here.0 rest.0 here.1 rest.1)

  -- what is in question shows some attendees
  pub question_shows : (uid : List ℕ) (id : Option Moment) (item : Item) → IsInQuestion heard uid id item →
      (shown : List ShownAttendee) × ShowsInQuestion heard uid id item shown
  question_shows uid None item live =
      let shown = all_shown (series_answers uid item) item.todo.attendees in
      (shown.0, record { live = live; attendees = shown.1 })
  question_shows uid (Some at) item (inl live) =
      let shown = all_shown (instance_answers uid at item) item.todo.attendees in
      (shown.0, inl (record { live = live; attendees = shown.1 }))
  question_shows uid (Some at) item (inr between) = by between.governs
    where
      by : GovernsBetween heard uid at item → (shown : List ShownAttendee) × ShowsInQuestion heard uid (Some at) item shown
      by (inl range) =
          let whole : Item = between.occurs.item in
          let shown = all_shown (range_answers uid at item whole) item.todo.attendees in (
            shown.0,
            inr (record {
              none_stands = between.none_stands;
              occurs = between.occurs;
              shows = inl (record {
                id = range.id;
                rules = range.rules;
                live = range.live;
                whole = whole;
                live_series = between.occurs.live;
                attendees = shown.1;
              });
            }),
          )
      by (inr (none, live)) =
          let shown = all_shown (occurrence_answers uid at item) item.todo.attendees in (
            shown.0,
            inr (record {
              none_stands = between.none_stands;
              occurs = between.occurs;
              shows = inr (record { none_rules = none; live = live; attendees = shown.1 });
            }),
          )
