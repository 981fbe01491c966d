-- What becomes of the items that rows show.
use Rattle.std.proofs.Common.{◌≡◌, ◌<◌, ◌≤◌, ℕ, max, List, refl, sym, ◌∙◌, ap, subst, inl, inr, arith, true, Option, Some}
use Rattle.std.proofs.Common.{None}
use Rattle.std.specs.Prelude.{if◌then◌else◌}
use Rattle.itip_moment.specs.declared.moment.Moment.{Moment}
use Rattle.itip_todo.specs.Table.{attendee_key}
use Rattle.itip_todo.specs.Properties.{Property}
use Rattle.itip_items.specs.KeyParts.{uid_of, instance_of}
use Rattle.itip_items.specs.declared.item.Item.{Item}
use Rattle.itip_items.specs.declared.key.Key.{Key}
use Rattle.itip_items.specs.declared.key.Key.TheVariants.{Series, Instance, Range, Answer, Refresh}
use Rattle.itip_items.specs.declared.kind.Kind.{Kind}
use Rattle.itip_state.specs.Kept.{IsBest, IsDead, CanDie}
use Rattle.itip_state.proofs.Keeping.{series_kept, eff_up}
use Rattle.itip_state.proofs.Members.{by_bool}
use Rattle.itip_view.specs.Answers.{Asked, Counts}
use Rattle.itip_view.specs.InQuestion.{IsInQuestion, OccursAt}
use Rattle.itip_view.specs.Rows.{IsRow, ShowsGoverning}
use Rattle.itip_view.specs.Standing.{is_live, StandsUnder, IsLiveSeries, IsLiveInstance, Governs}
use Rattle.itip_view.specs.declared.row.Row.{Row}
use Rattle.itip_view.specs.declared.window.Window.{Window}
use Rattle.itip_view.proofs.Alike.{under_kept}
use Rattle.itip_view.proofs.Asking.{question_governs}
use Rattle.itip_view.proofs.Governed.{row_governed}
use Rattle.itip_view.proofs.Sequences.{series_eff, answer_eff}
use Rattle.itip_report.specs.Reports.{IsRefresh, IsWanted}
use Rattle.itip_explain.specs.Deciding.{DecidesOn}
use Rattle.itip_explain.specs.Fates.{standing_fate, IsOverrideFate, IsAttendee, IsFateAt, IsFate}
use Rattle.itip_explain.specs.Told.{heard_of}
use Rattle.itip_explain.specs.declared.fate.Fate.{Fate}
use Rattle.itip_explain.specs.declared.fate.Fate.TheVariants as fate
use Rattle.itip_explain.specs.declared.told.ToldItem.{ToldItem}

stands_live : (kind : Kind) (cancels : Fate) → is_live kind ≡ true → fate.Stands ≡ standing_fate kind cancels
stands_live kind cancels e = sym (ap (λ b. if b then fate.Stands else cancels) e)

module _ (told : List ToldItem) (uid : List ℕ) where
  whole_stands : (item : Item) → IsLiveSeries (heard_of told) uid item → IsFate told item fate.Stands
  whole_stands item is = inr (inr (record {
    kept = series_kept (heard_of told) uid item is.best;
    by_key = subst (λ (k : Key). IsFateAt told k item fate.Stands) (sym is.best.about) (stands_live item.kind fate.CancelsToDo is.live);
  }))

  instance_stands : (at : Moment) (item : Item) → IsLiveInstance (heard_of told) uid at item → IsFate told item fate.Stands
  instance_stands at item is = inr (inr (record {
    kept = under_kept (heard_of told) uid (Instance uid at) item refl is.stands;
    by_key = subst (λ (k : Key). IsFateAt told k item fate.Stands) (sym is.stands.best.about)
        (inl (is.stands, stands_live item.kind fate.CancelsInstance is.live));
  }))

  range_stands : (id : Moment) (item : Item) → StandsUnder (heard_of told) uid (Range uid id) item → is_live item.kind ≡ true →
      IsFate told item fate.Stands
  range_stands id item stands live = inr (inr (record {
    kept = under_kept (heard_of told) uid (Range uid id) item refl stands;
    by_key = subst (λ (k : Key). IsFateAt told k item fate.Stands) (sym stands.best.about)
        (inl (stands, stands_live item.kind fate.CancelsOnward live));
  }))

  -- what governs stands
  pub governs_stands : (id : Option Moment) (item : Item) → Governs (heard_of told) uid id item → IsFate told item fate.Stands
  governs_stands None item is = whole_stands item is
  governs_stands (Some at) item (inl is) = instance_stands at item is
  governs_stands (Some at) item (inr (none, inl is)) = range_stands is.id item is.rules.stands is.live
  governs_stands (Some at) item (inr (none, inr is)) = whole_stands item is.1

  pub question_stands : (id : Option Moment) (item : Item) → IsInQuestion (heard_of told) uid id item → IsFate told item fate.Stands
  question_stands id item is = governs_stands id item (question_governs (heard_of told) uid id item is)

-- what governs a row stands
pub row_stands : (told : List ToldItem) (window : Window) (row : Row) → IsRow (heard_of told) window row →
    (shows : ShowsGoverning (heard_of told) row) × IsFate told shows.item fate.Stands
row_stands told window row is =
    let shows : ShowsGoverning (heard_of told) row = row_governed (heard_of told) window row is in
    (shows, governs_stands told row.uid _ shows.item shows.governs)

module _ (told : List ToldItem) (uid : List ℕ) (line : Property) (answer : Item) where
  abbrev asked_since : Option Moment → ℕ → Asked
  asked_since id since = record { key = Answer uid id (attendee_key line.value); since = since }

  -- an answer to the to-do as a whole that is no earlier than the best series item isn't dead
  whole_alive : (series : Item) (since : ℕ) → IsBest (heard_of told) (Series uid) series → series.own ≤ since →
      Counts (heard_of told) (asked_since None since) answer → ¬ IsDead (heard_of told) answer
  whole_alive series since best no_earlier counts dead =
      let of_uid : IsBest (heard_of told) (Series uid) dead.series =
      subst (λ (u : List ℕ). IsBest (heard_of told) (Series u) dead.series) (ap uid_of counts.best.about) dead.best in
      let up : dead.series.eff ≤ series.eff = eff_up dead.series series (best.none_later dead.series of_uid.is_heard of_uid.about) in
      let below : answer.eff < dead.series.eff = dead.below in
      let asked : since ≤ answer.own = counts.since in
      let mine : answer.eff ≡ answer.own = answer_eff answer uid None (attendee_key line.value) counts.best.about in
      let theirs : series.eff ≡ series.own = series_eff series uid best.about in
      omega arith

  -- an answer that counts for an attendee of the item in question counts
  counts_there : (id : Option Moment) (since : ℕ) (governing : Item) → Counts (heard_of told) (asked_since id since) answer →
      (¬ IsDead (heard_of told) answer) → IsInQuestion (heard_of told) uid id governing → governing.own ≤ since
      → IsAttendee (heard_of told) uid id governing (attendee_key line.value) → IsFate told answer fate.Counts
  counts_there id since governing counts alive is no_earlier named = inr (inr (record {
    kept = record {
      best = subst (λ (k : Key). IsBest (heard_of told) k answer) (sym counts.best.about) counts.best;
      alive = alive;
    };
    by_key = subst (λ (k : Key). IsFateAt told k answer fate.Counts) (sym counts.best.about) (inr (record {
      governing = governing;
      in_question = is;
      under = inr (record {
        since = let asked : since ≤ answer.own = counts.since in omega arith;
        by_attendee = inl (named, refl);
      });
    }));
  }))

  -- to an instance
  counts_at : (at : Moment) (since : ℕ) (governing : Item) → Counts (heard_of told) (asked_since (Some at) since) answer →
      IsInQuestion (heard_of told) uid (Some at) governing → governing.own ≤ since
      → IsAttendee (heard_of told) uid (Some at) governing (attendee_key line.value) → IsFate told answer fate.Counts
  counts_at at since governing counts =
      counts_there (Some at) since governing counts (λ dead. subst CanDie counts.best.about dead.can_die)

  -- to the to-do as a whole
  counts_whole : (since : ℕ) (governing : Item) → Counts (heard_of told) (asked_since None since) answer →
      IsLiveSeries (heard_of told) uid governing → governing.own ≤ since
      → IsAttendee (heard_of told) uid None governing (attendee_key line.value) → IsFate told answer fate.Counts
  counts_whole since governing counts live no_earlier =
      counts_there None since governing counts (whole_alive governing since live.best no_earlier counts) live no_earlier

module _ (told : List ToldItem) (window : Window) (row : Row) (answer : Item) where
  -- what decides on a row counts
  pub decides_counts : DecidesOn (heard_of told) window row answer → IsFate told answer fate.Counts
  decides_counts (inl d) = elim d.decides.decides [
    | inl counts ↦ counts_at told row.uid d.decides.line answer d.is.at d.is.item.own d.is.item counts (inl d.is.live) (omega arith)
        (record { line = d.decides.line; there = d.decides.there; same = refl })
    | inr none ↦ absurd none.1
  ]
  decides_counts (inr (inl d)) =
      let occurs : OccursAt (heard_of told) row.uid d.is.at =
      record { item = d.is.item; series = d.is.series; live = d.is.live; repeats = d.is.repeats; occurs = d.is.occurs.occurs } in
      elim d.decides.decides [
        | inl counts ↦ counts_at told row.uid d.decides.line answer d.is.at d.is.item.own d.is.item counts
            (inr (record { none_stands = d.is.none_stands; occurs = occurs; governs = inr (d.is.none_rules, d.is.live) })) (omega arith)
            (record { line = d.decides.line; there = d.decides.there; same = refl })
        | inr later ↦ elim later.1 [
          | inl counts ↦ counts_whole told row.uid d.decides.line answer d.is.item.own d.is.item counts d.is.live (omega arith)
              (inl (record { line = d.decides.line; there = d.decides.there; same = refl }))
          | inr none ↦ absurd none.1
        ]
      ]
  decides_counts (inr (inr (inl d))) =
      let occurs : OccursAt (heard_of told) row.uid d.is.at =
      record { item = d.is.whole; series = d.is.series; live = d.is.live_series; repeats = d.is.repeats; occurs = d.is.occurs.occurs } in
      elim d.decides.decides [
        | inl counts ↦ counts_at told row.uid d.decides.line answer d.is.at d.is.item.own d.is.item counts
            (inr (record {
              none_stands = d.is.none_stands;
              occurs = occurs;
              governs = inl (record { id = d.is.from; rules = d.is.rules; live = d.is.live });
            })) (omega arith) (record { line = d.decides.line; there = d.decides.there; same = refl })
        | inr later ↦ elim later.1 [
          | inl counts ↦ counts_whole told row.uid d.decides.line answer (max d.is.item.own d.is.whole.own) d.is.whole counts
              d.is.live_series (omega arith) (inr (record {
                id = d.is.from;
                range = d.is.item;
                stands = d.is.rules.stands;
                live = d.is.live;
                has = record { line = d.decides.line; there = d.decides.there; same = refl };
              }))
          | inr none ↦ absurd none.1
        ]
      ]
  decides_counts (inr (inr (inr (inl d)))) = elim d.decides.decides [
    | inl counts ↦ counts_whole told row.uid d.decides.line answer d.is.item.own d.is.item counts d.is.live (omega arith)
        (inl (record { line = d.decides.line; there = d.decides.there; same = refl }))
    | inr none ↦ absurd none.1
  ]
  decides_counts (inr (inr (inr (inr d)))) = elim d.decides.decides [
    | inl counts ↦ counts_whole told row.uid d.decides.line answer d.is.item.own d.is.item counts d.is.live (omega arith)
        (inl (record { line = d.decides.line; there = d.decides.there; same = refl }))
    | inr none ↦ absurd none.1
  ]

-- what waits
module _ (told : List ToldItem) (item : Item) where
  not_standing : (kind : Kind) (cancels : Fate) → (fate.Waits ≡ cancels → ⊥) → fate.Waits ≡ standing_fate kind cancels → ⊥
  not_standing kind cancels not e = by_bool (is_live kind) ⊥
      (λ live. let x : fate.Waits ≡ fate.Stands = e ∙ ap (λ b. if b then fate.Stands else cancels) live in cc)
      (λ off. not (e ∙ ap (λ b. if b then fate.Stands else cancels) off))

  override_waits : (uid : List ℕ) (key : Key) (cancels : Fate) → (fate.Waits ≡ cancels → ⊥) →
      IsOverrideFate told uid key cancels item fate.Waits → ⊥
  override_waits uid key cancels not (inl p) = not_standing item.kind cancels not p.1
  override_waits uid key cancels not (inr p) = let x : fate.Waits ≡ fate.CancelledWithToDoBy p.place = p.became_is in cc

  waits_at : (key : Key) → IsFateAt told key item fate.Waits → IsWanted (heard_of told) item
  waits_at (Series uid) p = absurd (not_standing item.kind fate.CancelsToDo (λ e. cc) p)
  waits_at (Instance uid id) p = absurd (override_waits uid (Instance uid id) fate.CancelsInstance (λ e. cc) p)
  waits_at (Range uid id) p = absurd (override_waits uid (Range uid id) fate.CancelsOnward (λ e. cc) p)
  waits_at (Answer uid id attendee) (inl p) = absurd (let x : fate.Waits ≡ fate.AboutNothing = p.1 in cc)
  waits_at (Answer uid id attendee) (inr p) = absurd (elim p.under [
    | inl older ↦ let x : fate.Waits ≡ fate.ForOlderThan older.place = older.became_is in cc
    | inr since ↦ elim since.by_attendee [
      | inl counts ↦ let x : fate.Waits ≡ fate.Counts = counts.1 in cc
      | inr stranger ↦ let x : fate.Waits ≡ fate.FromNoAttendeeOf stranger.place = stranger.became_is in cc
    ]
  ])
  waits_at (Refresh uid id attendee) (inl p) = absurd (let x : fate.Waits ≡ fate.AboutNothing = p.1 in cc)
  waits_at (Refresh uid id attendee) (inr p) =
      elim p.by_report [ inl wanted ↦ wanted.0 | inr not ↦ absurd (let x : fate.Waits ≡ fate.IsAnswered = not.1 in cc) ]

  pub waits_wanted : IsFate told item fate.Waits → IsWanted (heard_of told) item
  waits_wanted (inl p) = absurd (let x : fate.Waits ≡ fate.OvertakenBy p.place = p.became_is in cc)
  waits_wanted (inr (inl p)) = absurd (let x : fate.Waits ≡ fate.VoidBy p.place = p.became_is in cc)
  waits_wanted (inr (inr p)) = waits_at item.key p.by_key

  pub wanted_waits : IsWanted (heard_of told) item → IsFate told item fate.Waits
  wanted_waits is = inr (inr (record { kept = is.kept; by_key = by item.key refl }))
    where
      by : (key : Key) → item.key ≡ key → IsFateAt told key item fate.Waits
      by (Series uid) e = absurd (subst IsRefresh e is.refresh)
      by (Instance uid id) e = absurd (subst IsRefresh e is.refresh)
      by (Range uid id) e = absurd (subst IsRefresh e is.refresh)
      by (Answer uid id attendee) e = absurd (subst IsRefresh e is.refresh)
      by (Refresh uid id attendee) e = inr (record {
        governing = is.governing;
        governs = subst (λ (k : Key). Governs (heard_of told) (uid_of k) (instance_of k) is.governing) e is.governs;
        by_report = inl (is, refl);
      })
