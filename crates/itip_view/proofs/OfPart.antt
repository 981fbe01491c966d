-- The rows of some UIDs need only their part of a set.
use Rattle.std.proofs.Common.{◌≡◌, ◌↔◌, ℕ, List, [], ◌∷◌, refl, sym, ◌∙◌, ap, subst, inl, inr, Option, Some, None}
use Rattle.std.specs.List.{AllByRecursion, Contains}
use Rattle.itip_moment.specs.declared.moment.Moment.{Moment}
use Rattle.itip_todo.specs.Properties.{Property}
use Rattle.itip_items.specs.KeyParts.{uid_of}
use Rattle.itip_items.specs.declared.item.Item.{Item}
use Rattle.itip_items.specs.declared.key.Key.{Key}
use Rattle.itip_items.specs.declared.key.Key.TheVariants as key
use Rattle.itip_state.specs.Kept.{IsBest, ArePart, ArePartOf}
use Rattle.itip_view.specs.Answers.{Asked, Counts, NoneCounts, Decides, AreShown}
use Rattle.itip_view.specs.Rows.{IsRow, instance_answers, occurrence_answers, range_answers, series_answers, NoneStandsAtStart}
use Rattle.itip_view.specs.Standing.{StandsUnder, NoneStands, Rules, NoneRules, IsLiveSeries}
use Rattle.itip_view.specs.declared.row.Row.{Row}
use Rattle.itip_view.specs.declared.row.ShownAttendee.{ShownAttendee}
use Rattle.itip_view.specs.declared.window.Window.{Window}
use Rattle.itip_view.proofs.Gathering.{uid_of_row}

-- both have the same best items of a UID
abbrev pub HaveSameBest : List ℕ → List Item → List Item → Type 0
HaveSameBest uid x y = (k : Key) → uid_of k ≡ uid → (i : Item) → IsBest x k i ↔ IsBest y k i

pub swapped : (uid : List ℕ) (x y : List Item) → HaveSameBest uid x y → HaveSameBest uid y x
swapped uid x y same = λ k about i. ((same k about i).1, (same k about i).0)

-- the part of a set by its UIDs has the best items of each of them
pub part_same : (P : List ℕ → Type 0) (part whole : List Item) →
    ((item : Item) → Contains part item ↔ (Contains whole item × P (uid_of item.key))) → (uid : List ℕ) → P uid →
    HaveSameBest uid part whole
part_same P part whole are uid holds = λ k about i. (
  λ best. record {
    is_heard = ((are i).0 best.is_heard).0;
    about = best.about;
    none_later = λ other h same. best.none_later other ((are other).1 (h, subst P (sym (ap uid_of same ∙ about)) holds)) same;
  },
  λ best. record {
    is_heard = (are i).1 (best.is_heard, subst P (sym (ap uid_of best.about ∙ about)) holds);
    about = best.about;
    none_later = λ other h same. best.none_later other ((are other).0 h).0 same;
  },
)

-- what is asked is about the UID
abbrev AskOf : List ℕ → List Asked → Type 0
AskOf uid = AllByRecursion (λ (asked : Asked). uid_of asked.key ≡ uid)

module _ (uid : List ℕ) (x y : List Item) (same : HaveSameBest uid x y) where
  -- of an instance, or of it and all after it
  under_there : (k : Key) → uid_of k ≡ uid → (i : Item) → StandsUnder x uid k i → StandsUnder y uid k i
  under_there k of i s =
      record { best = (same k of i).0 s.best; beside = λ series best. s.beside series ((same (key.Series uid) refl series).1 best) }

  series_there : (i : Item) → IsLiveSeries x uid i → IsLiveSeries y uid i
  series_there i s = record { best = (same (key.Series uid) refl i).0 s.best; live = s.live }

  counts_there : (asked : Asked) → uid_of asked.key ≡ uid → (i : Item) → Counts x asked i → Counts y asked i
  counts_there asked about i c = record { best = (same asked.key about i).0 c.best; since = c.since }

module _ (uid : List ℕ) (x y : List Item) (same : HaveSameBest uid x y) where
  none_there : (at : Moment) → NoneStands x uid at → NoneStands y uid at
  none_there at none = λ i s. none i (under_there uid y x (swapped uid x y same) (key.Instance uid at) refl i s)

  none_at_start : (start : Option Moment) → NoneStandsAtStart x uid start → NoneStandsAtStart y uid start
  none_at_start None none = tt
  none_at_start (Some start) none = none_there start none

  rules_there : (at id : Moment) (i : Item) → Rules x uid at id i → Rules y uid at id i
  rules_there at id i r = record {
    stands = under_there uid x y same (key.Range uid id) refl i r.stands;
    reaches = r.reaches;
    greatest = λ other earlier s. r.greatest other earlier
        (under_there uid y x (swapped uid x y same) (key.Range uid other) refl earlier s);
  }

  none_rules_there : (at : Moment) → NoneRules x uid at → NoneRules y uid at
  none_rules_there at none = λ id i s. none id i (under_there uid y x (swapped uid x y same) (key.Range uid id) refl i s)

  none_counts_there : (asked : Asked) → uid_of asked.key ≡ uid → NoneCounts x asked → NoneCounts y asked
  none_counts_there asked about none = λ i c. none i (counts_there uid y x (swapped uid x y same) asked about i c)

  decides_there : (all : List Asked) → AskOf uid all → (answer : Option Item) → Decides x all answer → Decides y all answer
  decides_there [] about None d = tt
  decides_there [] about (Some answer) d = absurd d
  decides_there (asked ∷ rest) about None (none, d) = (none_counts_there asked about.0 none, decides_there rest about.1 None d)
  decides_there (asked ∷ rest) about (Some answer) (inl counts) = inl (counts_there uid x y same asked about.0 answer counts)
  decides_there (asked ∷ rest) about (Some answer) (inr (none, d)) =
      inr (none_counts_there asked about.0 none, decides_there rest about.1 (Some answer) d)

  shown_there : (asked_of : Property → List Asked) → ((line : Property) → AskOf uid (asked_of line)) →
      (lines : List Property) (shown : List ShownAttendee)
      → AreShown x asked_of lines shown → AreShown y asked_of lines shown
  shown_there asked_of about [] shown are = are
  shown_there asked_of about (line ∷ lines) shown (answer, others, decides, rest, is) =
      (answer, others, decides_there (asked_of line) (about line) answer decides, shown_there asked_of about lines others rest, is)

pub row_there : (x y : List Item) (window : Window) (row : Row) → HaveSameBest row.uid x y → IsRow x window row → IsRow y window row
row_there x y window row same (inl p) = inl (record {
  item = p.item;
  at = p.at;
  live = record { stands = under_there row.uid x y same (key.Instance row.uid p.at) refl p.item p.live.stands; live = p.live.live };
  in_window = p.in_window;
  id = p.id;
  fields = p.fields;
  dates = p.dates;
  attendees = shown_there row.uid x y same (instance_answers row.uid p.at p.item) (λ line. (refl, tt)) p.item.todo.attendees row.attendees
      p.attendees;
  progress = p.progress;
})
row_there x y window row same (inr (inl p)) = inr (inl (record {
  item = p.item;
  at = p.at;
  series = p.series;
  live = series_there row.uid x y same p.item p.live;
  repeats = p.repeats;
  occurs = p.occurs;
  none_stands = none_there row.uid x y same p.at p.none_stands;
  none_rules = none_rules_there row.uid x y same p.at p.none_rules;
  id = p.id;
  fields = p.fields;
  start = p.start;
  due = p.due;
  attendees = shown_there row.uid x y same (occurrence_answers row.uid p.at p.item) (λ line. (refl, (refl, tt))) p.item.todo.attendees
      row.attendees p.attendees;
  progress = p.progress;
}))
row_there x y window row same (inr (inr (inl p))) = inr (inr (inl (record {
  whole = p.whole;
  item = p.item;
  from = p.from;
  at = p.at;
  series = p.series;
  live_series = series_there row.uid x y same p.whole p.live_series;
  repeats = p.repeats;
  occurs = p.occurs;
  none_stands = none_there row.uid x y same p.at p.none_stands;
  rules = rules_there row.uid x y same p.at p.from p.item p.rules;
  live = p.live;
  id = p.id;
  fields = p.fields;
  start = p.start;
  due = p.due;
  attendees = shown_there row.uid x y same (range_answers row.uid p.at p.item p.whole) (λ line. (refl, (refl, tt))) p.item.todo.attendees
      row.attendees p.attendees;
  progress = p.progress;
})))
row_there x y window row same (inr (inr (inr (inl p)))) = inr (inr (inr (inl (record {
  item = p.item;
  live = series_there row.uid x y same p.item p.live;
  single = p.single;
  none_stands = none_at_start row.uid x y same p.item.todo.start p.none_stands;
  in_window = p.in_window;
  id = p.id;
  fields = p.fields;
  dates = p.dates;
  attendees = shown_there row.uid x y same (series_answers row.uid p.item) (λ line. (refl, tt)) p.item.todo.attendees row.attendees
      p.attendees;
  progress = p.progress;
}))))
row_there x y window row same (inr (inr (inr (inr p)))) = inr (inr (inr (inr (record {
  item = p.item;
  live = series_there row.uid x y same p.item p.live;
  opaque = p.opaque;
  id = p.id;
  fields = p.fields;
  dates = p.dates;
  attendees = shown_there row.uid x y same (series_answers row.uid p.item) (λ line. (refl, tt)) p.item.todo.attendees row.attendees
      p.attendees;
  progress = p.progress;
}))))

module _ (uid : List ℕ) (part whole : List Item) (are : ArePart uid part whole) (window : Window) (row : Row) (here : row.uid ≡ uid) where
  same_best : HaveSameBest row.uid part whole
  same_best = part_same (λ (u : List ℕ). u ≡ uid) part whole are row.uid here

  pub row_of_part : IsRow part window row → IsRow whole window row
  row_of_part = row_there part whole window row same_best

  pub row_in_part : IsRow whole window row → IsRow part window row
  row_in_part = row_there whole part window row (swapped row.uid part whole same_best)

-- the same of a part by several UIDs
module _ (part whole : List Item) (uids : List (List ℕ)) (are : ArePartOf part whole uids) (window : Window) (row : Row) where
  pub row_of_parts : Contains uids row.uid → IsRow part window row ↔ IsRow whole window row
  row_of_parts named =
      let same : HaveSameBest row.uid part whole = part_same (Contains uids) part whole are row.uid named in
      (row_there part whole window row same, row_there whole part window row (swapped row.uid part whole same))

  pub uid_of_parts : IsRow part window row → Contains uids row.uid
  uid_of_parts = uid_of_row part window uids (λ item h. ((are item).0 h).1) row
