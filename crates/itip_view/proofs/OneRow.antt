-- A place of the list has one row: what was heard determines each field, and the order of rows tells two rows apart.
use Rattle.std.proofs.Common.{◌≡◌, ℕ, List, [], ◌∷◌, refl, sym, ◌∙◌, ap, subst, ◌⊎◌, inl, inr, Option, Some, None}
use Rattle.std.specs.Option.{option_map, option_cmp}
use Rattle.std.specs.Ordering.{nat_cmp, ordering_reverse}
use Rattle.std.specs.Cmp.Lexicographic.{slice_cmp}
use Rattle.std.specs.declared.cmp.Ordering.TheVariants.{Less, Equal, Greater}
use Rattle.std.proofs.lemmas.Map.Lookups.{exact_bytes}
use Rattle.itip_moment.specs.Order.{moment_cmp}
use Rattle.itip_moment.specs.declared.moment.Moment.{Moment}
use Rattle.itip_moment.specs.OrderLaws.{moment_total}
use Rattle.itip_moment.proofs.Same.{moment_equal}
use Rattle.itip_moment.proofs.ValueLaws.{shifted-one}
use Rattle.itip_todo.specs.Properties.{Property}
use Rattle.itip_recur.specs.ToDoShape.{Recurs}
use Rattle.itip_items.specs.RevisionOrder.{revision_cmp}
use Rattle.itip_items.specs.declared.item.Item.{Item}
use Rattle.itip_items.specs.declared.key.Key.{Key}
use Rattle.itip_items.specs.declared.key.Key.TheVariants.{Series, Instance, Range}
use Rattle.itip_state.specs.Kept.{IsBest}
use Rattle.itip_items.proofs.Revisions.{revision_exact}
use Rattle.itip_state.specs.Slots.{then_equal}
use Rattle.itip_state.proofs.Best.{later_than_less}
use Rattle.itip_view.specs.Standing.{Stands, NoneStands, StandsFrom, Rules, NoneRules, IsLiveSeries}
use Rattle.itip_view.specs.Answers.{Asked, Decides, AreShown, shown_line, in_front}
use Rattle.itip_view.specs.Progress.{progress_of}
use Rattle.itip_view.specs.Rows.{
  HasFields,
  HasProgress,
  IsDueOf,
  IsDateFrom,
  IsStartFrom,
  IsDueFrom,
  IsInstanceRow,
  IsOccurrenceRow,
  IsRangeRow,
  IsSingleRow,
  IsOpaqueRow,
  IsRow,
  days_to,
  seconds_to,
  instance_answers,
  occurrence_answers,
  range_answers,
  series_answers,
  moment_of,
  row_cmp,
}
use Rattle.itip_view.specs.declared.row.Row.{Row}
use Rattle.itip_view.specs.declared.row.RowId.TheVariants as id
use Rattle.itip_view.specs.declared.row.ShownAttendee.{ShownAttendee}
use Rattle.itip_view.specs.declared.window.Window.{Window}

-- a key has one best item
pub one_best : (heard : List Item) (key : Key) (a b : Item) → IsBest heard key a → IsBest heard key b → a ≡ b
one_best heard key a b p q =
    elim (revision_cmp a b) as (λ o. revision_cmp a b ≡ o → a ≡ b) [
      | Less ↦ λ e. absurd (p.none_later b q.is_heard q.about (later_than_less b a e))
      | Equal ↦ λ e. revision_exact a b e
      | Greater ↦ λ e. absurd (q.none_later a p.is_heard p.about e)
    ] refl

-- one answer decides
pub one_decides : (heard : List Item) (all : List Asked) (a b : Option Item) → Decides heard all a → Decides heard all b → a ≡ b
one_decides heard [] None None p q = refl
one_decides heard [] None (Some b) p q = absurd q
one_decides heard [] (Some a) b p q = absurd p
one_decides heard (asked ∷ rest) None None p q = refl
one_decides heard (asked ∷ rest) None (Some b) (none, p) (inl counts) = absurd (none b counts)
one_decides heard (asked ∷ rest) None (Some b) (none, p) (inr (also, q)) = one_decides heard rest None (Some b) p q
one_decides heard (asked ∷ rest) (Some a) None (inl counts) (none, q) = absurd (none a counts)
one_decides heard (asked ∷ rest) (Some a) None (inr (also, p)) (none, q) = one_decides heard rest (Some a) None p q
one_decides heard (asked ∷ rest) (Some a) (Some b) (inl one) (inl other) = ap Some (one_best heard asked.key a b one.best other.best)
one_decides heard (asked ∷ rest) (Some a) (Some b) (inl one) (inr (none, q)) = absurd (none a one)
one_decides heard (asked ∷ rest) (Some a) (Some b) (inr (none, p)) (inl other) = absurd (none b other)
one_decides heard (asked ∷ rest) (Some a) (Some b) (inr (none, p)) (inr (also, q)) = one_decides heard rest (Some a) (Some b) p q

-- the lines of an item show one list of attendees
one_shown : (heard : List Item) (asked_of : Property → List Asked) (lines : List Property) (a b : List ShownAttendee) →
    AreShown heard asked_of lines a → AreShown heard asked_of lines b → a ≡ b
one_shown heard asked_of [] a b p q = p ∙ sym q
one_shown heard asked_of (line ∷ lines) a b (x, xs, decides, rest, is) (y, ys, also, more, as_well) =
    let answer : x ≡ y = one_decides heard (asked_of line) x y decides also in
    let others : xs ≡ ys = one_shown heard asked_of lines xs ys rest more in
    is ∙ (λ i. in_front (shown_line line (answer i)) (others i)) ∙ sym as_well

pub same_shown : (heard : List Item) (g h : Item) (asked_of others : Property → List Asked) (a b : List ShownAttendee) → g ≡ h →
    asked_of ≡ others →
    AreShown heard asked_of g.todo.attendees a → AreShown heard others h.todo.attendees b → a ≡ b
same_shown heard g h asked_of others a b same asked p q =
    let here : AreShown heard asked_of h.todo.attendees b =
    subst (λ (k : Property → List Asked). AreShown heard k h.todo.attendees b) (sym asked) q in
    one_shown heard asked_of g.todo.attendees a b p (subst (λ (i : Item). AreShown heard asked_of i.todo.attendees b) (sym same) here)

-- DUE of an occurrence is one moment, or none
one_due : (due : Option Moment) (start m : Moment) (a b : Option Moment) → IsDueOf due start m a → IsDueOf due start m b → a ≡ b
one_due None start m a b p q = p ∙ sym q
one_due (Some due) start m None None p q = refl
one_due (Some due) start m None (Some b) p q = absurd (p q.0 q.1.can)
one_due (Some due) start m (Some a) None p q = absurd (q p.0 p.1.can)
one_due (Some due) start m (Some a) (Some b) p q =
    ap Some (shifted-one due (days_to start m) (seconds_to start m) a b p.1.shifted q.1.shifted)

-- a date of a range item is shown as one moment, or as none
one_date : (date from at : Moment) (a b : Option Moment) → IsDateFrom date from at a → IsDateFrom date from at b → a ≡ b
one_date date from at None None p q = refl
one_date date from at None (Some b) p q = absurd (p q.0 q.1.can)
one_date date from at (Some a) None p q = absurd (q p.0 p.1.can)
one_date date from at (Some a) (Some b) p q = ap Some (shifted-one date (days_to from at) (seconds_to from at) a b p.1.shifted q.1.shifted)

one_start_from : (start : Option Moment) (from at : Moment) (a b : Option Moment) → IsStartFrom start from at a →
    IsStartFrom start from at b → a ≡ b
one_start_from None from at a b p q = p ∙ sym q
one_start_from (Some start) from at a b p q = one_date start from at a b p q

one_due_from : (due : Option Moment) (from at : Moment) (a b : Option Moment) → IsDueFrom due from at a → IsDueFrom due from at b → a ≡ b
one_due_from None from at a b p q = p ∙ sym q
one_due_from (Some due) from at a b p q = one_date due from at a b p q

-- what holds for a date of an item, an id and a moment holds for what they are equal to
same_dates : (P : Option Moment → Moment → Moment → Option Moment → Type 0) →
    (date other : Option Moment) (from begin m n : Moment) (b : Option Moment) → date ≡ other → from ≡ begin → m ≡ n
    → P other begin n b → P date from m b
same_dates P date other from begin m n b d f e q =
    subst (λ (x : Moment). P date from x b) (sym e)
    (subst (λ (x : Moment). P date x n b) (sym f) (subst (λ (x : Option Moment). P x begin n b) (sym d) q))

-- rows of one item with the same names, dates and attendees are one row
row_is_one : (g h : Item) (a b : Row) → g ≡ h → HasFields g a → HasFields h b → HasProgress a → HasProgress b → a.uid ≡ b.uid →
    a.id ≡ b.id → a.start ≡ b.start → a.due ≡ b.due
    → a.attendees ≡ b.attendees → a ≡ b
row_is_one g h a b same p q far as_far uid name start due attendees =
    let progress : a.progress ≡ b.progress = far ∙ ap progress_of attendees ∙ sym as_far in
    let seq : a.seq ≡ b.seq = p.seq ∙ ap (λ (x : Item). x.own) same ∙ sym q.seq in
    let status : a.status ≡ b.status = p.status ∙ ap (λ (x : Item). x.todo.status) same ∙ sym q.status in
    let percent : a.percent ≡ b.percent = p.percent ∙ ap (λ (x : Item). x.todo.percent) same ∙ sym q.percent in
    let priority : a.priority ≡ b.priority = p.priority ∙ ap (λ (x : Item). x.todo.priority) same ∙ sym q.priority in
    let summary : a.summary ≡ b.summary = p.summary ∙ ap (λ (x : Item). option_map (λ (line : Property). line.value) x.todo.summary) same ∙
    sym q.summary in
    λ i. record {
      uid = uid i;
      id = name i;
      seq = seq i;
      status = status i;
      percent = percent i;
      priority = priority i;
      start = start i;
      due = due i;
      summary = summary i;
      attendees = attendees i;
      progress = progress i;
    }

same_series : (heard : List Item) (uid other : List ℕ) (g h : Item) → uid ≡ other → IsLiveSeries heard uid g → IsLiveSeries heard other h →
    g ≡ h
same_series heard uid other g h e p q =
    one_best heard (Series other) g h (subst (λ (u : List ℕ). IsBest heard (Series u) g) e p.best) q.best

same_instance : (heard : List Item) (uid other : List ℕ) (m n : Moment) (g h : Item) → uid ≡ other → m ≡ n → Stands heard uid m g →
    Stands heard other n h → g ≡ h
same_instance heard uid other m n g h e f p q =
    one_best heard (Instance other n) g h (subst (λ (key : Key). IsBest heard key g) (λ i. Instance (e i) (f i)) p.best) q.best

-- nothing stands where an instance stands
not_beside : (heard : List Item) (uid other : List ℕ) (m n : Moment) (item : Item) → uid ≡ other → m ≡ n → Stands heard uid m item →
    NoneStands heard other n → ⊥
not_beside heard uid other m n item e f stands none =
    none item (subst (λ (u : List ℕ). Stands heard u n item) e (subst (λ (x : Moment). Stands heard uid x item) f stands))

-- one range item rules a moment, from one id on
one_id : (heard : List Item) (uid : List ℕ) (at a b : Moment) (g h : Item) → Rules heard uid at a g → Rules heard uid at b h → a ≡ b
one_id heard uid at a b g h p q =
    elim (moment_cmp a b) as (λ o. moment_cmp a b ≡ o → a ≡ b) [
      | Less ↦ λ e. absurd (p.greatest b h q.stands q.reaches e)
      | Equal ↦ λ e. moment_equal a b e
      | Greater ↦ λ e. absurd (q.greatest a g p.stands p.reaches (moment_total.antisymm b a ∙ ap ordering_reverse e))
    ] refl

same_rules : (heard : List Item) (uid other : List ℕ) (m n a : Moment) (g : Item) → uid ≡ other → m ≡ n → Rules heard uid m a g →
    Rules heard other n a g
same_rules heard uid other m n a g e f = subst (λ (p : List ℕ × Moment). Rules heard p.0 p.1 a g) (λ i. (e i, f i))

same_range : (heard : List Item) (uid : List ℕ) (a b : Moment) (g h : Item) → a ≡ b → StandsFrom heard uid a g → StandsFrom heard uid b h →
    g ≡ h
same_range heard uid a b g h e p q = one_best heard (Range uid b) g h (subst (λ (m : Moment). IsBest heard (Range uid m) g) e p.best) q.best

pub one_rules : (heard : List Item) (uid : List ℕ) (at a b : Moment) (g h : Item) → Rules heard uid at a g → Rules heard uid at b h → g ≡ h
one_rules heard uid at a b g h p q = same_range heard uid a b g h (one_id heard uid at a b g h p q) p.stands q.stands

-- none rules where one rules
not_between : (heard : List Item) (uid other : List ℕ) (m n a : Moment) (g : Item) → uid ≡ other → m ≡ n → Rules heard uid m a g →
    NoneRules heard other n → ⊥
not_between heard uid other m n a g e f rules none = let here = same_rules heard uid other m n a g e f rules in
    none a g here.stands here.reaches

Some-one : (m n : Moment) → Some m ≡ Some n → m ≡ n
Some-one m n e = cc

-- two rows with one UID, named by one moment or both by none
module _ (heard : List Item) (window : Window) (a b : Row) (uid : a.uid ≡ b.uid) (name : moment_of a.id ≡ moment_of b.id) where
  same_at : (m n : Moment) → a.id ≡ id.At m → b.id ≡ id.At n → m ≡ n
  same_at m n p q = Some-one m n (sym (ap moment_of p) ∙ name ∙ ap moment_of q)

  two_instances : IsInstanceRow heard window a → IsInstanceRow heard window b → a ≡ b
  two_instances p q =
      let at : p.at ≡ q.at = same_at p.at q.at p.id q.id in
      let item : p.item ≡ q.item = same_instance heard a.uid b.uid p.at q.at p.item q.item uid at p.live.stands q.live.stands in
      row_is_one p.item q.item a b item p.fields q.fields p.progress q.progress uid (p.id ∙ ap id.At at ∙ sym q.id)
      (p.dates.start ∙ ap (λ (x : Item). x.todo.start) item ∙ sym q.dates.start) (p.dates.due ∙ ap (λ (x : Item). x.todo.due) item ∙
      sym q.dates.due)
      (same_shown heard p.item q.item (instance_answers a.uid p.at p.item) (instance_answers b.uid q.at q.item) a.attendees b.attendees
      item (λ i. instance_answers (uid i) (at i) (item i)) p.attendees
      q.attendees)

  two_occurrences : IsOccurrenceRow heard window a → IsOccurrenceRow heard window b → a ≡ b
  two_occurrences p q =
      let at : p.at ≡ q.at = same_at p.at q.at p.id q.id in
      let item : p.item ≡ q.item = same_series heard a.uid b.uid p.item q.item uid p.live q.live in
      let start : p.series.start ≡ q.series.start =
      Some-one p.series.start q.series.start (sym p.repeats.start ∙ ap (λ (x : Item). x.todo.start) item ∙ q.repeats.start) in
      row_is_one p.item q.item a b item p.fields q.fields p.progress q.progress uid (p.id ∙ ap id.At at ∙ sym q.id) (p.start ∙ ap Some at ∙
      sym q.start)
      (one_due p.item.todo.due p.series.start p.at a.due b.due p.due
      (same_dates IsDueOf p.item.todo.due q.item.todo.due p.series.start q.series.start p.at q.at b.due
      (ap (λ (x : Item). x.todo.due) item) start at q.due))
      (same_shown heard p.item q.item (occurrence_answers a.uid p.at p.item) (occurrence_answers b.uid q.at q.item) a.attendees b.attendees
      item
      (λ i. occurrence_answers (uid i) (at i) (item i)) p.attendees q.attendees)

  two_ranges : IsRangeRow heard window a → IsRangeRow heard window b → a ≡ b
  two_ranges p q =
      let at : p.at ≡ q.at = same_at p.at q.at p.id q.id in
      let whole : p.whole ≡ q.whole = same_series heard a.uid b.uid p.whole q.whole uid p.live_series q.live_series in
      let rules : Rules heard b.uid q.at p.from p.item = same_rules heard a.uid b.uid p.at q.at p.from p.item uid at p.rules in
      let from : p.from ≡ q.from = one_id heard b.uid q.at p.from q.from p.item q.item rules q.rules in
      let item : p.item ≡ q.item = same_range heard b.uid p.from q.from p.item q.item from rules.stands q.rules.stands in
      row_is_one p.item q.item a b item p.fields q.fields p.progress q.progress uid (p.id ∙ ap id.At at ∙ sym q.id)
      (one_start_from p.item.todo.start p.from p.at a.start b.start p.start
      (same_dates IsStartFrom p.item.todo.start q.item.todo.start p.from q.from p.at q.at b.start (ap (λ (x : Item). x.todo.start) item)
      from at q.start))
      (one_due_from p.item.todo.due p.from p.at a.due b.due p.due
      (same_dates IsDueFrom p.item.todo.due q.item.todo.due p.from q.from p.at q.at b.due (ap (λ (x : Item). x.todo.due) item) from at
      q.due))
      (same_shown heard p.item q.item (range_answers a.uid p.at p.item p.whole) (range_answers b.uid q.at q.item q.whole) a.attendees
      b.attendees item
      (λ i. range_answers (uid i) (at i) (item i) (whole i)) p.attendees q.attendees)

  two_singles : IsSingleRow heard window a → IsSingleRow heard window b → a ≡ b
  two_singles p q =
      let item : p.item ≡ q.item = same_series heard a.uid b.uid p.item q.item uid p.live q.live in
      row_is_one p.item q.item a b item p.fields q.fields p.progress q.progress uid (p.id ∙ sym q.id) (p.dates.start ∙
      ap (λ (x : Item). x.todo.start) item ∙ sym q.dates.start)
      (p.dates.due ∙ ap (λ (x : Item). x.todo.due) item ∙ sym q.dates.due)
      (same_shown heard p.item q.item (series_answers a.uid p.item) (series_answers b.uid q.item) a.attendees b.attendees item
      (λ i. series_answers (uid i) (item i)) p.attendees q.attendees)

  two_opaque : IsOpaqueRow heard window a → IsOpaqueRow heard window b → a ≡ b
  two_opaque p q =
      let item : p.item ≡ q.item = same_series heard a.uid b.uid p.item q.item uid p.live q.live in
      row_is_one p.item q.item a b item p.fields q.fields p.progress q.progress uid (p.id ∙ sym q.id) (p.dates.start ∙
      ap (λ (x : Item). x.todo.start) item ∙ sym q.dates.start)
      (p.dates.due ∙ ap (λ (x : Item). x.todo.due) item ∙ sym q.dates.due)
      (same_shown heard p.item q.item (series_answers a.uid p.item) (series_answers b.uid q.item) a.attendees b.attendees item
      (λ i. series_answers (uid i) (item i)) p.attendees q.attendees)

  -- a to-do that recurs has no row of one that doesn't
  single_or_opaque : IsSingleRow heard window a → IsOpaqueRow heard window b → ⊥
  single_or_opaque p q =
      let item : p.item ≡ q.item = same_series heard a.uid b.uid p.item q.item uid p.live q.live in
      p.single (subst (λ (x : Item). Recurs x.todo) (sym item) q.opaque.0)

  opaque_or_single : IsOpaqueRow heard window a → IsSingleRow heard window b → ⊥
  opaque_or_single p q =
      let item : p.item ≡ q.item = same_series heard a.uid b.uid p.item q.item uid p.live q.live in
      q.single (subst (λ (x : Item). Recurs x.todo) item p.opaque.0)

  -- a row with a moment doesn't have the identifier of one without
  named_or_not : (m : Moment) → a.id ≡ id.At m → IsSingleRow heard window b ⊎ IsOpaqueRow heard window b → ⊥
  named_or_not m p (inl q) = let x : Some m ≡ None = sym (ap moment_of p) ∙ name ∙ ap moment_of q.id in cc
  named_or_not m p (inr q) = let x : Some m ≡ None = sym (ap moment_of p) ∙ name ∙ ap moment_of q.id in cc

  not_or_named : (m : Moment) → b.id ≡ id.At m → IsSingleRow heard window a ⊎ IsOpaqueRow heard window a → ⊥
  not_or_named m q (inl p) = let x : Some m ≡ None = sym (ap moment_of q) ∙ sym name ∙ ap moment_of p.id in cc
  not_or_named m q (inr p) = let x : Some m ≡ None = sym (ap moment_of q) ∙ sym name ∙ ap moment_of p.id in cc

  two_wholes : IsSingleRow heard window a ⊎ IsOpaqueRow heard window a → IsSingleRow heard window b ⊎ IsOpaqueRow heard window b → a ≡ b
  two_wholes (inl p) (inl q) = two_singles p q
  two_wholes (inl p) (inr q) = absurd (single_or_opaque p q)
  two_wholes (inr p) (inl q) = absurd (opaque_or_single p q)
  two_wholes (inr p) (inr q) = two_opaque p q

  pub one_place : IsRow heard window a → IsRow heard window b → a ≡ b
  one_place (inl p) (inl q) = two_instances p q
  one_place (inl p) (inr (inl q)) =
      absurd (not_beside heard a.uid b.uid p.at q.at p.item uid (same_at p.at q.at p.id q.id) p.live.stands q.none_stands)
  one_place (inl p) (inr (inr (inl q))) =
      absurd (not_beside heard a.uid b.uid p.at q.at p.item uid (same_at p.at q.at p.id q.id) p.live.stands q.none_stands)
  one_place (inl p) (inr (inr (inr q))) = absurd (named_or_not p.at p.id q)
  one_place (inr (inl p)) (inl q) =
      absurd (not_beside heard b.uid a.uid q.at p.at q.item (sym uid) (sym (same_at p.at q.at p.id q.id)) q.live.stands p.none_stands)
  one_place (inr (inl p)) (inr (inl q)) = two_occurrences p q
  one_place (inr (inl p)) (inr (inr (inl q))) =
      absurd (not_between heard b.uid a.uid q.at p.at q.from q.item (sym uid) (sym (same_at p.at q.at p.id q.id)) q.rules p.none_rules)
  one_place (inr (inl p)) (inr (inr (inr q))) = absurd (named_or_not p.at p.id q)
  one_place (inr (inr (inl p))) (inl q) =
      absurd (not_beside heard b.uid a.uid q.at p.at q.item (sym uid) (sym (same_at p.at q.at p.id q.id)) q.live.stands p.none_stands)
  one_place (inr (inr (inl p))) (inr (inl q)) =
      absurd (not_between heard a.uid b.uid p.at q.at p.from p.item uid (same_at p.at q.at p.id q.id) p.rules q.none_rules)
  one_place (inr (inr (inl p))) (inr (inr (inl q))) = two_ranges p q
  one_place (inr (inr (inl p))) (inr (inr (inr q))) = absurd (named_or_not p.at p.id q)
  one_place (inr (inr (inr p))) (inl q) = absurd (not_or_named q.at q.id p)
  one_place (inr (inr (inr p))) (inr (inl q)) = absurd (not_or_named q.at q.id p)
  one_place (inr (inr (inr p))) (inr (inr (inl q))) = absurd (not_or_named q.at q.id p)
  one_place (inr (inr (inr p))) (inr (inr (inr q))) = two_wholes p q

-- a UID and an identifier have one row
pub one_row : (heard : List Item) (window : Window) (row other : Row) → IsRow heard window row → IsRow heard window other →
    row.uid ≡ other.uid → row.id ≡ other.id → row ≡ other
one_row heard window row other p q uid name = one_place heard window row other uid (ap moment_of name) p q

exact_names : (m n : Option Moment) → option_cmp moment_cmp m n ≡ Equal → m ≡ n
exact_names None None e = refl
exact_names None (Some n) e = cc
exact_names (Some m) None e = cc
exact_names (Some m) (Some n) e = ap Some (moment_equal m n e)

-- rows that the order of rows doesn't tell apart are one row
pub tied_rows : (heard : List Item) (window : Window) (row other : Row) → IsRow heard window row → IsRow heard window other →
    row_cmp row other ≡ Equal → row ≡ other
tied_rows heard window row other p q e =
    let parts = then_equal (slice_cmp nat_cmp row.uid other.uid) (option_cmp moment_cmp (moment_of row.id) (moment_of other.id)) e in
    one_place heard window row other (exact_bytes row.uid other.uid parts.0) (exact_names (moment_of row.id) (moment_of other.id) parts.1)
    p q
