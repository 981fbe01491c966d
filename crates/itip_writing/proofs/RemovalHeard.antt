-- A removal with the next sequence is later than each answer to the same, and its attendee isn't shown.
use Rattle.std.proofs.Common.{◌≡◌, ◌<◌, ◌≤◌, ◌∙◌, ℕ, List, [], ◌∷◌, ◌++◌, max, refl, sym, ap, subst, ◌⊎◌, inl, inr, arith, Option, Some}
use Rattle.std.proofs.Common.{None}
use Rattle.std.specs.List.{Contains}
use Rattle.std.specs.Cmp.{tied_itself}
use Rattle.std.specs.Cmp.Lexicographic.{slice_cmp}
use Rattle.std.specs.Ordering.{nat_cmp, ordering_reverse, ordering_then}
use Rattle.std.specs.declared.cmp.Ordering.{Ordering}
use Rattle.std.specs.declared.cmp.Ordering.TheVariants.{Less, Equal, Greater}
use Rattle.std.proofs.lemmas.Bool.{cases_lt}
use Rattle.std.proofs.lemmas.Cmp.{nat_cmp_total}
use Rattle.std.proofs.lemmas.List.Elements.{Contains-append_cases, Contains-append_left, Contains-append_right}
use Rattle.itip_moment.specs.Order.{stamp_cmp}
use Rattle.itip_moment.specs.OrderLaws.{stamp_total}
use Rattle.itip_moment.specs.declared.moment.Moment.{Moment}
use Rattle.itip_moment.specs.declared.stamp.Stamp.{Stamp}
use Rattle.itip_todo.specs.Table.{attendee_key}
use Rattle.itip_todo.specs.Properties.{Property}
use Rattle.itip_items.specs.KeyParts.{uid_of}
use Rattle.itip_items.specs.RevisionOrder.{IsLater}
use Rattle.itip_items.specs.declared.item.Item.{Item}
use Rattle.itip_items.specs.declared.key.Key.{Key}
use Rattle.itip_items.specs.declared.key.Key.TheVariants as key
use Rattle.itip_items.specs.declared.kind.Kind.{Kind}
use Rattle.itip_items.specs.declared.kind.Kind.TheVariants as kind
use Rattle.itip_state.specs.Kept.{IsBest, IsDead, IsKept}
use Rattle.itip_state.proofs.Best.{best_above, greater_eff}
use Rattle.itip_state.proofs.Keeping.{best_part}
use Rattle.itip_state.proofs.Members.{none_in}
use Rattle.itip_view.specs.Answers.{Asked, AreShown, Counts, Decides, NoneCounts, partstat_in, shown_line, unless_removed}
use Rattle.itip_view.specs.InQuestion.{ShowsInQuestion, ShowsOccurrence, ShowsRange}
use Rattle.itip_view.specs.Rows.{answers_since, occurrence_answers, series_answers}
use Rattle.itip_view.specs.Showing.{Shows}
use Rattle.itip_view.specs.Standing.{IsLiveSeries}
use Rattle.itip_view.specs.declared.row.Row.{Row}
use Rattle.itip_view.specs.declared.row.ShownAttendee.{ShownAttendee}
use Rattle.itip_view.specs.declared.window.Window.{Window}
use Rattle.itip_report.specs.NextSequence.{IsNext}
use Rattle.itip_writing.specs.Removing.{IsOvertaken}
use Rattle.itip_writing.specs.Replying.{AsksWhole, IsUnansweredOccurrence}
use Rattle.itip_writing.specs.Stamping.{IsEqualRevision, IsStampAfter}
use Rattle.itip_writing.proofs.BriefRead.{in_front_cases, shown_address}
use Rattle.itip_writing.proofs.OwnSequences.{own_up}
use Rattle.itip_writing.proofs.RequestStands.{IsTask, task_below}

-- ---- the order of revisions

-- what is written is after each of those that it has to be after
pub after_each : (P : Stamp → Type 0) (at stamp : Stamp) → IsStampAfter P at stamp → (other : Stamp) → P other →
    stamp_cmp other stamp ≡ Less
after_each P at stamp (inl in_time) other is =
    subst (λ (s : Stamp). stamp_cmp other s ≡ Less) (sym in_time.stamp_is) (in_time.later other is)
after_each P at stamp (inr delayed) other is = by (stamp_cmp other delayed.latest) refl
  where
    by : (o : Ordering) → stamp_cmp other delayed.latest ≡ o → stamp_cmp other stamp ≡ Less
    by Less e = stamp_total.trans other delayed.latest stamp e delayed.next.later
    by Equal e = stamp_total.congr other delayed.latest stamp e ∙ delayed.next.later
    by Greater e = absurd (delayed.is_latest.none_later other is (stamp_total.antisymm delayed.latest other ∙ ap ordering_reverse e))

-- of two items with one sequence the one with the later DTSTAMP is later
pub later_stamped : (i j : Item) → i.eff ≡ j.eff → stamp_cmp j.stamp i.stamp ≡ Less → IsLater i j
later_stamped i j same less =
    let rest : Ordering = slice_cmp nat_cmp i.bytes j.bytes in
    let first : nat_cmp i.eff j.eff ≡ Equal = ap (λ (n : ℕ). nat_cmp i.eff n) (sym same) ∙ tied_itself nat_cmp_total i.eff in
    let second : stamp_cmp i.stamp j.stamp ≡ Greater = stamp_total.antisymm i.stamp j.stamp ∙ ap ordering_reverse less in
    ap (λ (o : Ordering). ordering_then o (ordering_then (stamp_cmp i.stamp j.stamp) rest)) first ∙
    ap (λ (o : Ordering). ordering_then o rest) second

-- ---- what an answer hides

-- if each line of an attendee is hidden, no line shows the attendee
pub hidden : (heard : List Item) (asked_of : Property → List Asked) (a : List ℕ) →
    ((line : Property) → attendee_key line.value ≡ a → (answer : Option Item) → Decides heard (asked_of line) answer →
    shown_line line answer ≡ None) → (lines : List Property) (shown : List ShownAttendee) → AreShown heard asked_of lines shown →
    (one : ShownAttendee) → Contains shown one → attendee_key one.address ≡ a → ⊥
hidden heard asked_of a hides [] shown is one h same = none_in one (subst (λ (s : List ShownAttendee). Contains s one) is h)
hidden heard asked_of a hides (line ∷ lines) shown (answer, others, decides, rest, is) one h same =
    elim (in_front_cases (shown_line line answer) others one (subst (λ (s : List ShownAttendee). Contains s one) is h)) [
      | inl first ↦
          let named : attendee_key line.value ≡ a = ap attendee_key (shown_address line answer one first) ∙ same in
          let x : None ≡ Some one = sym (hides line named answer decides) ∙ first in cc
      | inr later ↦ hidden heard asked_of a hides lines others rest one later same
    ]

-- an answer counts there, and each that does removes
pub record Removes (heard : List Item) (asked : Asked) : Type 0 where
  pub some : Item
  pub counts : Counts heard asked some
  pub each : (answer : Item) → Counts heard asked answer → answer.kind ≡ kind.Remove

pub first_hides : (heard : List Item) (asked : Asked) (rest : List Asked) → Removes heard asked → (line : Property) (answer : Option Item) →
    Decides heard (asked ∷ rest) answer → shown_line line answer ≡ None
first_hides heard asked rest removes line None (none, later) = absurd (none removes.some removes.counts)
first_hides heard asked rest removes line (Some answer) (inl counts) =
    ap (λ (k : Kind). unless_removed k
    (record { address = line.value; partstat = partstat_in answer.todo.attendees; percent = answer.todo.percent }))
    (removes.each answer counts)
first_hides heard asked rest removes line (Some answer) (inr (none, later)) = absurd (none removes.some removes.counts)

pub second_hides : (heard : List Item) (before asked : Asked) (rest : List Asked) → NoneCounts heard before → Removes heard asked →
    (line : Property) (answer : Option Item) → Decides heard (before ∷ asked ∷ rest) answer → shown_line line answer ≡ None
second_hides heard before asked rest not removes line None (none, later) = first_hides heard asked rest removes line None later
second_hides heard before asked rest not removes line (Some answer) (inl counts) = absurd (not answer counts)
second_hides heard before asked rest not removes line (Some answer) (inr (none, later)) =
    first_hides heard asked rest removes line (Some answer) later

-- ---- a removal is heard

-- the item removes the attendee of a key from what it names, with this sequence and this stamp
pub record IsRemover (n : ℕ) (stamp : Stamp) (i : Item) : Type 0 where
  pub kind_is : i.kind ≡ kind.Remove
  pub own_is : i.own ≡ n
  pub eff_is : i.eff ≡ n
  pub stamp_is : i.stamp ≡ stamp
  pub of_answer : IsTask i.key → ⊥

module _ (heard items : List Item) (uid : List ℕ) (n : ℕ) (next : IsNext heard uid (Some n)) (keys : List Key)
    (first : ¬ IsOvertaken heard keys n) (at stamp : Stamp) (stamped : IsStampAfter (IsEqualRevision heard keys n) at stamp)
    (new : (i : Item) → Contains items i → IsRemover n stamp i) where
  -- the items that govern have a smaller sequence
  task_small : (k : Key) → IsTask k → uid_of k ≡ uid → (g : Item) → IsBest (heard ++ items) k g → g.own ≤ n
  task_small k task of g best = elim (Contains-append_cases heard items g best.is_heard) [
    | inl old ↦
        let low : g.eff < n = task_below heard uid n next g old (subst IsTask (sym best.about) task) (ap uid_of best.about ∙ of) in
        let own : g.own ≤ g.eff = own_up g in omega (arith, low, own)
    | inr there ↦ absurd ((new g there).of_answer (subst IsTask (sym best.about) task))
  ]

  -- an answer of one of the keys that was heard before is earlier
  earlier : (c : Item) → Contains items c → (b : Item) → Contains heard b → IsBest heard b.key b → Contains keys b.key →
      uid_of b.key ≡ uid → IsLater c b
  earlier c h b old best among of = elim (cases_lt b.eff n) [
    | inl low ↦ greater_eff c b (omega (arith, low, (new c h).eff_is))
    | inr high ↦
        let alive : ¬ IsDead heard b = λ dead.
        let series : IsBest heard (key.Series uid) dead.series =
        subst (λ (u : List ℕ). IsBest heard (key.Series u) dead.series) of dead.best in
        let low : dead.series.eff < n = task_below heard uid n next dead.series series.is_heard
        (subst IsTask (sym series.about) tt) (ap uid_of series.about) in
        let below : b.eff < dead.series.eff = dead.below in
        omega (arith, low, below, high) in
        let kept : IsKept heard b = record { best = best; alive = alive } in
        elim (cases_lt n b.eff) [
          | inl over ↦ absurd (first (record { item = b; kept = kept; about = among; greater = over }))
          | inr up ↦
              let same : b.eff ≡ n = omega (arith, up, high) in
              let before : stamp_cmp b.stamp stamp ≡ Less = after_each (IsEqualRevision heard keys n) at stamp stamped b.stamp
              (record { item = b; kept = kept; about = among; same = same; stamp_is = refl }) in
              later_stamped c b ((new c h).eff_is ∙ sym same)
              (subst (λ (s : Stamp). stamp_cmp b.stamp s ≡ Less) (sym (new c h).stamp_is) before)
        ]
  ]

  -- so the best item of such a key is one of the items
  remover_best : (k : Key) → Contains keys k → uid_of k ≡ uid → (c : Item) → Contains items c → c.key ≡ k → (b : Item) →
      IsBest (heard ++ items) k b → IsRemover n stamp b
  remover_best k among of c h about b best = elim (Contains-append_cases heard items b best.is_heard) [
    | inl old ↦
        let before : IsBest heard b.key b = subst (λ (q : Key). IsBest heard q b) (sym best.about)
        (best_part (heard ++ items) heard k b (Contains-append_left heard items) best old) in
        absurd (best.none_later c (Contains-append_right heard items c h) about
        (earlier c h b old before (subst (Contains keys) (sym best.about) among) (ap uid_of best.about ∙ of)))
    | inr there ↦ new b there
  ]

  removes_from : (k : Key) → Contains keys k → uid_of k ≡ uid → (c : Item) → Contains items c → c.key ≡ k → (since : ℕ) → since ≤ n →
      Removes (heard ++ items) (record { key = k; since = since })
  removes_from k among of c h about since low =
      let found = best_above (heard ++ items) c (Contains-append_right heard items c h) in
      let best : IsBest (heard ++ items) k found.0 = subst (λ (q : Key). IsBest (heard ++ items) q found.0) about found.1 in
      let own : (found.0).own ≡ n = (remover_best k among of c h about found.0 best).own_is in
      record {
        some = found.0;
        counts = record { best = best; since = omega (arith, own, low) };
        each = λ answer counts. (remover_best k among of c h about answer counts.best).kind_is;
      }

  -- ---- the attendee of a key is removed
  module _ (id : Option Moment) (a : List ℕ) (among : Contains keys (key.Answer uid id a)) (c : Item) (h : Contains items c)
      (about : c.key ≡ key.Answer uid id a) where
    -- the answers to what is removed from, of the attendee of a line
    removed_line : (line : Property) → attendee_key line.value ≡ a → (since : ℕ) → since ≤ n →
        Removes (heard ++ items) (answers_since since uid id line)
    removed_line line same since low =
        subst (λ (b : List ℕ). Removes (heard ++ items) (record { key = key.Answer uid id b; since = since })) (sym same)
        (removes_from (key.Answer uid id a) among refl c h about since low)

    -- rows that ask only for these, or for these first
    hidden_first : (asked_of : Property → Asked) (rest : Property → List Asked) →
        ((line : Property) → attendee_key line.value ≡ a → Removes (heard ++ items) (asked_of line)) → (lines : List Property)
        (shown : List ShownAttendee) → AreShown (heard ++ items) (λ line. asked_of line ∷ rest line) lines shown →
        (one : ShownAttendee) → Contains shown one → attendee_key one.address ≡ a → ⊥
    hidden_first asked_of rest removes =
        hidden (heard ++ items) (λ line. asked_of line ∷ rest line) a
        (λ line same. first_hides (heard ++ items) (asked_of line) (rest line) (removes line same) line)

  -- the row in question doesn't show the attendee
  pub not_in_question : (id : Option Moment) (a : List ℕ) → Contains keys (key.Answer uid id a) → (c : Item) → Contains items c →
      c.key ≡ key.Answer uid id a → (g : Item) (shown : List ShownAttendee) → ShowsInQuestion (heard ++ items) uid id g shown →
      (one : ShownAttendee) → Contains shown one → attendee_key one.address ≡ a → ⊥
  not_in_question None a among c h about g shown p =
      let low : g.own ≤ n = task_small (key.Series uid) tt refl g p.live.best in
      hidden_first None a among c h about (answers_since g.own uid None) (λ _. [])
      (λ line same. removed_line None a among c h about line same g.own low) g.todo.attendees shown p.attendees
  not_in_question (Some m) a among c h about g shown (inl p) =
      let low : g.own ≤ n = task_small (key.Instance uid m) tt refl g p.live.stands.best in
      hidden_first (Some m) a among c h about (answers_since g.own uid (Some m)) (λ _. [])
      (λ line same. removed_line (Some m) a among c h about line same g.own low) g.todo.attendees shown p.attendees
  not_in_question (Some m) a among c h about g shown (inr p) = by p.shows
    where
      by : ShowsRange (heard ++ items) uid m g shown ⊎ ShowsOccurrence (heard ++ items) uid m g shown → (one : ShownAttendee) →
          Contains shown one → attendee_key one.address ≡ a → ⊥
      by (inl range) =
          let low : g.own ≤ n = task_small (key.Range uid range.id) tt refl g range.rules.stands.best in
          hidden_first (Some m) a among c h about (answers_since g.own uid (Some m))
          (λ line. answers_since (max g.own range.whole.own) uid None line ∷ [])
          (λ line same. removed_line (Some m) a among c h about line same g.own low) g.todo.attendees shown range.attendees
      by (inr series) =
          let low : g.own ≤ n = task_small (key.Series uid) tt refl g series.live.best in
          hidden_first (Some m) a among c h about (answers_since g.own uid (Some m)) (λ line. answers_since g.own uid None line ∷ [])
          (λ line same. removed_line (Some m) a among c h about line same g.own low) g.todo.attendees shown series.attendees

  -- ---- rows that the series item governs
  module _ (address : List ℕ) (among : Contains keys (key.Answer uid None (attendee_key address))) (c : Item) (h : Contains items c)
      (about : c.key ≡ key.Answer uid None (attendee_key address)) (row : Row) (of : row.uid ≡ uid) where
    series_small : (g : Item) → IsLiveSeries (heard ++ items) row.uid g → g.own ≤ n
    series_small g live = task_small (key.Series uid) tt refl g
        (subst (λ (u : List ℕ). IsBest (heard ++ items) (key.Series u) g) of live.best)

    -- the answers to the to-do as a whole that the row asks for
    whole_line : (g : Item) → IsLiveSeries (heard ++ items) row.uid g → (line : Property) → attendee_key line.value ≡ attendee_key address →
        Removes (heard ++ items) (answers_since g.own row.uid None line)
    whole_line g live line same =
        subst (λ (u : List ℕ). Removes (heard ++ items) (answers_since g.own u None line)) (sym of)
        (removed_line None (attendee_key address) among c h about line same g.own (series_small g live))

    not_on_whole : (g : Item) → IsLiveSeries (heard ++ items) row.uid g →
        AreShown (heard ++ items) (series_answers row.uid g) g.todo.attendees row.attendees → Shows address row → ⊥
    not_on_whole g live are shows =
        hidden_first None (attendee_key address) among c h about (answers_since g.own row.uid None) (λ _. []) (whole_line g live)
        g.todo.attendees row.attendees are shows.attendee shows.there shows.same

    not_on_occurrence : (window : Window) → IsUnansweredOccurrence (heard ++ items) window address row → Shows address row → ⊥
    not_on_occurrence window unanswered shows =
        let p = unanswered.of in
        let g : Item = p.item in
        let before : Property → Asked = answers_since g.own row.uid (Some p.at) in
        let none : (line : Property) → attendee_key line.value ≡ attendee_key address → NoneCounts (heard ++ items) (before line) =
        λ line same. subst
        (λ (b : List ℕ). NoneCounts (heard ++ items) (record { key = key.Answer row.uid (Some p.at) b; since = g.own })) (sym same)
        unanswered.none in
        hidden (heard ++ items) (occurrence_answers row.uid p.at g) (attendee_key address)
        (λ line same. second_hides (heard ++ items) (before line) (answers_since g.own row.uid None line) [] (none line same)
        (whole_line g p.live line same) line) g.todo.attendees row.attendees p.attendees shows.attendee shows.there shows.same

    pub not_on_rows : (window : Window) → AsksWhole (heard ++ items) window address row → Shows address row → ⊥
    not_on_rows window (inl occurrence) = not_on_occurrence window occurrence
    not_on_rows window (inr (inl p)) = not_on_whole p.item p.live p.attendees
    not_on_rows window (inr (inr p)) = not_on_whole p.item p.live p.attendees
