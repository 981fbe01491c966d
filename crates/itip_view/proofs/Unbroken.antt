-- No text of a row has a line break, and its numbers are small.
use Rattle.std.proofs.Common.{◌≡◌, ◌∙◌, ◌^◌, ◌*◌, ◌≤◌, ℕ, List, [], ◌∷◌, ◌++◌, length, sum, Option, Some, None, option_to_list, inl, inr}
use Rattle.std.proofs.Common.{refl, sym, ap, subst, arith}
use Rattle.std.specs.Prelude.{codes, IfSome}
use Rattle.std.specs.List.{AllByRecursion, Contains}
use Rattle.std.proofs.lemmas.List.Elements.{All-weaker, All-from_recursion, recursion_from_All}
use Rattle.std.proofs.lemmas.List.Sums.{sum_by-le}
use Rattle.std.proofs.lemmas.Nat.{div_below}
use Rattle.itip_moment.specs.Shown.{shown_moment}
use Rattle.itip_moment.specs.declared.moment.Moment.{Moment}
use Rattle.itip_todo.specs.Properties.{Property}
use Rattle.itip_items.specs.KeyParts.{uid_of, instance_of}
use Rattle.itip_items.specs.declared.item.Item.{Item}
use Rattle.itip_items.specs.declared.key.Key.{Key}
use Rattle.itip_items.specs.declared.kind.Kind.{Kind}
use Rattle.itip_items.specs.declared.kind.Kind.TheVariants as kind
use Rattle.itip_items.proofs.SameItem.{own_is}
use Rattle.itip_items.proofs.Uids.{uid_of_item}
use Rattle.itip_state.proofs.Members.{all_each, if_some_then}
use Rattle.itip_view.specs.Answers.{Asked, AreShown, in_front, partstat_in, shown_line, unless_removed}
use Rattle.itip_view.specs.ListText.{id_text}
use Rattle.itip_view.specs.Progress.{percents, mean}
use Rattle.itip_view.specs.Rows.{IsRow, HasFields, HasProgress}
use Rattle.itip_view.specs.Rows.{instance_answers, occurrence_answers, range_answers, series_answers}
use Rattle.itip_view.specs.TodoLines.{IsUnbroken, IsSmallNumber, HasUnbrokenAttendee, HasUnbrokenTexts}
use Rattle.itip_view.specs.declared.row.Row.{Row}
use Rattle.itip_view.specs.declared.row.RowId.{RowId}
use Rattle.itip_view.specs.declared.row.RowId.TheVariants as id
use Rattle.itip_view.specs.declared.row.ShownAttendee.{ShownAttendee}
use Rattle.itip_view.specs.declared.window.Window.{Window}
use Rattle.itip_view.proofs.PlainTodos.{IsPlain, IfPlain, HasPlainValue, IsPlainTodo, plain, moment_unbroken, key_plain, occurs_plain}
use Rattle.itip_view.proofs.PlainTodos.{due_of_plain, start_from_plain, due_from_plain}
use Rattle.itip_view.proofs.TodoLines.{written_out}

-- ---- numbers and attendees

abbrev IfSmall : Option ℕ → Type 0
IfSmall v = IfSome v IsSmallNumber

limited : (v : Option ℕ) → ((n : ℕ) → v ≡ Some n → n ≤ 100) → IfSmall v
limited None low = tt
limited (Some n) low = let few : n ≤ 100 = low n refl in omega (arith, few)

unless_kept : (k : Kind) (a : ShownAttendee) → HasUnbrokenAttendee a → IfSome (unless_removed k a) HasUnbrokenAttendee
unless_kept kind.Remove a h = tt
unless_kept kind.Reply a h = h
unless_kept kind.Request a h = h
unless_kept kind.Add a h = h
unless_kept kind.Cancel a h = h
unless_kept kind.Refresh a h = h

line_unbroken : (line : Property) (answer : Option Item) → IsUnbroken line.value → IfSome (shown_line line answer) HasUnbrokenAttendee
line_unbroken line None h = record { address = h; percent = tt }
line_unbroken line (Some answer) h =
    unless_kept answer.kind
    (record { address = line.value; partstat = partstat_in answer.todo.attendees; percent = answer.todo.percent })
    (record { address = h; percent = limited answer.todo.percent answer.todo.lawful.percent })

front_unbroken : (first : Option ShownAttendee) (others : List ShownAttendee) → IfSome first HasUnbrokenAttendee →
    AllByRecursion HasUnbrokenAttendee others → AllByRecursion HasUnbrokenAttendee (in_front first others)
front_unbroken None others h k = k
front_unbroken (Some a) others h k = (h, k)

attendees_unbroken : (heard : List Item) (asked : Property → List Asked) (lines : List Property) (shown : List ShownAttendee) →
    AreShown heard asked lines shown → AllByRecursion HasPlainValue lines → AllByRecursion HasUnbrokenAttendee shown
attendees_unbroken heard asked [] shown is h = subst (AllByRecursion HasUnbrokenAttendee) (sym is) tt
attendees_unbroken heard asked (line ∷ lines) shown (answer, others, decides, rest, is) h =
    subst (AllByRecursion HasUnbrokenAttendee) (sym is)
    (front_unbroken (shown_line line answer) others (line_unbroken line answer h.0)
    (attendees_unbroken heard asked lines others rest h.1))

onto_small : (v : Option ℕ) (ns : List ℕ) → IfSmall v → AllByRecursion IsSmallNumber ns →
    AllByRecursion IsSmallNumber (option_to_list v ++ ns)
onto_small None ns h k = k
onto_small (Some n) ns h k = (h, k)

percents_small : (shown : List ShownAttendee) → AllByRecursion HasUnbrokenAttendee shown → AllByRecursion IsSmallNumber (percents shown)
percents_small [] h = tt
percents_small (a ∷ shown) h = onto_small a.percent (percents shown) h.0.percent (percents_small shown h.1)

mean_small : (ns : List ℕ) → AllByRecursion IsSmallNumber ns → IfSmall (mean ns)
mean_small [] h = tt
mean_small (n ∷ ns) h =
    let low : sum (n ∷ ns) ≤ length (n ∷ ns) * 18446744073709551615 =
    sum_by-le (λ (k : ℕ). k) 18446744073709551615 (n ∷ ns) (All-weaker IsSmallNumber (λ (k : ℕ). k ≤ 18446744073709551615)
    (λ k small. omega arith) (n ∷ ns) (All-from_recursion IsSmallNumber (n ∷ ns) h)) in
    div_below (sum (n ∷ ns)) (length (n ∷ ns)) (2 ^ 64) (omega arith) (omega (arith, low))

-- ---- rows

module _ (heard : List Item) (row : Row) where
  row_plain : (item : Item) → uid_of item.key ≡ row.uid → HasFields item row → (asked : Property → List Asked) →
      AreShown heard asked item.todo.attendees row.attendees → HasProgress row → IsUnbroken (id_text row.id) → IfPlain row.start →
      IfPlain row.due → HasUnbrokenTexts row
  row_plain item about fields asked shown progress named start due =
      let is : IsPlainTodo item.todo = plain item.todo in
      let own : row.seq ≡ item.todo.seq = fields.seq ∙ own_is item in
      let low : item.todo.seq ≤ 2147483647 = item.todo.lawful.seq in
      let nine : (n : ℕ) → item.todo.priority ≡ Some n → n ≤ 9 = item.todo.lawful.priority in
      let attendees : AllByRecursion HasUnbrokenAttendee row.attendees =
      attendees_unbroken heard asked item.todo.attendees row.attendees shown is.attendees in
      record {
        uid = subst IsUnbroken (sym (uid_of_item item) ∙ about) is.uid;
        id = named;
        seq = omega (arith, own, low);
        percent = subst IfSmall (sym fields.percent) (limited item.todo.percent item.todo.lawful.percent);
        priority = subst IfSmall (sym fields.priority)
            (limited item.todo.priority (λ n e. let few : n ≤ 9 = nine n e in omega (arith, few)));
        start = if_some_then row.start IsPlain (λ (m : Moment). IsUnbroken (shown_moment m)) moment_unbroken start;
        due = if_some_then row.due IsPlain (λ (m : Moment). IsUnbroken (shown_moment m)) moment_unbroken due;
        summary = subst (λ (v : Option (List ℕ)). IfSome v IsUnbroken) (sym fields.summary) is.summary;
        attendees = attendees;
        progress = subst IfSmall (sym progress) (mean_small (percents row.attendees) (percents_small row.attendees attendees));
      }

  named_at : (at : Moment) → row.id ≡ id.At at → IsPlain at → IsUnbroken (id_text row.id)
  named_at at is h = subst (λ (i : RowId). IsUnbroken (id_text i)) (sym is) (moment_unbroken at h)

  pub row_unbroken : (window : Window) → IsRow heard window row → HasUnbrokenTexts row
  row_unbroken window (inl p) =
      let at : IsPlain p.at = subst (λ (k : Key). IfPlain (instance_of k)) p.live.stands.best.about (key_plain p.item) in
      row_plain p.item (ap uid_of p.live.stands.best.about) p.fields (instance_answers row.uid p.at p.item) p.attendees p.progress
      (named_at p.at p.id at) (subst IfPlain (sym p.dates.start) (plain p.item.todo).start)
      (subst IfPlain (sym p.dates.due) (plain p.item.todo).due)
  row_unbroken window (inr (inl p)) =
      let at : IsPlain p.at = occurs_plain p.item.todo p.series p.repeats p.at p.occurs.occurs in
      row_plain p.item (ap uid_of p.live.best.about) p.fields (occurrence_answers row.uid p.at p.item) p.attendees p.progress
      (named_at p.at p.id at) (subst IfPlain (sym p.start) at)
      (due_of_plain p.item.todo.due p.series.start p.at row.due p.due (plain p.item.todo).due)
  row_unbroken window (inr (inr (inl p))) =
      let at : IsPlain p.at = occurs_plain p.whole.todo p.series p.repeats p.at p.occurs.occurs in
      row_plain p.item (ap uid_of p.rules.stands.best.about) p.fields (range_answers row.uid p.at p.item p.whole) p.attendees p.progress
      (named_at p.at p.id at) (start_from_plain p.item.todo.start p.from p.at row.start p.start (plain p.item.todo).start at)
      (due_from_plain p.item.todo.due p.from p.at row.due p.due (plain p.item.todo).due)
  row_unbroken window (inr (inr (inr (inl p)))) =
      row_plain p.item (ap uid_of p.live.best.about) p.fields (series_answers row.uid p.item) p.attendees p.progress
      (subst (λ (i : RowId). IsUnbroken (id_text i)) (sym p.id) (written_out (codes "-") refl))
      (subst IfPlain (sym p.dates.start) (plain p.item.todo).start) (subst IfPlain (sym p.dates.due) (plain p.item.todo).due)
  row_unbroken window (inr (inr (inr (inr p)))) =
      row_plain p.item (ap uid_of p.live.best.about) p.fields (series_answers row.uid p.item) p.attendees p.progress
      (subst (λ (i : RowId). IsUnbroken (id_text i)) (sym p.id) (written_out (codes "opaque") refl))
      (subst IfPlain (sym p.dates.start) (plain p.item.todo).start) (subst IfPlain (sym p.dates.due) (plain p.item.todo).due)

pub rows_unbroken : (heard : List Item) (window : Window) (rows : List Row) → ((row : Row) → Contains rows row → IsRow heard window row) →
    AllByRecursion HasUnbrokenTexts rows
rows_unbroken heard window rows each =
    recursion_from_All HasUnbrokenTexts rows (all_each HasUnbrokenTexts rows (λ row h. row_unbroken heard row window (each row h)))
