-- Lines are read as one to-do, or refused for one cause in one place, and not both.
use Rattle.std.proofs.Common.{◌≡◌, ◌∙◌, sym, ap, refl, ℕ, Bool, true, false, List, [], ◌∷◌, ◌++◌, subst, inl, inr, arith, Option, Some}
use Rattle.std.proofs.Common.{None}
use Rattle.std.proofs.lemmas.Map.Lookups.{btree_set_from_contains}
use Rattle.std.specs.BTreeMap.{is_at}
use Rattle.std.specs.BTreeSet.{BTreeSet}
use Rattle.std.specs.List.{Contains, list_any}
use Rattle.std.specs.Prelude.{codes, ◌↔◌}
use Rattle.std.specs.Str.Parse.{without_leading_plus, IsNumeral}
use Rattle.itip_lines.specs.Reading.{plain_lines}
use Rattle.itip_lines.specs.declared.line.Line.{Line}
use Rattle.itip_lines.specs.declared.line.NumberedLine.{NumberedLine}
use Rattle.itip_lines.specs.declared.line.Param.{Param}
use Rattle.itip_moment.specs.Order.{moment_cmp}
use Rattle.itip_moment.specs.OrderLaws.{moment_total}
use Rattle.itip_moment.specs.declared.moment.Moment.{Moment}
use Rattle.itip_moment.proofs.Same.{moment_equal}
use Rattle.itip_moment.proofs.ValueLaws.{stamp_text-one, moment_text-one}
use Rattle.itip_todo.specs.Participation.{param_value}
use Rattle.itip_todo.specs.Reading.{AreGood, HasCause, FirstRefusal, IsGoodAs, HasCauseAs, IsOptional, IsOrNought, IsUidOf, IsStampOf}
use Rattle.itip_todo.specs.Reading.{IsSequenceOf, IsPercentOf, IsPriorityOf, IsMomentOf, IsStatusOf, IsPropertyOf, IsOrganizerOf}
use Rattle.itip_todo.specs.Reading.{ListMoments, AreMomentsOf, ReadsTodo, RefusesTodo, first_named, lines_of}
use Rattle.itip_todo.specs.Table.{property_of, sequence_limit, percent_limit, priority_limit}
use Rattle.itip_todo.specs.Values.{IsNumberUpTo, AreMoments}
use Rattle.itip_todo.specs.declared.error.TodoCause.{TodoCause}
use Rattle.itip_todo.specs.declared.error.TodoCause.TheVariants as cause
use Rattle.itip_todo.specs.declared.error.TodoRefusal.{TodoRefusal}
use Rattle.itip_todo.specs.declared.property_name.PropertyName.{PropertyName}
use Rattle.itip_todo.specs.declared.property_name.PropertyName.TheVariants as name
use Rattle.itip_todo.specs.declared.status.Status.{Status}
use Rattle.itip_todo.specs.declared.todo.Todo.{Todo}
use Rattle.itip_todo.proofs.Commas.{behind_comma, no_comma_one, no_comma_at, spelled_high}
use Rattle.itip_todo.proofs.SameTodo.{same_todo}
use Rattle.itip_todo.proofs.Sets.{contains_any, itself, only_at}

-- values in this relation to one line are equal

one_optional : {A : Type 0} (P : Line → A → Type 0) → ((line : Line) (a b : A) → P line a → P line b → a ≡ b) →
    (o : Option Line) (v w : Option A) → IsOptional P o v → IsOptional P o w → v ≡ w
one_optional P one None None None h k = refl
one_optional P one None None (Some b) h k = absurd k
one_optional P one None (Some a) w h k = absurd h
one_optional P one (Some line) None w h k = absurd h
one_optional P one (Some line) (Some a) None h k = absurd k
one_optional P one (Some line) (Some a) (Some b) h k = ap Some (one line a b h k)

one_some : {A : Type 0} (P : Line → A → Type 0) → ((line : Line) (a b : A) → P line a → P line b → a ≡ b) → (o : Option Line) (a b : A) →
    IsOptional P o (Some a) → IsOptional P o (Some b) → a ≡ b
one_some P one None a b h k = absurd h
one_some P one (Some line) a b h k = one line a b h k

minus_apart : (text noughts : List ℕ) → text ≡ 45 ∷ noughts → IsNumeral 10 (without_leading_plus text) → ⊥
minus_apart text noughts e h = minus noughts (subst (λ (t : List ℕ). IsNumeral 10 (without_leading_plus t)) e h)
  where
    minus : (noughts : List ℕ) → IsNumeral 10 (without_leading_plus (45 ∷ noughts)) → ⊥
    minus noughts h = omega (arith, h.1.0)

one_number : (limit : ℕ) (text : List ℕ) (a b : ℕ) → IsNumberUpTo limit text a → IsNumberUpTo limit text b → a ≡ b
one_number limit text a b (inl h) (inl k) = h.1 ∙ sym k.1
one_number limit text a b (inl h) (inr k) = absurd (minus_apart text h.0.noughts h.0.whole k.numeral)
one_number limit text a b (inr h) (inl k) = absurd (minus_apart text k.0.noughts k.0.whole h.numeral)
one_number limit text a b (inr h) (inr k) = h.value ∙ sym k.value

one_or_nought : (o : Option Line) (a b : ℕ) → IsOrNought IsSequenceOf o a → IsOrNought IsSequenceOf o b → a ≡ b
one_or_nought None a b h k = h ∙ sym k
one_or_nought (Some line) a b h k = one_number sequence_limit line.value a b h k

one_moment : (line : Line) (a b : Moment) → IsMomentOf line a → IsMomentOf line b → a ≡ b
one_moment line a b h k = moment_text-one line.value (Some (param_value (codes "TZID") line.params)) a b h k

one_status : (line : Line) (a b : Status) → IsStatusOf line a → IsStatusOf line b → a ≡ b
one_status line a b h k = let same : Some a ≡ Some b = sym h ∙ k in cc

-- a text lists moments in one way
one_list : (params : List Param) (text : List ℕ) (ms ns : List Moment) → AreMoments params text ms → AreMoments params text ns → ms ≡ ns
one_list params text [] ns h k = absurd h
one_list params text (m ∷ []) ns h k =
    let other = no_comma_one params text ns (no_comma_at text (spelled_high params text m h)) k in
    ap (λ (x : Moment). x ∷ []) (moment_text-one text (Some (param_value (codes "TZID") params)) m other.0 h other.2) ∙ sym other.1
one_list params text (m ∷ (p ∷ ps)) ns h k =
    let other = behind_comma params text h.0 h.1 ns h.2 (no_comma_at h.0 (spelled_high params h.0 m h.3)) k in
    let first : m ≡ other.0 = moment_text-one h.0 (Some (param_value (codes "TZID") params)) m other.0 h.3 other.3 in
    let later : p ∷ ps ≡ other.1 = one_list params h.1 (p ∷ ps) other.1 h.4 other.4 in
    (λ i. first i ∷ later i) ∙ sym other.2

one_listing : (lines : List Line) (ms ns : List Moment) → ListMoments lines ms → ListMoments lines ns → ms ≡ ns
one_listing [] ms ns h k = h ∙ sym k
one_listing (line ∷ lines) ms ns h k =
    let here : h.0 ≡ k.0 = one_list line.params line.value h.0 k.0 h.3 k.3 in
    let later : h.1 ≡ k.1 = one_listing lines h.1 k.1 h.4 k.4 in
    h.2 ∙ (λ i. here i ++ later i) ∙ sym k.2

same_tests : (a b : Bool) → (a ≡ true → b ≡ true) → (b ≡ true → a ≡ true) → a ≡ b
same_tests true b f g = sym (f refl)
same_tests false true f g = g refl
same_tests false false f g = refl

abbrev set_of : List Moment → BTreeSet Moment
set_of ms = record { keys = ms }

one_order : (lines : List Line) (ms ns : List Moment) → AreMomentsOf lines ms → AreMomentsOf lines ns → ms ≡ ns
one_order lines ms ns h k =
    btree_set_from_contains moment_total (set_of ms) (set_of ns) h.ascending k.ascending
    (λ m.
    let here = contains_any (is_at (moment_cmp m)) ms m (itself m) (only_at m) in
    let there = contains_any (is_at (moment_cmp m)) ns m (itself m) (only_at m) in
    let listed : h.listed ≡ k.listed = one_listing lines h.listed k.listed h.list k.list in
    same_tests (list_any (is_at (moment_cmp m)) ms) (list_any (is_at (moment_cmp m)) ns)
    (λ e. there.0 ((k.each m).1 (subst (λ (xs : List Moment). Contains xs m) listed ((h.each m).0 (here.1 e)))))
    (λ e. here.0 ((h.each m).1 (subst (λ (xs : List Moment). Contains xs m) (sym listed) ((k.each m).0 (there.1 e))))))
    moment_equal

pub one_todo : (lines : List Line) (a b : Todo) → ReadsTodo lines a → ReadsTodo lines b → a ≡ b
one_todo lines a b h k = same_todo a b (λ i. record {
  uid = one_some IsUidOf (λ line x y p q. p.0 ∙ sym q.0) (first_named name.Uid lines) a.uid b.uid h.uid k.uid i;
  stamp = one_some IsStampOf (λ line. stamp_text-one line.value) (first_named name.DtStamp lines) a.stamp b.stamp h.stamp k.stamp i;
  seq = one_or_nought (first_named name.Sequence lines) a.seq b.seq h.seq k.seq i;
  base = one_optional IsSequenceOf (λ line. one_number sequence_limit line.value) (first_named name.DeskBase lines) a.base b.base h.base
      k.base i;
  rid = one_optional IsMomentOf one_moment (first_named name.RecurrenceId lines) a.rid b.rid h.rid k.rid i;
  range = (h.range ∙ sym k.range) i;
  start = one_optional IsMomentOf one_moment (first_named name.DtStart lines) a.start b.start h.start k.start i;
  due = one_optional IsMomentOf one_moment (first_named name.Due lines) a.due b.due h.due k.due i;
  status = one_optional IsStatusOf one_status (first_named name.Status lines) a.status b.status h.status k.status i;
  percent = one_optional IsPercentOf (λ line. one_number percent_limit line.value) (first_named name.PercentComplete lines) a.percent
      b.percent h.percent k.percent i;
  priority = one_optional IsPriorityOf (λ line. one_number priority_limit line.value) (first_named name.Priority lines) a.priority
      b.priority h.priority k.priority i;
  summary = one_optional IsPropertyOf (λ line x y p q. p ∙ sym q) (first_named name.Summary lines) a.summary b.summary h.summary k.summary
      i;
  organizer = one_optional IsOrganizerOf (λ line x y p q. p.0 ∙ sym q.0) (first_named name.Organizer lines) a.organizer b.organizer
      h.organizer k.organizer i;
  attendees = (h.attendees ∙ sym k.attendees) i;
  rule = (h.rule ∙ sym k.rule) i;
  rdates = one_order (lines_of lines name.RDate) a.rdates b.rdates h.rdates k.rdates i;
  exdates = one_order (lines_of lines name.ExDate) a.exdates b.exdates h.exdates k.exdates i;
  others = (h.others ∙ sym k.others) i;
})

-- nothing is wrong with a line, or one thing

never : {b : Bool} → b ≡ false → b ≡ true → ⊥
never h k = let e : false ≡ true = sym h ∙ k in absurd cc

good_cause : (above : PropertyName → List Line) (p : PropertyName) (line : Line) (f : TodoCause) → IsGoodAs above p line →
    HasCauseAs above p line f → ⊥
good_cause above p line (cause.Missing q) h k = k
good_cause above p line (cause.Twice q) h k = never h.once k.1
good_cause above p line cause.Range h k = never h.range k.1
good_cause above p line (cause.BadValue q) h k = k.3 h.value
good_cause above p line cause.TooMany h k = never h.few k.3
good_cause above p line cause.SameAttendee h k = never h.new k.4

one_here : (above : PropertyName → List Line) (p : PropertyName) (line : Line) (f g : TodoCause) → HasCauseAs above p line f →
    HasCauseAs above p line g → f ≡ g
one_here above p line (cause.Missing q) g h k = absurd h
one_here above p line (cause.Twice q) (cause.Missing r) h k = absurd k
one_here above p line (cause.Twice q) (cause.Twice r) h k = ap (λ s. cause.Twice s) (h.0 ∙ sym k.0)
one_here above p line (cause.Twice q) cause.Range h k = absurd (never k.0 h.1)
one_here above p line (cause.Twice q) (cause.BadValue r) h k = absurd (never k.1 h.1)
one_here above p line (cause.Twice q) cause.TooMany h k = absurd (never k.0 h.1)
one_here above p line (cause.Twice q) cause.SameAttendee h k = absurd (never k.0 h.1)
one_here above p line cause.Range (cause.Missing r) h k = absurd k
one_here above p line cause.Range (cause.Twice r) h k = absurd (never h.0 k.1)
one_here above p line cause.Range cause.Range h k = refl
one_here above p line cause.Range (cause.BadValue r) h k = absurd (never k.2 h.1)
one_here above p line cause.Range cause.TooMany h k = absurd (never k.1 h.1)
one_here above p line cause.Range cause.SameAttendee h k = absurd (never k.1 h.1)
one_here above p line (cause.BadValue q) (cause.Missing r) h k = absurd k
one_here above p line (cause.BadValue q) (cause.Twice r) h k = absurd (never h.1 k.1)
one_here above p line (cause.BadValue q) cause.Range h k = absurd (never h.2 k.1)
one_here above p line (cause.BadValue q) (cause.BadValue r) h k = ap (λ s. cause.BadValue s) (h.0 ∙ sym k.0)
one_here above p line (cause.BadValue q) cause.TooMany h k = absurd (h.3 k.2)
one_here above p line (cause.BadValue q) cause.SameAttendee h k = absurd (h.3 k.2)
one_here above p line cause.TooMany (cause.Missing r) h k = absurd k
one_here above p line cause.TooMany (cause.Twice r) h k = absurd (never h.0 k.1)
one_here above p line cause.TooMany cause.Range h k = absurd (never h.1 k.1)
one_here above p line cause.TooMany (cause.BadValue r) h k = absurd (k.3 h.2)
one_here above p line cause.TooMany cause.TooMany h k = refl
one_here above p line cause.TooMany cause.SameAttendee h k = absurd (never k.3 h.3)
one_here above p line cause.SameAttendee (cause.Missing r) h k = absurd k
one_here above p line cause.SameAttendee (cause.Twice r) h k = absurd (never h.0 k.1)
one_here above p line cause.SameAttendee cause.Range h k = absurd (never h.1 k.1)
one_here above p line cause.SameAttendee (cause.BadValue r) h k = absurd (k.3 h.2)
one_here above p line cause.SameAttendee cause.TooMany h k = absurd (never h.3 k.3)
one_here above p line cause.SameAttendee cause.SameAttendee h k = refl

good_first : (above : List Line) (lines : List NumberedLine) (r : TodoRefusal) → AreGood above (plain_lines lines) →
    FirstRefusal above lines r → ⊥
good_first above [] r h k = k
good_first above (l ∷ lines) r h (inl k) = good_cause (lines_of above) (property_of l.line) l.line r.cause h.0 k.1
good_first above (l ∷ lines) r h (inr k) = good_first (above ++ l.line ∷ []) lines r h.1 k.1

same_refusal : (r s : TodoRefusal) → r.cause ≡ s.cause → r.line ≡ s.line → r ≡ s
same_refusal r s p q = λ i. record { cause = p i; line = q i }

one_first : (above : List Line) (lines : List NumberedLine) (r s : TodoRefusal) → FirstRefusal above lines r → FirstRefusal above lines s →
    r ≡ s
one_first above [] r s h k = absurd h
one_first above (l ∷ lines) r s (inl h) (inl k) =
    same_refusal r s (one_here (lines_of above) (property_of l.line) l.line r.cause s.cause h.1 k.1) (h.0 ∙ sym k.0)
one_first above (l ∷ lines) r s (inl h) (inr k) = absurd (good_cause (lines_of above) (property_of l.line) l.line r.cause k.0 h.1)
one_first above (l ∷ lines) r s (inr h) (inl k) = absurd (good_cause (lines_of above) (property_of l.line) l.line s.cause h.0 k.1)
one_first above (l ∷ lines) r s (inr h) (inr k) = one_first (above ++ l.line ∷ []) lines r s h.1 k.1

pub one_refusal : (lines : List NumberedLine) (r s : TodoRefusal) → RefusesTodo lines r → RefusesTodo lines s → r ≡ s
one_refusal lines r s (inl h) (inl k) = one_first [] lines r s h k
one_refusal lines r s (inl h) (inr (inl k)) = absurd (good_first [] lines r k.0 h)
one_refusal lines r s (inl h) (inr (inr k)) = absurd (good_first [] lines r k.0 h)
one_refusal lines r s (inr (inl h)) (inl k) = absurd (good_first [] lines s h.0 k)
one_refusal lines r s (inr (inr h)) (inl k) = absurd (good_first [] lines s h.0 k)
one_refusal lines r s (inr (inl h)) (inr (inl k)) = h.2 ∙ sym k.2
one_refusal lines r s (inr (inl h)) (inr (inr k)) = absurd (k.1 h.1)
one_refusal lines r s (inr (inr h)) (inr (inl k)) = absurd (h.1 k.1)
one_refusal lines r s (inr (inr h)) (inr (inr k)) = h.3 ∙ sym k.3

has_line : {A : Type 0} (P : Line → A → Type 0) (o : Option Line) (a : A) → IsOptional P o (Some a) → o ≡ None → ⊥
has_line P None a h e = h
has_line P (Some line) a h e = cc

pub read_or_refused : (lines : List NumberedLine) (todo : Todo) (r : TodoRefusal) → ReadsTodo (plain_lines lines) todo →
    RefusesTodo lines r → ⊥
read_or_refused lines todo r h (inl k) = good_first [] lines r h.good k
read_or_refused lines todo r h (inr (inl k)) = has_line IsUidOf (first_named name.Uid (plain_lines lines)) todo.uid h.uid k.1
read_or_refused lines todo r h (inr (inr k)) = has_line IsStampOf (first_named name.DtStamp (plain_lines lines)) todo.stamp h.stamp k.2

-- a line is named unless a property is missing

some_is_not_none : (n : ℕ) (line : Option ℕ) → line ≡ Some n → line ≡ None → ⊥
some_is_not_none n line p q = let e : Some n ≡ None = sym p ∙ q in cc

abbrev LacksPlace : TodoRefusal → Type 0
LacksPlace r = (r.line ≡ None) ↔ ((p : PropertyName) × (r.cause ≡ cause.Missing p))

first_placed : (above : List Line) (lines : List NumberedLine) (r : TodoRefusal) → FirstRefusal above lines r → LacksPlace r
first_placed above [] r h = absurd h
first_placed above (l ∷ lines) r (inl h) =
    (λ e. absurd (some_is_not_none l.number r.line h.0 e), λ (p, e). absurd (subst (λ (x : TodoCause). HasCause above l.line x) e h.1))
first_placed above (l ∷ lines) r (inr h) = first_placed (above ++ l.line ∷ []) lines r h.1

pub refusal_place : (lines : List NumberedLine) (r : TodoRefusal) → RefusesTodo lines r → LacksPlace r
refusal_place lines r (inl h) = first_placed [] lines r h
refusal_place lines r (inr (inl h)) = (λ e. (name.Uid, ap (λ (x : TodoRefusal). x.cause) h.2), λ e. ap (λ (x : TodoRefusal). x.line) h.2)
refusal_place lines r (inr (inr h)) =
    (λ e. (name.DtStamp, ap (λ (x : TodoRefusal). x.cause) h.3), λ e. ap (λ (x : TodoRefusal). x.line) h.3)
