-- Lines that were a to-do before instances had ranges are the same to-do.
use Rattle.std.proofs.Common.{◌≡◌, ◌∙◌, refl, ap, subst, ℕ, Bool, true, false, cond, ◌&&◌, not, List, [], ◌∷◌, ◌++◌, length, arith}
use Rattle.std.specs.Prelude.{nat_le, codes}
use Rattle.std.specs.List.{list_any}
use Rattle.std.specs.Str.{str_eq_ignore_ascii_case}
use Rattle.std.proofs.lemmas.Bool.{or_parts}
use Rattle.std.proofs.lemmas.Bool.Decides.{nat_tests}
use Rattle.itip_lines.specs.declared.line.Line.{Line}
use Rattle.itip_lines.specs.declared.line.Param.{Param}
use Rattle.itip_todo.specs.Limits.{before_ranges}
use Rattle.itip_todo.specs.Participation.{same_text, first_value, param_value}
use Rattle.itip_todo.specs.Reading.{IsGoodWithin, IsGoodAs, AreGoodWithin, AreGood, ReadsTodoWithin}
use Rattle.itip_todo.specs.Reading.{ReadsTodo, has_range, range_of, lines_of}
use Rattle.itip_todo.specs.Reading.{first_of}
use Rattle.itip_todo.specs.Table.{property_of, is_same}
use Rattle.itip_todo.specs.declared.property_name.PropertyName.{PropertyName}
use Rattle.itip_todo.specs.declared.property_name.PropertyName.TheVariants as name
use Rattle.itip_todo.specs.declared.todo.Todo.{Todo}

-- a line of which no RANGE was allowed has none that is bad
no_range : (a b c : Bool) → (a && (b && true)) ≡ false → (a && (b && c)) ≡ false
no_range false b c e = refl
no_range true false c e = refl
no_range true true c e = absurd cc

-- so few attendees are few enough
few_enough : (n : ℕ) → nat_le 500 n ≡ false → nat_le 2000 n ≡ false
few_enough n e = grind (arith, nat_tests, e)

few_attendees : (a : Bool) (n : ℕ) → (a && nat_le 500 n) ≡ false → (a && nat_le 2000 n) ≡ false
few_attendees false n e = refl
few_attendees true n e = few_enough n e

good_now : (above : PropertyName → List Line) (p : PropertyName) (line : Line) → IsGoodWithin before_ranges above p line →
    IsGoodAs above p line
good_now above p line good = record {
  once = good.once;
  range = no_range (is_same p name.RecurrenceId) (list_any (λ (param : Param). same_text param.name (codes "RANGE")) line.params)
      (not (has_range line)) good.range;
  value = good.value;
  few = few_attendees (is_same p name.Attendee) (length (above name.Attendee)) good.few;
  new = good.new;
}

are_good_now : (above lines : List Line) → AreGoodWithin before_ranges above lines → AreGood above lines
are_good_now above [] good = tt
are_good_now above (line ∷ lines) good = (
  good_now (lines_of above) (property_of line) line good.0,
  are_good_now (above ++ line ∷ []) lines good.1,
)

pub todo_now : (lines : List Line) (todo : Todo) → ReadsTodoWithin before_ranges lines todo → ReadsTodo lines todo
todo_now lines todo read = record {
  good = are_good_now [] lines read.good;
  uid = read.uid;
  stamp = read.stamp;
  seq = read.seq;
  base = read.base;
  rid = read.rid;
  range = read.range;
  start = read.start;
  due = read.due;
  status = read.status;
  percent = read.percent;
  priority = read.priority;
  summary = read.summary;
  organizer = read.organizer;
  attendees = read.attendees;
  rule = read.rule;
  rdates = read.rdates;
  exdates = read.exdates;
  others = read.others;
}

-- ---- and none of them had a range

abbrev has_any_range : Line → Bool
has_any_range line = list_any (λ (param : Param). same_text param.name (codes "RANGE")) line.params

-- of parameters of which none is RANGE, none has a value of it
no_value : (params : List Param) → list_any (λ (param : Param). same_text param.name (codes "RANGE")) params ≡ false →
    param_value (codes "RANGE") params ≡ []
no_value [] none = refl
no_value (param ∷ params) none =
    let parts = or_parts (same_text param.name (codes "RANGE")) (list_any (λ (param : Param). same_text param.name (codes "RANGE")) params)
    none in
    ap (λ (b : Bool). cond b (first_value param.values) (param_value (codes "RANGE") params)) parts.0 ∙ no_value params parts.1

no_range_in : (line : Line) → has_any_range line ≡ false → has_range line ≡ false
no_range_in line none = ap (λ (value : List ℕ). str_eq_ignore_ascii_case value (codes "THISANDFUTURE")) (no_value line.params none)

not_any : (b : Bool) → (b && true) ≡ false → b ≡ false
not_any true e = e
not_any false e = refl

no_range_among : (above lines : List Line) → AreGoodWithin before_ranges above lines →
    range_of (first_of (lines_of lines name.RecurrenceId)) ≡ false
no_range_among above [] good = refl
no_range_among above (line ∷ lines) good =
    elim (is_same (property_of line) name.RecurrenceId) as (λ (b : Bool). is_same (property_of line) name.RecurrenceId ≡ b →
    range_of (first_of (cond b (line ∷ lines_of lines name.RecurrenceId) (lines_of lines name.RecurrenceId))) ≡ false) [
      | true ↦ λ is. no_range_in line (not_any (has_any_range line)
          (subst (λ (b : Bool). (b && (has_any_range line && true)) ≡ false) is good.0.range))
      | false ↦ λ other. no_range_among (above ++ line ∷ []) lines good.1
    ] refl

pub no_range_before : (lines : List Line) (todo : Todo) → ReadsTodoWithin before_ranges lines todo → todo.range ≡ false
no_range_before lines todo read = read.range ∙ no_range_among [] lines read.good
