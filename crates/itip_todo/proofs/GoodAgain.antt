-- Nothing is wrong with lines if each property that may appear once appears at most once, each value is good, and no two attendees
-- are the same.
use Rattle.std.proofs.Common.{◌≡◌, ◌∙◌, ap, refl, sym, subst, ℕ, ◌<◌, ◌≤◌, Bool, true, false, cond, ◌&&◌, ◌||◌, List, [], ◌∷◌, ◌++◌, length}
use Rattle.std.proofs.Common.{append_assoc, length-append, arith, map}
use Rattle.std.specs.Prelude.{nat_le}
use Rattle.std.specs.Option.{is_some}
use Rattle.std.specs.List.{AllByRecursion, IsDistinct, list_any}
use Rattle.std.proofs.lemmas.Cmp.{nat_list_eq_equiv}
use Rattle.std.proofs.lemmas.List.Elements.{filter-append}
use Rattle.std.proofs.lemmas.List.{map-append}
use Rattle.itip_lines.specs.declared.line.Line.{Line}
use Rattle.itip_todo.specs.Participation.{same_text}
use Rattle.itip_todo.specs.Reading.{lines_of, first_of, is_twice, has_bad_range, is_too_many, is_same_attendee, key_of, IsGood, AreGood}
use Rattle.itip_todo.specs.Table.{property_of, is_same, stands_once, attendee_limit}
use Rattle.itip_todo.specs.Values.{IsGoodValue}
use Rattle.itip_todo.specs.declared.property_name.PropertyName.{PropertyName}
use Rattle.itip_todo.specs.declared.property_name.PropertyName.TheVariants as name
use Rattle.itip_todo.proofs.ByProperty.{same_itself}
use Rattle.itip_todo.proofs.Names.{same_is}

-- what is to be known of all lines together
pub record AreFewEach (whole : List Line) : Type 0 where
  pub once : (p : PropertyName) → stands_once p ≡ true → length (lines_of whole p) ≤ 1
  pub few : length (lines_of whole name.Attendee) ≤ attendee_limit
  pub apart : IsDistinct same_text (map key_of (lines_of whole name.Attendee))

-- what is to be known of each line
pub record IsGoodAlone (line : Line) : Type 0 where
  pub range : has_bad_range (property_of line) line ≡ false
  pub value : IsGoodValue (property_of line) line

here_first : (line : Line) (lines : List Line) → lines_of (line ∷ lines) (property_of line) ≡ line ∷ lines_of lines (property_of line)
here_first line lines =
    ap (λ (b : Bool). cond b (line ∷ lines_of lines (property_of line)) (lines_of lines (property_of line)))
    (same_itself (property_of line))

split : (above lines : List Line) (line : Line) →
    lines_of (above ++ line ∷ lines) (property_of line) ≡ lines_of above (property_of line) ++ line ∷ lines_of lines (property_of line)
split above lines line =
    filter-append (λ (l : Line). is_same (property_of l) (property_of line)) above (line ∷ lines)
    ∙ ap (λ (ls : List Line). lines_of above (property_of line) ++ ls) (here_first line lines)

none_first : (ls rest : List Line) (line : Line) → length (ls ++ line ∷ rest) ≤ 1 → is_some (first_of ls) ≡ false
none_first [] rest line h = refl
none_first (l ∷ ls) rest line h = absurd (let n = length-append ls (line ∷ rest) in omega arith)

not_over : (n : ℕ) → n < attendee_limit → nat_le attendee_limit n ≡ false
not_over n h = grind (arith)

-- of texts that are apart, none is the one after them
apart_from : (key : List ℕ) (keys rest : List (List ℕ)) → IsDistinct same_text (keys ++ key ∷ rest) → list_any (same_text key) keys ≡ false
unfolding IsDistinct
apart_from key [] rest h = refl
apart_from key (k ∷ keys) rest h =
    let here : same_text k key ≡ false = last keys h.0 in
    ap (λ (b : Bool). b || list_any (same_text key) keys) (nat_list_eq_equiv.symm key k ∙ here) ∙ apart_from key keys rest h.1
  where
    last : (ks : List (List ℕ)) → AllByRecursion (λ y. same_text k y ≡ false) (ks ++ key ∷ rest) → same_text k key ≡ false
    last [] g = g.0
    last (x ∷ ks) g = last ks g.1

module _ (whole above lines : List Line) (line : Line) (e : whole ≡ above ++ line ∷ lines) (each : AreFewEach whole) where
  here : lines_of whole (property_of line) ≡ lines_of above (property_of line) ++ line ∷ lines_of lines (property_of line)
  here = ap (λ (ls : List Line). lines_of ls (property_of line)) e ∙ split above lines line

  not_twice : is_twice (lines_of above) (property_of line) ≡ false
  not_twice = elim (stands_once (property_of line)) as (λ b. stands_once (property_of line) ≡ b →
      (b && is_some (first_of (lines_of above (property_of line)))) ≡ false) [
        | true ↦ λ once. none_first (lines_of above (property_of line)) (lines_of lines (property_of line)) line
            (subst (λ (ls : List Line). length ls ≤ 1) here (each.once (property_of line) once))
        | false ↦ λ _. refl
      ] refl

  attendees : property_of line ≡ name.Attendee → lines_of whole name.Attendee ≡ lines_of above name.Attendee ++ line ∷
      lines_of lines name.Attendee
  attendees is = subst (λ (p : PropertyName). lines_of whole p ≡ lines_of above p ++ line ∷ lines_of lines p) is here

  not_many : is_too_many (lines_of above) (property_of line) ≡ false
  not_many = elim (is_same (property_of line) name.Attendee) as (λ b. is_same (property_of line) name.Attendee ≡ b →
      (b && nat_le attendee_limit (length (lines_of above name.Attendee))) ≡ false) [
        | true ↦ λ yes.
            let two = length-append (lines_of above name.Attendee) (line ∷ lines_of lines name.Attendee) in
            let all : length (lines_of whole name.Attendee) ≡ length (lines_of above name.Attendee ++ line ∷ lines_of lines name.Attendee) =
            ap length (attendees (same_is (property_of line) name.Attendee yes)) in
            let few : length (lines_of whole name.Attendee) ≤ attendee_limit = each.few in
            not_over (length (lines_of above name.Attendee)) (omega arith)
        | false ↦ λ _. refl
      ] refl

  not_again : is_same_attendee (lines_of above) (property_of line) line ≡ false
  not_again = elim (is_same (property_of line) name.Attendee) as (λ b. is_same (property_of line) name.Attendee ≡ b →
      (b && list_any (same_text (key_of line)) (map key_of (lines_of above name.Attendee))) ≡ false) [
        | true ↦ λ yes.
            let all : map key_of (lines_of whole name.Attendee) ≡ map key_of (lines_of above name.Attendee) ++ key_of line ∷
            map key_of (lines_of lines name.Attendee) =
            ap (map key_of) (attendees (same_is (property_of line) name.Attendee yes)) ∙
            map-append key_of (lines_of above name.Attendee) (line ∷ lines_of lines name.Attendee) in
            apart_from (key_of line) (map key_of (lines_of above name.Attendee)) (map key_of (lines_of lines name.Attendee))
            (subst (λ (ks : List (List ℕ)). IsDistinct same_text ks) all each.apart)
        | false ↦ λ _. refl
      ] refl

  is_good : IsGoodAlone line → IsGood above line
  is_good alone = record { once = not_twice; range = alone.range; value = alone.value; few = not_many; new = not_again }

good_behind : (whole above lines : List Line) → whole ≡ above ++ lines → AreFewEach whole → AllByRecursion IsGoodAlone lines →
    AreGood above lines
good_behind whole above [] e each alone = tt
good_behind whole above (line ∷ lines) e each alone = (
  is_good whole above lines line e each alone.0,
  good_behind whole (above ++ line ∷ []) lines (e ∙ sym (append_assoc above (line ∷ []) lines)) each alone.1,
)

pub are_good : (lines : List Line) → AreFewEach lines → AllByRecursion IsGoodAlone lines → AreGood [] lines
are_good lines each alone = good_behind lines [] lines refl each alone
