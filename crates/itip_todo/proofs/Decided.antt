-- The value of a line is one that its property may have, or it is none.
use Rattle.std.proofs.Common.{◌≡◌, ◌≢◌, ◌∙◌, sym, ap, refl, ℕ, zero, suc, ◌+◌, ◌<◌, List, [], ◌∷◌, ◌++◌, length, arith, subst, inl, inr}
use Rattle.std.proofs.Common.{◌⊎◌, Option, Some, None, length-append}
use Rattle.std.specs.Prelude.{codes}
use Rattle.std.specs.Char.{digit_value}
use Rattle.std.specs.List.{All}
use Rattle.std.specs.Str.Parse.{AllDigits, digits_value, without_leading_plus}
use Rattle.std.proofs.lemmas.Bool.Decides.{leb_tells, eqb_tells}
use Rattle.std.proofs.lemmas.List.Elements.{All-nil, All-cons, All-head, All-tail}
use Rattle.itip_lines.specs.declared.line.Line.{Line}
use Rattle.itip_lines.specs.declared.line.Param.{Param}
use Rattle.itip_moment.specs.declared.moment.Moment.{Moment}
use Rattle.itip_moment.proofs.Decided.{Decided, decide_stamp, decide_moment}
use Rattle.itip_todo.specs.Drafts.{HasNoComma}
use Rattle.itip_todo.specs.Participation.{param_value}
use Rattle.itip_todo.specs.StatusText.{status_of}
use Rattle.itip_todo.specs.Table.{sequence_limit, percent_limit, priority_limit}
use Rattle.itip_todo.specs.Values.{AreNoughts, AreDigitsUpTo, IsNumberUpTo, IsMomentText, AreMoments, IsGoodValue}
use Rattle.itip_todo.specs.declared.property_name.PropertyName.{PropertyName}
use Rattle.itip_todo.specs.declared.property_name.PropertyName.TheVariants as name
use Rattle.itip_todo.specs.declared.status.Status.{Status}
use Rattle.itip_todo.proofs.Commas.{behind_comma, no_comma_one, with_first}

first_is : (x y : ℕ) (xs ys : List ℕ) → x ∷ xs ≡ y ∷ ys → (x ≡ y) × (xs ≡ ys)
first_is x y xs ys e = (cc, cc)

-- ---- numbers

all_noughts : (digits : List ℕ) → All (λ c. c ≡ 48) digits ⊎ (All (λ c. c ≡ 48) digits → ⊥)
all_noughts [] = inl (All-nil (λ c. c ≡ 48))
all_noughts (c ∷ digits) =
    elim (eqb_tells c 48) [
      | inr other ↦ inr (λ h. other.1 (All-head (λ x. x ≡ 48) c digits h))
      | inl nought ↦ elim (all_noughts digits) [
        | inl more ↦ inl (All-cons (λ x. x ≡ 48) c digits nought.1 more)
        | inr none ↦ inr (λ h. none (All-tail (λ x. x ≡ 48) c digits h))
      ]
    ]

are_noughts : (text : List ℕ) → AreNoughts text ⊎ (AreNoughts text → ⊥)
are_noughts [] = inr (λ h. let e = h.whole in cc)
are_noughts (b ∷ text) =
    elim (eqb_tells b 45) [
      | inr other ↦ inr (λ h. other.1 (first_is b 45 text h.noughts h.whole).0)
      | inl minus ↦ elim (leb_tells 1 (length text)) [
        | inr none ↦ inr (λ h. let same = ap length (first_is b 45 text h.noughts h.whole).1 in omega (arith, none.1, h.some, same))
        | inl some ↦ elim (all_noughts text) [
          | inl each ↦ inl (record { noughts = text; whole = ap (λ x. x ∷ text) minus.1; some = omega (arith, some.1); each = each })
          | inr other ↦ inr (λ h. other (subst (λ (t : List ℕ). All (λ c. c ≡ 48) t) (sym (first_is b 45 text h.noughts h.whole).1) h.each))
        ]
      ]
    ]

all_digits : (digits : List ℕ) → AllDigits 10 digits ⊎ (AllDigits 10 digits → ⊥)
all_digits [] = inl tt
all_digits (c ∷ digits) =
    elim (leb_tells (suc (digit_value c)) 10) [
      | inr other ↦ inr (λ h. omega (arith, other.1, h.0))
      | inl digit ↦ elim (all_digits digits) [
        | inl more ↦ inl (omega (arith, digit.1), more)
        | inr none ↦ inr (λ h. none h.1)
      ]
    ]

are_digits : (limit : ℕ) (text : List ℕ) → Decided (AreDigitsUpTo limit text)
are_digits limit text =
    elim (leb_tells 1 (length (without_leading_plus text))) [
      | inr none ↦ inr (λ n h. omega (arith, none.1, h.numeral.0))
      | inl some ↦ elim (all_digits (without_leading_plus text)) [
        | inr other ↦ inr (λ n h. other h.numeral.1)
        | inl digits ↦ elim (leb_tells (digits_value 10 (without_leading_plus text)) limit) [
          | inr over ↦ inr (λ n h. omega (arith, over.1, h.value, h.small))
          | inl small ↦ inl (
            digits_value 10 (without_leading_plus text),
            record { numeral = (omega (arith, some.1), digits); value = refl; small = small.1 },
          )
        ]
      ]
    ]

decide_number : (limit : ℕ) (text : List ℕ) → Decided (IsNumberUpTo limit text)
decide_number limit text =
    elim (are_noughts text) [
      | inl noughts ↦ inl (0, inl (noughts, refl))
      | inr no_noughts ↦ elim (are_digits limit text) [
        | inl digits ↦ inl (digits.0, inr digits.1)
        | inr no_digits ↦ inr (λ n h. elim h [ inl k ↦ no_noughts k.0 | inr k ↦ no_digits n k ])
      ]
    ]

-- ---- moments

record HasComma (text : List ℕ) : Type 0 where
  front : List ℕ
  rest : List ℕ
  whole : text ≡ front ++ 44 ∷ rest
  first : HasNoComma front

no_comma_cons : (c : ℕ) (text : List ℕ) → c ≢ 44 → HasNoComma text → HasNoComma (c ∷ text)
no_comma_cons c text other h zero less = other
no_comma_cons c text other h (suc i) less = h i (omega arith)

first_comma : (text : List ℕ) → HasComma text ⊎ HasNoComma text
first_comma [] = inr (λ i less. absurd (omega arith))
first_comma (c ∷ text) =
    elim (eqb_tells c 44) [
      | inl comma ↦ inl (record { front = []; rest = text; whole = ap (λ x. x ∷ text) comma.1; first = λ i less. absurd (omega arith) })
      | inr other ↦ elim (first_comma text) [
        | inl has ↦ inl (record {
          front = c ∷ has.front;
          rest = has.rest;
          whole = ap (λ t. c ∷ t) has.whole;
          first =
              no_comma_cons c has.front other.1 has.first;
        })
        | inr none ↦ inr (no_comma_cons c text other.1 none)
      ]
    ]

zone_of : List Param → Option (List ℕ)
zone_of params = Some (param_value (codes "TZID") params)

decide_moments : (fuel : ℕ) (params : List Param) (text : List ℕ) → length text < fuel → Decided (AreMoments params text)
unfolding zone_of
decide_moments zero params text h = absurd (omega arith)
decide_moments (suc fuel) params text h =
    elim (first_comma text) [
      | inr no_comma ↦ elim (decide_moment text (zone_of params)) [
        | inl m ↦ inl (m.0 ∷ [], m.1)
        | inr none ↦ inr (λ ms k. let one = no_comma_one params text ms no_comma k in none one.0 one.2)
      ]
      | inl comma ↦ elim (decide_moment comma.front (zone_of params)) [
        | inr none ↦ inr (λ ms k. let parts = behind_comma params text comma.front comma.rest ms comma.whole comma.first k in
            none parts.0 parts.3)
        | inl m ↦ elim (decide_moments fuel params comma.rest
            (omega (arith, h, ap length comma.whole, length-append comma.front (44 ∷ comma.rest)))) [
              | inr none ↦ inr (λ ms k. let parts = behind_comma params text comma.front comma.rest ms comma.whole comma.first k in
                  none parts.1 parts.4)
              | inl later ↦ inl (m.0 ∷ later.0, with_first params text comma.front comma.rest m.0 later.0 comma.whole m.1 later.1)
            ]
      ]
    ]

-- ---- all values

decide_status : (text : List ℕ) → Decided (λ (s : Status). status_of text ≡ Some s)
decide_status text = by (status_of text) refl
  where
    by : (o : Option Status) → status_of text ≡ o → Decided (λ (s : Status). status_of text ≡ Some s)
    by None e = inr (λ s k. let two : None ≡ Some s = sym e ∙ k in cc)
    by (Some s) e = inl (s, e)

some_or_none : {A : Type 0} (P : A → Type 0) → Decided P → ((a : A) × P a) ⊎ (((a : A) × P a) → ⊥)
some_or_none P (inl h) = inl h
some_or_none P (inr none) = inr (λ h. none h.0 h.1)

not_empty : (text : List ℕ) → (0 < length text) ⊎ ((0 < length text) → ⊥)
not_empty [] = inr (λ h. omega arith)
not_empty (b ∷ text) = inl (omega arith)

moment_in : (line : Line) → ((m : Moment) × IsMomentText line.params line.value m) ⊎
    (((m : Moment) × IsMomentText line.params line.value m) → ⊥)
unfolding zone_of
moment_in line = some_or_none (IsMomentText line.params line.value) (decide_moment line.value (zone_of line.params))

moments_in : (line : Line) → ((ms : List Moment) × AreMoments line.params line.value ms) ⊎
    (((ms : List Moment) × AreMoments line.params line.value ms) → ⊥)
moments_in line = some_or_none (AreMoments line.params line.value)
    (decide_moments (length line.value + 1) line.params line.value (omega arith))

number_in : (limit : ℕ) (line : Line) → ((n : ℕ) × IsNumberUpTo limit line.value n) ⊎ (((n : ℕ) × IsNumberUpTo limit line.value n) → ⊥)
number_in limit line = some_or_none (IsNumberUpTo limit line.value) (decide_number limit line.value)

pub decide_value : (p : PropertyName) (line : Line) → IsGoodValue p line ⊎ (IsGoodValue p line → ⊥)
decide_value name.Uid line = not_empty line.value
decide_value name.DtStamp line = some_or_none _ (decide_stamp line.value)
decide_value name.Sequence line = number_in sequence_limit line
decide_value name.DeskBase line = number_in sequence_limit line
decide_value name.RecurrenceId line = moment_in line
decide_value name.DtStart line = moment_in line
decide_value name.Due line = moment_in line
decide_value name.Status line = some_or_none _ (decide_status line.value)
decide_value name.PercentComplete line = number_in percent_limit line
decide_value name.Priority line = number_in priority_limit line
decide_value name.Summary line = inl tt
decide_value name.Organizer line = not_empty line.value
decide_value name.Attendee line = not_empty line.value
decide_value name.RRule line = inl tt
decide_value name.RDate line = moments_in line
decide_value name.ExDate line = moments_in line
decide_value name.Others line = inl tt
