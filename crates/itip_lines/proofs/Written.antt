-- Writing piece by piece is folding all at once.
use Rattle.std.proofs.Common.{◌≡◌, ◌∙◌, sym, ap, refl, ℕ, ◌+◌, ◌≤◌, ◌<◌, Bool, true, false, cond, nat_lt, List, [], ◌∷◌, ◌++◌, length}
use Rattle.std.proofs.Common.{arith, subst, append_assoc, Ok, Err}
use Rattle.std.specs.Prelude.{Result, OnOk, is_ok}
use Rattle.std.proofs.lemmas.Bool.Decides.{nat_tests}
use Rattle.std.specs.List.{list_any}
use Rattle.itip_lines.specs.Octets.{is_separator}
use Rattle.itip_lines.specs.Lawful.{value_text, param_text, params_text}
use Rattle.itip_lines.specs.declared.line.Param.{Param}
use Rattle.std.proofs.lemmas.List.{append-nil}
use Rattle.itip_lines.specs.Writing.{following, fits, folded, Writes, Extends}

pub writes_none : (old : List ℕ) (used : ℕ) → used ≤ 75 → Writes old used [] old used
writes_none old used h = record { within = h; on = λ more. refl }

pub writes_then : (old : List ℕ) (used : ℕ) (a mid : List ℕ) (at : ℕ) (b new : List ℕ) (now : ℕ) → Writes old used a mid at →
    Writes mid at b new now → Writes old used (a ++ b) new now
writes_then old used a mid at b new now first second = record {
  within = second.within;
  on = λ more. second.on more ∙ first.on (b ++ more) ∙ ap (λ t. old ++ folded used t) (sym (append_assoc a b more));
}

pub writes_fit : (old : List ℕ) (used b : ℕ) → used + 1 + following b ≤ 75 → Writes old used (b ∷ []) (old ++ b ∷ []) (used + 1)
writes_fit old used b h = record {
  within = omega arith;
  on = λ more. append_assoc old (b ∷ []) (folded (used + 1) more) ∙ ap (λ t. old ++ t) (stands more);
}
  where
    does_fit : fits used b ≡ true
    does_fit = grind (arith, nat_tests)

    stands : (more : List ℕ) → b ∷ folded (used + 1) more ≡ folded used (b ∷ more)
    stands more = rw does_fit refl

pub writes_fold : (old : List ℕ) (used b : ℕ) → 75 < used + 1 + following b →
    Writes old used (b ∷ []) (old ++ 13 ∷ (10 ∷ (32 ∷ (b ∷ [])))) 2
writes_fold old used b h = record {
  within = omega arith;
  on = λ more. append_assoc old (13 ∷ (10 ∷ (32 ∷ (b ∷ [])))) (folded 2 more) ∙ ap (λ t. old ++ t) (stands more);
}
  where
    does_not : fits used b ≡ false
    does_not = grind (arith, nat_tests)

    stands : (more : List ℕ) → 13 ∷ (10 ∷ (32 ∷ (b ∷ folded 2 more))) ≡ folded used (b ∷ more)
    stands more = rw does_not refl

at_most_three : (b : ℕ) → following b ≤ 3
at_most_three b = by (nat_lt b 192) (nat_lt b 224) (nat_lt b 240)
  where
    by : (x y z : Bool) → cond x 0 (cond y 1 (cond z 2 3)) ≤ 3
    by true y z = omega arith
    by false true z = omega arith
    by false false true = omega arith
    by false false false = omega arith

-- what is sure to fit on the piece is written as it is
pub writes_whole : (old : List ℕ) (used : ℕ) (bs : List ℕ) (now : ℕ) → now ≡ used + length bs → now + 3 ≤ 75 →
    Writes old used bs (old ++ bs) now
writes_whole old used [] now e h =
    subst (λ (n : ℕ). Writes old used [] (old ++ []) n) (let same : used ≡ now = omega (arith, e) in same)
    (subst (λ (new : List ℕ). Writes old used [] new used) (sym (append-nil old)) (writes_none old used (omega (arith, e))))
writes_whole old used (b ∷ bs) now e h =
    let first = writes_fit old used b (omega (arith, e, at_most_three b)) in
    let others = writes_whole (old ++ b ∷ []) (used + 1) bs now (omega (arith, e)) h in
    let all = writes_then old used (b ∷ []) (old ++ b ∷ []) (used + 1) bs ((old ++ b ∷ []) ++ bs) now first others in
    subst (λ (new : List ℕ). Writes old used (b ∷ bs) new now) (append_assoc old (b ∷ []) bs) all

pub extends_then : (a b c : List ℕ) → Extends a b → Extends b c → Extends a c
extends_then a b c (t, e) (u, f) = (t ++ u, f ∙ ap (λ x. x ++ u) e ∙ append_assoc a t u)

-- the text of parameters
pub params_more : (ps : List Param) (p : Param) → params_text (ps ++ p ∷ []) ≡ params_text ps ++ param_text p
params_more [] p = append-nil (param_text p)
params_more (q ∷ ps) p = ap (λ t. param_text q ++ t) (params_more ps p) ∙ sym (append_assoc (param_text q) (params_text ps) (param_text p))

pub params_append : (ps qs : List Param) → params_text (ps ++ qs) ≡ params_text ps ++ params_text qs
params_append [] qs = refl
params_append (p ∷ ps) qs =
    ap (λ t. param_text p ++ t) (params_append ps qs) ∙ sym (append_assoc (param_text p) (params_text ps) (params_text qs))

-- one parameter with one value
pub param_appended : (old a b c new : List ℕ) (name value : List ℕ) → a ≡ old ++ 59 ∷ [] → b ≡ a ++ name → c ≡ b ++ 61 ∷ [] →
    new ≡ c ++ value_text value → new ≡ old ++ params_text ((record { name = name; values = value ∷ [] }) ∷ [])
param_appended old a b c new name value first second third fourth =
    fourth ∙ ap (λ t. t ++ value_text value) (third ∙ ap (λ t. t ++ 61 ∷ []) (second ∙ ap (λ t. t ++ name) first))
    ∙ append_assoc ((old ++ 59 ∷ []) ++ name) (61 ∷ []) (value_text value)
    ∙ append_assoc (old ++ 59 ∷ []) name (61 ∷ value_text value)
    ∙ append_assoc old (59 ∷ []) (name ++ 61 ∷ value_text value)
    ∙ ap (λ t. old ++ t) (sym (append-nil (59 ∷ (name ++ 61 ∷ value_text value))))

-- a name in front of values
pub name_appended : (old a b new name : List ℕ) → a ≡ old ++ 59 ∷ [] → b ≡ a ++ name → new ≡ b ++ 61 ∷ [] →
    new ≡ old ++ 59 ∷ (name ++ 61 ∷ [])
name_appended old a b new name first second third =
    third ∙ ap (λ t. t ++ 61 ∷ []) (second ∙ ap (λ t. t ++ name) first)
    ∙ append_assoc (old ++ 59 ∷ []) name (61 ∷ [])
    ∙ append_assoc old (59 ∷ []) (name ++ 61 ∷ [])

-- a value without quotes, and one in quotes
pub plain_appended : {A E : Type 0} (r : Result A E) (old new value : List ℕ) → list_any is_separator value ≡ false →
    new ≡ cond (is_ok r) (old ++ value) old → OnOk r (new ≡ old ++ value_text value)
plain_appended (Ok x) old new value plain e = rw plain e
plain_appended (Err x) old new value plain e = tt

pub quoted_appended : (old a b new value : List ℕ) → list_any is_separator value ≡ true → a ≡ old ++ 34 ∷ [] → b ≡ a ++ value →
    new ≡ b ++ 34 ∷ [] → new ≡ old ++ value_text value
quoted_appended old a b new value needs first second third =
    rw needs (third ∙ ap (λ t. t ++ 34 ∷ []) (second ∙ ap (λ t. t ++ value) first) ∙ append_assoc (old ++ 34 ∷ []) value (34 ∷ [])
    ∙ append_assoc old (34 ∷ []) (value ++ 34 ∷ []))

-- a whole line and its break
parts_wrote : (old name params value m : List ℕ) (i : ℕ) (n : List ℕ) (j : ℕ) (k : List ℕ) (l : ℕ) (all : List ℕ) (now : ℕ) (new : List ℕ)
    → Writes old 0 name m i → Writes m i params n j → Writes n j (58 ∷ []) k l → Writes k l value all now → new ≡ all ++ 13 ∷ (10 ∷ []) →
    new ≡ old ++ folded 0 (name ++ (params ++ 58 ∷ value))
parts_wrote old name params value m i n j k l all now new first second third fourth ended =
    let whole : Writes old 0 (name ++ (params ++ 58 ∷ value)) all now =
    writes_then old 0 name m i (params ++ 58 ∷ value) all now first
    (writes_then m i params n j (58 ∷ value) all now second (writes_then n j (58 ∷ []) k l value all now third fourth)) in
    ended ∙ whole.on [] ∙ ap (λ t. old ++ folded 0 t) (append-nil (name ++ (params ++ 58 ∷ value)))

-- the same where the break is the last call
pub parts_ended : {A E : Type 0} (r : Result A E) (old name params value m : List ℕ) (i : ℕ) (n : List ℕ) (j : ℕ) (k : List ℕ) (l : ℕ)
    (all : List ℕ) (now : ℕ) (new : List ℕ)
    → Writes old 0 name m i → Writes m i params n j → Writes n j (58 ∷ []) k l → Writes k l value all now →
    new ≡ cond (is_ok r) (all ++ 13 ∷ (10 ∷ [])) all → OnOk r (new ≡ old ++ folded 0 (name ++ (params ++ 58 ∷ value)))
parts_ended (Ok x) old name params value m i n j k l all now new first second third fourth ended =
    parts_wrote old name params value m i n j k l all now new first second third fourth ended
parts_ended (Err e) old name params value m i n j k l all now new first second third fourth ended = tt
