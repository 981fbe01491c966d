-- What a line says with one more byte.
use Rattle.std.proofs.Common.{◌≡◌, ◌∙◌, sym, ap, refl, subst, ℕ, suc, ◌+◌, ◌<◌, false, List, [], ◌∷◌, ◌++◌, length, map, take}
use Rattle.std.proofs.Common.{get_or, inl, inr, arith, append_assoc, append-nil}
use Rattle.std.specs.Prelude.{codes}
use Rattle.std.specs.Char.{to_ascii_uppercase}
use Rattle.std.specs.Cmp.Lexicographic.{same_text as same_list}
use Rattle.std.proofs.lemmas.Bool.{cases_Bool}
use Rattle.std.proofs.lemmas.List.{length-append, length-map, map-append, take_at}
use Rattle.std.proofs.lemmas.Str.Ascii.{uppercase-uppercase}
use Rattle.itip_todo.specs.Participation.{same_text}
use Rattle.itip_message.specs.Begun.{SaysTheSame, something_else, IsSaid}

abbrev upper : List ℕ → List ℕ
upper text = map to_ascii_uppercase text

upper_at : (text : List ℕ) (b : ℕ) (more : List ℕ) → get_or (upper (text ++ b ∷ more)) (length text) 0 ≡ to_ascii_uppercase b
upper_at [] b more = refl
upper_at (c ∷ text) b more = upper_at text b more

octet_at : (text : List ℕ) (b : ℕ) (more : List ℕ) → get_or (text ++ b ∷ more) (length text) 0 ≡ b
octet_at [] b more = refl
octet_at (c ∷ text) b more = octet_at text b more

some_text : (text : List ℕ) (b : ℕ) (more : List ℕ) → same_text (upper (text ++ b ∷ more)) [] ≡ false
some_text [] b more = refl
some_text (c ∷ text) b more = refl

-- a byte that isn't the next of END:VCALENDAR
pub says_else : (text : List ℕ) (b : ℕ) → (length text < 13 → get_or (codes "END:VCALENDAR") (length text) 0 ≡ to_ascii_uppercase b → ⊥)
    → (more : List ℕ) → SaysTheSame (text ++ b ∷ more) (something_else ++ more)
says_else text b other more = record {
  ends = elim (cases_Bool (same_text (upper (text ++ b ∷ more)) (codes "END:VCALENDAR"))) [
    | inl is ↦
        let same : upper (text ++ b ∷ more) ≡ codes "END:VCALENDAR" =
        same_list (upper (text ++ b ∷ more)) (codes "END:VCALENDAR") (sym is) in
        let all : length (upper (text ++ b ∷ more)) ≡ 13 = ap length same in
        let long : length (upper (text ++ b ∷ more)) ≡ length (text ++ b ∷ more) = length-map (text ++ b ∷ more) to_ascii_uppercase in
        let parts : length (text ++ b ∷ more) ≡ length text + suc (length more) = length-append text (b ∷ more) in
        absurd (other (omega (arith, all, long, parts)) (ap (λ (t : List ℕ). get_or t (length text) 0) (sym same) ∙ upper_at text b more))
    | inr differs ↦ differs
  ];
  empty = some_text text b more;
}

-- the next byte of END:VCALENDAR, in any case
module _ (text : List ℕ) (b : ℕ) (other : List ℕ) (short : length text < 13)
    (at : get_or (codes "END:VCALENDAR") (length text) 0 ≡ to_ascii_uppercase b)
    (taken : other ≡ take (length text + 1) (codes "END:VCALENDAR")) where
  module _ (next : ℕ) (rest : List ℕ) (is : codes "END:VCALENDAR" ≡ text ++ next ∷ rest) where
    next_is : next ≡ to_ascii_uppercase b
    next_is = sym (octet_at text next rest) ∙ ap (λ (t : List ℕ). get_or t (length text) 0) (sym is) ∙ at

    parts : codes "END:VCALENDAR" ≡ (text ++ next ∷ []) ++ rest
    parts = is ∙ sym (append_assoc text (next ∷ []) rest)

    other_is : other ≡ text ++ next ∷ []
    other_is =
        let long : length (text ++ next ∷ []) ≡ length text + 1 = length-append text (next ∷ []) in
        taken ∙ ap (λ (t : List ℕ). take (length text + 1) t) parts ∙ take_at (text ++ next ∷ []) rest (length text + 1) long

    same_upper : (more : List ℕ) → upper (text ++ b ∷ more) ≡ upper ((text ++ next ∷ []) ++ more)
    same_upper more =
        map-append to_ascii_uppercase text (b ∷ more) ∙
        ap (λ (c : ℕ). upper text ++ c ∷ upper more) (sym (ap to_ascii_uppercase next_is ∙ uppercase-uppercase b)) ∙
        sym (map-append to_ascii_uppercase text (next ∷ more)) ∙ ap upper (sym (append_assoc text (next ∷ []) more))

    is_said : IsSaid other
    is_said = subst IsSaid (sym other_is) (inr (rest, parts))

    says : (more : List ℕ) → SaysTheSame (text ++ b ∷ more) (other ++ more)
    says more = subst (λ (t : List ℕ). SaysTheSame (text ++ b ∷ more) (t ++ more)) (sym other_is) (record {
      ends = ap (λ (t : List ℕ). same_text t (codes "END:VCALENDAR")) (same_upper more);
      empty = ap (λ (t : List ℕ). same_text t []) (same_upper more);
    })

  pub says_next : IsSaid text → IsSaid other × ((more : List ℕ) → SaysTheSame (text ++ b ∷ more) (other ++ more))
  says_next (inl is) = absurd (let long : length text ≡ 14 = ap length is in omega (arith, long, short))
  says_next (inr ([], is)) =
      absurd (let all : 13 ≡ length (text ++ []) = ap length is in
      let none : length (text ++ []) ≡ length text = ap length (append-nil text) in omega (arith, all, none, short))
  says_next (inr (next ∷ rest, is)) = (is_said next rest is, says next rest is)
