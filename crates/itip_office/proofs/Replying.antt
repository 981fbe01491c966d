-- Answers side by side with their jobs.
use Rattle.std.proofs.Common.{◌≡◌, ℕ, ◌+◌, ◌<◌, List, [], ◌∷◌, ◌++◌, length, map, take, get_or, Bool, true, false, nat_lt, refl, sym, ap}
use Rattle.std.proofs.Common.{subst, ◌∙◌, arith, IsTrue}
use Rattle.std.specs.List.{IsAllAdjacentAnswer}
use Rattle.std.specs.List.Sorted.{IsStrictlyIncreasing}
use Rattle.std.proofs.lemmas.Bool.Decides.{nat_tests}
use Rattle.std.proofs.lemmas.List.{take_more, map-append, get_or-map, length-map}
use Rattle.itip_office.specs.declared.job.Job.{Job}
use Rattle.itip_office.specs.Answers.{Answer}

each_less : (j : Job) (js : List Job) → ((k : ℕ) (d : Job) → k + 1 < length (j ∷ js) →
    true ≡ nat_lt (get_or (j ∷ js) k d).number (get_or (j ∷ js) (k + 1) d).number)
    → (k : ℕ) → k + 1 < length (map (λ (x : Job). x.number) (j ∷ js)) →
    get_or (map (λ (x : Job). x.number) (j ∷ js)) k 0 < get_or (map (λ (x : Job). x.number) (j ∷ js)) (k + 1) 0
each_less j js each k low =
    let f : Job → ℕ = λ x. x.number in
    let same : length (map f (j ∷ js)) ≡ length (j ∷ js) = length-map (j ∷ js) f in
    let at : k + 1 < length (j ∷ js) = omega (arith, low, same) in
    let before : k < length (j ∷ js) = omega (arith, at) in
    let test = each k j at in
    let less : (get_or (j ∷ js) k j).number < (get_or (j ∷ js) (k + 1) j).number = grind (arith, nat_tests) in
    let one = get_or-map f (j ∷ js) k j 0 before in
    let next = get_or-map f (j ∷ js) (k + 1) j 0 at in
    omega (arith, less, one, next)

pub each_once : (jobs : List Job) (r : Bool) → IsAllAdjacentAnswer (λ (x y : Job) (b : Bool). b ≡ nat_lt x.number y.number) jobs r →
    IsTrue r → IsStrictlyIncreasing (map (λ (j : Job). j.number) jobs)
each_once [] r cases is_true = λ k low. absurd (omega (arith, low))
each_once (j ∷ js) true cases is_true = each_less j js cases
each_once (j ∷ js) false cases is_true = absurd (cc)

pub paired_more : (jobs : List Job) (answers : List Answer) (i : ℕ) (j : Job) (a : Answer) → i < length jobs → i < length answers →
    j ≡ get_or jobs i j → a ≡ get_or answers i a → j ≡ a.0
    → map (λ (x : Answer). x.0) (take i answers) ≡ take i jobs → map (λ (x : Answer). x.0) (take (i + 1) answers) ≡ take (i + 1) jobs
paired_more jobs answers i j a in_jobs in_answers j_is a_is same was =
    let f : Answer → Job = λ x. x.0 in
    let more_jobs : take (i + 1) jobs ≡ take i jobs ++ j ∷ [] = take_more jobs i j in_jobs ∙
    ap (λ (x : Job). take i jobs ++ x ∷ []) (sym j_is) in
    let more_answers : take (i + 1) answers ≡ take i answers ++ a ∷ [] = take_more answers i a in_answers ∙
    ap (λ (x : Answer). take i answers ++ x ∷ []) (sym a_is) in
    ap (map f) more_answers ∙ map-append f (take i answers) (a ∷ []) ∙ ap (λ (l : List Job). l ++ a.0 ∷ []) was ∙
    ap (λ (x : Job). take i jobs ++ x ∷ []) (sym same) ∙ sym more_jobs

map_both : (answers : List Answer) → map (λ (j : Job). j.number) (map (λ (a : Answer). a.0) answers) ≡ map (λ (a : Answer). a.0.number)
    answers
map_both [] = refl
map_both (a ∷ answers) = ap (λ (l : List ℕ). a.0.number ∷ l) (map_both answers)

pub ascend_answers : (jobs : List Job) (answers : List Answer) → map (λ (a : Answer). a.0) answers ≡ jobs →
    IsStrictlyIncreasing (map (λ (j : Job). j.number) jobs)
    → IsStrictlyIncreasing (map (λ (a : Answer). a.0.number) answers)
ascend_answers jobs answers are ascend = subst IsStrictlyIncreasing (sym (ap (map (λ (j : Job). j.number)) are) ∙ map_both answers) ascend

pub none_left : (answers : List Answer) → length answers ≡ 0 → answers ≡ []
none_left [] none = refl
none_left (a ∷ answers) none = absurd (omega (arith, none))
