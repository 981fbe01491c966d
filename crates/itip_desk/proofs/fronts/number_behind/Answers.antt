use Rattle.std.proofs.Common.{◌≡◌, ◌∙◌, ◌++◌, List, ℕ, true, sym, ap, subst}
use Rattle.std.specs.List.{list_all}
use Rattle.itip_desk.specs.DeskFile.{is_digit, HasNumber}
use Rattle.itip_desk.specs.FileReading.{IsValue}
use Rattle.itip_desk.proofs.FileNumbers.{taken_digits, number_made, number_parts}
use Rattle.itip_desk.proofs.fronts.number_behind.Goals as goal

pub returns-in_err-value-clause-none : goal.returns-in_err-value-clause-none
returns-in_err-value-clause-none c =
    rw c.from_residual.ensures (λ number after h. c.in_err-value.ensures.none (h.digits ++ after)
    (h.whole ∙ ap (λ (t : List ℕ). t ++ (h.digits ++ after)) (sym c.as_bytes.ensures.value)))

pub returns-in_err-number-clause-none : goal.returns-in_err-number-clause-none
returns-in_err-number-clause-none c =
    let value = c.in_ok-value.value.now in
    let digits = sym c.split_digits.ensures.digits in
    let whole = c.in_ok-value.ensures.found ∙ ap (λ (t : List ℕ). t ++ value) c.as_bytes.ensures.value in
    rw c.from_residual-in_err-number.ensures (λ number after h. c.in_err-number.ensures.none
    (subst (λ (ds : List ℕ). list_all is_digit ds ≡ true) digits (taken_digits value)) number
    (subst (λ (ds : List ℕ). IsValue ds number) digits (number_parts c.args.octets.now c.args.name.now value number after whole h)))

pub returns-clause-found : goal.returns-clause-found
returns-clause-found c =
    let value = c.in_ok-value.value.now in
    let digits = c.split_digits.ensures.digits in
    let whole = c.in_ok-value.ensures.found ∙ ap (λ (t : List ℕ). t ++ value) c.as_bytes.ensures.value in
    let is = c.in_ok-number.ensures.found
    (subst (λ (ds : List ℕ). list_all is_digit ds ≡ true) (sym digits) (taken_digits value)) in
    subst (λ (after : List ℕ). HasNumber c.args.octets.now c.args.name.now c.in_ok-number.number after) (sym c.split_digits.ensures.after)
    (number_made c.args.octets.now c.args.name.now value c.in_ok-number.number whole
    (subst (λ (ds : List ℕ). IsValue ds c.in_ok-number.number) digits is))
