use Rattle.std.proofs.Common.{◌+◌, ◌≡◌, ◌<◌, ◌∷◌, length, get_or, drop, sym, ap, ◌∙◌, rules, add-one, drop-cons}
use Rattle.std.proofs.lemmas.List.{drop_all}
use Rattle.std.specs.List.{list_all}
use Rattle.itip_script.specs.Orders.{is_digit, digits_value}
use Rattle.itip_script.proofs.Digits.{number_refused, number_read}
use Rattle.itip_script.proofs.word.read_number.Goals as goal

pub returns-in_err-value : goal.returns-in_err-value
returns-in_err-value c =
    let word = c.args.word.now in
    let i = c.loop-b.b-index in
    let cut : drop i word ≡ get_or word i 0 ∷ drop (i + 1) word = rw add-one (drop-cons word i 0 c.loop-b-test.true) in
    c.from_residual.ensures ∙ sym (number_refused word c.loop-b.value (get_or word i 0) (drop (i + 1) word)
    (c.loop-b.invariant.0 ∙ ap (list_all is_digit) cut) (c.loop-b.invariant.1 ∙ ap (digits_value c.loop-b.value) cut)
    c.in_err-value.ensures)

pub returns : goal.returns
returns c =
    let word = c.args.word.now in
    let none = drop_all c.loop-b.b-index word c.loop-b-test.false in
    let some : 0 < length word = search rules in
    sym (number_read word c.loop-b.value some (rw none at c.loop-b.invariant.0) (rw none at c.loop-b.invariant.1) c.loop-b.invariant.2)
