use Rattle.std.proofs.Common.{◌≡◌, ℕ, List, ◌++◌, length, drop, arith, sym, ap, ◌∙◌, codes}
use Rattle.std.proofs.lemmas.List.{take-append-drop}
use Rattle.itip_words.proofs.MomentNames.{no_time}
use Rattle.itip_words.proofs.asked_values.zone_and_time.Goals as goal

pub returns-in_err-time : goal.returns-in_err-time
unfolding lib.Utf8.encode
returns-in_err-time c =
    let rest = c.in_ok-rest.rest.now in
    let at = c.in_ok-checked_sub.field-0 in
    let strips = c.in_ok-rest.ensures.cases in
    let ends = c.in_ok-zone.ensures in
    let parts : rest ≡ c.in_ok-zone.zone.now ++ c.in_ok-zone.end.now = sym (take-append-drop at rest) ∙
    ap (λ (front : List ℕ). front ++ drop at rest) (sym ends.front) ∙
    ap (λ (back : List ℕ). c.in_ok-zone.zone.now ++ back) (sym ends.back) in
    let size : length c.in_ok-zone.end.now ≡ 16 = omega (arith, ends.back_len, c.in_ok-checked_sub.ensures) in
    rw c.from_residual-in_err-time.ensures
    (no_time c.args.text.now rest c.in_ok-zone.zone.now c.in_ok-zone.end.now
    (strips.1.1 ∙ ap (λ (t : List ℕ). codes "TZID=" ++ t) (sym strips.2)) parts size c.in_err-time.ensures.cases)
