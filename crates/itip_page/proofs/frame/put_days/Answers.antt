use Rattle.std.proofs.Common.{◌≡◌, ◌++◌, ap, ◌∙◌, ℤ, pos, ◌-ℤ◌, arith, FitsSigned, w32, to_z-of_z}
use Rattle.std.specs.Prelude.{codes}
use Rattle.std.proofs.lemmas.Int.{ints}
use Rattle.std.proofs.lemmas.Result.{on_ok_weaker}
use Rattle.itip_page.specs.Dates.{day_text}
use Rattle.itip_page.specs.Page.{nearest}
use Rattle.itip_page.proofs.Putting.{three}
use Rattle.itip_page.proofs.frame.put_days.Goals as goal

pub returns : goal.returns
returns c =
    let from = c.args.window.from in
    let last = c.args.window.to -ℤ pos 1 in
    let lawful = c.args.window.lawful in
    let from_fits : FitsSigned w32 from = omega (arith, ints) in
    let to_fits : FitsSigned w32 c.args.window.to = omega (arith, ints) in
    let last_fits : FitsSigned w32 last = omega (arith, ints) in
    let at_from : c.nearest.result.number ≡ nearest from = simp to_z-of_z at c.nearest.ensures in
    let at_last : c.nearest-2.result.number ≡ nearest last = simp to_z-of_z at c.nearest-2.ensures in
    on_ok_weaker c.put_day-2.result (λ is.
    three c.args.out.now.items c.put_day.new.out.items c.put.new.out.items c.put_day-2.new.out.items (day_text (nearest from))
    (codes " to ") (day_text (nearest last))
    (c.in_ok-put_day.ensures ∙ ap (λ (number : ℤ). c.args.out.now.items ++ day_text number) at_from) c.in_ok-put.ensures
    (is ∙ ap (λ (number : ℤ). c.put.new.out.items ++ day_text number) at_last))
    c.put_day-2.ensures
