use Rattle.std.proofs.Common.{◌≡◌, Bool, ◌++◌, ap, ◌∙◌, arith, FitsSigned, w32, to_z-of_z}
use Rattle.std.specs.Prelude.{codes}
use Rattle.std.proofs.lemmas.Result.{on_ok_weaker}
use Rattle.std.proofs.lemmas.Int.{ints}
use Rattle.itip_view.specs.Wanted.{is_overdue}
use Rattle.itip_page.specs.RowMarkup.{opening_markup, dated_markup, done_markup}
use Rattle.itip_page.proofs.Putting.{four}
use Rattle.itip_page.proofs.row.put_row.Goals as goal

pub returns : goal.returns
returns c =
    let row = c.args.row.now in
    let today = c.args.today in
    let within = today.in_years in
    let fits : FitsSigned w32 today.number = omega (arith, ints) in
    let late = is_overdue today.number row in
    let is_late : c.is_overdue-is_late.result ≡ late = simp to_z-of_z at c.is_overdue-is_late.ensures in
    on_ok_weaker c.put.result (λ is.
    four c.args.out.now.items c.put_opening.new.out.items c.put_dated.new.out.items c.put_done.new.out.items c.put.new.out.items
    (opening_markup late) (dated_markup late row) (done_markup row) (codes "</tr>\n")
    (c.in_ok-put_opening.ensures ∙ ap (λ (b : Bool). c.args.out.now.items ++ opening_markup b) is_late)
    (c.in_ok-put_dated.ensures ∙ ap (λ (b : Bool). c.put_opening.new.out.items ++ dated_markup b row) is_late)
    c.in_ok-put_done.ensures is)
    c.put.ensures
