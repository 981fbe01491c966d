use Rattle.std.proofs.Common.{ℕ, ◌++◌, ap, sym, ◌∙◌}
use Rattle.std.specs.Prelude.{codes, Option}
use Rattle.std.specs.Fmt.{decimal}
use Rattle.std.proofs.lemmas.Result.{on_ok_weaker}
use Rattle.itip_page.specs.RowMarkup.{bar_markup}
use Rattle.itip_page.proofs.Putting.{five}
use Rattle.itip_page.proofs.row.put_bar.Goals as goal

pub returns : goal.returns
returns c =
    on_ok_weaker c.put-3.result (λ is.
    five c.args.out.now.items c.put.new.out.items c.put_number.new.out.items c.put-2.new.out.items c.put_number-2.new.out.items
    c.put-3.new.out.items (codes "<span class=\"bar\"><i style=\"width:") (decimal c.in-Some.progress) (codes "%\"></i></span> ")
    (decimal c.in-Some.progress) (codes "%") c.in_ok-put.ensures c.in_ok-put_number.ensures c.in_ok-put-2.ensures
    c.in_ok-put_number-2.ensures is ∙ ap (λ (o : Option ℕ). c.args.out.now.items ++ bar_markup o) (sym c.in-Some.is))
    c.put-3.ensures
