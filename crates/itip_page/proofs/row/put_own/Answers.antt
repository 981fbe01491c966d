use Rattle.std.proofs.Common.{ℕ, ◌++◌, ap, sym, ◌∙◌}
use Rattle.std.specs.Prelude.{codes, Option}
use Rattle.std.specs.Fmt.{decimal}
use Rattle.std.proofs.lemmas.Result.{on_ok_weaker}
use Rattle.itip_page.specs.RowMarkup.{own_markup}
use Rattle.itip_page.proofs.Putting.{three}
use Rattle.itip_page.proofs.row.put_own.Goals as goal

pub returns : goal.returns
returns c =
    on_ok_weaker c.put-2.result (λ is.
    three c.args.out.now.items c.put.new.out.items c.put_number.new.out.items c.put-2.new.out.items
    (codes " <small>organizer: ") (decimal c.in-Some.percent) (codes "%</small>") c.in_ok-put.ensures c.in_ok-put_number.ensures is ∙
    ap (λ (o : Option ℕ). c.args.out.now.items ++ own_markup o) (sym c.in-Some.is))
    c.put-2.ensures
