use Rattle.std.proofs.Common.{List, ℕ, ◌++◌, ap, ◌∙◌}
use Rattle.std.specs.Prelude.{codes}
use Rattle.std.proofs.lemmas.Result.{on_ok_weaker}
use Rattle.itip_page.specs.Escaped.{escaped}
use Rattle.itip_page.specs.RowMarkup.{name_markup}
use Rattle.itip_page.proofs.Putting.{five}
use Rattle.itip_page.proofs.row.put_name_cell.Goals as goal

pub returns : goal.returns
returns c =
    on_ok_weaker c.put-3.result (λ is.
    five c.args.out.now.items c.put.new.out.items c.put_escaped.new.out.items c.put-2.new.out.items c.put_name.new.out.items
    c.put-3.new.out.items (codes "<th scope=\"row\" title=\"") (escaped c.args.row.now.uid) (codes "\"><bdi>")
    (name_markup c.args.row.now) (codes "</bdi></th>") c.in_ok-put.ensures
    (c.in_ok-put_escaped.ensures.ok ∙
    ap (λ (t : List ℕ). c.put.new.out.items ++ escaped t) (c.as_bytes-uid.ensures.value ∙ c.as_str.ensures))
    c.in_ok-put-2.ensures c.in_ok-put_name.ensures is)
    c.put-3.ensures
