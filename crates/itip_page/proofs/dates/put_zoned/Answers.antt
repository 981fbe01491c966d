use Rattle.std.proofs.Common.{List, ℕ, ◌++◌, ap, ◌∙◌}
use Rattle.std.specs.Prelude.{codes}
use Rattle.std.proofs.lemmas.Result.{on_ok_weaker}
use Rattle.itip_page.specs.Escaped.{escaped}
use Rattle.itip_page.specs.Dates.{local_markup}
use Rattle.itip_page.proofs.Putting.{four}
use Rattle.itip_page.proofs.dates.put_zoned.Goals as goal

pub returns : goal.returns
returns c =
    on_ok_weaker c.put-2.result (λ is.
    four c.args.out.now.items c.put_local.new.out.items c.put.new.out.items c.put_escaped.new.out.items c.put-2.new.out.items
    (local_markup c.args.stamp.now) (codes " <small><bdi>") (escaped c.args.zone.now.bytes) (codes "</bdi></small>")
    c.in_ok-put_local.ensures c.in_ok-put.ensures
    (c.in_ok-put_escaped.ensures.ok ∙
    ap (λ (t : List ℕ). c.put.new.out.items ++ escaped t) (c.as_bytes.ensures.value ∙ c.as_str.ensures)) is)
    c.put-2.ensures
