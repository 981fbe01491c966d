use Rattle.std.specs.Prelude.{codes}
use Rattle.std.proofs.lemmas.Result.{on_ok_weaker}
use Rattle.itip_page.specs.Dates.{day_text}
use Rattle.itip_page.specs.Page.{count_text}
use Rattle.itip_page.proofs.Putting.{five}
use Rattle.itip_page.proofs.frame.put_counted.Goals as goal

pub returns : goal.returns
returns c =
    on_ok_weaker c.put-3.result (λ is.
    five c.args.out.now.items c.put.new.out.items c.put_count.new.out.items c.put-2.new.out.items c.put_day.new.out.items
    c.put-3.new.out.items (codes "<p>") (count_text c.args.number) (codes " Today is ") (day_text c.args.today.number)
    (codes ".</p>\n") c.in_ok-put.ensures c.in_ok-put_count.ensures c.in_ok-put-2.ensures c.in_ok-put_day.ensures is)
    c.put-3.ensures
