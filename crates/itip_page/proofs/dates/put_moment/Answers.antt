use Rattle.std.proofs.Common.{◌++◌, ap, sym, ◌∙◌}
use Rattle.std.specs.Prelude.{codes}
use Rattle.std.proofs.lemmas.Result.{on_ok_weaker}
use Rattle.itip_moment.specs.declared.moment.Moment.{Moment}
use Rattle.itip_view.proofs.FlatMap.{then_more}
use Rattle.itip_page.specs.Dates.{local_markup, moment_markup}
use Rattle.itip_page.proofs.dates.put_moment.Goals as goal

pub returns-in_ok-put_local-in-Utc : goal.returns-in_ok-put_local-in-Utc
returns-in_ok-put_local-in-Utc c =
    on_ok_weaker c.put.result (λ is.
    then_more c.args.out.now.items c.put_local-in-Utc.new.out.items c.put.new.out.items (local_markup c.in-Utc.stamp)
    (codes " <small>UTC</small>") c.in_ok-put_local-in-Utc.ensures is ∙
    ap (λ (m : Moment). c.args.out.now.items ++ moment_markup m) (sym c.in-Utc.is))
    c.put.ensures
