use Rattle.itip_recur.proofs.Ascents.{sought}
use Rattle.itip_recur.proofs.series.Series.is_excluded.Goals as goal

pub returns : goal.returns
returns c =
    let items = c.as_slice.ensures in
    let search = c.binary_search.ensures in
    rw c.is_ok.ensures.value (sought c.args.self.now.exdates c.args.moment.now c.binary_search.result c.args.self.now.exdates_ascend
    (rw items at search.bound) (rw items at search.position))
