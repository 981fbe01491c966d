use Rattle.itip_recur.proofs.Ascents.{sought}
use Rattle.itip_recur.proofs.ascending.Ascending.has.Goals as goal

pub returns : goal.returns
returns c =
    let items = c.deref.ensures.value in
    let search = c.binary_search.ensures in
    rw c.is_ok.ensures.value (sought c.args.self.now.moments.items c.args.moment.now c.binary_search.result c.args.self.now.ascending
    (rw items at search.bound) (rw items at search.position))
