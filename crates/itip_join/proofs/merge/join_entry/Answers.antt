use Rattle.std.proofs.Common.{rules, ◌≡◌, cond, Some}
use Rattle.std.specs.Ordering.{is_eq}
use Rattle.std.specs.BTreeMap.{get}
use Rattle.itip_join.specs.Changes.{keys_in, pairs_in}
use Rattle.itip_join.proofs.TakingBack.{grown_noted}
use Rattle.itip_join.proofs.merge.join_entry.Goals as goal

pub returns-in-Some-clause-noted : goal.returns-in-Some-clause-noted
returns-in-Some-clause-noted g c =
    let put : (q : g.row.K.Denot) → get g.K.Ord.cmp (c.get_mut.follows.lender c.raise.new.mine) q ≡ cond
    (is_eq (g.K.Ord.cmp c.args.key.now q)) (Some c.raise.new.mine) (get g.K.Ord.cmp c.args.map.now q) = search rules in
    grown_noted g.met.K.Ord.total g.met.K.Exact.exact c.args.key.now (get g.K.Ord.cmp c.args.map.now)
    (get g.K.Ord.cmp (c.get_mut.follows.lender c.raise.new.mine))
    c.in-Some.mine.now c.raise.new.mine (search rules) put (keys_in c.args.undo.now) (pairs_in c.args.undo.now) (keys_in c.raise.new.undo)
    (pairs_in c.raise.new.undo) c.raise.ensures.noted
