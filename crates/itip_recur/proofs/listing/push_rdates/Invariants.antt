use Rattle.std.proofs.Common.{◌≡◌, take}
use Rattle.itip_recur.specs.Adding.{Gains, IsOneOf}
use Rattle.itip_recur.proofs.listing.push_rdates.Given as goal

abbrev pub invariant-loop-moment : goal.invariant-loop-moment
invariant-loop-moment l =
    record {
      items : l.moment-items ≡ l.series.rdates;
      so_far : Gains (IsOneOf (take l.moment-index l.moment-items) l.series l.from l.to) l.initial.moments.items l.moments.items;
    }
