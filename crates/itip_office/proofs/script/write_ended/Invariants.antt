use Rattle.std.proofs.Common.{take}
use Rattle.itip_office.proofs.Listing.{IsListing}
use Rattle.itip_office.proofs.script.write_ended.Given as goal

abbrev pub invariant-loop-number : goal.invariant-loop-number
invariant-loop-number g l =
    IsListing l.window l.refused (take l.number l.desks) (g.W.Write.contents l.fn.writer) (g.W.Write.contents l.writer) l.output.items
    l.is_refused
