use Rattle.std.proofs.Common.{map}
use Rattle.itip_explain.specs.Asking.{IsAskedBy}
use Rattle.itip_explain.proofs.Askings.{askings_sorted}
use Rattle.itip_explain.proofs.asked.Asked.by.Goals as goal

pub returns : goal.returns
returns c = record {
  up = c.in_ok-askings.ensures.up;
  are = askings_sorted (IsAskedBy (map (λ item. item.now) c.args.items.now)) c.in_ok-found.found.items c.in_ok-askings.askings.items
      c.in_ok-askings.ensures.same c.in_ok-found.ensures;
}
