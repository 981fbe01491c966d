use Rattle.std.proofs.Common.{rules, ◌≡◌, [], List, length, ap, sym}
use Rattle.itip_running.specs.History.{Group, batches_of}
use Rattle.itip_running.proofs.front.open.Goals as goal

pub invariant_of-front : goal.invariant_of-front
invariant_of-front c =
    let none : c.open-seen.result.0.log ≡ [] = search rules in
    record { counted = sym (ap length none); summed = sym (ap (λ (gs : List Group). length (batches_of gs)) none) }
