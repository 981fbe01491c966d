use Rattle.std.proofs.Common.{◌∙◌, ap}
use Rattle.itip_moment.specs.Zone.{same_name}
use Rattle.itip_moment.proofs.zone_name.ZoneNameClone.clone.Goals as goal

pub returns : goal.returns
returns c = record { cases = same_name _ _ (c.in_ok-clone.ensures.cases ∙ ap (λ n. n.bytes) c.self.view_is) }
