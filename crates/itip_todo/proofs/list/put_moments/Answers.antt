use Rattle.std.proofs.Common.{◌∙◌, ap}
use Rattle.itip_moment.specs.Zone.{zone_text}
use Rattle.itip_todo.proofs.list.put_moments.Goals as goal

pub put_in_zone-put-requires : goal.put_in_zone-put-requires
put_in_zone-put-requires c = ap zone_text c.as_ref.ensures.value ∙ c.in_ok-zone.ensures.named ∙ c.first_value-tzid.ensures
