use Rattle.std.proofs.Common.{◌∙◌, ap}
use Rattle.itip_desk.specs.Numbers.{number_with}
use Rattle.itip_desk.proofs.Numbering.{key_more}
use Rattle.itip_desk.proofs.number.attendee_number.Goals as goal

pub loop-octet-preserved : goal.loop-octet-preserved
loop-octet-preserved c = c.number_with-number.ensures.number ∙ ap (number_with c.loop-octet.number) c.to_ascii_lowercase.ensures.value ∙
    key_more c.as_bytes-octet-items.result.now c.args.address.now c.as_bytes-octet-items.ensures.value c.loop-octet.octet-index
    c.loop-octet.number _ c.loop-octet-test.true c.loop-octet.invariant
