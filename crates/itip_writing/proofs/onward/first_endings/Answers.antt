use Rattle.std.proofs.Common.{◌∙◌, ◌++◌, ◌∷◌, [], ap, map}
use Rattle.itip_report.proofs.Mapped.{map_both}
use Rattle.itip_writing.specs.Sent.{brief_parts}
use Rattle.itip_writing.proofs.onward.first_endings.Goals as goal

pub returns : goal.returns
returns c =
    ap (map brief_parts) c.in_ok-push.ensures.items
    ∙ map_both brief_parts c.in_ok-first.first.items (c.cancelled.result ∷ [])
    ∙ (λ i. c.in_ok-first.ensures i ++ c.cancelled.ensures i ∷ [])
