use Rattle.std.proofs.Common.{◌∙◌, ◌++◌, ◌∷◌, [], ℕ, List, ap, take_all}
use Rattle.itip_lines.specs.Joining.{joined}
use Rattle.itip_lines.proofs.Joined.{are_joined}
use Rattle.itip_lines.proofs.LineLists.{text_taken}
use Rattle.itip_lines.proofs.text_list.TextList.copy.Goals as goal

pub loop-text-preserved : goal.loop-text-preserved
loop-text-preserved c =
    text_taken c.args.texts.now c.loop-text.text-index c.text-item.result c.loop-text.octets.items c.append.new.out.items
    c.loop-text-test.true c.text-item.is c.loop-text.invariant
    (c.in_ok-append.ensures.appended
    ∙ ap (λ (t : List ℕ). c.loop-text.octets.items ++ (t ++ 10 ∷ [])) (c.as_bytes.ensures.value ∙ c.as_str.ensures))

pub from_octets-requires : goal.from_octets-requires
from_octets-requires c =
    are_joined c.loop-text.octets.items c.args.texts.now c.requires
    (c.loop-text.invariant ∙ ap joined (take_all c.loop-text.text-index c.args.texts.now c.loop-text-test.false))

pub returns : goal.returns
returns c =
    c.from_octets.ensures c.args.texts.now c.requires
    (c.loop-text.invariant ∙ ap joined (take_all c.loop-text.text-index c.args.texts.now c.loop-text-test.false))
