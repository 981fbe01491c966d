use Rattle.std.proofs.Common.{◌≡◌, ◌∙◌, ap, arith, List, ℕ, ◌∷◌}
use Rattle.itip_message.specs.Frame.{innermost_first, component_name, opening}
use Rattle.std.specs.Option.{option_to_list}
use Rattle.itip_message.proofs.Frames.{innermost_more, innermost_length, begins_so, place_deep, if_nested}
use Rattle.itip_message.proofs.frame.place_begin.Goals as goal

pub returns-then-len-ge-DEPTH_LIMIT-clause-fault : goal.returns-then-len-ge-DEPTH_LIMIT-clause-fault
returns-then-len-ge-DEPTH_LIMIT-clause-fault c = if_nested c.nested.result c.args.line.now.number _ c.nested.ensures (λ lines.
    let r = innermost_length c.args.inside.now.items in
    let some = c.requires.1 in
    place_deep (innermost_first c.args.inside.now.items) c.args.line.now lines (omega arith) c.requires.0 (omega arith))

pub returns-clause-placed : goal.returns-clause-placed
returns-clause-placed c = λ lines.
    let r = innermost_length c.args.inside.now.items in
    let some = c.requires.1 in
    let pushed : innermost_first c.push.new.self.items ≡ component_name c.args.line.now.line ∷ innermost_first c.args.inside.now.items =
    ap innermost_first c.in_ok-push.ensures.items ∙ innermost_more c.args.inside.now.items c.in_ok-name.name ∙
    ap (λ (name : List ℕ). name ∷ innermost_first c.args.inside.now.items) c.in_ok-name.ensures in
    let front : option_to_list c.opening-placed.result ≡ opening (innermost_first c.args.inside.now.items)
    (component_name c.args.line.now.line) c.args.line.now.number =
    c.opening-placed.ensures ∙ (λ i. opening (innermost_first (c.deref.ensures.value i)) (c.in_ok-name.ensures i) c.args.line.now.number) in
    begins_so (innermost_first c.args.inside.now.items) (innermost_first c.push.new.self.items) c.args.line.now lines
    (option_to_list c.opening-placed.result) (omega arith) c.requires.0 (omega arith) front pushed
