use Rattle.std.proofs.Common.{◌≡◌, ◌∙◌, sym, arith, true, false}
use Rattle.itip_message.specs.Frame.{innermost_first, property}
use Rattle.itip_items.specs.MethodNeeds.{is_begin, is_end}
use Rattle.std.specs.Vec.{vec_len}
use Rattle.std.specs.Option.{option_to_list}
use Rattle.itip_message.proofs.Frames.{innermost_length, not_zero, property_so}
use Rattle.itip_message.proofs.frame.place_line.Goals as goal

pub place_begin-placed-requires : goal.place_begin-placed-requires
place_begin-placed-requires c =
    let items = not_zero (vec_len c.args.inside.now) (sym c.is_empty.ensures ∙ c.if-is_empty.false) in
    (sym c.is_begin.ensures ∙ c.if-is_begin.true, omega arith)

pub place_end-placed-requires : goal.place_end-placed-requires
place_end-placed-requires c =
    let items = not_zero (vec_len c.args.inside.now) (sym c.is_empty.ensures ∙ c.if-is_empty.false) in
    (sym c.is_begin.ensures ∙ c.if-is_begin.false, sym c.is_end.ensures ∙ c.if-is_end.true, omega arith)

pub returns-clause-placed : goal.returns-clause-placed
returns-clause-placed c = λ lines.
    let r = innermost_length c.args.inside.now.items in
    let items = not_zero (vec_len c.args.inside.now) (sym c.is_empty.ensures ∙ c.if-is_empty.false) in
    let no_begin : is_begin c.args.line.line ≡ false = sym c.is_begin.ensures ∙ c.if-is_begin.false in
    let no_end : is_end c.args.line.line ≡ false = sym c.is_end.ensures ∙ c.if-is_end.false in
    let front : option_to_list c.property.result ≡ property (innermost_first c.args.inside.now.items) c.args.line =
    c.property.ensures ∙ (λ i. property (innermost_first (c.deref.ensures.value i)) c.args.line) in
    property_so (innermost_first c.args.inside.now.items) c.args.line lines (option_to_list c.property.result) (omega arith) no_begin
    no_end front
