use Rattle.std.proofs.Common.{◌∙◌, ap, length, arith}
use Rattle.itip_lines.proofs.LinePlaces.{stands_at, line_copied, copied_short}
use Rattle.itip_lines.proofs.seen_line.SeenLine.copy.Goals as goal

pub overflow_add-value : goal.overflow_add-value
overflow_add-value c =
    omega (
      arith,
      copied_short c.args.line.now,
      ap length c.as_str-name.ensures,
      ap length c.as_str-params.ensures.text,
    )

pub overflow_add-value-2 : goal.overflow_add-value-2
overflow_add-value-2 c =
    omega (
      arith,
      copied_short c.args.line.now,
      ap length c.as_str-name.ensures,
      ap length c.as_str-params.ensures.text,
    )

pub new-requires : goal.new-requires
new-requires c =
    stands_at _ c.args.line.now _ _
    (line_copied c.args.line.now _ _ _ _ _ c.new-octets.ensures.items (c.as_bytes.ensures.value ∙ c.as_str-name.ensures)
    (c.as_bytes-2.ensures.value ∙ c.as_str-params.ensures.text) (c.as_bytes-3.ensures.value ∙ c.as_str.ensures) c.in_ok-append_line.ensures)
    (ap length c.as_str-name.ensures)
    (omega (
      arith,
      ap length c.as_str-name.ensures,
      ap length c.as_str-params.ensures.text,
    ))

pub returns : goal.returns
returns c =
    c.new.ensures c.args.line.now
    (line_copied c.args.line.now _ _ _ _ _ c.new-octets.ensures.items (c.as_bytes.ensures.value ∙ c.as_str-name.ensures)
    (c.as_bytes-2.ensures.value ∙ c.as_str-params.ensures.text) (c.as_bytes-3.ensures.value ∙ c.as_str.ensures) c.in_ok-append_line.ensures)
