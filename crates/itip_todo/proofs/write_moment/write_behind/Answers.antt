use Rattle.std.proofs.Common.{◌≡◌, ◌∙◌, ap, ℕ, List, length, take, drop, length-append, take_at, drop_at, arith}
use Rattle.itip_moment.specs.Written.{moment_text}
use Rattle.itip_todo.proofs.write_moment.write_behind.Goals as goal

pub split_at-requires : goal.split_at-requires
split_at-requires c =
    omega (
      arith,
      c.len-end.ensures,
      c.args.params.ok.0,
      ap length (c.as_slice.ensures.value ∙ c.in_ok-write_moment.ensures.ok),
      length-append c.args.params.items (moment_text c.args.moment.now),
    )

pub returns : goal.returns
returns c =
    let params : List ℕ = c.args.params.items in
    let value : List ℕ = moment_text c.args.moment.now in
    let end : length params ≡ c.len-end.result = omega (arith, c.len-end.ensures, c.args.params.ok.0) in
    let whole = c.as_slice.ensures.value ∙ c.in_ok-write_moment.ensures.ok in
    rw (
      c.as_str.ensures,
      c.split_at.ensures.front ∙ ap (take c.len-end.result) whole ∙ take_at params value c.len-end.result end,
      c.split_at.ensures.back ∙ ap (drop c.len-end.result) whole ∙ drop_at params value c.len-end.result end,
    ) at c.write_parts.ensures.appended
