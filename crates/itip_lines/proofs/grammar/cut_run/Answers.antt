use Rattle.std.proofs.Common.{arith}
use Rattle.std.proofs.lemmas.List.Sums.{prefix_len-le-length}
use Rattle.itip_lines.specs.Parts.{is_of}
use Rattle.itip_lines.proofs.Runs.{run_of_prefix}
use Rattle.itip_lines.proofs.grammar.cut_run.Goals as goal

pub split_at-requires : goal.split_at-requires
split_at-requires c = omega (arith, prefix_len-le-length (is_of c.args.octets) c.args.text.now, c.run_len.ensures)

pub returns : goal.returns
returns c = rw (c.split_at.ensures.front, c.split_at.ensures.back, c.run_len.ensures) (run_of_prefix _ _)
