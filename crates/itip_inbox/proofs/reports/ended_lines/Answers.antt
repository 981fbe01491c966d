use Rattle.std.proofs.Common.{◌∙◌, ap, take_all, arith}
use Rattle.std.specs.List.{flat_map}
use Rattle.std.specs.String.{string_bytes}
use Rattle.std.proofs.lemmas.List.Folds.{flat_map-map}
use Rattle.itip_inbox.specs.Reports.{ended}
use Rattle.itip_inbox.proofs.reports.ended_lines.Goals as goal

pub returns : goal.returns
returns c =
    let all = take_all c.loop-line.line-index c.args.lines.now (omega (arith, c.loop-line-test.false)) in
    rw (flat_map-map ended string_bytes c.args.lines.now)
    (c.loop-line.invariant ∙ ap (λ lines. flat_map (λ line. ended (string_bytes line)) lines) all)
