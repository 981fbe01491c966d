use Rattle.std.proofs.Common.{FitsSigned, w32, to_z-of_z, []}
use Rattle.std.proofs.lemmas.Result.{err_from_is_err_and}
use Rattle.itip_recur.proofs.Adds.{IfTooMany-like}
use Rattle.itip_recur.proofs.Listed.{over_members, over_all, all_listed}
use Rattle.itip_recur.proofs.listing.listed.Goals as goal

pub returns-in_err-add_members-clause-over : goal.returns-in_err-add_members-clause-over
returns-in_err-add_members-clause-over c =
    let from : FitsSigned w32 c.args.from = c.ranges.from in
    let to : FitsSigned w32 c.args.to = c.ranges.to in
    let step = simp to_z-of_z at c.in_err-add_members.ensures in
    let p = err_from_is_err_and c.from_residual.result c.from_residual.ensures.1 in
    rw (p.1, p.2) (IfTooMany-like c.in_err-add_members.field-0.0
    (over_members c.args.limit c.args.series.now c.args.from c.args.to c.new-found.result.moments.items
    c.add_members.new.found.moments.items [] c.new-found.ensures) step)

pub returns-in_err-with_rdates-clause-over : goal.returns-in_err-with_rdates-clause-over
returns-in_err-with_rdates-clause-over c =
    let from : FitsSigned w32 c.args.from = c.ranges.from in
    let to : FitsSigned w32 c.args.to = c.ranges.to in
    let first = simp to_z-of_z at c.in_ok-add_members.ensures in
    let step = simp to_z-of_z at c.in_err-with_rdates.ensures in
    let p = err_from_is_err_and c.from_residual-in_err-with_rdates.result c.from_residual-in_err-with_rdates.ensures.1 in
    rw (p.1, p.2) (IfTooMany-like c.in_err-with_rdates.field-0.0
    (λ over. over_all c.args.limit c.args.series.now c.args.from c.args.to c.new-found.result.moments.items
    c.add_members.new.found.moments.items over.0 c.new-found.ensures first over.1) step)

pub returns-clause-found : goal.returns-clause-found
returns-clause-found c =
    let from : FitsSigned w32 c.args.from = c.ranges.from in
    let to : FitsSigned w32 c.args.to = c.ranges.to in
    let first = simp to_z-of_z at c.in_ok-add_members.ensures in
    let step = simp to_z-of_z at c.in_ok-with_rdates.ensures in
    all_listed c.args.limit c.args.series.now c.args.from c.args.to c.new-found.result.moments.items c.add_members.new.found.moments.items
    c.in_ok-with_rdates.field-0.moments.items c.new-found.ensures first step c.in_ok-with_rdates.field-0.ascending
