use Rattle.std.proofs.Common.{◌≡◌, ◌∙◌, sym}
use Rattle.std.proofs.lemmas.Result.{err_from_is_err_and}
use Rattle.itip_streams.specs.declared.fault.StreamFault.TheVariants.{Read, Write}
use Rattle.itip_inbox.proofs.texts.told_behind.Goals as goal

pub returns-in_err-count_more-clause-fault : goal.returns-in_err-count_more-clause-fault
returns-in_err-count_more-clause-fault c =
    let p = err_from_is_err_and c.from_residual.result c.from_residual.ensures.1 in
    rw (p.1, p.2) (λ write. let apart : Read ≡ Write = sym c.in_err-count_more.ensures.fault ∙ write in cc)
