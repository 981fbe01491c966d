use Rattle.std.proofs.Common.{ap, ◌∙◌}
use Rattle.std.specs.Prelude.{IfOk, IfErr}
use Rattle.rayon.proofs.ListFacts.{IfOk-then}
use Rattle.rayon.proofs.ToStd.{slice-AllZip}
use Rattle.itip_message.specs.Refusals.{IfRefused}
use Rattle.itip_message.specs.Message.{ReadsMessage, RefusesMessage}
use Rattle.itip_reading.proofs.many.read_all.Goals as goal

pub returns : goal.returns
returns g c =
    let slice = ap (λ it. it.base.slice.now) c.map.ensures.base ∙ ap (λ it. it.slice.now) c.with_min_len.ensures.base ∙
    c.par_iter.ensures in
    IfOk-then c.collect.result _ _ c.collect.ensures (λ v h.
    let chain = h.1 in
    rw h.2 (slice-AllZip chain.0 c.args.texts.now (chain.1 ∙ slice)
    (λ text answer. IfOk answer (λ items. ReadsMessage text.items items.items) ×
    IfErr answer (λ e. IfRefused e (RefusesMessage text.items))) h.0 chain.2))
