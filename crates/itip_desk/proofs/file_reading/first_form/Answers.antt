use Rattle.std.proofs.Common.{◌∙◌, append_assoc, ◌++◌}
use Rattle.std.specs.Prelude.{codes}
use Rattle.itip_desk.specs.DeskFile.{begins_text}
use Rattle.itip_desk.proofs.FileNumbers.{behind_first, with_first, if_some_then, if_none_then, begins_as, begins_not}
use Rattle.itip_desk.proofs.file_reading.first_form.Goals as goal

pub returns-in_err-parameters-clause-none : goal.returns-in_err-parameters-clause-none
unfolding lib.Utf8.encode
returns-in_err-parameters-clause-none c =
    rw c.from_residual.ensures (λ form after h.
    begins_not c.args.octets.now c.as_bytes.result.now begins_text c.as_bytes.ensures.value c.in_err-parameters.ensures.none
    (codes ";X-FORM=" ++ (h.digits ++ after)) (h.whole ∙ append_assoc begins_text (codes ";X-FORM=") (h.digits ++ after)))

pub returns-clause-found : goal.returns-clause-found
unfolding lib.Utf8.encode
returns-clause-found c =
    if_some_then c.number_behind.result _ _ (λ found h. with_first c.args.octets.now begins_text (codes ";X-FORM=")
    c.in_ok-parameters.parameters.now found.0 found.1.now
    (begins_as c.args.octets.now c.as_bytes.result.now begins_text c.in_ok-parameters.parameters.now c.as_bytes.ensures.value
    c.in_ok-parameters.ensures.found) h) c.number_behind.ensures.found

pub returns-clause-none : goal.returns-clause-none
unfolding lib.Utf8.encode
returns-clause-none c =
    if_none_then c.number_behind.result (λ none form after h. none form after
    (behind_first c.args.octets.now begins_text (codes ";X-FORM=") c.in_ok-parameters.parameters.now form after
    (begins_as c.args.octets.now c.as_bytes.result.now begins_text c.in_ok-parameters.parameters.now c.as_bytes.ensures.value
    c.in_ok-parameters.ensures.found) h)) c.number_behind.ensures.none
