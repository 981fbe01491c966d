use Rattle.std.proofs.Common.{◌≡◌, ◌++◌, List, ℕ, IfSome, IfNone, subst}
use Rattle.itip_desk.specs.DeskFile.{begins_text}
use Rattle.itip_desk.proofs.FileNumbers.{begins_as, begins_not}
use Rattle.itip_desk.proofs.FileParsing.{none_begins, follows_by}
use Rattle.itip_desk.proofs.file_reading.after_product.Goals as goal

pub returns-in_err-parameters : goal.returns-in_err-parameters
unfolding lib.Utf8.encode
returns-in_err-parameters c =
    rw c.from_residual.ensures (none_begins c.args.message.now
    (begins_not c.args.message.now c.as_bytes.result.now begins_text c.as_bytes.ensures.value c.in_err-parameters.ensures.none))

pub returns : goal.returns
unfolding lib.Utf8.encode
returns c =
    follows_by c.args.message.now c.in_ok-parameters.parameters.now c.behind_number.result.now c.behind_number-after.result.now
    (begins_as c.args.message.now c.as_bytes.result.now begins_text c.in_ok-parameters.parameters.now c.as_bytes.ensures.value
    c.in_ok-parameters.ensures.found)
    c.behind_number.ensures c.behind_number-after.ensures c.behind-2.result
    (subst (λ (name : List ℕ). IfSome c.behind-2.result (λ after. c.behind_number-after.result.now ≡ name ++ after.now))
    c.as_bytes-2.ensures.value c.behind-2.ensures.found)
    (subst (λ (name : List ℕ). IfNone c.behind-2.result ((after : List ℕ) → c.behind_number-after.result.now ≡ name ++ after → ⊥))
    c.as_bytes-2.ensures.value c.behind-2.ensures.none)
