use Rattle.std.proofs.Common.{◌∙◌, ◌++◌, List, ℕ, ap, append_assoc, append-nil, sym}
use Rattle.std.specs.Prelude.{codes}
use Rattle.itip_state.proofs.Members.{on_ok_then}
use Rattle.itip_desk.specs.DeskFile.{parameter_text}
use Rattle.itip_desk.proofs.file_text.append_form.Goals as goal

pub returns : goal.returns
unfolding lib.Utf8.encode
returns c =
    rw c.in-Some.is
    (on_ok_then c.append_parameter-2.result (λ grown.
    grown ∙ ap (λ (t : List ℕ). t ++ parameter_text (codes ";X-ITEMS=") c.in-Some.head.items) c.in_ok-append_parameter.ensures
    ∙ append_assoc c.args.file.now.items (parameter_text (codes ";X-FORM=") 1) (parameter_text (codes ";X-ITEMS=") c.in-Some.head.items))
    c.append_parameter-2.ensures)

pub returns-in_default : goal.returns-in_default
returns-in_default c = rw c.in_default.is (sym (append-nil c.args.file.now.items))
