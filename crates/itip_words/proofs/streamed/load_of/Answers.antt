use Rattle.std.proofs.Common.{◌∙◌, Some, None, ap, sym}
use Rattle.itip_script.specs.Orders.{number_of}
use Rattle.itip_words.proofs.Loading.{cut_load, no_file, some_file}
use Rattle.itip_words.proofs.streamed.load_of.Goals as goal

pub returns-in_err-desk : goal.returns-in_err-desk
returns-in_err-desk c = rw c.from_residual.ensures (cut_load c.args.text.now None c.in_err-desk.ensures.cases)

pub returns-then-is_empty : goal.returns-then-is_empty
returns-then-is_empty c =
    no_file c.args.text.now c.in_ok-desk.desk.now c.in_ok-desk.file.now
    (cut_load c.args.text.now (Some (c.in_ok-desk.desk, c.in_ok-desk.file)) c.in_ok-desk.ensures.cases)
    (sym c.is_empty.ensures ∙ c.if-is_empty.true)

pub returns-in_err-read_number : goal.returns-in_err-read_number
returns-in_err-read_number c =
    rw c.from_residual-in_err-read_number.ensures
    (some_file c.args.text.now c.in_ok-desk.desk.now c.in_ok-desk.file.now None
    (cut_load c.args.text.now (Some (c.in_ok-desk.desk, c.in_ok-desk.file)) c.in_ok-desk.ensures.cases)
    (sym c.is_empty.ensures ∙ c.if-is_empty.false) (c.in_err-read_number.ensures ∙ ap number_of c.as_bytes.ensures.value))

pub returns : goal.returns
returns c =
    some_file c.args.text.now c.in_ok-desk.desk.now c.in_ok-desk.file.now (Some c.in_ok-read_number.field-0)
    (cut_load c.args.text.now (Some (c.in_ok-desk.desk, c.in_ok-desk.file)) c.in_ok-desk.ensures.cases)
    (sym c.is_empty.ensures ∙ c.if-is_empty.false) (c.in_ok-read_number.ensures ∙ ap number_of c.as_bytes.ensures.value)
