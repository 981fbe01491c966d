use Rattle.std.proofs.Common.{◌∙◌, ◌++◌, ◌∷◌, ℕ, List, sym, ap, subst, arith}
use Rattle.std.specs.Str.{IsUtf8, str_to_ascii_uppercase}
use Rattle.itip_lines.specs.Parts.{WritesTail}
use Rattle.itip_lines.proofs.Runs.{empty_from_test, some_from_test}
use Rattle.itip_lines.proofs.Utf8Parts.{utf8_past_name}
use Rattle.itip_lines.proofs.Lines.{lacks_line_name, lacks_tail}
use Rattle.itip_lines.proofs.Finding.{found_in, parts_short}
use Rattle.itip_lines.proofs.grammar.find_line.Goals as goal

pub returns-then-is_empty : goal.returns-then-is_empty
returns-then-is_empty c = lacks_line_name _ _ _ c.cut_run.ensures (empty_from_test _ (sym c.if-is_empty.ensures))

pub read_tail-requires : goal.read_tail-requires
read_tail-requires c = utf8_past_name _ _ c.cut_run.ensures.passes (subst IsUtf8 c.cut_run.ensures.whole c.requires.utf8)

pub returns-in_default : goal.returns-in_default
returns-in_default c = lacks_tail _ _ _ c.cut_run.ensures (rw c.in_default.is at c.in_ok-value.ensures)

pub overflow_add-result : goal.overflow_add-result
overflow_add-result c =
    let w : WritesTail c.cut_run.result.1.now c.in-Some.value.now c.read_tail.new.params.items = rw c.in-Some.is at c.in_ok-value.ensures in
    let short = parts_short c.args.text.now _ _ _ _ c.cut_run.ensures (some_from_test _ (sym c.if-is_empty.ensures)) w c.requires.utf8
    c.requires.short in
    omega (arith, short, c.len-written.ensures, c.read_tail.new.params.ok.0)

pub overflow_add-result-2 : goal.overflow_add-result-2
overflow_add-result-2 c =
    let w : WritesTail c.cut_run.result.1.now c.in-Some.value.now c.read_tail.new.params.items = rw c.in-Some.is at c.in_ok-value.ensures in
    let short = parts_short c.args.text.now _ _ _ _ c.cut_run.ensures (some_from_test _ (sym c.if-is_empty.ensures)) w c.requires.utf8
    c.requires.short in
    omega (arith, short, c.len-written.ensures, c.read_tail.new.params.ok.0)

pub returns : goal.returns
returns c =
    let w : WritesTail c.cut_run.result.1.now c.in-Some.value.now c.read_tail.new.params.items = rw c.in-Some.is at c.in_ok-value.ensures in
    found_in c.args.text.now _ _ _ _ _ c.cut_run.ensures (some_from_test _ (sym c.if-is_empty.ensures)) w
    (c.in_ok-anew.ensures ∙ ap (λ (t : List ℕ). str_to_ascii_uppercase c.cut_run.result.0.now ++ (t ++ 58 ∷ c.in-Some.value.now))
    c.as_slice.ensures.value)
    (omega arith) (omega (arith, c.len-written.ensures, c.read_tail.new.params.ok.0))
