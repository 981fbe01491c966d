use Rattle.std.proofs.Common.{sym, subst, arith}
use Rattle.std.specs.Str.{IsUtf8}
use Rattle.itip_lines.proofs.Runs.{empty_from_test, some_from_test}
use Rattle.itip_lines.proofs.Utf8Parts.{utf8_past_name, utf8_behind}
use Rattle.itip_lines.proofs.ParamLists.{lacks_equals, lacks_name, lacks_values, param_wrote}
use Rattle.itip_lines.proofs.grammar.read_param.Goals as goal

pub returns-in_default : goal.returns-in_default
returns-in_default c = lacks_equals _ _ _ c.cut_run.ensures c.in_default.ensures

pub returns-then-is_empty : goal.returns-then-is_empty
returns-then-is_empty c = lacks_name _ _ _ c.cut_run.ensures (empty_from_test _ (sym c.if-is_empty.ensures))

pub read_values-requires : goal.read_values-requires
read_values-requires c =
    utf8_behind 61 _ (subst IsUtf8 c.in-Some.ensures
    (utf8_past_name _ _ c.cut_run.ensures.passes (subst IsUtf8 c.cut_run.ensures.whole c.requires))) (omega arith)

pub returns-in_default-2 : goal.returns-in_default-2
returns-in_default-2 c = lacks_values _ _ _ _ c.cut_run.ensures c.in-Some.ensures (rw c.in_default-2.is at c.in_ok-rest.ensures)

pub returns : goal.returns
returns c =
    param_wrote c.args.text.now _ _ _ _ c.args.out.now.items c.push_name.new.out.items c.read_values.new.out.items
    c.cut_run.ensures c.in-Some.ensures (some_from_test _ (sym c.if-is_empty.ensures)) c.in_ok-push_name.ensures
    (rw c.in-Some-2.is at c.in_ok-rest.ensures)
