use Rattle.std.proofs.Common.{◌∙◌, sym, subst, arith}
use Rattle.std.specs.Str.{IsUtf8}
use Rattle.itip_lines.proofs.Utf8Parts.{utf8_behind}
use Rattle.itip_lines.proofs.ParamLists.{wrote_no_params, wrote_more_params, lacks_next_param, lacks_colon, lacks_value, all_params}
use Rattle.itip_lines.proofs.grammar.read_tail.Goals as goal

pub loop-after-init : goal.loop-after-init
loop-after-init c = wrote_no_params _ _ c.requires c.clear.ensures.items

pub read_param-requires : goal.read_param-requires
read_param-requires c = utf8_behind 59 _ (subst IsUtf8 c.in-Some.ensures c.loop-after.invariant.has.utf8) (omega arith)

pub returns-in_default-2 : goal.returns-in_default-2
returns-in_default-2 c =
    lacks_next_param _ _ _ _ c.loop-after.invariant.has c.in-Some.ensures (rw c.in_default-2.is at c.in_ok-behind.ensures)

pub loop-after-preserved : goal.loop-after-preserved
loop-after-preserved c =
    wrote_more_params _ _ _ _ _ _ c.loop-after.invariant c.in-Some.ensures (rw c.in-Some-2.is at c.in_ok-behind.ensures)

pub returns-in_default-strip : goal.returns-in_default-strip
returns-in_default-strip c = lacks_colon _ _ _ c.loop-after.invariant.has c.in_default.ensures c.in_default-strip.ensures

pub returns-then-not-are_value_octets : goal.returns-then-not-are_value_octets
returns-then-not-are_value_octets c =
    lacks_value _ _ _ _ c.loop-after.invariant.has c.in-Some-strip.ensures
    (sym c.are_value_octets.ensures ∙ c.if-not-are_value_octets.true)

pub returns : goal.returns
returns c = record {
  params = c.loop-after.invariant.done;
  is = all_params _ _ _ _ c.loop-after.invariant.has c.in-Some-strip.ensures
      (sym c.are_value_octets.ensures ∙ c.if-not-are_value_octets.false);
  wrote_is = c.loop-after.invariant.wrote;
}
