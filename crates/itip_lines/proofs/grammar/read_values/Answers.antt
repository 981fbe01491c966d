use Rattle.std.proofs.Common.{◌∙◌, sym}
use Rattle.itip_lines.proofs.ValueLists.{wrote_none, wrote_more, wrote_all, lacks_next, lacks_end}
use Rattle.itip_lines.proofs.grammar.read_values.Goals as goal

pub loop-value-init : goal.loop-value-init
loop-value-init c = wrote_none _ _ c.requires

pub returns-in_default : goal.returns-in_default
returns-in_default c = lacks_next _ _ _ c.loop-value.invariant.has c.in_default.ensures

pub loop-value-preserved : goal.loop-value-preserved
loop-value-preserved c =
    wrote_more c.args.text.now c.loop-value.rest.now _ _ _ c.args.out.now.items c.loop-value.out.items c.push_value.new.out.items
    c.push.new.self.items c.loop-value.invariant c.in-Some.ensures c.in-Some-strip.ensures c.in_ok-push_value.ensures.appended
    c.in_ok-push.ensures.items

pub returns-then-ends_param : goal.returns-then-ends_param
returns-then-ends_param c =
    wrote_all c.args.text.now c.loop-value.rest.now _ _ c.args.out.now.items c.loop-value.out.items c.push_value.new.out.items
    c.loop-value.invariant c.in-Some.ensures (sym c.ends_param.ensures ∙ c.if-ends_param.true) c.in_ok-push_value.ensures.appended

pub returns-else-ends_param : goal.returns-else-ends_param
returns-else-ends_param c =
    lacks_end _ _ _ _ _ c.loop-value.invariant.has c.in-Some.ensures c.in_default-strip.ensures (sym c.ends_param.ensures ∙
    c.if-ends_param.false)
