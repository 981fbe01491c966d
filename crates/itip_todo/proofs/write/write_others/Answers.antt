use Rattle.std.proofs.Common.{◌≡◌, ◌∙◌, ◌<◌, ap, map, length, arith}
use Rattle.itip_lines.specs.TextsLeft.{texts_left}
use Rattle.itip_lines.specs.Writing.{unfolded_text}
use Rattle.itip_todo.proofs.Appending.{texts_all, texts_less, texts_none, texts_some}
use Rattle.itip_todo.proofs.write.write_others.Goals as goal

pub loop-text-init : goal.loop-text-init
loop-text-init c =
    let left : texts_left c.into_iter-text-iterator.result ≡ map unfolded_text c.args.lines.now =
    ap texts_left c.into_iter-text-iterator.ensures.into_iter_gives ∙ c.texts-text-items.ensures in
    (tt, tt, texts_all c.args.lines.now c.args.out.now.items _ left)

pub loop-text-preserved : goal.loop-text-preserved
loop-text-preserved c = (
  tt,
  tt,
  texts_less c.args.lines.now c.args.out.now.items c.loop-text.out.items c.write_text.new.out.items (texts_left c.loop-text.text-iterator)
      c.in-Some.text.now (texts_left c.next.new.self) c.loop-text.invariant.2 c.in-Some.ensures.steps c.in_ok-write_text.ensures.appended,
)

pub returns-then-len-limit : goal.returns-then-len-limit
returns-then-len-limit c =
    let long : c.args.limit < length c.loop-text.out.items = omega arith in
    texts_some c.args.lines.now c.args.limit c.args.out.now.items c.loop-text.out.items _ long c.loop-text.invariant.2

pub returns : goal.returns
returns c =
    texts_none c.args.lines.now c.args.limit c.args.out.now.items c.loop-text.out.items _ c.in-None.ensures.steps.0
    c.loop-text.invariant.2
