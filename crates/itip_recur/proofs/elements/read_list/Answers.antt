use Rattle.std.proofs.Common.{arith, ap, length, length-append, subst}
use Rattle.std.specs.Str.{IsUtf8}
use Rattle.itip_lines.proofs.Utf8Parts.{utf8_behind, utf8_from}
use Rattle.itip_recur.specs.RuleText.{elements}
use Rattle.itip_recur.proofs.Zips.{rest_start, rest_more, rest_refused}
use Rattle.itip_recur.proofs.elements.read_list.Goals as goal

pub loop-element-init : goal.loop-element-init
loop-element-init g c = (c.utf8.value, rw c.new-list.ensures.items (rest_start g.T.Element.spells (elements c.args.value.now)))

pub loop-element-smaller : goal.loop-element-smaller
loop-element-smaller g c = omega (arith, simp length-append at (ap length c.in-Some.ensures.1))

pub returns-in_default-read : goal.returns-in_default-read
returns-in_default-read g c =
    rest_refused g.T.Element.spells (elements c.args.value.now) c.loop-element.list.items (elements c.loop-element.rest.now) _ _
    c.in-Some.ensures.0 c.loop-element.invariant.1 (rw c.as_bytes.ensures.value at c.in_default-read.ensures)

pub loop-element-preserved : goal.loop-element-preserved
loop-element-preserved g c = (
  utf8_behind 44 c.in-Some.behind.now (utf8_from c.in-Some.element.now 44 c.in-Some.behind.now
      (subst IsUtf8 c.in-Some.ensures.1 c.loop-element.invariant.0) (omega arith)) (omega arith),
  rw c.in_ok-push.ensures.items
      (rest_more g.T.Element.spells (elements c.args.value.now) c.loop-element.list.items (elements c.loop-element.rest.now) _ _
      c.in-Some.ensures.0 c.loop-element.invariant.1 c.in-Some-read.one (rw c.as_bytes.ensures.value at c.in-Some-read.ensures)),
)

pub returns-in_default-read-2 : goal.returns-in_default-read-2
returns-in_default-read-2 g c =
    rest_refused g.T.Element.spells (elements c.args.value.now) c.loop-element.list.items (elements c.loop-element.rest.now) _ _
    c.in_default.ensures c.loop-element.invariant.1 (rw c.as_bytes-2.ensures.value at c.in_default-read-2.ensures)
