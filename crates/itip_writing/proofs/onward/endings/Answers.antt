use Rattle.std.proofs.Common.{◌∙◌, ◌++◌, ◌∷◌, [], List, ap, append-nil, map, sym, take_all}
use Rattle.itip_items.specs.declared.item.Item.{Item}
use Rattle.itip_todo.specs.Parts.{Parts}
use Rattle.itip_report.proofs.Mapped.{map_both}
use Rattle.itip_writing.specs.Endings.{ending_of, first_endings}
use Rattle.itip_writing.specs.Sent.{brief_parts}
use Rattle.itip_writing.proofs.EndsTold.{ending_more}
use Rattle.itip_writing.proofs.onward.endings.Goals as goal

pub loop-one-init : goal.loop-one-init
loop-one-init c =
    let onward = c.args.onward in
    c.in_ok-all.ensures
    ∙ sym (append-nil (first_endings onward.uid.now c.args.item.now onward.from.now onward.revision.sequence onward.revision.stamp))

pub loop-one-preserved : goal.loop-one-preserved
loop-one-preserved c =
    let onward = c.args.onward in
    let f : Item → Parts = ending_of onward.uid.now onward.revision.sequence onward.revision.stamp in
    let first : List Parts = first_endings onward.uid.now c.args.item.now onward.from.now onward.revision.sequence onward.revision.stamp in
    let before : List Parts = map brief_parts c.loop-one.all.items in
    ap (map brief_parts) c.in_ok-push.ensures.items
    ∙ map_both brief_parts c.loop-one.all.items (c.ending.result ∷ [])
    ∙ ap (λ (p : Parts). before ++ p ∷ []) c.ending.ensures
    ∙ ending_more f first c.args.later.now c.loop-one.one-index c.one-item.result c.loop-one-test.true c.one-item.is before
    c.loop-one.invariant

pub returns : goal.returns
returns c =
    let onward = c.args.onward in
    let f : Item → Parts = ending_of onward.uid.now onward.revision.sequence onward.revision.stamp in
    let first : List Parts = first_endings onward.uid.now c.args.item.now onward.from.now onward.revision.sequence onward.revision.stamp in
    c.loop-one.invariant
    ∙ ap (λ items. first ++ map f (map (λ item. item.now) items))
    (take_all c.loop-one.one-index c.args.later.now c.loop-one-test.false)
