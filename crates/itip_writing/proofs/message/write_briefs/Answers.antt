use Rattle.std.proofs.Common.{◌∙◌, ◌++◌, List, ap, sym, append-nil, map, take_all}
use Rattle.std.specs.List.{flat_map}
use Rattle.itip_todo.specs.Written.{Content, contents_octets}
use Rattle.itip_report.proofs.Mapped.{flat_map_mapped}
use Rattle.itip_writing.specs.Sent.{brief_parts, sent_front, sent_todo}
use Rattle.itip_writing.specs.declared.brief.BriefTodo.{BriefTodo}
use Rattle.itip_writing.proofs.Composed.{one_more_todo, whole_message}
use Rattle.itip_writing.proofs.message.write_briefs.Goals as goal

pub loop-todo-init : goal.loop-todo-init
loop-todo-init c = c.in_ok-octets.ensures ∙ sym (append-nil (contents_octets (sent_front c.args.method)))

pub loop-todo-preserved : goal.loop-todo-preserved
loop-todo-preserved c =
    one_more_todo (λ (todo : BriefTodo). sent_todo c.args.method (brief_parts todo)) c.args.all.now c.loop-todo.todo-index
    c.todo-item.result (contents_octets (sent_front c.args.method)) c.loop-todo.octets.items c.write_brief.new.out.items
    c.loop-todo-test.true c.todo-item.is c.loop-todo.invariant c.in_ok-write_brief.ensures

pub returns : goal.returns
returns c =
    let f : BriefTodo → List Content = λ todo. sent_todo c.args.method (brief_parts todo) in
    whole_message c.args.method (map brief_parts c.args.all.now) c.loop-todo.octets.items c.end.new.octets.items
    (c.loop-todo.invariant ∙ ap (λ (cs : List Content). contents_octets (sent_front c.args.method) ++ contents_octets cs)
    (ap (flat_map f) (take_all c.loop-todo.todo-index c.args.all.now c.loop-todo-test.false)
    ∙ flat_map_mapped (sent_todo c.args.method) brief_parts c.args.all.now))
    c.in_ok-end.ensures
