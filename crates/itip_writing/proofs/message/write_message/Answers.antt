use Rattle.std.proofs.Common.{◌∙◌, ◌++◌, List, ap, sym, append-nil, map, take_all}
use Rattle.std.specs.List.{flat_map}
use Rattle.itip_todo.specs.PartsOf.{parts_of}
use Rattle.itip_todo.specs.Written.{Content, contents_octets}
use Rattle.itip_todo.specs.declared.todo.Todo.{Todo}
use Rattle.itip_report.proofs.Mapped.{flat_map_mapped}
use Rattle.itip_writing.specs.Sent.{sent_front, sent_todo}
use Rattle.itip_writing.proofs.Composed.{all_lines, one_more_todo, whole_message}
use Rattle.itip_writing.proofs.message.write_message.Goals as goal

pub loop-todo-init : goal.loop-todo-init
loop-todo-init c = c.in_ok-octets.ensures ∙ sym (append-nil (contents_octets (sent_front c.args.method)))

pub loop-todo-preserved : goal.loop-todo-preserved
loop-todo-preserved c =
    one_more_todo (λ (todo : Todo). sent_todo c.args.method (parts_of todo)) c.args.all.now c.loop-todo.todo-index c.todo-item.result
    (contents_octets (sent_front c.args.method)) c.loop-todo.octets.items c.write_todo.new.out.items c.loop-todo-test.true c.todo-item.is
    c.loop-todo.invariant
    (c.in_ok-write_todo.ensures.ok ∙ ap (λ (cs : List Content). c.loop-todo.octets.items ++ contents_octets cs)
    (sym (all_lines c.args.method (parts_of c.todo-item.result) c.requires)))

pub returns : goal.returns
returns c =
    let f : Todo → List Content = λ todo. sent_todo c.args.method (parts_of todo) in
    whole_message c.args.method (map parts_of c.args.all.now) c.loop-todo.octets.items c.end.new.octets.items
    (c.loop-todo.invariant ∙ ap (λ (cs : List Content). contents_octets (sent_front c.args.method) ++ contents_octets cs)
    (ap (flat_map f) (take_all c.loop-todo.todo-index c.args.all.now c.loop-todo-test.false)
    ∙ flat_map_mapped (sent_todo c.args.method) parts_of c.args.all.now))
    c.in_ok-end.ensures
