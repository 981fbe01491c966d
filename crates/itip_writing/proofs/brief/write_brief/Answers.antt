use Rattle.std.proofs.Common.{◌≡◌, ◌++◌, ◌∷◌, []}
use Rattle.std.proofs.lemmas.Result.{on_ok_weaker}
use Rattle.std.specs.Prelude.{codes}
use Rattle.itip_todo.specs.Written.{contents_octets, bare}
use Rattle.itip_writing.proofs.Composed.{brief_written}
use Rattle.itip_writing.proofs.brief.write_brief.Goals as goal

pub returns : goal.returns
returns c =
    on_ok_weaker c.write_value-2.result
    (λ (last : c.write_value-2.new.out.items ≡ c.write_attendees.new.out.items ++
    contents_octets (bare (codes "END") (codes "VTODO") ∷ [])).
    brief_written c.args.method c.args.todo.now c.args.out.now.items c.write_value.new.out.items c.write_head.new.out.items
    c.write_rid.new.out.items c.write_status.new.out.items c.write_percent.new.out.items c.write_organizer.new.out.items
    c.write_attendees.new.out.items c.write_value-2.new.out.items c.in_ok-write_value.ensures c.in_ok-write_head.ensures
    c.in_ok-write_rid.ensures c.in_ok-write_status.ensures c.in_ok-write_percent.ensures c.in_ok-write_organizer.ensures
    c.in_ok-write_attendees.ensures last)
    c.write_value-2.ensures
