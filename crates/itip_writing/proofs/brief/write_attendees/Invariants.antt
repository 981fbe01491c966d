use Rattle.std.proofs.Common.{◌≡◌, ◌++◌, map, take}
use Rattle.itip_todo.specs.Written.{contents_octets, property_line}
use Rattle.itip_todo.specs.declared.property_name.PropertyName.TheVariants as name
use Rattle.itip_writing.proofs.brief.write_attendees.Given as goal

-- the lines so far are written
abbrev pub invariant-loop-attendee : goal.invariant-loop-attendee
invariant-loop-attendee l = l.out.items ≡ l.fn.out.items ++
    contents_octets (map (property_line name.Attendee) (take l.attendee-index l.attendees))
