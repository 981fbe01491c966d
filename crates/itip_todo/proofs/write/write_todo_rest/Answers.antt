use Rattle.std.proofs.Common.{◌≡◌, ◌++◌, ◌∷◌, List, [], map, subst}
use Rattle.std.proofs.lemmas.Result.{on_ok_weaker}
use Rattle.std.specs.Prelude.{codes}
use Rattle.itip_moment.specs.declared.moment.Moment.{Moment}
use Rattle.itip_todo.specs.PartsOf.{parts_of}
use Rattle.itip_todo.specs.UpTo.{AppendsUpTo}
use Rattle.itip_todo.specs.Written.{contents_octets, moment_line, property_line, bare}
use Rattle.itip_todo.specs.Properties.{Property}
use Rattle.itip_todo.specs.declared.property_name.PropertyName.TheVariants as name
use Rattle.itip_todo.proofs.Appending.{rest_up_to}
use Rattle.itip_todo.proofs.write.write_todo_rest.Goals as goal

pub returns : goal.returns
returns c =
    on_ok_weaker c.write_value.result
    (λ (last : c.write_value.new.out.items ≡ c.write_others.new.out.items ++ contents_octets (bare (codes "END") (codes "VTODO") ∷ [])).
    rest_up_to c.args.limit (parts_of c.args.todo.now) c.args.out.now.items c.write_attendees.new.out.items c.write_rule.new.out.items
    c.write_moments.new.out.items c.write_moments-2.new.out.items c.write_others.new.out.items c.write_value.new.out.items
    (subst (λ (xs : List Property). AppendsUpTo c.args.limit (map (property_line name.Attendee) xs) c.args.out.now.items
    c.write_attendees.new.out.items) c.as_slice.ensures c.in_ok-write_attendees.ensures)
    c.in_ok-write_rule.ensures
    (subst (λ (xs : List Moment). AppendsUpTo c.args.limit (map (moment_line name.RDate) xs) c.write_rule.new.out.items
    c.write_moments.new.out.items) c.as_slice-2.ensures c.in_ok-write_moments.ensures)
    (subst (λ (xs : List Moment). AppendsUpTo c.args.limit (map (moment_line name.ExDate) xs) c.write_moments.new.out.items
    c.write_moments-2.new.out.items) c.as_slice-3.ensures c.in_ok-write_moments-2.ensures)
    c.in_ok-write_others.ensures
    last)
    c.write_value.ensures
