use Rattle.std.proofs.Common.{refl, false, None}
use Rattle.itip_view.specs.declared.wanted.Wanted.{Wanted}
use Rattle.itip_view.proofs.Wanting.{shows_alone}
use Rattle.itip_view.proofs.wanted.Wanted.showing.Goals as goal

pub returns : goal.returns
returns c =
    let wanted : Wanted = record { attendee = c.args.attendee; is_open = false; due_before = None } in
    shows_alone wanted refl refl
