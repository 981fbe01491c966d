use Rattle.std.proofs.Common.{refl, false, None}
use Rattle.itip_view.specs.declared.wanted.Wanted.{Wanted}
use Rattle.itip_view.proofs.Wanting.{shows_alone}
use Rattle.itip_view.proofs.wanted.Wanted.all.Goals as goal

pub returns : goal.returns
returns c = λ row.
    let wanted : Wanted = record { attendee = None; is_open = false; due_before = None } in
    (shows_alone wanted refl refl row).1 tt
