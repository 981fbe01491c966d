use Rattle.std.proofs.Common.{◌≡◌, ◌≤◌, subst, List, length, Some}
use Rattle.std.specs.Prelude.{slice_get}
use Rattle.itip_desk.specs.Desk.{Shown}
use Rattle.itip_world.specs.Serving.Serves.{saves_desk, saves_none, saves_nothing}
use Rattle.itip_world.proofs.Serving.{within_if}
use Rattle.itip_world.proofs.served.Served.save.Goals as goal

pub returns-in_default-clause-serves : goal.returns-in_default-clause-serves
returns-in_default-clause-serves g c = λ window.
    saves_nothing c.args.desk c.args.file.now
    (subst (λ (desks : List Shown). length desks ≤ c.args.desk) c.look-look.ensures.desks c.in_default.ensures)

pub returns-in_default-from_utf8-clause-serves : goal.returns-in_default-from_utf8-clause-serves
returns-in_default-from_utf8-clause-serves g c = λ window.
    let there = subst (λ (desks : List Shown). slice_get desks c.args.desk ≡ Some c.in-Some.saved.now) c.look-look.ensures.desks
    c.in-Some.ensures in
    rw c.unwritten.ensures (saves_none c.args.desk c.args.file.now (within_if c.args.self.now.desks.items c.args.desk
    c.in-Some.saved.now there))

pub returns-in-Ok-save-clause-serves : goal.returns-in-Ok-save-clause-serves
returns-in-Ok-save-clause-serves g c = λ window.
    let there = subst (λ (desks : List Shown). slice_get desks c.args.desk ≡ Some c.in-Some.saved.now) c.look-look.ensures.desks
    c.in-Some.ensures in
    rw c.tick.ensures (saves_desk c.args.desk c.args.file.now c.in-Some.saved.now there)

pub returns-in-Err-clause-serves : goal.returns-in-Err-clause-serves
returns-in-Err-clause-serves g c = λ window.
    let there = subst (λ (desks : List Shown). slice_get desks c.args.desk ≡ Some c.in-Some.saved.now) c.look-look.ensures.desks
    c.in-Some.ensures in
    rw c.unwritten-in-Err.ensures
    (saves_none c.args.desk c.args.file.now (within_if c.args.self.now.desks.items c.args.desk c.in-Some.saved.now there))
