use Rattle.std.proofs.Common.{◌||◌, ◌∙◌, ap, inr, refl}
use Rattle.std.proofs.Common.{Result, Ok, Err}
use Rattle.std.specs.Prelude.{OnErr}
use Rattle.itip_desk.specs.Entries.{same_entry}
use Rattle.itip_desk.specs.Index.{has}
use Rattle.itip_desk.specs.declared.entry.NameEntry.{NameEntry}
use Rattle.itip_desk.specs.declared.index.Index.{Index}
use Rattle.itip_desk.proofs.Noting.{name_put, same_index}
use Rattle.itip_desk.proofs.index.put_name.Goals as goal

on_err : {X E : Type 0} (r : Result X E) {P : Type 0} → P → OnErr r P
on_err (Ok x) p = tt
on_err (Err e) p = p

pub returns-clause-ok : goal.returns-clause-ok
returns-clause-ok c = λ e.
    let new : Index = record { days = c.args.index.now.days; names = c.insert.new.self } in
    name_put c.args.index.now new (record { attendee = c.args.attendee; uid = c.args.uid; item = c.in_ok-item.item }) refl
    c.in_ok-insert.ensures.updates e
    ∙ ap (λ (k : NameEntry). has c.args.index.now e || same_entry e (inr k))
    (λ i. record { attendee = c.args.attendee; uid = c.requires i; item = (c.in_ok-item.ensures ∙ c.revision.ensures) i })

pub returns-in_err-insert-clause-err : goal.returns-in_err-insert-clause-err
returns-in_err-insert-clause-err c = on_err c.from_residual-in_err-insert.result (λ e.
    let new : Index = record { days = c.args.index.now.days; names = c.insert.new.self } in
    same_index c.args.index.now new refl c.in_err-insert.ensures.err e)
