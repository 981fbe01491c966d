use Rattle.std.proofs.Common.{refl}
use Rattle.itip_desk.specs.declared.index.Index.{Index}
use Rattle.itip_desk.proofs.Noting.{day_out}
use Rattle.itip_desk.proofs.index.drop_day.Goals as goal

pub returns : goal.returns
returns c = λ e.
    let new : Index = record { days = c.remove.new.self; names = c.args.index.now.names } in
    day_out c.args.index.now new c.args.entry.now refl c.remove.ensures.updates e
