use Rattle.std.proofs.Common.{refl}
use Rattle.itip_desk.specs.declared.index.Index.{Index}
use Rattle.itip_desk.proofs.Noting.{name_out}
use Rattle.itip_desk.proofs.index.drop_name.Goals as goal

pub returns : goal.returns
returns c = λ e.
    let new : Index = record { days = c.args.index.now.days; names = c.remove.new.self } in
    name_out c.args.index.now new c.args.entry.now refl c.remove.ensures.updates e
