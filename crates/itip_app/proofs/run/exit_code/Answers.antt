use Rattle.itip_app.proofs.run.exit_code.Goals as goal

pub returns : goal.returns
returns g c = rw c.from.ensures c.status.ensures
