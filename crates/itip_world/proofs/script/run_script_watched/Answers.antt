use Rattle.itip_world.proofs.Runnings.{on_err, known, nothing_read}
use Rattle.itip_world.proofs.script.run_script_watched.Goals as goal

pub returns-in_err-script-clause-front : goal.returns-in_err-script-clause-front
returns-in_err-script-clause-front g c =
    on_err c.from_residual.result (known _ _ (λ script. nothing_read c.args.window c.args.desks _ script))

pub returns-in_err-asked-clause-front : goal.returns-in_err-asked-clause-front
returns-in_err-asked-clause-front g c =
    on_err c.from_residual-in_err-asked.result (known _ _ (λ script. nothing_read c.args.window c.args.desks _ script))
