-- The commands that an iterator over a script for an office has not yielded yet (our own form).
use Rattle.std.specs.Prelude.{List}
use Rattle.itip_script.specs.declared.job.JobCommands.{JobCommands}
use Rattle.itip_script.specs.Jobs.{Errand, errands_of}

abbrev pub errands_left : JobCommands → List Errand
errands_left left = errands_of left.rest.now
