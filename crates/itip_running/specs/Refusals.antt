-- Why a pass has no list, from why its desk has none (our own rule).
use Rattle.itip_view.specs.declared.error.ViewError.{ViewError}
use Rattle.itip_view.specs.declared.error.ViewError.TheVariants as view
use Rattle.itip_running.specs.declared.error.PassError.{PassError}
use Rattle.itip_running.specs.declared.error.PassError.TheVariants as pass

abbrev pub of_view : ViewError → PassError
of_view view.TooManyRows = pass.TooManyRows
of_view view.NoMemory = pass.NoListMemory
