-- The number under which an error of an office is shown (our own).
use Rattle.std.specs.Prelude.{ℕ}
use Rattle.itip_office.specs.declared.error.OfficeError.{OfficeError}
use Rattle.itip_office.specs.declared.error.OfficeError.TheVariants as error

abbrev pub number_of : OfficeError → ℕ
number_of error.CountSpent = 21
number_of error.NoMemory = 40
number_of error.NoPlace = 41
number_of error.GateClosed = 42
number_of error.ChannelClosed = 43
number_of error.StrangeDone = 44
number_of error.NoEntry = 45
