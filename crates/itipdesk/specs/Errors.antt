-- The numbers of errors, and the errors that those of the crates below turn into (our own rule).
use Rattle.std.specs.Prelude.{ℕ}
use Rattle.itip_desk.specs.Refusals as refusals
use Rattle.itip_desk.specs.declared.error.DeskError.{DeskError}
use Rattle.itip_desk.specs.declared.error.DeskError.TheVariants as desk
use Rattle.itip_desk.specs.declared.error.FileError.{FileError}
use Rattle.itip_desk.specs.declared.error.FileError.TheVariants as file
use Rattle.itip_desk.specs.declared.refusal.Refusal.TheVariants as refusal
use Rattle.itip_message.specs.declared.error.MessageRefusal.{MessageRefusal}
use Rattle.itip_message.specs.declared.error.ReadError.{ReadError}
use Rattle.itip_message.specs.declared.error.ReadError.TheVariants as reading
use Rattle.itip_office.specs.Numbers as office_numbers
use Rattle.itip_office.specs.declared.error.OfficeError.{OfficeError}
use Rattle.itip_office.specs.declared.error.OfficeError.TheVariants as office
use Rattle.itip_running.specs.declared.error.LiveError.{LiveError}
use Rattle.itip_running.specs.declared.error.LiveError.TheVariants as live
use Rattle.itip_running.specs.declared.error.PassError.{PassError}
use Rattle.itip_running.specs.declared.error.PassError.TheVariants as pass
use Rattle.itip_streams.specs.declared.fault.StreamFault.{StreamFault}
use Rattle.itip_streams.specs.declared.fault.StreamFault.TheVariants as stream
use Rattle.itip_view.specs.declared.error.ViewError.{ViewError}
use Rattle.itip_view.specs.declared.error.ViewError.TheVariants as view
use Rattle.itip_world.specs.declared.stop.Cause.{Cause}
use Rattle.itip_world.specs.declared.stop.Cause.TheVariants as world
use Rattle.itip_writing.specs.Causes as writing_numbers
use Rattle.itip_writing.specs.declared.error.WritingError.{WritingError}
use Rattle.itip_writing.specs.declared.error.WritingError.TheVariants as writing
use Rattle.itipdesk.specs.declared.error.Error.{Error}
use Rattle.itipdesk.specs.declared.error.Error.TheVariants as error

abbrev pub number_of : Error → ℕ
number_of (error.Refused refusal) = refusals.number_of refusal
number_of error.Spent = 21
number_of error.Window = 30
number_of error.Text = 33
number_of error.NoMemory = 40
number_of error.NoPlace = 41
number_of error.NoEntry = 45
number_of (error.Office cause) = office_numbers.number_of cause
number_of (error.Stream fault) = 46
number_of (error.Writing cause) = writing_numbers.number_of cause

abbrev pub of_message : MessageRefusal → Error
of_message cause = error.Refused (refusal.Message cause)

abbrev pub of_reading : ReadError → Error
of_reading reading.NoMemory = error.NoMemory
of_reading (reading.Refused cause) = of_message cause

abbrev pub of_desk : DeskError → Error
of_desk desk.NoMemory = error.NoMemory
of_desk desk.TicksSpent = error.Spent

abbrev pub of_file : FileError → Error
of_file file.NoMemory = error.NoMemory
of_file (file.Refused cause) = error.Refused (refusal.File cause)

abbrev pub of_stream : StreamFault → Error
of_stream stream.Memory = error.NoMemory
of_stream stream.Read = error.Stream stream.Read
of_stream stream.Write = error.Stream stream.Write

abbrev pub of_view : ViewError → Error
of_view view.TooManyRows = error.Refused refusal.TooManyRows
of_view view.NoMemory = error.NoMemory

abbrev pub of_world : Cause → Error
of_world world.NoMemory = error.NoMemory
of_world (world.Refused cause) = error.Refused cause

abbrev pub of_live : LiveError → Error
of_live live.NoMemory = error.NoMemory
of_live live.NoPlace = error.NoPlace
of_live live.BatchesSpent = error.Spent

abbrev pub of_pass : PassError → Error
of_pass pass.TooManyRows = error.Refused refusal.TooManyRows
of_pass pass.NoListMemory = error.NoMemory
of_pass pass.NoMemory = error.NoMemory
of_pass pass.NoEntry = error.NoEntry

abbrev pub of_office : OfficeError → Error
of_office office.CountSpent = error.Spent
of_office office.NoMemory = error.NoMemory
of_office office.NoPlace = error.NoPlace
of_office office.GateClosed = error.Office office.GateClosed
of_office office.ChannelClosed = error.Office office.ChannelClosed
of_office office.StrangeDone = error.Office office.StrangeDone
of_office office.NoEntry = error.NoEntry

abbrev pub of_writing : WritingError → Error
of_writing writing.NothingStands = error.Writing writing.NothingStands
of_writing writing.NoSuchAttendee = error.Writing writing.NoSuchAttendee
of_writing writing.NoSequenceLeft = error.Writing writing.NoSequenceLeft
of_writing writing.AnswerOvertakes = error.Writing writing.AnswerOvertakes
of_writing writing.TwoOfOneKey = error.Writing writing.TwoOfOneKey
of_writing writing.NoTimeLeft = error.Writing writing.NoTimeLeft
of_writing (writing.Unreadable cause) = of_message cause
of_writing writing.NoMemory = error.NoMemory
