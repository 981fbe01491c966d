-- The number under which a refusal is shown, and its line (our own).
use Rattle.std.specs.Prelude.{ℕ, List, [], ◌∷◌, ◌++◌, codes}
use Rattle.std.specs.Fmt.{decimal}
use Rattle.itip_message.specs.RefusalNumbers as message
use Rattle.itip_desk.specs.declared.refusal.Refusal.{Refusal}
use Rattle.itip_desk.specs.declared.refusal.Refusal.TheVariants.{Message, TicksSpent, TooManyRows, NoDesk, NoPacket, NoCommand}
use Rattle.itip_desk.specs.declared.refusal.Refusal.TheVariants.{LongScript, LongDelta, File}
use Rattle.itip_desk.specs.declared.refusal.FileRefusal.{FileRefusal}
use Rattle.itip_desk.specs.declared.refusal.FileRefusal.TheVariants.{OtherForm, Broken, Unwritten}

abbrev pub number_of_file : FileRefusal → ℕ
number_of_file OtherForm = 70
number_of_file (Broken message) = 71
number_of_file (Unwritten desk) = 72

abbrev pub number_of : Refusal → ℕ
number_of (Message refusal) = message.number_of refusal
number_of (TicksSpent desk) = 21
number_of TooManyRows = 31
number_of (NoDesk desk) = 50
number_of (NoPacket packet) = 51
number_of NoCommand = 60
number_of LongScript = 61
number_of LongDelta = 62
number_of (File refusal) = number_of_file refusal

abbrev pub refused_text : ℕ → List ℕ
refused_text number = codes "refused " ++ decimal number ++ 10 ∷ []
