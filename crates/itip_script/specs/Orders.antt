-- The commands of a script as values, and which one a line gives (our own format).
use Rattle.std.specs.Prelude.{◌≡◌, ◌≤◌, ◌<◌, ◌⊎◌, false, true, ℕ, ◌+◌, ◌-◌, ◌*◌, ◌^◌, Bool, ◌==◌, ◌&&◌}
use Rattle.std.specs.Prelude.{nat_le, nat_lt, List, [], ◌∷◌, length, if◌then◌else◌, Option, Some, None, unwrap_or, codes}
use Rattle.std.specs.List.{before_first, after_first, list_all}
use Rattle.std.specs.Str.{bytes_eq}
use Rattle.itip_script.specs.declared.command.Command.{Command}
use Rattle.itip_script.specs.declared.command.Command.TheVariants as command
use Rattle.itip_script.specs.declared.command.Verb.{Verb}
use Rattle.itip_script.specs.declared.command.Verb.TheVariants as verb
use Rattle.itip_report.specs.declared.report_name.ReportName.{ReportName}
use Rattle.itip_report.specs.declared.report_name.ReportName.TheVariants as name

-- A command, apart from where its bytes are.
pub data Order : Type 0 where
  -- the desk takes the text
  takes : ℕ → List ℕ → Order
  lists : ℕ → Order
  -- of a desk and the address of an attendee
  lists_for : ℕ → List ℕ → Order
  -- the desk posts what changed after a tick
  posts : ℕ → ℕ → Order
  -- a packet arrives at a desk
  arrives : ℕ → ℕ → Order
  reports : ℕ → ReportName → Order
  -- of a desk and a UID
  resends : ℕ → List ℕ → Order
  asks_next : ℕ → List ℕ → Order
  counts : ℕ → Order
  malformed : Order

abbrev pub order_of : Command → Order
order_of (command.Take desk text) = takes desk text.now
order_of (command.List desk) = lists desk
order_of (command.Mine desk address) = lists_for desk address.now
order_of (command.Post desk since) = posts desk since
order_of (command.Arrive packet desk) = arrives packet desk
order_of (command.Report desk name) = reports desk name
order_of (command.Resend desk uid) = resends desk uid.now
order_of (command.Next desk uid) = asks_next desk uid.now
order_of (command.Entries desk) = counts desk
order_of command.Malformed = malformed

-- the bytes before the first space
abbrev pub before_space : List ℕ → List ℕ
before_space bytes = before_first (λ b. b == 32) bytes

-- the bytes after the first space, or none if there is no space
abbrev pub after_space : List ℕ → List ℕ
after_space bytes = after_first (λ b. b == 32) bytes

abbrev pub is_digit : ℕ → Bool
is_digit b = nat_le 48 b && nat_le b 57

-- the value of a number and the digits after it
abbrev pub digits_value : ℕ → List ℕ → ℕ
digits_value number [] = number
digits_value number (b ∷ bytes) = digits_value (number * 10 + (b - 48)) bytes

-- the byte is no digit, or the value with it is too large
abbrev pub IsNoDigit : ℕ → ℕ → Type 0
IsNoDigit number b = (is_digit b ≡ false) ⊎ (2 ^ 64 ≤ number * 10 + (b - 48))

-- the value with one more digit
pub record IsNextValue (number b next : ℕ) : Type 0 where
  pub digit : is_digit b ≡ true
  pub value : next ≡ number * 10 + (b - 48)
  pub fits : next < 2 ^ 64

-- One or more digits whose value is below 2 ^ 64.
abbrev pub number_of : List ℕ → Option ℕ
number_of word =
    if nat_lt 0 (length word) && (list_all is_digit word && nat_lt (digits_value 0 word) (2 ^ 64))
    then Some (digits_value 0 word) else None

-- a UID or an address is any bytes, at least one
abbrev pub rest_of : List ℕ → Option (List ℕ)
rest_of bytes = if length bytes == 0 then None else Some bytes

abbrev pub report_of : List ℕ → Option ReportName
report_of word =
    if bytes_eq word (codes "load") then Some name.Load else
    if bytes_eq word (codes "progress") then Some name.Progress else
    if bytes_eq word (codes "cancelled") then Some name.Cancelled else
    if bytes_eq word (codes "orphans") then Some name.Orphans else
    if bytes_eq word (codes "refresh") then Some name.Refresh else None

infixl 10 ◌>>=◌
abbrev pub ◌>>=◌ : {A B : Type 0} → Option A → (A → Option B) → Option B
(Some x) >>= f = f x
None >>= f = None

-- the command that a word begins
abbrev pub verb_of : List ℕ → Option Verb
verb_of word =
    if bytes_eq word (codes "!take") then Some verb.Take else
    if bytes_eq word (codes "!list") then Some verb.List else
    if bytes_eq word (codes "!mine") then Some verb.Mine else
    if bytes_eq word (codes "!post") then Some verb.Post else
    if bytes_eq word (codes "!arrive") then Some verb.Arrive else
    if bytes_eq word (codes "!report") then Some verb.Report else
    if bytes_eq word (codes "!resend") then Some verb.Resend else
    if bytes_eq word (codes "!next") then Some verb.Next else
    if bytes_eq word (codes "!entries") then Some verb.Entries else None

-- The arguments come after the word and a space, with a space between two. A UID or an address is all that is left.
abbrev pub spelled_by : Verb → List ℕ → List ℕ → Option Order
spelled_by verb.Take arguments message = number_of arguments >>= λ desk. Some (takes desk message)
spelled_by verb.List arguments message = number_of arguments >>= λ desk. Some (lists desk)
spelled_by verb.Mine arguments message =
    number_of (before_space arguments) >>= λ desk. rest_of (after_space arguments) >>= λ address. Some (lists_for desk address)
spelled_by verb.Post arguments message =
    number_of (before_space arguments) >>= λ desk. number_of (after_space arguments) >>= λ since. Some (posts desk since)
spelled_by verb.Arrive arguments message =
    number_of (before_space arguments) >>= λ packet. number_of (after_space arguments) >>= λ desk. Some (arrives packet desk)
spelled_by verb.Report arguments message =
    number_of (before_space arguments) >>= λ desk. report_of (after_space arguments) >>= λ named. Some (reports desk named)
spelled_by verb.Resend arguments message =
    number_of (before_space arguments) >>= λ desk. rest_of (after_space arguments) >>= λ uid. Some (resends desk uid)
spelled_by verb.Next arguments message =
    number_of (before_space arguments) >>= λ desk. rest_of (after_space arguments) >>= λ uid. Some (asks_next desk uid)
spelled_by verb.Entries arguments message = number_of arguments >>= λ desk. Some (counts desk)

-- The command that a line spells, with the bytes of the message after it.
abbrev pub spelled : List ℕ → List ℕ → Option Order
spelled line message = verb_of (before_space line) >>= λ verb. spelled_by verb (after_space line) message

-- A command line that spells nothing is malformed.
abbrev pub order_at : List ℕ → List ℕ → Order
order_at line message = unwrap_or (spelled line message) malformed

-- The text after a line whose first word is `!take` is its message.
abbrev pub is_take : List ℕ → Bool
is_take line = bytes_eq (before_space line) (codes "!take")
