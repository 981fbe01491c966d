-- The commands of a stream: a line each, and after those that bring a message or a delta its bytes (our own format).
use Rattle.std.specs.Prelude.{◌≡◌, ◌<◌, ◌⊎◌, ℕ, Bool, ◌||◌, ◌==◌, nat_eq, nat_lt, List, [], ◌∷◌, length, take}
use Rattle.std.specs.List.{ends_with}
use Rattle.std.specs.Prelude.{if◌then◌else◌, Option, Some, None, unwrap_or, option_map, codes}
use Rattle.std.specs.Str.{bytes_eq}
use Rattle.std.specs.Io.KnownBytes.{Consumes, IsAtEnd}
use Rattle.itip_streams.specs.Parts.{ReadsLine}
use Rattle.itip_script.specs.Lines.{content_of}
use Rattle.itip_script.specs.Orders.{Order, order_of, before_space, after_space, number_of, rest_of, verb_of, spelled_by, ◌>>=◌}
use Rattle.itip_script.specs.declared.body.Body.{Body}
use Rattle.itip_script.specs.declared.body.Body.TheVariants as body
use Rattle.itip_script.specs.declared.command.Verb.{Verb}
use Rattle.itip_script.specs.declared.command.Verb.TheVariants as verb
use Rattle.itip_script.specs.declared.stream_line.StreamLine.{StreamLine}
use Rattle.itip_script.specs.declared.stream_line.StreamLine.TheVariants as line

-- the most bytes of a line with its break, of a message and of a delta
abbrev pub line_limit : ℕ
line_limit = 65536

abbrev pub message_limit : ℕ
message_limit = 1048576

abbrev pub delta_limit : ℕ
delta_limit = 67108864

-- What a line asks for, apart from where its bytes are.
pub data Wish : Type 0 where
  -- of a desk and how many bytes follow
  takes : ℕ → ℕ → Wish
  arrives : ℕ → ℕ → Wish
  -- of a desk and a tick
  posts : ℕ → ℕ → Wish
  -- of a desk and the name of a file
  saves : ℕ → List ℕ → Wish
  asks : Order → Wish
  -- how many bytes follow
  malformed : ℕ → Wish
  empty : Wish

abbrev pub wish_of : StreamLine → Wish
wish_of (line.Take desk octets) = takes desk octets
wish_of (line.Arrive desk octets) = arrives desk octets
wish_of (line.Post desk since) = posts desk since
wish_of (line.Save desk file) = saves desk file.now
wish_of (line.Question command) = asks (order_of command)
wish_of (line.Malformed octets) = malformed octets
wish_of line.Empty = empty

-- a number, a space and a number
abbrev pub two_numbers : (ℕ → ℕ → Wish) → List ℕ → Option Wish
two_numbers make arguments =
    number_of (before_space arguments) >>= λ first. number_of (after_space arguments) >>= λ second. Some (make first second)

-- the wish of a word with these arguments; what only asks something of a desk is spelled as in a script
abbrev pub wish_by : Verb → List ℕ → Option Wish
wish_by verb.Take arguments = two_numbers takes arguments
wish_by verb.Arrive arguments = two_numbers arrives arguments
wish_by verb.Post arguments = two_numbers posts arguments
wish_by verb.List arguments = option_map asks (spelled_by verb.List arguments [])
wish_by verb.Mine arguments = option_map asks (spelled_by verb.Mine arguments [])
wish_by verb.Report arguments = option_map asks (spelled_by verb.Report arguments [])
wish_by verb.Resend arguments = option_map asks (spelled_by verb.Resend arguments [])
wish_by verb.Next arguments = option_map asks (spelled_by verb.Next arguments [])
wish_by verb.Entries arguments = option_map asks (spelled_by verb.Entries arguments [])

abbrev pub saving : List ℕ → Option Wish
saving arguments = number_of (before_space arguments) >>= λ desk. rest_of (after_space arguments) >>= λ file. Some (saves desk file)

-- the wish that a line spells, without its break
abbrev pub spelled_wish : List ℕ → Option Wish
spelled_wish said =
    if bytes_eq (before_space said) (codes "!save") then saving (after_space said)
    else (verb_of (before_space said) >>= λ verb. wish_by verb (after_space said))

-- how many bytes belong to a line that spells no wish: as many as a `!take` or an `!arrive` says after its second space, else 0
abbrev pub following : List ℕ → ℕ
following said =
    if bytes_eq (before_space said) (codes "!take") || bytes_eq (before_space said) (codes "!arrive")
    then unwrap_or (number_of (after_space (after_space said))) 0 else 0

abbrev pub wish_said : List ℕ → Wish
wish_said said = if length said == 0 then empty else unwrap_or (spelled_wish said) (malformed (following said))

-- what a line with its break asks for
abbrev pub wish_at : List ℕ → Wish
wish_at bytes = wish_said (content_of bytes)

-- whether bytes end with a line end; a last line may have none
abbrev pub ends_line : List ℕ → Bool
ends_line bytes = ends_with nat_eq bytes (10 ∷ [])

-- what a line asks for, as it was read: without a line end it is malformed, as it may have been cut off
abbrev pub wish_ended : List ℕ → Wish
wish_ended bytes = if ends_line bytes then wish_at bytes else malformed 0

-- the same, and a line that is too long is malformed
abbrev pub wish_within : List ℕ → Wish
wish_within bytes = if nat_lt line_limit (length bytes) then malformed 0 else wish_ended bytes

-- What the line that was found asks for: nothing if it has no bytes; one that is too long is malformed.
abbrev pub AsksBy : Option (List ℕ) → Option Wish → Type 0
AsksBy None asked = asked ≡ Some (malformed 0)
AsksBy (Some []) asked = asked ≡ None
AsksBy (Some (b ∷ bytes)) asked = asked ≡ Some (wish_ended (b ∷ bytes))

-- how many bytes follow a line
abbrev pub body_length : Wish → ℕ
body_length (takes desk octets) = octets
body_length (arrives desk octets) = octets
body_length (posts desk since) = 0
body_length (saves desk file) = 0
body_length (asks order) = 0
body_length (malformed octets) = octets
body_length empty = 0

-- What came of the bytes that belong to a line: they are these, there are too many, or too few are left.
pub data Brought : Type 0 where
  whole : List ℕ → Brought
  too_long : Brought
  cut_off : Brought

abbrev pub body_of : Body → Brought
body_of (body.Whole octets) = whole octets.items
body_of body.Long = too_long
body_of body.Cut = cut_off

-- The first `count` of these bytes, or that these are too few, or `count` is above the limit.
abbrev pub brought : ℕ → ℕ → List ℕ → Brought
brought limit count bytes =
    if nat_lt (length bytes) count then cut_off else (if nat_lt limit count then too_long else whole (take count bytes))

-- `count` bytes were read, or all that were left if these are fewer.
pub record ReadsBody (limit count : ℕ) (old new : Option (List ℕ)) (came : Brought) : Type 0 where
  pub octets : List ℕ
  pub consumed : Consumes old new octets
  pub came_is : came ≡ brought limit count octets
  pub all : (length octets ≡ count) ⊎ ((length octets < count) × IsAtEnd new)

-- One command was read, and no byte after it: a line, and the bytes that belong to it, or all that were left of those.
pub record ReadsWish (old new : Option (List ℕ)) (line behind : List ℕ) (wish : Wish) : Type 0 where
  pub mid : Option (List ℕ)
  pub reads : ReadsLine old mid line
  pub some : 0 < length line
  pub wish_is : wish ≡ wish_within line
  pub consumed : Consumes mid new behind
  pub all : (length behind ≡ body_length wish) ⊎ ((length behind < body_length wish) × IsAtEnd new)

-- No byte was left.
pub record ReadsNothing (old new : Option (List ℕ)) : Type 0 where
  pub consumed : Consumes old new []
  pub end : IsAtEnd new
