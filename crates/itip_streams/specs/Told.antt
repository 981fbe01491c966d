-- What is said of a source and of a message in it (our own format).
use Rattle.std.specs.Prelude.{ℕ, List, ◌++◌, Option, Some, None, codes, decimal, string_bytes}
use Rattle.itip_streams.specs.declared.source_name.SourceName.{SourceName}
use Rattle.itip_streams.specs.declared.source_name.SourceName.TheVariants as named

-- what a source is called
abbrev pub called : SourceName → List ℕ
called named.StandardInput = codes "standard input"
called (named.File name) = string_bytes name
called (named.Unreadable name) = string_bytes name

-- what stands before the number of a message in its place
abbrev pub front_of : SourceName → List ℕ
front_of named.StandardInput = codes "message "
front_of (named.File name) = string_bytes name ++ codes " message "
front_of (named.Unreadable name) = string_bytes name ++ codes " message "

-- the place of a message, by its number in the source
abbrev pub place_of : SourceName → ℕ → List ℕ
place_of name message = front_of name ++ decimal message

-- a place, the number of a refusal, and why, if that is given
abbrev pub refusal_at : List ℕ → ℕ → Option (List ℕ) → List ℕ
refusal_at place number None = place ++ codes ": refused " ++ decimal number
refusal_at place number (Some why) = place ++ codes ": refused " ++ decimal number ++ codes ": " ++ why

-- that a source can't be read
abbrev pub unread : List ℕ → List ℕ
unread name = name ++ codes ": read failed"
