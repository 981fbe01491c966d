-- What is left of a source, if its bytes are known (our own form).
use Rattle.std.specs.Prelude.{ℕ, List, [], Option, Some, None, option_map, unwrap_or, string_bytes}
use Rattle.itip_streams.specs.declared.source.Held.{Held}
use Rattle.itip_streams.specs.declared.source.Held.TheVariants as held
use Rattle.itip_streams.specs.declared.source_name.SourceName.{SourceName}
use Rattle.itip_streams.specs.declared.source_name.SourceName.TheVariants as named

-- what is left of a reader; nothing once it has been dropped
abbrev pub left : {R : Type 0} → (R → Option (List ℕ)) → Option R → Option (List ℕ)
left remaining reader = unwrap_or (option_map remaining reader) (Some [])

-- What is left of what a source reads from. What is in a file that isn't opened yet is not known.
abbrev pub left_of : {F I : Type 0} → (F → Option (List ℕ)) → (I → Option (List ℕ)) → Held F I → Option (List ℕ)
left_of file input (held.Closed name) = None
left_of file input (held.File reader) = left file reader
left_of file input (held.Input reader) = left input reader
left_of file input held.Nothing = None

-- the name of the file that is still to be opened
abbrev pub awaits : {F I : Type 0} → Held F I → Option (List ℕ)
awaits (held.Closed name) = Some name.now
awaits (held.File reader) = None
awaits (held.Input reader) = None
awaits held.Nothing = None

-- the name of a source that is a file
abbrev pub file_name : SourceName → Option (List ℕ)
file_name named.StandardInput = None
file_name (named.File name) = Some (string_bytes name)
file_name (named.Unreadable name) = None
