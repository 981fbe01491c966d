-- Refused messages in few bytes each: their causes, and where they were, as numbers (our own form).
use Rattle.std.specs.Prelude.{◌≡◌, ℕ, ◌^◌, ◌<◌, ◌==◌, nat_le, ◌||◌, List, [], ◌∷◌}
use Rattle.std.specs.Prelude.{◌++◌, drop, slice_index, Option, Some, None, Bool, true, false}
use Rattle.std.specs.Option.{option_to_list, IfSome}
use Rattle.std.specs.List.{AllByRecursion}
use Rattle.itip_message.specs.declared.error.MessageCause.{MessageCause}
use Rattle.itip_inbox.specs.declared.refused.RefusedMessage.{RefusedMessage}
use Rattle.itip_inbox.specs.Leb128.{numbers, Spells}

-- which of a to-do and a line are known, as a number
abbrev pub known : Option ℕ → Option ℕ → ℕ
known None None = 0
known (Some todo) None = 1
known None (Some line) = 2
known (Some todo) (Some line) = 3

abbrev pub has_todo : ℕ → Bool
has_todo known = (known == 1) || (known == 3)

abbrev pub has_line : ℕ → Bool
has_line known = nat_le 2 known

-- where a refused message was: which of its to-do and its line are known, its source, its message, and those that are known
abbrev pub places : RefusedMessage → List ℕ
places refused =
    known refused.refusal.todo refused.refusal.line ∷ (refused.source ∷ (refused.message ∷
    (option_to_list refused.refusal.todo ++ option_to_list refused.refusal.line)))

abbrev pub all_places : List RefusedMessage → List ℕ
all_places [] = []
all_places (refused ∷ refusals) = places refused ++ all_places refusals

-- a number that is there or not, and the numbers after it
abbrev pub number_if : Bool → ℕ → Option ℕ
number_if true n = Some n
number_if false n = None

abbrev pub after_if : Bool → List ℕ → List ℕ
after_if true ns = drop 1 ns
after_if false ns = ns

-- the message refused for this cause whose numbers come first
abbrev pub first_unpacked : MessageCause → List ℕ → RefusedMessage
first_unpacked cause ns = record {
  source = slice_index ns 1;
  message = slice_index ns 2;
  refusal = record {
    cause = cause;
    todo = number_if (has_todo (slice_index ns 0)) (slice_index (drop 3 ns) 0);
    line = number_if (has_line (slice_index ns 0)) (slice_index (after_if (has_todo (slice_index ns 0)) (drop 3 ns)) 0);
  };
}

-- the numbers after those of the first
abbrev pub after_first : List ℕ → List ℕ
after_first ns = after_if (has_line (slice_index ns 0)) (after_if (has_todo (slice_index ns 0)) (drop 3 ns))

-- the messages refused for these causes, whose numbers follow each other
abbrev pub unpacked : List MessageCause → List ℕ → List RefusedMessage
unpacked [] ns = []
unpacked (cause ∷ causes) ns = first_unpacked cause ns ∷ unpacked causes (after_first ns)

-- its numbers have at most 64 bits
abbrev pub Fits : RefusedMessage → Type 0
Fits refused =
    (refused.source < 2 ^ 64) × (refused.message < 2 ^ 64) × IfSome refused.refusal.todo (λ todo. todo < 2 ^ 64) ×
    IfSome refused.refusal.line (λ line. line < 2 ^ 64)

-- These are the numbers of the messages that were refused for these causes, and no others.
pub record ArePlaces (causes : List MessageCause) (ns : List ℕ) : Type 0 where
  pub places : ns ≡ all_places (unpacked causes ns)
  pub fit : AllByRecursion Fits (unpacked causes ns)

-- And these bytes are those numbers.
pub record ArePacked (causes : List MessageCause) (octets : List ℕ) : Type 0 where
  pub spelled : Spells octets (all_places (unpacked causes (numbers octets)))
  pub fit : AllByRecursion Fits (unpacked causes (numbers octets))
