-- What is said of refused messages, and whether causes are asked for (docs/USING.md; our own rule).
use Rattle.std.specs.Prelude.{◌≡◌, ℕ, Bool, List, Option}
use Rattle.itip_desk.specs.Refusals.{number_of}
use Rattle.itip_desk.specs.declared.refusal.Refusal.TheVariants.{Message}
use Rattle.itip_inbox.specs.declared.refused.RefusedMessage.{RefusedMessage}
use Rattle.itip_streams.specs.Told.{place_of, refusal_at}
use Rattle.itip_streams.specs.Visible.{visible}
use Rattle.itip_streams.specs.declared.source_name.SourceName.{SourceName}
use Rattle.itip_words.specs.declared.words.Call.{Call}
use Rattle.itip_words.specs.declared.words.Call.TheVariants as call

-- the line about a refused message of a source, with the cause if there is one to say
abbrev pub IsRefusedLine : SourceName → RefusedMessage → Option (List ℕ) → List ℕ → Type 0
IsRefusedLine name refused cause line =
    line ≡ visible (refusal_at (place_of name refused.message) (number_of (Message refused.refusal)) cause)

-- a call asks where and why something was refused: `--why`
abbrev pub asks_causes : Call → Bool
asks_causes (call.Run scripted) = scripted.why
asks_causes (call.Stream streamed) = streamed.scripted.why
asks_causes (call.Office scripted workers) = scripted.why
asks_causes (call.Check why) = why
asks_causes (call.Filter filter) = filter.intake.why
