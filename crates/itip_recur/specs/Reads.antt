-- What a rule's text is read as (our own form).
use Rattle.std.specs.Prelude.{ℕ, List}
use Rattle.itip_recur.specs.declared.read.Reading.{Reading}
use Rattle.itip_recur.specs.declared.read.Reading.TheVariants.{Plain, OutsideProfile}
use Rattle.itip_recur.specs.RuleText.{RuleText, IsOpaqueText}

-- plain exactly for a text of the profile, with that text's rule
abbrev pub IsReading : List ℕ → Reading → Type 0
IsReading text (Plain rule) = RuleText text rule
IsReading text OutsideProfile = IsOpaqueText text
