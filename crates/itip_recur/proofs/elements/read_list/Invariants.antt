use Rattle.std.proofs.Common.{length}
use denote.Shadow.{shadow}
use denote.Text.{Utf8}
use Rattle.itip_recur.specs.RuleText.{elements}
use Rattle.itip_recur.proofs.Zips.{IsRest}
use Rattle.itip_recur.proofs.elements.read_list.Given as goal

-- the rest is a text, and what it spells completes the list
abbrev pub invariant-loop-element : goal.invariant-loop-element
invariant-loop-element g l = shadow (Utf8 l.rest) × IsRest g.T.Element.spells (elements l.value) l.list.items (elements l.rest)

abbrev pub decreases-loop-element : goal.decreases-loop-element
decreases-loop-element g l = length l.rest
