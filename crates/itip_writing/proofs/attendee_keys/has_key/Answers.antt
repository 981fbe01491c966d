use Rattle.std.proofs.Common.{◌∙◌, ℕ, List, ap}
use Rattle.std.specs.BTreeSet.{contains}
use Rattle.std.specs.Cmp.Lexicographic.{slice_cmp}
use Rattle.std.specs.Ordering.{nat_cmp}
use Rattle.itip_writing.proofs.attendee_keys.has_key.Goals as goal

pub returns : goal.returns
returns c = c.contains.ensures ∙ ap (λ (key : List ℕ). contains (slice_cmp nat_cmp) c.args.keys.now key) c.in_ok-key.ensures.key
