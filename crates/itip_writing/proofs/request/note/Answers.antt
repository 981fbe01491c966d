use Rattle.std.proofs.Common.{◌≡◌, ℕ, List, subst, cond, Some}
use Rattle.std.specs.BTreeMap.{get, is_at}
use Rattle.std.specs.Cmp.Lexicographic.{slice_cmp}
use Rattle.std.specs.Ordering.{nat_cmp}
use Rattle.itip_writing.proofs.request.note.Goals as goal

pub returns : goal.returns
returns c = λ other.
    subst (λ (uid : List ℕ). get (slice_cmp nat_cmp) c.insert.new.self other ≡
    cond (is_at (slice_cmp nat_cmp uid) other) (Some c.args.sequence) (get (slice_cmp nat_cmp) c.args.known.now other))
    c.in_ok-clone.ensures.cases (c.in_ok-insert.ensures.updates.0 other)
