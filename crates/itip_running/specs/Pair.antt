-- What the two copies of a running desk hold, and what a look at them tells (our own form).
use Rattle.std.specs.Prelude.{◌≡◌, ℕ, true, List, [], ◌∷◌, ◌++◌, drop}
use mathlib.Core.Option.{some}
use lib.ListN.{get_elem?}
use Rattle.logbook.specs.Pages.{Book}
use Rattle.itip_running.specs.History.{Items, Group, batches_of}
use Rattle.itip_running.specs.declared.published.Published.{Published}
use Rattle.itip_running.specs.declared.published.KnownHistory.{KnownHistory}
use Rattle.itip_running.specs.declared.published.Op.{Op}
use Rattle.itip_running.specs.declared.published.Op.TheVariants.{Take, Mark}

-- which history it is
abbrev pub name_of : Book → KnownHistory
name_of b = record { known = true; number = b.number; log_name = b.log_name; cells_name = b.cells_name }

-- what the two copies have in common: the batches that they have taken, and the history at the last mark
abbrev pub state_of : Published → List Items × KnownHistory × List Group
state_of x = (x.history, name_of x.front.seen.book, x.front.seen.log)

abbrev pub applied_to : List Items × KnownHistory × List Group → Op → List Items × KnownHistory × List Group
applied_to s (Take b) = (s.0 ++ b ∷ [], s.1, s.2)
applied_to s (Mark f) = (s.0, name_of f.seen.book, f.seen.log)

-- the batches among what was handed in
abbrev pub takes : List Op → List Items
takes [] = []
takes (Take b ∷ ops) = b ∷ takes ops
takes (Mark f ∷ ops) = takes ops

-- the groups that are published when this value is shown
abbrev pub published_groups : Published → List Group
published_groups x = x.front.seen.log

-- the batches of these groups
abbrev pub published_log : Published → List Items
published_log x = batches_of x.front.seen.log

-- the batches among the operations that readers don't see yet: all but the first `behind`
abbrev pub pending_log : ℕ → List Op → List Items
pending_log behind ops = takes (drop behind ops)

-- the pair's rule: the value's batches are those of its groups, and every seat that knows a history knows this one
abbrev pub Tied : Published → List KnownHistory → Type 0
Tied x views = (x.history ≡ batches_of x.front.seen.log)
    × ((seat : ℕ) (v : KnownHistory) → get_elem? views seat ≡ some v → v.known ≡ true → v ≡ name_of x.front.seen.book)

-- what entering and publishing tell
abbrev pub Sights : KnownHistory → Published → Published → KnownHistory → Type 0
Sights v x y w = (y.history ≡ batches_of y.front.seen.log) × (w ≡ name_of y.front.seen.book) × (v.known ≡ true → w ≡ v)
