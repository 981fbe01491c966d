-- What the code holds, as contracts see it: what is held of each UID (our own form).
use Rattle.std.specs.Prelude.{ℕ, List, [], ◌∷◌}
use Rattle.std.specs.declared.cmp.Ord as ord
use Rattle.std.specs.declared.cmp.PartialEq as eq
use Rattle.std.specs.declared.cmp.PartialOrd as partial
use Rattle.itip_items.specs.declared.key.Key.{Key}
use Rattle.itip_join.specs.declared.guarded.Guarded.{Guarded}
use Rattle.itip_join.specs.declared.join.Join as join
use Rattle.itip_join.specs.declared.keyed.Keyed.{Keyed}
use Rattle.itip_join.specs.declared.lift.Lift.{Lift}
use Rattle.itip_join.specs.declared.under_guard.UnderGuard as under
use Rattle.itip_state.specs.Held.{Best, UidState}

-- a series item, or none, and the entries under it
abbrev pub uid_state : {o : ord.Ghosts Key} {e : eq.Ghosts Key} {p : partial.Ghosts Key} {g : join.Ghosts (Lift Best)}
    {u : under.Ghosts (Keyed Key Best o e p) (Lift Best)}
    {j : join.Ghosts (Keyed Key Best o e p)} → Guarded (Lift Best) (Keyed Key Best o e p) g u j → UidState
uid_state held = record { series = held.guard; entries = held.entries.map }

-- a map by UID
abbrev pub uid_states : {V : Type 0} → List (List ℕ × V) → (V → UidState) → List (List ℕ × UidState)
uid_states [] of = []
uid_states (e ∷ es) of = (e.0, of e.1) ∷ uid_states es of
