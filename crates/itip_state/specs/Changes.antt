-- What hearing an item changes in what is held of its UID (our own form).
use Rattle.std.specs.Prelude.{◌≡◌, true, cond, Option, Some, None, is_some}
use Rattle.std.specs.Ordering.{is_eq}
use Rattle.itip_join.specs.KeyByKey.{value_at}
use Rattle.itip_items.specs.declared.key.Key.{Key}
use Rattle.itip_state.specs.Slots.{slot_cmp}
use Rattle.itip_state.specs.Held.{Best, UidState, IsReduced}

-- `old` is `now` with `held` at the key, and has the same series item. If `held` is an item, `now` has one there too, which it replaces.
-- `old` is reduced.
pub record IsBackAt (key : Key) (held : Option Best) (now old : UidState) : Type 0 where
  pub series : now.series ≡ old.series
  pub entries : (q : Key) → value_at slot_cmp old.entries q ≡ cond (is_eq (slot_cmp key q)) held (value_at slot_cmp now.entries q)
  pub there : is_some held ≡ true → is_some (value_at slot_cmp now.entries key) ≡ true
  pub whole : IsReduced old

-- what is in the place of `there` once that was removed or replaced by another; if nothing was there, nothing is
abbrev pub in_place_of : Option Best → Option Best → Option Best
in_place_of there None = None
in_place_of None (Some best) = None
in_place_of (Some was) (Some best) = Some best
