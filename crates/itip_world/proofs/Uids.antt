-- The UID of an item is UTF-8, so bytes that aren't name no to-do.
use Rattle.std.proofs.Common.{◌≡◌, ℕ, List, sym, ap, subst, Some, None}
use Rattle.std.specs.Str.{IsUtf8}
use Rattle.itip_items.specs.KeyParts.{uid_of}
use Rattle.itip_items.specs.declared.item.Item.{Item}
use Rattle.itip_items.proofs.Uids.{uid_of_item}
use Rattle.itip_report.specs.Resending.{IsResendOf}
use Rattle.itip_report.specs.NextSequence.{IsNext}

-- the line of its UID is a lawful one
uid_utf8 : (item : Item) → IsUtf8 (uid_of item.key)
uid_utf8 item = subst IsUtf8 (sym (uid_of_item item)) item.todo.lawful.lines.0.utf8

no_item : (uid : List ℕ) → (¬ IsUtf8 uid) → (item : Item) → uid_of item.key ≡ uid → ⊥
no_item uid not item about = not (subst IsUtf8 about (uid_utf8 item))

pub nothing_sent : (heard : List Item) (uid : List ℕ) → (¬ IsUtf8 uid) → IsResendOf heard uid None
nothing_sent heard uid not item live = no_item uid not item (ap uid_of live.best.about)

pub nothing_used : (heard : List Item) (uid : List ℕ) → (¬ IsUtf8 uid) → IsNext heard uid (Some 0)
nothing_used heard uid not item is = no_item uid not item is.about
