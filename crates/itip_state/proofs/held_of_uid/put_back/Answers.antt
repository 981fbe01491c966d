use Rattle.std.proofs.Common.{◌≡◌, subst, sym, refl, true}
use Rattle.itip_join.specs.KeyByKey.{all_alive}
use Rattle.itip_state.specs.Held.{UidState, is_killed}
use Rattle.itip_state.specs.UidStates.{uid_state}
use Rattle.itip_state.proofs.Undoing.{back_is}
use Rattle.itip_state.proofs.held_of_uid.put_back.Goals as goal

pub invariant_of-result : goal.invariant_of-result
invariant_of-result c =
    let new : UidState = record { series = c.args.series.guard; entries = c.put_entry.new.entries.map } in
    let is : new ≡ c.requires.0 =
    back_is c.args.slot.now c.args.before (uid_state c.args.series) c.requires.0 new c.requires.1 refl c.put_entry.new.entries.ordered
    c.put_entry.ensures in
    record {
      no_dead_entry =
          subst (λ (sh : UidState). all_alive (is_killed sh.series) sh.entries ≡ true) (sym is) (c.requires.1).whole.alive;
    }

pub returns : goal.returns
returns c = λ old back. back_is c.args.slot.now c.args.before (uid_state c.args.series) old
    (record { series = c.args.series.guard; entries = c.put_entry.new.entries.map }) back refl c.put_entry.new.entries.ordered
    c.put_entry.ensures
