use Rattle.std.proofs.Common.{refl}
use Rattle.itip_state.proofs.Nothing.{not_ok}
use Rattle.itip_desk.specs.Entries.{name_cmp, name_entry, address_number}
use Rattle.itip_desk.proofs.Finding.{none_there, nil_if, not_nil}
use Rattle.itip_desk.proofs.found.find_named.Goals as goal
use Rattle.itip_desk.proofs.found.find_named.Goals.{in-Some+in_ok-add_named, in_default}

pub returns-clause-names : goal.returns-clause-names
returns-clause-names c = λ item names there. elim c.match-first.branch [
  | in-Some+in_ok-add_named w ↦ rw (w.uids-is) (w.in_ok-add_named.ensures item names there)
  | in_default w ↦ absurd (none_there name_cmp c.args.names.now (name_entry item (address_number c.args.address.now))
      (nil_if c.args.names.now.keys (λ some. not_ok (w.in_default.ensures.variant.1 some))) there)
]

pub returns-clause-none : goal.returns-clause-none
returns-clause-none c = λ none. elim c.match-first.branch [
  | in-Some+in_ok-add_named w ↦ absurd (not_nil c.args.names.now.keys (w.in-Some.ensures.variant.0 refl) none)
  | in_default w ↦ rw (w.uids-is) (c.new-uids.ensures.items)
]

pub returns-in_err-add_named-clause-succeeds : goal.returns-in_err-add_named-clause-succeeds
returns-in_err-add_named-clause-succeeds c = λ none. absurd (not_nil c.args.names.now.keys (c.in-Some.ensures.variant.0 refl) none)
