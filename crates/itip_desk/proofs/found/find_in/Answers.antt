use Rattle.std.proofs.Common.{refl}
use Rattle.itip_state.proofs.Nothing.{not_ok}
use Rattle.itip_desk.specs.Entries.{day_cmp, day_entry}
use Rattle.itip_desk.specs.declared.entry.Mark.TheVariants.{Day, Always}
use Rattle.itip_desk.proofs.Finding.{none_there, nil_if, not_nil}
use Rattle.itip_desk.proofs.found.find_in.Goals as goal
use Rattle.itip_desk.proofs.found.find_in.Goals.{in-Some+in_ok-add_in, in_default}

-- if there is a first entry, the entries that are there are found; otherwise there are none
pub returns-clause-days : goal.returns-clause-days
returns-clause-days c = λ item day low high there. elim c.match-first.branch [
  | in-Some+in_ok-add_in w ↦ rw (w.uids-is) (w.in_ok-add_in.ensures.days item day low high there)
  | in_default w ↦ absurd (none_there day_cmp c.args.days.now (day_entry item (Day day))
      (nil_if c.args.days.now.keys (λ some. not_ok (w.in_default.ensures.variant.1 some))) there)
]

pub returns-clause-always : goal.returns-clause-always
returns-clause-always c = λ item there. elim c.match-first.branch [
  | in-Some+in_ok-add_in w ↦ rw (w.uids-is) (w.in_ok-add_in.ensures.always item there)
  | in_default w ↦ absurd (none_there day_cmp c.args.days.now (day_entry item Always)
      (nil_if c.args.days.now.keys (λ some. not_ok (w.in_default.ensures.variant.1 some))) there)
]

-- without entries there is no first
pub returns-clause-none : goal.returns-clause-none
returns-clause-none c = λ none. elim c.match-first.branch [
  | in-Some+in_ok-add_in w ↦ absurd (not_nil c.args.days.now.keys (w.in-Some.ensures.variant.0 refl) none)
  | in_default w ↦ rw (w.uids-is) (c.new-uids.ensures.items)
]

pub returns-in_err-add_in-clause-succeeds : goal.returns-in_err-add_in-clause-succeeds
returns-in_err-add_in-clause-succeeds c = λ none. absurd (not_nil c.args.days.now.keys (c.in-Some.ensures.variant.0 refl) none)
