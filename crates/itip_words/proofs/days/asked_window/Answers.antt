use Rattle.std.proofs.Common.{◌≡◌, ◌∙◌, Some, None, sym, rules}
use Rattle.std.specs.Option.{option_copied}
use Rattle.std.proofs.lemmas.Int.{to_z-of_z}
use mir.Val.{SFits}
use mir.Syntax.{w32}
use Rattle.itip_words.specs.Days.{numbered}
use Rattle.itip_words.proofs.Windows.{none_is}
use Rattle.itip_words.proofs.AskedDays.{asked_one, asked_found, asked_none}
use Rattle.itip_words.proofs.days.asked_window.Goals as goal

pub returns-in_err-from-clause-none : goal.returns-in_err-from-clause-none
returns-in_err-from-clause-none c = none_is c.from_residual.result (λ w is. c.in_err-from.ensures.none is.from_day is.from_is)

pub returns-in_err-to-clause-none : goal.returns-in_err-to-clause-none
returns-in_err-to-clause-none c = none_is c.from_residual-in_err-to.result (λ w is. c.in_err-to.ensures.none is.to_day is.to_is)

pub returns-in_err-first-clause-none : goal.returns-in_err-first-clause-none
returns-in_err-first-clause-none c =
    none_is c.from_residual-in_err-first.result (λ w is.
    let one = asked_one (option_copied c.args.from) (option_copied c.args.to) (numbered c.args.today) c.args.is_due
    (numbered c.in_ok-from.from) (numbered c.in_ok-to.to) w c.in_ok-from.ensures.found c.in_ok-to.ensures.found is in
    let bad : None ≡ Some w.from = c.in_err-first.ensures ∙ one.0 in
    absurd cc)

pub returns-in_err-after-clause-none : goal.returns-in_err-after-clause-none
returns-in_err-after-clause-none c =
    none_is c.from_residual-in_err-after.result (λ w is.
    let one = asked_one (option_copied c.args.from) (option_copied c.args.to) (numbered c.args.today) c.args.is_due
    (numbered c.in_ok-from.from) (numbered c.in_ok-to.to) w c.in_ok-from.ensures.found c.in_ok-to.ensures.found is in
    let bad : None ≡ Some w.to = c.in_err-after.ensures ∙ one.1 in
    absurd cc)

pub returns-clause-found : goal.returns-clause-found
returns-clause-found c =
    let first : SFits w32 c.in_ok-first.first = search rules in
    let after : SFits w32 c.in_ok-after.after = search rules in
    asked_found (option_copied c.args.from) (option_copied c.args.to) (numbered c.args.today) c.args.is_due (numbered c.in_ok-from.from)
    (numbered c.in_ok-to.to) c.in_ok-first.first c.in_ok-after.after c.new.result c.ok.result c.ok.ensures.value
    (simp to_z-of_z at c.new.ensures.window) c.in_ok-from.ensures.found c.in_ok-to.ensures.found (sym c.in_ok-first.ensures)
    (sym c.in_ok-after.ensures)

pub returns-clause-none : goal.returns-clause-none
returns-clause-none c =
    let first : SFits w32 c.in_ok-first.first = search rules in
    let after : SFits w32 c.in_ok-after.after = search rules in
    asked_none (option_copied c.args.from) (option_copied c.args.to) (numbered c.args.today) c.args.is_due (numbered c.in_ok-from.from)
    (numbered c.in_ok-to.to) c.in_ok-first.first c.in_ok-after.after c.new.result c.ok.result c.ok.ensures.value
    (simp to_z-of_z at c.new.ensures.lawful) c.in_ok-from.ensures.found c.in_ok-to.ensures.found (sym c.in_ok-first.ensures)
    (sym c.in_ok-after.ensures)
