use Rattle.std.proofs.Common.{rules}
use Rattle.std.proofs.lemmas.Int.{to_z-of_z}
use mir.Val.{SFits}
use mir.Syntax.{w32}
use Rattle.itip_words.proofs.Windows.{none_is, window_found, window_none}
use Rattle.itip_words.proofs.words.window_of.Goals as goal

pub returns-in_err-from-clause-none : goal.returns-in_err-from-clause-none
returns-in_err-from-clause-none c = none_is c.from_residual.result (λ w is. c.in_err-from.ensures.none w.from is.first)

pub returns-in_err-to-clause-none : goal.returns-in_err-to-clause-none
returns-in_err-to-clause-none c = none_is c.from_residual-in_err-to.result (λ w is. c.in_err-to.ensures.none w.to is.last)

pub returns-clause-found : goal.returns-clause-found
returns-clause-found c =
    let first : SFits w32 c.in_ok-from.from.number = search rules in
    let last : SFits w32 c.in_ok-to.to.number = search rules in
    window_found c.args.from.now c.args.to.now c.in_ok-from.from.number c.in_ok-to.to.number c.new.result c.ok.result c.ok.ensures.value
    (simp to_z-of_z at c.new.ensures.window) c.in_ok-from.ensures.found c.in_ok-to.ensures.found

pub returns-clause-none : goal.returns-clause-none
returns-clause-none c =
    let first : SFits w32 c.in_ok-from.from.number = search rules in
    let last : SFits w32 c.in_ok-to.to.number = search rules in
    window_none c.args.from.now c.args.to.now c.in_ok-from.from.number c.in_ok-to.to.number c.new.result c.ok.result c.ok.ensures.value
    (simp to_z-of_z at c.new.ensures.lawful) c.in_ok-from.ensures.found c.in_ok-to.ensures.found
