use Rattle.std.proofs.Common.{None, ap, refl, rules}
use Rattle.std.specs.Option.{option_copied}
use Rattle.std.proofs.lemmas.Int.{to_z-of_z}
use mir.Val.{SFits}
use mir.Syntax.{w32}
use Rattle.itip_words.specs.Asking.{IsDueDay}
use Rattle.itip_words.specs.Days.{numbered}
use Rattle.itip_words.proofs.Asking.{due_day_is}
use Rattle.itip_words.proofs.Finding.{finds_none, none_read}
use Rattle.itip_words.proofs.Nothing.{never_due}
use Rattle.itip_words.proofs.filter.asked_due.Goals as goal

pub returns-in_err-day : goal.returns-in_err-day
returns-in_err-day c =
    finds_none _ c.from_residual.result c.from_residual.ensures
    (none_read (IsDueDay (numbered c.args.today)) (option_copied c.args.word) c.in-Some.text.now (ap option_copied c.in-Some.is)
    (never_due c.args.today None c.in-Some.text.now refl c.in_err-day.ensures))

pub returns : goal.returns
returns c =
    let fits : SFits w32 c.in_ok-day.day.number = search rules in
    let due : IsDueDay (numbered c.args.today) c.in-Some.text.now c.in_ok-day.day.number =
    due_day_is c.args.today c.in-Some.text.now c.in_ok-day.day c.in_ok-day.ensures in
    rw c.in-Some.is (simp to_z-of_z due)
