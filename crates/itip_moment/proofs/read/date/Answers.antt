use Rattle.std.proofs.Common.{◌≡◌, arith, length}
use Rattle.std.proofs.lemmas.Option.{IfSome_then}
use Rattle.itip_moment.proofs.DigitLemmas.{AreDateDigits, date_text-found, date_text-only}
use Rattle.itip_moment.proofs.OptionLemmas.{IfNone-weaker}
use Rattle.itip_moment.proofs.read.date.Goals as goal

digits : (c : goal.After-day_of) → AreDateDigits c.args.text.now c.in_ok-century.century c.in_ok-year.year c.in_ok-month.month
    c.in_ok-day.day
digits c =
    let long : length c.args.text.now ≡ 8 = omega arith in
    record {
      eight_long = long;
      century_is = c.in_ok-century.ensures.found;
      year_is = c.in_ok-year.ensures.found;
      month_is = c.in_ok-month.ensures.found;
      day_is = c.in_ok-day.ensures.found;
      year_in = c.in_ok-year.ensures.bound;
    }

pub returns-clause-found : goal.returns-clause-found
returns-clause-found c =
    IfSome_then c.day_of.result c.day_of.ensures.found (λ day is. date_text-found _ _ _ _ _ (digits c) day.number is)

pub returns-clause-none : goal.returns-clause-none
returns-clause-none c =
    IfNone-weaker c.day_of.result (λ no number is. no number (date_text-only _ _ _ _ _ (digits c) number is)) c.day_of.ensures.none
