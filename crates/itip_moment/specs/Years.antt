-- The days of the years 0000 to 9999, numbered from 1970-01-01 (our own form).
use Rattle.std.specs.Prelude.{ℤ, pos, neg_ℤ}
use Rattle.jiff.specs.Words.{IsBetween}

-- from 0000-01-01 to 9999-12-31
abbrev pub IsDayNumber : ℤ → Type 0
IsDayNumber day = IsBetween (neg_ℤ (pos 719_528)) (pos 2_932_896) day
