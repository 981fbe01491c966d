-- Days that can be passed over (our own form).
use Rattle.std.specs.Prelude.{◌≡◌, ℤ, pos, ◌+ℤ◌, ◌≤ℤ◌, ◌<ℤ◌}

-- P holds for no day from `from` on and before `stop`
abbrev pub IsNone : (ℤ → Type 0) → ℤ → ℤ → Type 0
IsNone P from stop = (day : ℤ) → from ≤ℤ day → day <ℤ stop → P day → ⊥

-- the first day from `from` on for which P holds, which lies before `stop`
pub record IsFirst (P : ℤ → Type 0) (from stop day : ℤ) : Type 0 where
  pub not_before : from ≤ℤ day
  pub before_stop : day <ℤ stop
  pub is : P day
  pub first : IsNone P from day

-- P holds for none of the `wait` days from this one on, and for this one if `wait` is 0
pub record IsWait (P : ℤ → Type 0) (day wait : ℤ) : Type 0 where
  pub here : wait ≡ pos 0 → P day
  pub none : IsNone P day (day +ℤ wait)
