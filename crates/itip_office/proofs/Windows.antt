-- Windows of the same days are one.
use Rattle.std.proofs.Common.{◌≡◌, ℤ}
use Rattle.std.proofs.Props.{props}
use mathlib.Core.HLevel.{is_prop→PathP}
use Rattle.itip_view.specs.Window.{IsWindow}
use Rattle.itip_view.specs.declared.window.Window.{Window}

window_prop : (from to : ℤ) → IsProp (IsWindow from to)
window_prop from to = hlevel props

pub same_window : (v w : Window) → v.from ≡ w.from → v.to ≡ w.to → v ≡ w
same_window v w from to = λ x. record {
  from = from x;
  to = to x;
  lawful = is_prop→PathP (λ y. IsWindow (from y) (to y)) (λ y. window_prop (from y) (to y)) v.lawful w.lawful x;
}
