use Rattle.std.proofs.Common.{◌≡◌, ◌∙◌, ap, ℕ, ◌+◌, length, arith}
use Rattle.std.specs.Prelude.{min}
use Rattle.itip_todo.specs.Parts.{Parts}
use Rattle.itip_todo.specs.PartsOf.{parts_of}
use Rattle.itip_items.specs.Items.{canonical_contents}
use Rattle.itip_items.proofs.Counting.{count_is}
use Rattle.itip_items.proofs.canonical.line_count.Goals as goal

-- one number more
step : (top before total number after : ℕ) → before ≡ min total top → after ≡ min (before + number) top → after ≡ min (total + number) top
step top before total number after e f = omega (arith, e, f)

pub returns : goal.returns
returns c = λ k.
    let top : ℕ = 18446744073709551615 in
    let a = step top _ _ c.len.result _ c.saturating_add.ensures c.saturating_add-2.ensures in
    let b = step top _ _ c.len-2.result _ a c.saturating_add-3.ensures in
    let d = step top _ _ c.len-3.result _ b c.saturating_add-4.ensures in
    let e = step top _ _ c.len-4.result _ d c.saturating_add-5.ensures in
    let f = step top _ _ c.len-5.result _ e c.saturating_add-6.ensures in
    let parts : Parts = parts_of c.args.todo.now in
    let is = count_is k parts in
    let total : 7 + c.single_count.result + c.len.result + c.len-2.result + c.len-3.result + c.len-4.result + c.len-5.result ≡ length
    (canonical_contents k parts) =
    omega (arith, is, c.single_count.ensures.count, c.len.ensures, c.len-2.ensures, c.len-3.ensures, c.len-4.ensures, c.len-5.ensures) in
    f ∙ ap (λ n. min n top) total
