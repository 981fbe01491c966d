-- The orders of stamps and of moments are total (our own form).
use Rattle.std.specs.Cmp.{IsTotalOrder}
use Rattle.std.specs.Cmp.Lexicographic.{options_total, lists_total}
use Rattle.std.proofs.lemmas.Cmp.{then_total, on_total, nat_cmp_total, int_cmp_total}
use Rattle.itip_moment.specs.Moment.{moment_day, moment_second, moment_form, moment_zone, form_rank}
use Rattle.itip_moment.specs.Order.{stamp_cmp, moment_cmp}

pub stamp_total : IsTotalOrder stamp_cmp
stamp_total = then_total (on_total (λ s. s.day) int_cmp_total) (on_total (λ s. s.second) nat_cmp_total)

pub moment_total : IsTotalOrder moment_cmp
moment_total =
    then_total (on_total moment_day int_cmp_total)
    (then_total (on_total moment_second (options_total nat_cmp_total))
    (then_total (on_total (λ m. form_rank (moment_form m)) nat_cmp_total) (on_total moment_zone (lists_total nat_cmp_total))))
