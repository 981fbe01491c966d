use Rattle.std.proofs.Common.{rules, ◌≡◌, [], ◌∷◌, ◌++◌, List, length, ap, sym, ◌∙◌, arith, length-append}
use Rattle.itip_running.specs.History.{Group, batches_of}
use Rattle.itip_running.proofs.Adding.{adds_moves}
use Rattle.itip_running.proofs.Groups.{batches_push}
use Rattle.itip_running.proofs.front.Front.followed_by.Goals as goal

pub compare_exchange-found-requires : goal.compare_exchange-found-requires
compare_exchange-found-requires c =
    let h = c.requires.head in
    let again = c.again-seen.ensures in
    let offer = c.plain-offer.ensures in
    let pen = c.no_pen-pen.ensures in (
      ap (λ w. w.tracked) h,
      ap (λ s. s.book) again ∙ sym (ap (λ w. w.book) h),
      pen.0 ∙ (ap (λ s. s.book) again ∙ sym (ap (λ w. w.book) h)),
      offer.0,
      rw (ap (λ w. w.key) h, pen.1, offer.1, offer.3, ap (λ s. s.log) again)
          (adds_moves c.args.self.now.seen.log c.args.group.now.value c.args.self.now.count (sym c.args.self.now.counted)),
    )

pub invariant_of-front : goal.invariant_of-front
invariant_of-front c =
    let old = c.args.self.now in
    let l : List Group = old.seen.log in
    let group : Group = c.args.group.now.value in
    let log : c.compare_exchange-found.new.seen.log ≡ l ++ group ∷ [] = search rules in
    let more = ap length log ∙ length-append l (group ∷ []) in
    record {
      counted = omega (arith, old.counted, more);
      summed = c.requires.batches ∙ (sym (length-append (batches_of l) group) ∙ (sym (ap length (batches_push l group)) ∙
          sym (ap (λ (gs : List Group). length (batches_of gs)) log)));
    }
