use Rattle.std.proofs.Common.{◌≡◌, ◌∙◌, ◌++◌, ◌∷◌, [], ℕ, List, Some, ap, sym, subst, refl}
use Rattle.std.specs.BTreeMap.{Updates}
use Rattle.std.specs.Ordering.{nat_cmp}
use Rattle.std.specs.Cmp.Lexicographic.{slice_cmp}
use Rattle.itip_report.specs.Tally.{IsTally, rows_before}
use Rattle.itip_report.specs.declared.load.Tallied.{Tallied}
use Rattle.itip_report.proofs.Tallying.{found_at, count_done, count_first, count_more}
use Rattle.itip_report.proofs.load.count.Goals as goal
use Rattle.itip_report.proofs.load.count.Goals.{then-rows-eq0+in_ok-clone+in_ok-push, else-rows-eq0}

pub returns-in_default : goal.returns-in_default
returns-in_default c =
    λ done before long tally. count_done c.args.place done before c.args.tally.now.keys.items c.args.tally.now.counts c.args.key long tally
    (sym c.rows_before.ensures ∙ c.in_default.is)

pub returns : goal.returns
returns c = λ done before long tally.
    let v : Tallied = record { rows = c.saturating_add.result; last = c.args.place } in
    let so_far : rows_before c.args.place (found_at c.args.tally.now.counts c.args.key) ≡ Some c.in-Some.rows =
    sym c.rows_before.ensures ∙ c.in-Some.is in
    elim c.if-rows-eq0.branch [
      | then-rows-eq0+in_ok-clone+in_ok-push w ↦
          count_first c.args.place done before c.args.tally.now.keys.items c.args.tally.now.counts c.args.key long tally
          c.in-Some.rows v so_far
          c.requires c.saturating_add.ensures refl c.insert.new.self
          (subst (λ m. Updates (slice_cmp nat_cmp) m c.insert.new.self c.args.key (Some v)) (ap (λ t. t.counts) w.tally-is)
          c.in_ok-insert.ensures.updates)
          c.if-rows-eq0.tally.keys.items
          (ap (λ t. t.keys.items) w.tally-is ∙ w.in_ok-push.ensures.items ∙
          ap (λ (k : List ℕ). c.args.tally.now.keys.items ++ k ∷ []) w.in_ok-clone.ensures.cases)
          w.if-rows-eq0.true
      | else-rows-eq0 w ↦
          subst (λ (keys : List (List ℕ)). IsTally done (before ++ c.args.key ∷ []) keys c.insert.new.self)
          (sym (ap (λ t. t.keys.items) w.tally-is))
          (count_more c.args.place done before c.args.tally.now.keys.items c.args.tally.now.counts c.args.key long tally
          c.in-Some.rows v so_far
          c.requires c.saturating_add.ensures refl c.insert.new.self
          (subst (λ m. Updates (slice_cmp nat_cmp) m c.insert.new.self c.args.key (Some v)) (ap (λ t. t.counts) w.tally-is)
          c.in_ok-insert.ensures.updates)
          w.if-rows-eq0.false)
    ]
