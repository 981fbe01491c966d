use Rattle.std.proofs.Common.{◌≡◌, sym, refl, ap, ◌∙◌, not}
use Rattle.std.proofs.lemmas.Map.Entries.{filter_from_retain_pairs}
use Rattle.itip_join.proofs.merge.drop_dead.Goals as goal

-- the closure keeps its guard from call to call, and leaves each value as it is
pub returns-clause-filtered : goal.returns-clause-filtered
returns-clause-filtered g c =
    filter_from_retain_pairs _ (λ f. f.0.now ≡ c.args.guard.now) (λ e. not (g.S.Guard.is_dead c.args.guard.now e.0 e.1))
    (λ f k v b w f' i t. let said = t.called.met.1 in (
      (said.0 ∙ ap (λ s. not (g.S.Guard.is_dead s t.key.now t.value.now)) i
          ∙ ap (λ x. not (g.S.Guard.is_dead c.args.guard.now x t.value.now)) t.shows.0
          ∙ ap (λ x. not (g.S.Guard.is_dead c.args.guard.now k x)) t.shows.1),
      (sym t.leaves ∙ said.1 ∙ t.shows.1),
      (ap (λ x. x.now) t.called.met.0 ∙ i),
    ))
    _ c.args.map.now.entries c.retain.new.self.entries refl c.retain.ensures.filtered
