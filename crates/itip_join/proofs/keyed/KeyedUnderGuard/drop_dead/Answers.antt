use Rattle.std.proofs.Common.{◌≡◌, ◌∙◌, sym, ap, subst}
use Rattle.std.specs.Prelude.{Option}
use Rattle.itip_join.specs.Optional.{IsBelowUnder, alive_part}
use Rattle.itip_join.specs.KeyByKey.{value_at, all_alive}
use Rattle.itip_join.proofs.Under.{below_kept, kept_below, all_alive-kept, value_at-kept}
use Rattle.itip_join.proofs.keyed.KeyedUnderGuard.drop_dead.Goals as goal

pub returns-clause-alive : goal.returns-clause-alive
returns-clause-alive g c = ap (all_alive (g.S.Guard.is_dead c.args.guard.now)) c.drop_dead.ensures.filtered
    ∙ all_alive-kept (g.S.Guard.is_dead c.args.guard.now) c.args.self.now.map

pub returns-clause-keeps : goal.returns-clause-keeps
returns-clause-keeps g c = λ k.
    let dead = g.S.Guard.is_dead c.args.guard.now in
    let is : value_at g.K.Ord.cmp c.drop_dead.new.self k ≡ alive_part (dead k) (value_at g.K.Ord.cmp c.args.self.now.map k) =
    ap (λ es. value_at g.K.Ord.cmp es k) c.drop_dead.ensures.filtered
    ∙ value_at-kept dead g.met.K.Ord.total g.met.K.Exact.exact c.args.self.now.map c.args.self.now.ordered k in
    subst (λ (o : Option g.row.V.Denot). IsBelowUnder (dead k) g.V.Join.le (value_at g.K.Ord.cmp c.args.self.now.map k) o) (sym is)
    (below_kept g.V.Join.le (dead k) g.met.V.Join.reflexive (value_at g.K.Ord.cmp c.args.self.now.map k))

pub returns-clause-adds_none : goal.returns-clause-adds_none
returns-clause-adds_none g c = λ k.
    let dead = g.S.Guard.is_dead c.args.guard.now in
    let is : value_at g.K.Ord.cmp c.drop_dead.new.self k ≡ alive_part (dead k) (value_at g.K.Ord.cmp c.args.self.now.map k) =
    ap (λ es. value_at g.K.Ord.cmp es k) c.drop_dead.ensures.filtered
    ∙ value_at-kept dead g.met.K.Ord.total g.met.K.Exact.exact c.args.self.now.map c.args.self.now.ordered k in
    subst (λ (o : Option g.row.V.Denot). IsBelowUnder (dead k) g.V.Join.le o (value_at g.K.Ord.cmp c.args.self.now.map k)) (sym is)
    (kept_below g.V.Join.le (dead k) g.met.V.Join.reflexive (value_at g.K.Ord.cmp c.args.self.now.map k))
