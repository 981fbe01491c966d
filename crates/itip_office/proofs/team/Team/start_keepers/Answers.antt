use Rattle.std.proofs.Common.{rules, ◌≡◌, All, sym, subst, refl}
use Rattle.std.specs.Vec.Iter.{into_iter_items}
use Rattle.std.proofs.lemmas.List.Elements.{All-head, All-tail}
use Rattle.itip_office.specs.declared.start.Started.{Started}
use Rattle.itip_office.specs.Pairs.{IsStarted}
use Rattle.itip_office.proofs.team.Team.start_keepers.Goals as goal

pub loop-one-init : goal.loop-one-init
loop-one-init g c =
    let P : Started g.row.R.Denot → Type 0 = λ s. IsStarted (g.N.Pairs.pair s.desk) s.held.texts s.held.shown s.passes.items in
    let all : into_iter_items c.into_iter-one-iterator.result ≡ c.args.started.items = search rules in
    record { started = subst (All P) (sym all) c.requires.started; workers = refl }

pub start_keeper-requires-clause-started : goal.start_keeper-requires-clause-started
start_keeper-requires-clause-started g c =
    let P : Started g.row.R.Denot → Type 0 = λ s. IsStarted (g.N.Pairs.pair s.desk) s.held.texts s.held.shown s.passes.items in
    let started : P c.in-Some.one =
    All-head P c.in-Some.one (into_iter_items c.next.new.self) (subst (All P) c.in-Some.ensures.steps.0 c.loop-one.invariant.started) in
    search rules

pub loop-one-preserved : goal.loop-one-preserved
loop-one-preserved g c =
    let P : Started g.row.R.Denot → Type 0 = λ s. IsStarted (g.N.Pairs.pair s.desk) s.held.texts s.held.shown s.passes.items in
    record {
      started = All-tail P c.in-Some.one (into_iter_items c.next.new.self)
          (subst (All P) c.in-Some.ensures.steps.0 c.loop-one.invariant.started);
      workers = c.loop-one.invariant.workers;
    }
