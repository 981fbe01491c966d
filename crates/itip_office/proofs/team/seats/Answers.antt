use Rattle.std.proofs.Common.{rules, ◌≡◌, sym, subst, All}
use Rattle.std.specs.Vec.Iter.{into_iter_items}
use Rattle.std.proofs.lemmas.List.Elements.{All-head, All-tail}
use Rattle.itip_running.specs.ContractViews.{pass_pair}
use Rattle.itip_running.specs.declared.pass.Pass.{Pass}
use Rattle.itip_office.proofs.team.seats.Goals as goal

pub loop-pass-init : goal.loop-pass-init
loop-pass-init g c =
    let all : into_iter_items c.into_iter-pass-iterator.result ≡ c.args.passes.items = search rules in
    subst (All (λ (p : Pass). pass_pair p ≡ g.N.Pairs.pair c.args.desk)) (sym all) c.requires.pair

pub new-requires : goal.new-requires
new-requires g c =
    let P : Pass → Type 0 = λ p. pass_pair p ≡ g.N.Pairs.pair c.args.desk in
    record {
      pair = All-head P c.in-Some.pass (into_iter_items c.next.new.self) (subst (All P) c.in-Some.ensures.steps.0 c.loop-pass.invariant);
    }

pub loop-pass-preserved : goal.loop-pass-preserved
loop-pass-preserved g c =
    let P : Pass → Type 0 = λ p. pass_pair p ≡ g.N.Pairs.pair c.args.desk in
    All-tail P c.in-Some.pass (into_iter_items c.next.new.self) (subst (All P) c.in-Some.ensures.steps.0 c.loop-pass.invariant)
