use Rattle.std.proofs.Common.{◌≤◌, ◌<◌, ap, subst, arith, length, List}
use mathlib.Core.List.{IsPrefix}
use Rattle.itip_running.specs.History.{Group}
use Rattle.itip_running.proofs.Fronts.{prefix_shorter}
use Rattle.itip_running.proofs.front.Front.begins.Goals as goal

pub returns-then-self-other : goal.returns-then-self-other
returns-then-self-other c =
    let both = c.learn.new.self.log in
    let this : IsPrefix c.args.self.now.seen.log both =
    subst (λ (l : List Group). IsPrefix l both) (ap (λ s. s.log) c.again-both.ensures) c.learn.ensures.2 in
    let less : c.args.self.now.count ≤ c.args.other.now.count = c.if-self-other.true in
    prefix_shorter c.args.self.now.seen.log c.args.other.now.seen.log both this c.learn.ensures.3
    (omega (arith, less, c.args.self.now.counted, c.args.other.now.counted))

pub returns : goal.returns
returns c =
    let both = c.learn.new.self.log in
    let this : IsPrefix c.args.self.now.seen.log both =
    subst (λ (l : List Group). IsPrefix l both) (ap (λ s. s.log) c.again-both.ensures) c.learn.ensures.2 in
    let less : length c.args.other.now.seen.log < length c.args.self.now.seen.log =
    omega (arith, c.if-self-other.false, c.args.self.now.counted, c.args.other.now.counted) in
    (prefix_shorter c.args.other.now.seen.log c.args.self.now.seen.log both c.learn.ensures.3 this (omega (arith, less)), less)
