use Rattle.std.proofs.Common.{◌≡◌, ◌+◌, List, [], ◌∷◌, ◌++◌, length, sym, ap, subst, arith, Option}
use Rattle.std.proofs.lemmas.List.{length_push}
use Rattle.std.proofs.lemmas.List.Elements.{All-nil, All-push, All-same}
use Rattle.logbook.specs.Pages.{Book}
use Rattle.itip_office.specs.declared.start.Started.{Started}
use Rattle.itip_office.specs.Pairs.{pair_of, AreNumbered, IsStarted}
use Rattle.itip_office.proofs.Starting.{numbered_more, own_pairs}
use Rattle.itip_office.proofs.start.read_desks.Goals as goal

abbrev Has : {R : Type 0} → Started R → Type 0
Has s = IsStarted (pair_of s.held.shown) s.held.texts s.held.shown s.passes.items

pub loop-desk-init : goal.loop-desk-init
loop-desk-init g c =
    let none : c.new-all.result.items ≡ [] = c.new-all.ensures.items in
    record {
      count = ap length none;
      numbered = subst (λ (l : List (Started g.row.R.Denot)). AreNumbered (λ s. s.desk) 0 l) (sym none) tt;
      started = All-same (Has {R = g.row.R.Denot}) c.new-all.result.items [] none (All-nil (Has {R = g.row.R.Denot}));
    }

pub loop-desk-preserved : goal.loop-desk-preserved
loop-desk-preserved g c =
    let was = c.loop-desk.invariant in
    let all = c.loop-desk.all.items in
    let one = c.in_ok-started.started in
    let pushed : c.push.new.self.items ≡ all ++ one ∷ [] = c.in_ok-push.ensures.items in
    let is : one.desk ≡ 0 + length all = omega (arith, c.in_ok-started.ensures.desk, was.count) in
    record {
      count = omega (arith, ap length pushed, length_push all one, was.count);
      numbered = subst (λ (l : List (Started g.row.R.Denot)). AreNumbered (λ s. s.desk) 0 l) (sym pushed)
          (numbered_more (λ (s : Started g.row.R.Denot). s.desk) 0 all one was.numbered is);
      started = All-same (Has {R = g.row.R.Denot}) c.push.new.self.items (all ++ one ∷ []) pushed
          (All-push (Has {R = g.row.R.Denot}) all one was.started c.in_ok-started.ensures.started);
    }

pub returns-clause-started : goal.returns-clause-started
returns-clause-started g c =
    own_pairs (λ (s : Started g.row.R.Denot). s.desk) (λ (s : Started g.row.R.Denot). s.held.shown)
    (λ (pair : Option Book) (s : Started g.row.R.Denot). IsStarted pair s.held.texts s.held.shown s.passes.items) c.loop-desk.all.items
    c.loop-desk.invariant.numbered c.loop-desk.invariant.started
