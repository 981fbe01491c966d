use Rattle.std.proofs.Common.{rules, ◌≡◌, List, [], ◌∷◌, ◌++◌, ◌∙◌, map, All, ap, sym, subst, refl, arith, append_assoc, append-nil}
use Rattle.std.specs.List.{flat_map}
use Rattle.std.specs.Vec.Iter.{into_iter_items}
use Rattle.std.proofs.lemmas.List.{nil_from_length}
use Rattle.std.proofs.lemmas.List.Elements.{All-nil, All-cons, All-head, All-tail, All-map}
use Rattle.itip_desk.specs.Desk.{Shown}
use Rattle.itip_office.specs.declared.team.Merged.{Merged}
use Rattle.itip_office.specs.Answers.{Answer}
use Rattle.itip_office.specs.Merged.{HasMerged}
use Rattle.itip_office.specs.Published.{Publication, HasShown, answers_of, publication_of}
use Rattle.itip_office.specs.Ended.{AreGathered}
use Rattle.itip_office.proofs.Reports.{IsFor, gathered_none, gathered_more}
use Rattle.itip_office.proofs.Publishing.{has_shown}
use Rattle.itip_office.proofs.gather.gather.Goals as goal

-- what keepers published, and the answers in it
abbrev published : {R : Type 0} → List (Merged R) → List Publication
published kept = map (λ k. publication_of k.desk k.answers.items k.held.shown) kept

abbrev answered : {R : Type 0} → List (Merged R) → List Answer
answered kept = flat_map answers_of (published kept)

pub loop-one-init : goal.loop-one-init
loop-one-init g c =
    let all : into_iter_items c.into_iter-one-iterator.result ≡ c.args.done.kept.items = search rules in
    let none : c.new-texts.result.items ≡ [] = c.new-texts.ensures.items in
    record {
      left = subst (λ (l : List (Merged g.row.R.Denot)). All (λ k. HasMerged k.desk k.answers.items k.held.texts) l)
          (sym all) c.requires.kept;
      gathered = subst (λ (l : List Shown). AreGathered c.args.desks c.args.done.alone.items l) (sym none)
          (gathered_none c.args.desks c.args.done.alone.items c.requires.alone);
      whole = ap (λ (l : List (Merged g.row.R.Denot)). c.args.done.alone.items ++ answered l) all;
      own = λ are. subst (λ (l : List (Merged g.row.R.Denot)). All (λ k. All (IsFor c.args.desks k.desk) k.answers.items) l) all are;
    }

pub loop-one-preserved : goal.loop-one-preserved
loop-one-preserved g c =
    let was = c.loop-one.invariant in
    let one = c.in-Some.one in
    let rest = into_iter_items c.next.new.self in
    let next : into_iter_items c.loop-one.one-iterator ≡ one ∷ rest = c.in-Some.ensures.steps.0 in
    let left : All (λ k. HasMerged k.desk k.answers.items k.held.texts) (one ∷ rest) =
    subst (λ (l : List (Merged g.row.R.Denot)). All (λ k. HasMerged k.desk k.answers.items k.held.texts) l) next was.left in
    let texts : c.push.new.self.items ≡ c.loop-one.texts.items ++ one.held.texts ∷ [] = search rules in
    let answers : c.append.new.self.items ≡ c.loop-one.answers.items ++ one.answers.items = c.in_ok-append.ensures.items in
    let are : All (IsFor c.args.desks one.desk) one.answers.items =
    subst (λ (l : List Answer). All (IsFor c.args.desks one.desk) l) c.deref.ensures.value (c.if-not-are_for.ensures refl) in
    record {
      left = All-tail (λ k. HasMerged k.desk k.answers.items k.held.texts) one rest left;
      gathered = subst (λ (l : List Answer). AreGathered c.args.desks l c.push.new.self.items) (sym answers)
          (subst (λ (l : List Shown). AreGathered c.args.desks (c.loop-one.answers.items ++ one.answers.items) l) (sym texts)
          (gathered_more c.args.desks one.desk c.loop-one.answers.items one.answers.items c.loop-one.texts.items one.held.texts was.gathered
          are (All-head (λ k. HasMerged k.desk k.answers.items k.held.texts) one rest left)));
      whole = ap (λ (l : List Answer). l ++ answered rest) answers ∙ append_assoc c.loop-one.answers.items one.answers.items (answered rest)
          ∙ ap (λ (l : List (Merged g.row.R.Denot)). c.loop-one.answers.items ++ answered l) (sym next) ∙ was.whole;
      own = λ others.
          was.own (subst (λ (l : List (Merged g.row.R.Denot)). All (λ k. All (IsFor c.args.desks k.desk) k.answers.items) l) (sym next)
          (All-cons (λ (k : Merged g.row.R.Denot). All (IsFor c.args.desks k.desk) k.answers.items) one rest are others));
    }

pub returns-clause-shown : goal.returns-clause-shown
returns-clause-shown g c =
    let was = c.loop-one.invariant in
    let alone = c.args.done.alone.items in
    let kept = c.args.done.kept.items in
    let ended = c.in-None.ensures.steps.0 in
    let long = c.loop-one.one-iterator.rest.ok.0 in
    let none : into_iter_items c.loop-one.one-iterator ≡ [] =
    nil_from_length (into_iter_items c.loop-one.one-iterator) (omega (arith, ended, long)) in
    let own : All (λ k. All (IsFor c.args.desks k.desk) k.answers.items) kept =
    was.own (subst (λ (l : List (Merged g.row.R.Denot)). All (λ k. All (IsFor c.args.desks k.desk) k.answers.items) l) (sym none)
    (All-nil (λ (k : Merged g.row.R.Denot). All (IsFor c.args.desks k.desk) k.answers.items))) in
    let whole : alone ++ answered kept ≡ c.loop-one.answers.items =
    sym was.whole ∙ ap (λ (l : List (Merged g.row.R.Denot)). c.loop-one.answers.items ++ answered l) none ∙
    append-nil c.loop-one.answers.items in
    let pub_of : Merged g.row.R.Denot → Publication = λ k. publication_of k.desk k.answers.items k.held.shown in
    subst (λ (l : List Answer). HasShown c.args.desks l) whole
    (has_shown c.args.desks (published kept) alone c.requires.alone c.requires.shown
    (All-map (λ (p : Publication). All (IsFor c.args.desks p.desk) p.answers) pub_of kept own))
