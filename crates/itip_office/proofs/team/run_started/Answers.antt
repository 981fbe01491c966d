use Rattle.std.proofs.Common.{◌≡◌, ℕ, List, map, All, Option, sym, subst}
use Rattle.std.proofs.lemmas.List.Elements.{All-weaker}
use Rattle.std.proofs.lemmas.Result.{IfOk-at_ok, IfOk-weaker}
use Rattle.logbook.specs.Pages.{Book}
use Rattle.itip_office.specs.declared.team.Merged.{Merged}
use Rattle.itip_office.specs.declared.team.Done.{Done}
use Rattle.itip_office.specs.Answers.{Answer, AnswersAlone}
use Rattle.itip_office.specs.LooksAndCarries.{Source, IsOneOf, IsAnswered}
use Rattle.itip_office.specs.Merged.{HasMerged}
use Rattle.itip_office.specs.Pairs.{IsOfPair, HasKept}
use Rattle.itip_office.specs.Published.{IsBeginning, AreShown, publication_of}
use Rattle.itip_office.proofs.Publishing.{ok_from, all_shown}
use Rattle.itip_office.proofs.team.run_started.Goals as goal
use Rattle.itip_office.proofs.team.run_started.Goals.{In-Ok}

abbrev Has : {R : Type 0} → (ℕ → Option Book) → List Source → Merged R → Type 0
Has pair carried k = HasKept (pair k.desk) (IsOneOf carried) k.desk k.answers.items k.held.texts k.held.shown

-- what the threads returned
answered : (g : _) (c : In-Ok g) → All (IsAnswered c.args.desks (IsOneOf c.in-Ok.joined.looked.items)) c.in-Ok.joined.done.alone.items
answered g c =
    IfOk-at_ok (λ r. All (IsAnswered c.args.desks (IsOneOf r.looked.items)) r.done.alone.items) c.in-Ok.is
    (c.join-joined.ensures.answered c.args.desks c.in_default.ensures.workers)

kept : (g : _) (c : In-Ok g) → All (Has g.N.Pairs.pair c.in-Ok.joined.carried.items) c.in-Ok.joined.done.kept.items
kept g c = IfOk-at_ok (λ r. All (Has g.N.Pairs.pair r.carried.items) r.done.kept.items) c.in-Ok.is c.join-joined.ensures.kept

pub checked-requires : goal.checked-requires
checked-requires g c = record {
  pairs = All-weaker (Has g.N.Pairs.pair c.in-Ok.joined.carried.items)
      (λ (k : Merged g.row.R.Denot). IsOfPair (g.N.Pairs.pair k.desk) k.held.shown) (λ k has. has.of_pair) c.in-Ok.joined.done.kept.items
      (kept g (goal.at.checked-requires g c).In-Ok);
}

pub returns-in-Ok-clause-alone : goal.returns-in-Ok-clause-alone
returns-in-Ok-clause-alone g c =
    let done = c.in-Ok.joined.done in
    let all = All-weaker (IsAnswered c.args.desks (IsOneOf c.in-Ok.joined.looked.items))
    (λ (a : Answer). AnswersAlone c.args.desks a.0.work a.1) (λ a is. is.alone) done.alone.items
    (answered g (goal.at.returns-in-Ok-clause-alone g c).In-Ok) in
    IfOk-weaker c.checked.result (λ d. d ≡ done) (λ d. All (λ a. AnswersAlone c.args.desks a.0.work a.1) d.alone.items)
    (λ d same. subst (λ (d : Done g.row.R.Denot). All (λ a. AnswersAlone c.args.desks a.0.work a.1) d.alone.items) (sym same) all)
    c.checked.ensures.done

pub returns-in-Ok-clause-kept : goal.returns-in-Ok-clause-kept
returns-in-Ok-clause-kept g c =
    let done = c.in-Ok.joined.done in
    let all = All-weaker (Has g.N.Pairs.pair c.in-Ok.joined.carried.items)
    (λ (k : Merged g.row.R.Denot). HasMerged k.desk k.answers.items k.held.texts) (λ k has. has.merged) done.kept.items
    (kept g (goal.at.returns-in-Ok-clause-kept g c).In-Ok) in
    IfOk-weaker c.checked.result (λ d. d ≡ done) (λ d. All (λ k. HasMerged k.desk k.answers.items k.held.texts) d.kept.items)
    (λ d same. subst (λ (d : Done g.row.R.Denot). All (λ k. HasMerged k.desk k.answers.items k.held.texts) d.kept.items) (sym same) all)
    c.checked.ensures.done

pub returns-in-Ok-clause-shown : goal.returns-in-Ok-clause-shown
returns-in-Ok-clause-shown g c =
    let R : Type 0 = g.row.R.Denot in
    let done = c.in-Ok.joined.done in
    let before = (goal.at.returns-in-Ok-clause-shown g c).In-Ok in
    let Begin : List Source → Done R → Type 0 =
    λ sources d. All (λ s. IsBeginning (map (λ k. publication_of k.desk k.answers.items k.held.shown) d.kept.items) s.0 s.1) sources in
    let Shown : Done R → Type 0 =
    λ d. AreShown c.args.desks d.alone.items (map (λ k. publication_of k.desk k.answers.items k.held.shown) d.kept.items) in
    let given : Begin c.in-Ok.joined.looked.items done → Begin c.in-Ok.joined.carried.items done → Shown done = λ looked carried.
    all_shown (λ (k : Merged R). k.desk) (λ (k : Merged R). k.answers.items) (λ (k : Merged R). k.held.texts)
    (λ (k : Merged R). k.held.shown) g.N.Pairs.pair c.args.desks done.alone.items c.in-Ok.joined.looked.items c.in-Ok.joined.carried.items
    done.kept.items looked carried (answered g before) (kept g before) in
    ok_from c.checked.result (λ d. d ≡ done) (Begin c.in-Ok.joined.looked.items) (Begin c.in-Ok.joined.carried.items) Shown
    (λ d same looked carried. subst Shown (sym same) (given (subst (Begin c.in-Ok.joined.looked.items) same looked)
    (subst (Begin c.in-Ok.joined.carried.items) same carried)))
    c.checked.ensures.done c.checked.ensures.looked c.checked.ensures.carried
