use Rattle.std.proofs.Common.{rules, ◌≡◌, ◌+◌, List, [], ◌∷◌, ◌++◌, map, take, All, sym, ap, subst, ◌∙◌}
use Rattle.std.proofs.lemmas.List.{take_more, take_all}
use Rattle.std.proofs.lemmas.List.Elements.{All-nil, All-push}
use Rattle.itip_office.specs.declared.team.Merged.{Merged}
use Rattle.itip_office.specs.LooksAndCarries.{Source}
use Rattle.itip_office.specs.Published.{IsBeginning, publication_of}
use Rattle.itip_office.proofs.team.are_published.Goals as goal

abbrev Begins : {R : Type 0} → List (Merged R) → Source → Type 0
Begins kept s = IsBeginning (map (λ k. publication_of k.desk k.answers.items k.held.shown) kept) s.0 s.1

pub loop-source-init : goal.loop-source-init
loop-source-init g c = All-nil (Begins c.args.kept.now)

pub loop-source-preserved : goal.loop-source-preserved
loop-source-preserved g c =
    let i = c.loop-source.source-index in
    let more : take (i + 1) c.args.sources.now ≡ take i c.args.sources.now ++ c.source-item.result ∷ [] =
    take_more c.args.sources.now i c.source-item.result c.loop-source-test.true ∙
    ap (λ (s : Source). take i c.args.sources.now ++ s ∷ []) (sym c.source-item.is) in
    let one : Begins c.args.kept.now c.source-item.result = search rules in
    subst (λ (l : List Source). All (Begins c.args.kept.now) l) (sym more)
    (All-push (Begins c.args.kept.now) (take i c.args.sources.now) c.source-item.result c.loop-source.invariant one)

pub returns : goal.returns
returns g c = λ _.
    let whole : take c.loop-source.source-index c.args.sources.now ≡ c.args.sources.now = take_all _ _ c.loop-source-test.false in
    subst (λ (l : List Source). All (Begins c.args.kept.now) l) whole c.loop-source.invariant
