use Rattle.std.proofs.Common.{◌≡◌, ◌∙◌, ◌++◌, ◌∷◌, [], ℕ, List, ap, sym, subst, map, take, take_all}
use Rattle.std.specs.Prelude.{codes}
use Rattle.std.specs.Fmt.{decimal}
use Rattle.std.specs.String.{string_bytes}
use Rattle.std.proofs.lemmas.List.{take_more}
use Rattle.itip_report.specs.Load.{load_line}
use Rattle.itip_report.specs.Tally.{IsTally}
use Rattle.itip_report.proofs.Mapped.{map_both}
use Rattle.itip_report.proofs.Tallying.{rows_told, tally_lines}
use Rattle.itip_report.proofs.load.tallied_lines.Goals as goal

pub loop-key-init : goal.loop-key-init
loop-key-init c = λ done are. ap (map string_bytes) c.new-lines.ensures.items

pub loop-key-preserved : goal.loop-key-preserved
loop-key-preserved c = λ done are.
    let keys : List (List ℕ) = c.deref-key-items.result.now in
    let i : ℕ = c.loop-key.key-index in
    let key : List ℕ = c.key-item.result in
    let tally : IsTally done [] keys c.args.tally.now.counts =
    subst (λ (ks : List (List ℕ)). IsTally done [] ks c.args.tally.now.counts) (sym c.deref-key-items.ensures.value) are.counted in
    let line : string_bytes c.in_ok-load_line.field-0 ≡ load_line done key = c.in_ok-load_line.ensures ∙
    ap (λ (n : ℕ). key ++ (codes " " ++ decimal n)) (c.rows_of.ensures ∙
    rows_told done keys c.args.tally.now.counts tally i key c.loop-key-test.true c.key-item.is) in
    ap (map string_bytes) c.in_ok-push.ensures.items ∙ map_both string_bytes c.loop-key.lines.items (c.in_ok-load_line.field-0 ∷ []) ∙
    (λ j. c.loop-key.invariant done are j ++ line j ∷ []) ∙ sym (map_both (load_line done) (take i keys) (key ∷ [])) ∙
    ap (map (load_line done))
    (sym (take_more keys i key c.loop-key-test.true ∙ ap (λ (k : List ℕ). take i keys ++ k ∷ []) (sym c.key-item.is)))

pub returns-clause-lines : goal.returns-clause-lines
returns-clause-lines c = λ done are.
    let keys : List (List ℕ) = c.deref-key-items.result.now in
    let all : take c.loop-key.key-index keys ≡ c.args.tally.now.keys.items =
    take_all c.loop-key.key-index keys c.loop-key-test.false ∙ c.deref-key-items.ensures.value in
    c.loop-key.invariant done are ∙ ap (map (load_line done)) all ∙
    tally_lines done c.args.tally.now.keys.items c.args.tally.now.counts are.counted
