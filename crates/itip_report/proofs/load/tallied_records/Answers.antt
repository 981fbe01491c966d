use Rattle.std.proofs.Common.{◌≡◌, ◌∙◌, ◌++◌, ◌∷◌, [], ℕ, List, ap, sym, subst, map, take, take_all}
use Rattle.std.proofs.lemmas.List.{take_more}
use Rattle.itip_report.specs.Records.{load_of}
use Rattle.itip_report.specs.Tally.{IsTally}
use Rattle.itip_report.specs.declared.records.AttendeeLoad.{AttendeeLoad}
use Rattle.itip_report.proofs.Mapped.{map_both}
use Rattle.itip_report.proofs.Tallying.{rows_told, tally_records}
use Rattle.itip_report.proofs.load.tallied_records.Goals as goal

abbrev load_with : List ℕ → ℕ → AttendeeLoad
load_with key n = record { attendee = key; rows = n }

pub loop-key-init : goal.loop-key-init
loop-key-init c = λ done are. c.new-loads.ensures.items

pub loop-key-preserved : goal.loop-key-preserved
loop-key-preserved c = λ done are.
    let keys : List (List ℕ) = c.deref-key-items.result.now in
    let i : ℕ = c.loop-key.key-index in
    let key : List ℕ = c.key-item.result in
    let tally : IsTally done [] keys c.args.tally.now.counts =
    subst (λ (ks : List (List ℕ)). IsTally done [] ks c.args.tally.now.counts) (sym c.deref-key-items.ensures.value) are.counted in
    let counted : load_with key c.rows_of.result ≡ load_of done key = ap (load_with key) (c.rows_of.ensures ∙
    rows_told done keys c.args.tally.now.counts tally i key c.loop-key-test.true c.key-item.is) in
    c.in_ok-push.ensures.items ∙
    ap (λ (a : List ℕ). c.loop-key.loads.items ++ load_with a c.rows_of.result ∷ []) c.in_ok-clone.ensures.cases ∙
    (λ j. c.loop-key.invariant done are j ++ counted j ∷ []) ∙ sym (map_both (load_of done) (take i keys) (key ∷ [])) ∙
    ap (map (load_of done))
    (sym (take_more keys i key c.loop-key-test.true ∙ ap (λ (k : List ℕ). take i keys ++ k ∷ []) (sym c.key-item.is)))

pub returns-clause-records : goal.returns-clause-records
returns-clause-records c = λ done are.
    let keys : List (List ℕ) = c.deref-key-items.result.now in
    let all : take c.loop-key.key-index keys ≡ c.args.tally.now.keys.items =
    take_all c.loop-key.key-index keys c.loop-key-test.false ∙ c.deref-key-items.ensures.value in
    c.loop-key.invariant done are ∙ ap (map (load_of done)) all ∙
    tally_records done c.args.tally.now.keys.items c.args.tally.now.counts are.counted
