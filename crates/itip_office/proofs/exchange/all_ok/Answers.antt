use Rattle.std.proofs.Common.{rules, ◌≡◌, List, [], ◌∷◌, ◌++◌, map, ap, sym, ◌∙◌, append_assoc, append-nil, Result, Ok, Err, arith}
use Rattle.std.specs.Vec.Iter.{into_iter_items}
use Rattle.std.proofs.lemmas.List.{map-append, nil_from_length}
use Rattle.std.proofs.lemmas.Result.{err_from_is_err_and}
use Rattle.itip_office.specs.declared.error.OfficeError.{OfficeError}
use Rattle.itip_office.proofs.Beside.{error_among}
use Rattle.itip_office.proofs.exchange.all_ok.Goals as goal

pub loop-one-preserved : goal.loop-one-preserved
loop-one-preserved g c =
    let value = c.in_ok-value.value in
    let pushed : c.push.new.self.items ≡ c.loop-one.values.items ++ value ∷ [] = search rules in
    let first : into_iter_items c.loop-one.one-iterator ≡ Ok value ∷ into_iter_items c.next.new.self = search rules in
    ap (λ (l : List (Result g.row.T.Denot OfficeError)). l ++ into_iter_items c.next.new.self)
    (ap (map Ok) pushed ∙ map-append Ok c.loop-one.values.items (value ∷ []))
    ∙ append_assoc (map Ok c.loop-one.values.items) (Ok value ∷ []) (into_iter_items c.next.new.self)
    ∙ ap (λ (l : List (Result g.row.T.Denot OfficeError)). map Ok c.loop-one.values.items ++ l) (sym first) ∙ c.loop-one.invariant

pub returns-clause-all : goal.returns-clause-all
returns-clause-all g c =
    let ended = c.in-None.ensures.steps.0 in
    let long = c.loop-one.one-iterator.rest.ok.0 in
    let none : into_iter_items c.loop-one.one-iterator ≡ [] = nil_from_length (into_iter_items c.loop-one.one-iterator)
    (omega (arith, ended, long)) in
    sym c.loop-one.invariant ∙ ap (λ (l : List (Result g.row.T.Denot OfficeError)). map Ok c.loop-one.values.items ++ l) none ∙
    append-nil (map Ok c.loop-one.values.items)

pub returns-in_err-value-clause-cause : goal.returns-in_err-value-clause-cause
returns-in_err-value-clause-cause g c = λ are.
    let error : OfficeError = c.in_err-value.field-0.0 in
    let rest = into_iter_items c.next.new.self in
    let first : into_iter_items c.loop-one.one-iterator ≡ Err error ∷ rest = search rules in
    let p = err_from_is_err_and c.from_residual-in_err-value.result c.from_residual-in_err-value.ensures.1 in
    rw (p.1, p.2)
    (error_among (map Ok c.loop-one.values.items) rest c.args.all.items error
    (ap (λ (l : List (Result g.row.T.Denot OfficeError)). map Ok c.loop-one.values.items ++ l) (sym first) ∙ c.loop-one.invariant) are)
