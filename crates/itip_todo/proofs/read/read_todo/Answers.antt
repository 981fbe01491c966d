use Rattle.std.proofs.Common.{◌≡◌, ◌+◌, List, [], ◌∷◌, ◌++◌, take, drop, sym, ap, subst, ◌∙◌, inl, inr, take_all, Some}
use Rattle.std.proofs.lemmas.List.{take_more, map-append}
use Rattle.std.proofs.lemmas.Result.{err_from_is_err_and, IfErr-weaker, IfOk-weaker}
use Rattle.itip_lines.specs.Reading.{plain_lines}
use Rattle.itip_lines.specs.declared.line.Line.{Line}
use Rattle.itip_lines.specs.declared.line.NumberedLine.{NumberedLine}
use Rattle.itip_todo.specs.Drafts.{IsDraftOf, Refuses}
use Rattle.itip_todo.specs.Reading.{AreGood, FirstRefusal, IfRefused, ReadsTodo, RefusesTodo, LacksProperty, lines_of}
use Rattle.itip_todo.specs.Table.{property_of}
use Rattle.itip_todo.specs.declared.error.TodoError.{TodoError}
use Rattle.itip_todo.specs.declared.error.TodoRefusal.{TodoRefusal}
use Rattle.itip_todo.proofs.Finishing.{lawful_draft}
use Rattle.itip_todo.proofs.GoodLines.{are_good_more, draft_more, first_refusal_at, parted, IfRefused-weaker}
use Rattle.itip_todo.proofs.read.read_todo.Goals as goal

pub returns-in_err-add_numbered-clause-refused : goal.returns-in_err-add_numbered-clause-refused
returns-in_err-add_numbered-clause-refused c =
    let p = err_from_is_err_and c.from_residual.result c.from_residual.ensures.1 in
    let lines : List NumberedLine = c.args.lines.now in
    let line : NumberedLine = c.line-item.result in
    let front : List NumberedLine = take c.loop-line.line-index lines in
    let rest : List NumberedLine = drop (c.loop-line.line-index + 1) lines in
    let whole : lines ≡ front ++ line ∷ rest = parted lines c.loop-line.line-index line c.loop-line-test.true c.line-item.is in
    let Has : TodoRefusal → Type 0 = λ r. (r.line ≡ Some line.number) ×
    Refuses (property_of line.line) line.line c.loop-line.draft r.cause in
    let here : (r : TodoRefusal) → Has r → RefusesTodo lines r = λ r has.
    inl (subst (λ (ls : List NumberedLine). FirstRefusal [] ls r) (sym whole)
    (first_refusal_at [] front line rest r c.loop-line.invariant.0 (
      has.0,
      has.1 (lines_of (plain_lines front)) c.loop-line.invariant.1,
    ))) in
    rw (p.1, p.2) (IfRefused-weaker c.in_err-add_numbered.field-0.0 Has (RefusesTodo lines) here c.in_err-add_numbered.ensures.refused)

pub loop-line-preserved : goal.loop-line-preserved
loop-line-preserved c =
    let lines : List NumberedLine = c.args.lines.now in
    let line : NumberedLine = c.line-item.result in
    let front : List NumberedLine = take c.loop-line.line-index lines in
    let more : take (c.loop-line.line-index + 1) lines ≡ front ++ line ∷ [] =
    take_more lines c.loop-line.line-index line c.loop-line-test.true ∙
    ap (λ (l : NumberedLine). front ++ l ∷ []) (sym c.line-item.is) in
    let plain : plain_lines (take (c.loop-line.line-index + 1) lines) ≡ plain_lines front ++ line.line ∷ [] = ap plain_lines more ∙
    map-append (λ (l : NumberedLine). l.line) front (line ∷ []) in (
      subst (λ (ls : List Line). AreGood [] ls) (sym plain)
          (are_good_more [] (plain_lines front) line.line c.loop-line.invariant.0
          (c.in_ok-add_numbered.ensures.taken.good (lines_of (plain_lines front)) c.loop-line.invariant.1)),
      subst (λ (ls : List Line). IsDraftOf (lines_of ls) c.add_numbered.new.draft) (sym plain)
          (draft_more (plain_lines front) line.line c.add_numbered.new.draft
          (c.in_ok-add_numbered.ensures.taken.draft (lines_of (plain_lines front)) c.loop-line.invariant.1)),
    )

pub finish-requires : goal.finish-requires
finish-requires c = record {
  lawful = lawful_draft (plain_lines (take c.loop-line.line-index c.args.lines.now)) c.loop-line.draft c.loop-line.invariant.1;
}

pub returns-clause-found : goal.returns-clause-found
returns-clause-found c =
    let lines : List NumberedLine = c.args.lines.now in
    let all : take c.loop-line.line-index lines ≡ lines = take_all c.loop-line.line-index lines c.loop-line-test.false in
    IfOk-weaker c.finish.result (λ todo. (ls : List Line) → AreGood [] ls → IsDraftOf (lines_of ls) c.loop-line.draft → ReadsTodo ls todo)
    (ReadsTodo (plain_lines lines))
    (λ todo h. h (plain_lines lines) (subst (λ (ls : List NumberedLine). AreGood [] (plain_lines ls)) all c.loop-line.invariant.0)
    (subst (λ (ls : List NumberedLine). IsDraftOf (lines_of (plain_lines ls)) c.loop-line.draft) all c.loop-line.invariant.1))
    c.finish.ensures.found

pub returns-clause-refused : goal.returns-clause-refused
returns-clause-refused c =
    let lines : List NumberedLine = c.args.lines.now in
    let all : take c.loop-line.line-index lines ≡ lines = take_all c.loop-line.line-index lines c.loop-line-test.false in
    let Q : TodoRefusal → Type 0 = λ r. (ls : List Line) → AreGood [] ls → IsDraftOf (lines_of ls) c.loop-line.draft → LacksProperty ls r in
    IfErr-weaker c.finish.result (λ (e : TodoError). IfRefused e Q) (λ (e : TodoError). IfRefused e (RefusesTodo lines))
    (λ e. IfRefused-weaker e Q (RefusesTodo lines)
    (λ r h. inr (h (plain_lines lines) (subst (λ (ls : List NumberedLine). AreGood [] (plain_lines ls)) all c.loop-line.invariant.0)
    (subst (λ (ls : List NumberedLine). IsDraftOf (lines_of (plain_lines ls)) c.loop-line.draft) all c.loop-line.invariant.1))))
    c.finish.ensures.refused
