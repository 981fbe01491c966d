use Rattle.std.proofs.Common.{◌≡◌, ◌∙◌, ◌++◌, ◌∷◌, [], List, ℕ, map, sym, ap, true, false, take_all}
use Rattle.std.specs.BTreeSet.{contains}
use Rattle.std.specs.Cmp.Lexicographic.{slice_cmp}
use Rattle.std.specs.Ordering.{nat_cmp}
use Rattle.std.specs.String.{string_bytes}
use Rattle.itip_todo.specs.Table.{attendee_key}
use Rattle.itip_todo.specs.Properties.{Property}
use Rattle.itip_writing.specs.Removing.{is_one_of, lines_of}
use Rattle.itip_writing.proofs.AttendeeKeys.{line_test}
use Rattle.itip_writing.proofs.MappedTests.{filter_fail, filter_pass}
use Rattle.itip_writing.proofs.removing.lines_of.Goals as goal

pub loop-line-preserved-then-not-is_one : goal.loop-line-preserved-then-not-is_one
loop-line-preserved-then-not-is_one c =
    let addresses : List (List ℕ) = map string_bytes c.args.attendees.now in
    let line : Property = c.line-item.result in
    let fails : is_one_of addresses line ≡ false =
    line_test string_bytes c.args.attendees.now c.in_ok-keys.keys c.in_ok-keys.ensures line c.in_ok-is_one.is_one
    (c.in_ok-is_one.ensures ∙ ap (λ (a : List ℕ). contains (slice_cmp nat_cmp) c.in_ok-keys.keys (attendee_key a)) c.value.ensures)
    ∙ c.if-not-is_one.true in
    c.loop-line.invariant
    ∙ sym (filter_fail (is_one_of addresses) c.args.lines.now c.loop-line.line-index line c.loop-line-test.true c.line-item.is fails)

pub loop-line-preserved : goal.loop-line-preserved
loop-line-preserved c =
    let addresses : List (List ℕ) = map string_bytes c.args.attendees.now in
    let line : Property = c.line-item.result in
    let passes : is_one_of addresses line ≡ true =
    line_test string_bytes c.args.attendees.now c.in_ok-keys.keys c.in_ok-keys.ensures line c.in_ok-is_one.is_one
    (c.in_ok-is_one.ensures ∙ ap (λ (a : List ℕ). contains (slice_cmp nat_cmp) c.in_ok-keys.keys (attendee_key a)) c.value.ensures)
    ∙ c.if-not-is_one.false in
    c.in_ok-push.ensures.items
    ∙ ap (λ (l : Property). c.loop-line.found.items ++ l ∷ []) c.in_ok-clone.ensures.cases
    ∙ ap (λ (ls : List Property). ls ++ line ∷ []) c.loop-line.invariant
    ∙ sym (filter_pass (is_one_of addresses) c.args.lines.now c.loop-line.line-index line c.loop-line-test.true c.line-item.is passes)

pub returns : goal.returns
returns c =
    c.loop-line.invariant
    ∙ ap (lines_of (map string_bytes c.args.attendees.now))
    (take_all c.loop-line.line-index c.args.lines.now c.loop-line-test.false)
