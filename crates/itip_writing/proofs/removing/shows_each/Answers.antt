use Rattle.std.proofs.Common.{◌↔◌, ◌∙◌, ℕ, List, Bool, IsTrue, map, sym}
use Rattle.std.specs.String.{string_bytes}
use Rattle.itip_state.proofs.Members.{if_ok_then}
use Rattle.itip_writing.specs.Removing.{ShowsAll, ShowsEach}
use Rattle.itip_writing.proofs.MappedTests.{none_in_empty, some_in_other}
use Rattle.itip_writing.proofs.removing.shows_each.Goals as goal

pub returns-then-is_empty : goal.returns-then-is_empty
returns-then-is_empty c = (
  λ e. absurd cc,
  λ is. absurd (none_in_empty string_bytes c.args.attendees.now (sym c.is_empty.ensures ∙ c.if-is_empty.true) is.some),
)

pub returns : goal.returns
returns c =
    let addresses : List (List ℕ) = map string_bytes c.args.attendees.now in
    if_ok_then (λ (each : Bool). IsTrue each ↔ ShowsAll c.args.shown.now addresses)
    (λ (each : Bool). IsTrue each ↔ ShowsEach c.args.shown.now addresses) c.each_shown.result
    (λ each is. (
      λ e. record {
        some = some_in_other string_bytes c.args.attendees.now (sym c.is_empty.ensures ∙ c.if-is_empty.false);
        each = is.0 e;
      },
      λ shows. is.1 shows.each,
    ))
    c.each_shown.ensures
