use Rattle.std.proofs.Common.{◌≡◌, ◌∙◌, List, ℕ, map, refl, sym, ap, subst, true, false, take_all}
use Rattle.std.specs.BTreeSet.{contains}
use Rattle.std.specs.Cmp.Lexicographic.{slice_cmp}
use Rattle.std.specs.Ordering.{nat_cmp}
use Rattle.std.specs.String.{string_bytes}
use Rattle.itip_recur.proofs.MappedLists.{Contains-map}
use Rattle.itip_state.proofs.Members.{none_in}
use Rattle.itip_todo.specs.Table.{attendee_key}
use Rattle.itip_writing.specs.Removing.{ShowsAll, ShowsOne}
use Rattle.itip_writing.proofs.AttendeeKeys.{shows_one}
use Rattle.itip_writing.proofs.MappedTests.{each_more}
use Rattle.itip_writing.proofs.removing.each_shown.Goals as goal

pub loop-address-init : goal.loop-address-init
loop-address-init c = λ address h. absurd (none_in address h)

pub returns-then-not-is_shown : goal.returns-then-not-is_shown
returns-then-not-is_shown c = (
  λ e. absurd cc,
  λ all.
      let address : List ℕ = string_bytes c.address-item.result in
      let one : ShowsOne c.args.shown.now address =
      all address (Contains-map string_bytes c.args.attendees.now c.address-item.result
      (c.loop-address.address-index, c.loop-address-test.true, sym c.address-item.is)) in
      let x : true ≡ false =
      sym ((shows_one c.args.shown.now address c.in_ok-is_shown.is_shown
      (c.in_ok-is_shown.ensures
      ∙ ap (λ (a : List ℕ). contains (slice_cmp nat_cmp) c.in_ok-keys.keys (attendee_key a)) c.as_str.ensures.value
      ∙ c.in_ok-keys.ensures (attendee_key address))).1 one)
      ∙ c.if-not-is_shown.true in absurd cc,
)

pub loop-address-preserved : goal.loop-address-preserved
loop-address-preserved c =
    let address : List ℕ = string_bytes c.address-item.result in
    each_more string_bytes (ShowsOne c.args.shown.now) c.args.attendees.now c.loop-address.address-index c.address-item.result
    c.loop-address-test.true c.address-item.is c.loop-address.invariant
    ((shows_one c.args.shown.now address c.in_ok-is_shown.is_shown
    (c.in_ok-is_shown.ensures ∙ ap (λ (a : List ℕ). contains (slice_cmp nat_cmp) c.in_ok-keys.keys (attendee_key a)) c.as_str.ensures.value
    ∙ c.in_ok-keys.ensures (attendee_key address))).0 c.if-not-is_shown.false)

pub returns : goal.returns
returns c = (
  λ e. subst (λ all. ShowsAll c.args.shown.now (map string_bytes all))
      (take_all c.loop-address.address-index c.args.attendees.now c.loop-address-test.false) c.loop-address.invariant,
  λ all. refl,
)
