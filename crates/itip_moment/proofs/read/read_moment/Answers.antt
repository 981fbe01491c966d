use Rattle.std.proofs.Common.{◌≡◌, ◌≢◌, ◌∙◌, [], ap, sym, refl, subst, None, Some, unwrap_or}
use Rattle.std.proofs.lemmas.Result.{on_err_weaker}
use Rattle.std.specs.Prelude.{option_copied}
use Rattle.itip_moment.specs.Room.{IsZonedText}
use Rattle.itip_moment.specs.Spelling.{MomentText}
use Rattle.itip_moment.specs.Zone.{zone_text}
use Rattle.itip_moment.specs.declared.moment.Moment.{Moment}
use Rattle.itip_moment.proofs.MomentLemmas.{found_unzoned, none_unzoned, local_found, copied_or}
use Rattle.itip_moment.proofs.read.read_moment.Goals as goal

pub returns-in_default-clause-found : goal.returns-in_default-clause-found
returns-in_default-clause-found c =
    found_unzoned c.read_moment_in.result c.args.text.now (Some []) (option_copied c.args.tzid)
    (rw c.as_bytes.ensures.value at c.in_default.ensures.none) c.read_moment_in.ensures.found

pub returns-in_default-clause-none : goal.returns-in_default-clause-none
returns-in_default-clause-none c =
    none_unzoned c.read_moment_in.result c.args.text.now (Some []) (option_copied c.args.tzid)
    (rw c.as_bytes.ensures.value at c.in_default.ensures.none) c.read_moment_in.ensures.none

pub returns-in_default-clause-err : goal.returns-in_default-clause-err
returns-in_default-clause-err c =
    on_err_weaker c.read_moment_in.result
    (λ (some : zone_text None ≢ []). let no : ⊥ = some refl in absurd no) c.read_moment_in.ensures.err

pub returns-in_default-clause-room : goal.returns-in_default-clause-room
returns-in_default-clause-room c = λ unzoned. c.read_moment_in.ensures.room (λ (is : IsZonedText c.args.text.now (Some [])). is.named refl)

pub returns-in_err-zone-clause-room : goal.returns-in_err-zone-clause-room
returns-in_err-zone-clause-room c = λ unzoned. absurd (unzoned (record {
  day = c.in-Some.stamp.day;
  second = c.in-Some.stamp.second;
  local = rw c.as_bytes.ensures.value at c.in-Some.ensures.found;
  named =
      λ none. c.in_err-zone.ensures.err (ap (λ text. text.now) c.unwrap_or.ensures ∙ copied_or c.args.tzid _ refl ∙ none);
}))

pub returns-clause-found : goal.returns-clause-found
returns-clause-found c =
    let zone : zone_text c.in_ok-zone.zone ≡ unwrap_or (option_copied c.args.tzid) [] =
    c.in_ok-zone.ensures.named ∙ ap (λ text. text.now) c.unwrap_or.ensures ∙ copied_or c.args.tzid _ refl in
    subst (λ (m : Moment). MomentText c.args.text.now (option_copied c.args.tzid) m) (sym c.local_moment.ensures)
    (local_found c.args.text.now (option_copied c.args.tzid) c.in_ok-zone.zone c.in-Some.stamp
    (rw c.as_bytes.ensures.value at c.in-Some.ensures.found) zone)
