use Rattle.std.proofs.Common.{◌≡◌, ◌∙◌, ℕ, List, Option, None, Some, ap, false, map, subst}
use Rattle.std.specs.Option.{option_copied}
use Rattle.std.specs.String.{string_bytes}
use Rattle.std.proofs.lemmas.Result.{err_from_is_err_and}
use Rattle.itip_moment.specs.declared.moment.Moment.{Moment}
use Rattle.itip_moment.specs.declared.stamp.Stamp.{Stamp}
use Rattle.itip_todo.specs.Parts.{Parts}
use Rattle.itip_todo.specs.Properties.{Property}
use Rattle.itip_items.specs.declared.item.Item.{Item}
use Rattle.itip_report.specs.NextSequence.{IsNext}
use Rattle.itip_view.proofs.Asking.{shows_is}
use Rattle.itip_writing.specs.Cancelling.{notice}
use Rattle.itip_writing.specs.Causes.{IfOvertaken}
use Rattle.itip_writing.specs.Removing.{IsOvertaken, IsRemovalOf, lines_of, removed_keys}
use Rattle.itip_writing.specs.Stamping.{IsEqualRevision, IsLatestOf}
use Rattle.itip_writing.proofs.CancelCauses.{late_cause, not_removable, overtaken_cause, removal_of, unread_removed}
use Rattle.itip_writing.proofs.removing.removal_of.Goals as goal

pub returns-in_err-item-clause-fault : goal.returns-in_err-item-clause-fault
returns-in_err-item-clause-fault c =
    let p = err_from_is_err_and c.from_residual.result c.from_residual.ensures.1 in
    rw (p.1, p.2) (not_removable c.args.items.now.items c.args.items.now.uid (option_copied c.args.id)
    (map string_bytes c.args.attendees.now) c.args.at c.in_err-item.field-0.0 c.in_err-item.ensures.fault)

pub returns-in_default-clause-fault : goal.returns-in_default-clause-fault
returns-in_default-clause-fault c = record {
  item = c.in_ok-item.item.now;
  removable = c.in_ok-item.ensures.found;
  spent = subst (λ (next : Option ℕ). IsNext c.args.items.now.items c.args.items.now.uid next) c.in_default.is c.requires;
}

pub returns-in_err-latest-clause-fault : goal.returns-in_err-latest-clause-fault
returns-in_err-latest-clause-fault c =
    let items : List Item = c.args.items.now.items in
    let uid : List ℕ = c.args.items.now.uid in
    let id : Option Moment = option_copied c.args.id in
    let addresses : List (List ℕ) = map string_bytes c.args.attendees.now in
    let item : Item = c.in_ok-item.item.now in
    let n : ℕ = c.in-Some.sequence in
    let next : IsNext items uid (Some n) = subst (λ (o : Option ℕ). IsNext items uid o) c.in-Some.is c.requires in
    let told : c.deref.result.now ≡ lines_of addresses item.todo.attendees =
    c.deref.ensures.value ∙ c.in_ok-lines.ensures ∙ ap (lines_of addresses) c.as_slice.ensures in
    let p = err_from_is_err_and c.from_residual-in_err-latest.result c.from_residual-in_err-latest.ensures.1 in
    rw (p.1, p.2) (overtaken_cause items uid id addresses c.args.at item n c.in_ok-item.ensures.found next c.in_err-latest.field-0.0
    (subst (λ (lines : List Property). IfOvertaken (IsOvertaken items (removed_keys uid id lines) n) c.in_err-latest.field-0.0) told
    c.in_err-latest.ensures.overtaken))

pub returns-in_err-stamp-clause-fault : goal.returns-in_err-stamp-clause-fault
returns-in_err-stamp-clause-fault c =
    let items : List Item = c.args.items.now.items in
    let uid : List ℕ = c.args.items.now.uid in
    let id : Option Moment = option_copied c.args.id in
    let addresses : List (List ℕ) = map string_bytes c.args.attendees.now in
    let item : Item = c.in_ok-item.item.now in
    let n : ℕ = c.in-Some.sequence in
    let next : IsNext items uid (Some n) = subst (λ (o : Option ℕ). IsNext items uid o) c.in-Some.is c.requires in
    let latest : Option Stamp = c.in_ok-latest.latest in
    let told : c.deref.result.now ≡ lines_of addresses item.todo.attendees =
    c.deref.ensures.value ∙ c.in_ok-lines.ensures ∙ ap (lines_of addresses) c.as_slice.ensures in
    let p = err_from_is_err_and c.from_residual-in_err-stamp.result c.from_residual-in_err-stamp.ensures.1 in
    rw (p.1, p.2) (late_cause items uid id addresses c.args.at item n c.in_ok-item.ensures.found next
    (subst (λ (lines : List Property). ¬ IsOvertaken items (removed_keys uid id lines) n) told c.in_ok-latest.ensures.first) latest
    (subst (λ (lines : List Property). IsLatestOf (IsEqualRevision items (removed_keys uid id lines) n) latest) told
    c.in_ok-latest.ensures.latest) c.in_err-stamp.field-0.0 c.in_err-stamp.ensures.spent)

pub returns-in_err-octets-clause-fault : goal.returns-in_err-octets-clause-fault
returns-in_err-octets-clause-fault c =
    let items : List Item = c.args.items.now.items in
    let uid : List ℕ = c.args.items.now.uid in
    let id : Option Moment = option_copied c.args.id in
    let addresses : List (List ℕ) = map string_bytes c.args.attendees.now in
    let item : Item = c.in_ok-item.item.now in
    let n : ℕ = c.in-Some.sequence in
    let next : IsNext items uid (Some n) = subst (λ (o : Option ℕ). IsNext items uid o) c.in-Some.is c.requires in
    let latest : Option Stamp = c.in_ok-latest.latest in
    let stamp : Stamp = c.in_ok-stamp.stamp in
    let lines : c.in_ok-lines.lines.items ≡ lines_of addresses item.todo.attendees =
    c.in_ok-lines.ensures ∙ ap (lines_of addresses) c.as_slice.ensures in
    let told : c.deref.result.now ≡ lines_of addresses item.todo.attendees = c.deref.ensures.value ∙ lines in
    let parts : Parts = notice c.uid.result.now item id false None c.deref-2.result.now n stamp in
    let is : IsRemovalOf items uid id addresses c.args.at parts =
    removal_of items uid id addresses c.args.at item n c.in_ok-item.ensures.found next
    (subst (λ (ls : List Property). ¬ IsOvertaken items (removed_keys uid id ls) n) told c.in_ok-latest.ensures.first) latest
    (subst (λ (ls : List Property). IsLatestOf (IsEqualRevision items (removed_keys uid id ls) n) latest) told
    c.in_ok-latest.ensures.latest) stamp c.in_ok-stamp.ensures.stamp parts
    (λ i. notice (c.uid.ensures i) item id false None ((c.deref-2.ensures.value ∙ lines) i) n stamp) in
    let p = err_from_is_err_and c.from_residual-in_err-octets.result c.from_residual-in_err-octets.ensures.1 in
    rw (p.1, p.2) (unread_removed items uid id addresses c.args.at parts is c.in_err-octets.field-0.0 c.in_err-octets.ensures.unread)

pub returns-clause-found : goal.returns-clause-found
returns-clause-found c =
    let items : List Item = c.args.items.now.items in
    let uid : List ℕ = c.args.items.now.uid in
    let id : Option Moment = option_copied c.args.id in
    let addresses : List (List ℕ) = map string_bytes c.args.attendees.now in
    let item : Item = c.in_ok-item.item.now in
    let n : ℕ = c.in-Some.sequence in
    let next : IsNext items uid (Some n) = subst (λ (o : Option ℕ). IsNext items uid o) c.in-Some.is c.requires in
    let latest : Option Stamp = c.in_ok-latest.latest in
    let stamp : Stamp = c.in_ok-stamp.stamp in
    let lines : c.in_ok-lines.lines.items ≡ lines_of addresses item.todo.attendees =
    c.in_ok-lines.ensures ∙ ap (lines_of addresses) c.as_slice.ensures in
    let told : c.deref.result.now ≡ lines_of addresses item.todo.attendees = c.deref.ensures.value ∙ lines in
    let parts : Parts = notice c.uid.result.now item id false None c.deref-2.result.now n stamp in record {
      parts = parts;
      removes = removal_of items uid id addresses c.args.at item n c.in_ok-item.ensures.found next
          (subst (λ (ls : List Property). ¬ IsOvertaken items (removed_keys uid id ls) n) told c.in_ok-latest.ensures.first) latest
          (subst (λ (ls : List Property). IsLatestOf (IsEqualRevision items (removed_keys uid id ls) n) latest) told
          c.in_ok-latest.ensures.latest) stamp c.in_ok-stamp.ensures.stamp parts
          (λ i. notice (c.uid.ensures i) item id false None ((c.deref-2.ensures.value ∙ lines) i) n stamp);
      sent = c.in_ok-octets.ensures.sent;
    }

pub returns-clause-lacking : goal.returns-clause-lacking
returns-clause-lacking c =
    let found = c.in_ok-item.ensures.found in record {
      item = c.in_ok-item.item.now;
      governs = shows_is c.args.items.now.items c.args.items.now.uid (option_copied c.args.id) c.in_ok-item.item.now found.shown
          found.shows;
      lacking_is = c.in_ok-lacking.ensures;
    }
