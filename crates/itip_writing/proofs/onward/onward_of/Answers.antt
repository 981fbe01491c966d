use Rattle.std.proofs.Common.{◌≡◌, ◌∙◌, ℕ, List, Option, Some, ap, map, sym, subst}
use Rattle.std.proofs.lemmas.Result.{err_from_is_err_and}
use Rattle.itip_moment.specs.declared.moment.Moment.{Moment}
use Rattle.itip_moment.specs.declared.stamp.Stamp.{Stamp}
use Rattle.itip_todo.specs.Parts.{Parts}
use Rattle.itip_items.specs.declared.item.Item.{Item}
use Rattle.itip_report.specs.NextSequence.{IsNext}
use Rattle.itip_writing.specs.Cancelling.{AreEndings, IsSent, IsUnread, lacking_among}
use Rattle.itip_writing.specs.Causes.{IfUnread}
use Rattle.itip_writing.specs.Endings.{endings_of}
use Rattle.itip_writing.specs.Sent.{brief_parts}
use Rattle.itip_writing.proofs.CancelCauses.{none_onward, onward_of, unread_onward}
use Rattle.itip_writing.proofs.Ending.{endings_are}
use Rattle.itip_writing.proofs.onward.onward_of.Goals as goal

pub returns-in_err-item-clause-fault : goal.returns-in_err-item-clause-fault
returns-in_err-item-clause-fault c =
    let p = err_from_is_err_and c.from_residual.result c.from_residual.ensures.1 in
    rw (p.1, p.2) (none_onward c.args.items.now.items c.args.items.now.uid c.args.from.now c.args.at c.in_err-item.field-0.0
    c.in_err-item.ensures.none)

pub returns-in_default-clause-fault : goal.returns-in_default-clause-fault
returns-in_default-clause-fault c = record {
  there = record { item = c.in_ok-item.item.now; governs = c.in_ok-item.ensures.item };
  last = subst (λ (next : Option ℕ). IsNext c.args.items.now.items c.args.items.now.uid next) c.in_default.is c.requires;
}

pub returns-in_err-octets-clause-fault : goal.returns-in_err-octets-clause-fault
returns-in_err-octets-clause-fault c =
    let items : List Item = c.args.items.now.items in
    let uid : List ℕ = c.args.items.now.uid in
    let from : Moment = c.args.from.now in
    let at : Stamp = c.args.at in
    let item : Item = c.in_ok-item.item.now in
    let n : ℕ = c.in-Some.sequence in
    let later : List Item = map (λ item. item.now) c.in_ok-later.later.items in
    let all : List Parts = map brief_parts c.in_ok-all.all.items in
    let whole : all ≡ endings_of uid item from n at later =
    c.in_ok-all.ensures ∙ (λ i. endings_of (c.uid.ensures i) item from n at (map (λ item. item.now) (c.deref.ensures.value i))) in
    let are : AreEndings items uid from n at all = subst (λ (ps : List Parts). AreEndings items uid from n at ps) (sym whole)
    (endings_are items uid from item c.in_ok-item.ensures.item n at later c.in_ok-later.ensures) in
    let next : IsNext items uid (Some n) = subst (λ (o : Option ℕ). IsNext items uid o) c.in-Some.is c.requires in
    let unread : IfUnread (IsUnread all) c.in_err-octets.field-0.0 =
    subst (λ briefs. IfUnread (IsUnread (map brief_parts briefs)) c.in_err-octets.field-0.0) c.deref-2.ensures.value
    c.in_err-octets.ensures.unread in
    let p = err_from_is_err_and c.from_residual-in_err-octets.result c.from_residual-in_err-octets.ensures.1 in
    rw (p.1, p.2) (unread_onward items uid from at all (onward_of items uid from at item c.in_ok-item.ensures.item n next all are)
    c.in_err-octets.field-0.0 unread)

pub returns-clause-found : goal.returns-clause-found
returns-clause-found c =
    let items : List Item = c.args.items.now.items in
    let uid : List ℕ = c.args.items.now.uid in
    let from : Moment = c.args.from.now in
    let at : Stamp = c.args.at in
    let item : Item = c.in_ok-item.item.now in
    let n : ℕ = c.in-Some.sequence in
    let later : List Item = map (λ item. item.now) c.in_ok-later.later.items in
    let all : List Parts = map brief_parts c.in_ok-all.all.items in
    let whole : all ≡ endings_of uid item from n at later =
    c.in_ok-all.ensures ∙ (λ i. endings_of (c.uid.ensures i) item from n at (map (λ item. item.now) (c.deref.ensures.value i))) in
    let are : AreEndings items uid from n at all = subst (λ (ps : List Parts). AreEndings items uid from n at ps) (sym whole)
    (endings_are items uid from item c.in_ok-item.ensures.item n at later c.in_ok-later.ensures) in
    let next : IsNext items uid (Some n) = subst (λ (o : Option ℕ). IsNext items uid o) c.in-Some.is c.requires in record {
      all = all;
      cancels = onward_of items uid from at item c.in_ok-item.ensures.item n next all are;
      sent = subst (λ briefs. IsSent (map brief_parts briefs) c.in_ok-octets.octets.items) c.deref-2.ensures.value
          c.in_ok-octets.ensures.sent;
    }

pub returns-clause-lacking : goal.returns-clause-lacking
returns-clause-lacking c =
    let items : List Item = c.args.items.now.items in
    let uid : List ℕ = c.args.items.now.uid in
    let from : Moment = c.args.from.now in
    let at : Stamp = c.args.at in
    let item : Item = c.in_ok-item.item.now in
    let n : ℕ = c.in-Some.sequence in
    let later : List Item = map (λ item. item.now) c.in_ok-later.later.items in
    let all : List Parts = map brief_parts c.in_ok-all.all.items in
    let whole : all ≡ endings_of uid item from n at later =
    c.in_ok-all.ensures ∙ (λ i. endings_of (c.uid.ensures i) item from n at (map (λ item. item.now) (c.deref.ensures.value i))) in
    record {
      there = record { item = item; governs = c.in_ok-item.ensures.item };
      sequence = n;
      stamp = at;
      all = all;
      are = subst (λ (ps : List Parts). AreEndings items uid from n at ps) (sym whole)
          (endings_are items uid from item c.in_ok-item.ensures.item n at later c.in_ok-later.ensures);
      lacking_is = c.in_ok-lacking.ensures ∙ ap (λ briefs. lacking_among (map brief_parts briefs)) c.deref-3.ensures.value;
    }
