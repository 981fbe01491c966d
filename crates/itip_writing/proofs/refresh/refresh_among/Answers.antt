use Rattle.std.proofs.Common.{◌≡◌, ◌∙◌, ◌∷◌, [], ℕ, List, ap, refl, sym, subst}
use Rattle.std.specs.Option.{option_copied}
use Rattle.std.proofs.lemmas.Result.{err_from_is_err_and}
use Rattle.itip_todo.specs.Parts.{Parts}
use Rattle.itip_items.specs.declared.kind.Method.TheVariants as methods
use Rattle.itip_message.specs.Message.{RefusesMessage}
use Rattle.itip_view.proofs.Asking.{shows_is}
use Rattle.itip_writing.specs.Refreshing.{IsBefore, refresh_key, refresh_parts}
use Rattle.itip_writing.specs.Sent.{IsReadable, sent_octets}
use Rattle.itip_writing.specs.Stamping.{IsTimeSpent}
use Rattle.itip_writing.proofs.Faults.{refresh_late, refresh_not_asked, refresh_unread}
use Rattle.itip_writing.proofs.refresh.refresh_among.Goals as goal

pub returns-in_err-asked-clause-fault : goal.returns-in_err-asked-clause-fault
returns-in_err-asked-clause-fault c =
    let p = err_from_is_err_and c.from_residual.result c.from_residual.ensures.1 in
    rw (p.1, p.2) (refresh_not_asked c.args.items.now.items c.args.items.now.uid (option_copied c.args.id) c.args.attendee.now c.args.at
    c.in_err-asked.field-0.0 c.in_err-asked.ensures.fault)

pub returns-in_err-stamp-clause-fault : goal.returns-in_err-stamp-clause-fault
returns-in_err-stamp-clause-fault c =
    let item = c.in_ok-asked.asked.item.now in
    let named : List ℕ = c.in_ok-asked.asked.address in
    let p = err_from_is_err_and c.from_residual-in_err-stamp.result c.from_residual-in_err-stamp.ensures.1 in
    rw (p.1, p.2) (refresh_late c.args.items.now.items c.args.items.now.uid (option_copied c.args.id) c.args.attendee.now c.args.at
    (IsTimeSpent (IsBefore c.args.items.now.items (refresh_key c.args.items.now.uid (option_copied c.args.id) named) item) c.args.at)
    (λ late. record { item = item; named = named; asked = c.in_ok-asked.ensures.found; late = late }) c.in_err-stamp.field-0.0
    c.in_err-stamp.ensures.late)

pub returns-in_err-octets-clause-fault : goal.returns-in_err-octets-clause-fault
returns-in_err-octets-clause-fault c =
    let item = c.in_ok-asked.asked.item.now in
    let named : List ℕ = c.in_ok-asked.asked.address in
    let stamp = c.in_ok-stamp.stamp in
    let parts : Parts = refresh_parts c.args.items.now.uid (option_copied c.args.id) stamp item.todo.organizer named in
    let text : c.in_ok-text.text.items ≡ sent_octets methods.Refresh (parts ∷ []) = c.in_ok-text.ensures ∙
    ap (λ (u : List ℕ). sent_octets methods.Refresh (refresh_parts u (option_copied c.args.id) stamp item.todo.organizer named ∷ []))
    c.uid.ensures in
    let p = err_from_is_err_and c.from_residual-in_err-octets.result c.from_residual-in_err-octets.ensures.1 in
    rw (p.1, p.2) (refresh_unread c.args.items.now.items c.args.items.now.uid (option_copied c.args.id) c.args.attendee.now c.args.at
    (RefusesMessage c.in_ok-text.text.items)
    (λ refusal refused. record {
      parts = parts;
      wants = record {
        item = item;
        named = named;
        asked = c.in_ok-asked.ensures.found;
        stamp = stamp;
        stamp_is = c.in_ok-stamp.ensures.stamp;
        parts_are = refl;
      };
      refused = subst (λ (octets : List ℕ). RefusesMessage octets refusal) text refused;
    }) c.in_err-octets.field-0.0 c.in_err-octets.ensures.refused)

pub returns-clause-found : goal.returns-clause-found
returns-clause-found c =
    let item = c.in_ok-asked.asked.item.now in
    let named : List ℕ = c.in_ok-asked.asked.address in
    let stamp = c.in_ok-stamp.stamp in
    let parts : Parts = refresh_parts c.args.items.now.uid (option_copied c.args.id) stamp item.todo.organizer named in
    let text : c.in_ok-text.text.items ≡ sent_octets methods.Refresh (parts ∷ []) = c.in_ok-text.ensures ∙
    ap (λ (u : List ℕ). sent_octets methods.Refresh (refresh_parts u (option_copied c.args.id) stamp item.todo.organizer named ∷ []))
    c.uid.ensures in
    record {
      parts = parts;
      wants = record {
        item = item;
        named = named;
        asked = c.in_ok-asked.ensures.found;
        stamp = stamp;
        stamp_is = c.in_ok-stamp.ensures.stamp;
        parts_are = refl;
      };
      octets_are = c.in_ok-octets.ensures.same ∙ text;
      readable = subst (λ (octets : List ℕ). IsReadable octets) (sym c.in_ok-octets.ensures.same) c.in_ok-octets.ensures.reads;
    }

pub returns-clause-lacking : goal.returns-clause-lacking
returns-clause-lacking c = record {
  item = c.in_ok-asked.asked.item.now;
  governs = shows_is c.args.items.now.items c.args.items.now.uid (option_copied c.args.id) c.in_ok-asked.asked.item.now
      c.in_ok-asked.ensures.found.shown c.in_ok-asked.ensures.found.shows;
  lacking_is = c.in_ok-lacking.ensures;
}
