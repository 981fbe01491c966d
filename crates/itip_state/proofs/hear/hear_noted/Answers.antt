use Rattle.std.proofs.Common.{List, ℕ, inl, inr, refl, sym, ap, ◌∙◌, subst}
use Rattle.std.specs.Prelude.{is_some}
use Rattle.itip_items.specs.KeyParts.{uid_of}
use Rattle.itip_state.specs.Held.{UidState, at, is_series}
use Rattle.itip_state.specs.Newer.{IsNewerOf}
use Rattle.itip_state.specs.Undone.{LeadsBack, AreUndone}
use Rattle.itip_state.proofs.Members.{on_both, on_ok_then}
use Rattle.itip_state.proofs.Undoing.{noted_leads, noted_stays, undone_push}
use Rattle.itip_state.proofs.Waiting.{heard_here}
use Rattle.itip_state.proofs.hear.hear_noted.Goals as goal

pub returns-in-Some-clause-taken : goal.returns-in-Some-clause-taken
returns-in-Some-clause-taken c =
    let is = subst (IsNewerOf (at c.args.held.now (uid_of c.args.item.now.key)) c.args.item.now) c.in-Some.is c.in_ok-best.ensures in
    inr (record {
      newer = record { uid = c.uid-uid.result; best = c.in-Some.best };
      same = refl;
      put = c.in_ok-push.ensures.items;
      awaited = record {
        about = c.uid-uid.ensures ∙ sym (ap (λ b. uid_of b.value.key) is.0);
        series = ap (λ b. is_series b.value.key) is.0 ∙ is.1;
        there = ap (λ u. is_some (at c.args.held.now u)) c.uid-uid.ensures ∙ is.2;
      };
      item_is = ap (λ b. b.value) is.0;
    })

pub returns-clause-taken : goal.returns-clause-taken
returns-clause-taken c = on_ok_then c.join_one.result
    (λ joined. inl (
      refl,
      heard_here c.args.item.now c.args.held.now c.join_one.new.self c.join_one.ensures.ordered joined
          c.join_one.ensures.others,
    ))
    c.join_one.ensures.joined

pub returns-clause-noted : goal.returns-clause-noted
returns-clause-noted c = λ start all.
    let u : List ℕ = uid_of c.args.item.now.key in
    let old : List (List ℕ × UidState) = c.args.held.now in
    let now : List (List ℕ × UidState) = c.join_one.new.self in
    let leads : LeadsBack c.in_ok-before.before c.args.item.now (at now u) (at old u) = on_both c.join_one.result
    (λ joined. noted_leads c.in_ok-before.before c.args.item.now (at old u) (at now u) c.in_ok-before.ensures.noted joined)
    (λ same. subst (λ es. LeadsBack c.in_ok-before.before c.args.item.now (at es u) (at old u)) (sym same)
    (noted_stays c.in_ok-before.before c.args.item.now (at old u) c.in_ok-before.ensures.noted))
    c.join_one.ensures.joined c.join_one.ensures.err in
    subst (λ cs. AreUndone cs now start) (sym c.in_ok-push-2.ensures.items)
    (undone_push c.args.changes.now.items (record { item = c.args.item; before = c.in_ok-before.before }) now old start all
    (record { there = leads; others = c.join_one.ensures.others; ordered = c.note.ensures.ordered }))
