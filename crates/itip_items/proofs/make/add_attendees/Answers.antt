use Rattle.std.proofs.Common.{◌≡◌, ◌∙◌, sym, ap, List, [], ◌∷◌, drop, map, subst, ◌+◌, arith}
use Rattle.std.specs.List.{AllByRecursion}
use Rattle.std.proofs.lemmas.List.{drop_more, at_drop_all}
use Rattle.std.proofs.lemmas.Result.{err_from_is_err_and}
use Rattle.itip_todo.specs.Lawful.{IsLawful}
use Rattle.itip_todo.specs.Parts.{Parts}
use Rattle.itip_todo.specs.PartsOf.{parts_of}
use Rattle.itip_todo.specs.Properties.{Property}
use Rattle.itip_items.specs.Items.{ItemDraft, attendee_draft, only_of}
use Rattle.itip_items.specs.Given.{Adds, IsOver}
use Rattle.itip_items.specs.declared.item.Item.{Item}
use Rattle.itip_items.proofs.Adding.{adds_both, adds_one, adds_none, over_here, over_later, if_large}
use Rattle.itip_items.proofs.Drafting.{attendee_canonical}
use Rattle.itip_items.proofs.Lawfulness.{kept_alone, only_each}
use Rattle.itip_items.proofs.make.add_attendees.Goals as goal

pub shared_front-requires : goal.shared_front-requires
shared_front-requires c = kept_alone (parts_of c.args.todo.now) c.args.todo.now.lawful

pub loop-attendee-init : goal.loop-attendee-init
loop-attendee-init c =
    let parts : Parts = parts_of c.args.todo.now in record {
      lawful = subst (λ (list : List Property). AllByRecursion (λ a. IsLawful (only_of a parts)) list)
          (sym c.as_slice-attendee-items.ensures) (only_each parts c.args.todo.now.lawful);
      found = λ new h. h;
      over = λ h. h;
      front = c.in_ok-front.ensures;
    }

pub attendee_item-requires : goal.attendee_item-requires
attendee_item-requires c =
    let parts : Parts = parts_of c.args.todo.now in
    let i = c.loop-attendee.attendee-index in
    let all = c.as_slice-attendee-items.result.now in
    let at : drop i all ≡ c.attendee-item.result ∷ drop (i + 1) all = drop_more all i c.attendee-item.result c.loop-attendee-test.true ∙
    ap (λ (a : Property). a ∷ drop (i + 1) all) (sym c.attendee-item.is) in (
      attendee_canonical c.args.kind parts c.attendee-item.result c.requires.0 c.requires.1 c.requires.2,
      (subst (λ (list : List Property). AllByRecursion (λ a. IsLawful (only_of a parts)) list) at c.loop-attendee.invariant.lawful).0,
      c.loop-attendee.invariant.front,
    )

pub returns-in_err-attendee_item-clause-large : goal.returns-in_err-attendee_item-clause-large
returns-in_err-attendee_item-clause-large c =
    let p = err_from_is_err_and c.from_residual-in_err-attendee_item.result c.from_residual-in_err-attendee_item.ensures.1 in
    let draft : Property → ItemDraft = attendee_draft c.args.kind (parts_of c.args.todo.now) in
    let i = c.loop-attendee.attendee-index in
    let all = c.as_slice-attendee-items.result.now in
    let a : Property = c.attendee-item.result in
    let at : drop i all ≡ a ∷ drop (i + 1) all = drop_more all i a c.loop-attendee-test.true ∙
    ap (λ (b : Property). b ∷ drop (i + 1) all) (sym c.attendee-item.is) in
    rw (p.1, p.2) (if_large c.in_err-attendee_item.field-0.0 (λ h.
    subst (λ (list : List Property). IsOver (map draft list)) c.as_slice-attendee-items.ensures
    (c.loop-attendee.invariant.over (subst (λ (list : List Property). IsOver (map draft list)) (sym at)
    (over_here (draft a ∷ []) (map draft (drop (i + 1) all)) h)))) c.in_err-attendee_item.ensures.large)

pub loop-attendee-preserved : goal.loop-attendee-preserved
loop-attendee-preserved c =
    let parts : Parts = parts_of c.args.todo.now in
    let draft : Property → ItemDraft = attendee_draft c.args.kind parts in
    let i = c.loop-attendee.attendee-index in
    let all = c.as_slice-attendee-items.result.now in
    let a : Property = c.attendee-item.result in
    let item : Item = c.in_ok-attendee_item.field-0 in
    let old : List Item = c.loop-attendee.items.items in
    let mid : List Item = c.push.new.self.items in
    let at : drop i all ≡ a ∷ drop (i + 1) all = drop_more all i a c.loop-attendee-test.true ∙
    ap (λ (b : Property). b ∷ drop (i + 1) all) (sym c.attendee-item.is) in
    let one : Adds (draft a ∷ []) old mid =
    adds_one (draft a) item old mid c.in_ok-attendee_item.ensures.found c.in_ok-push.ensures.items in record {
      lawful = (subst (λ (list : List Property). AllByRecursion (λ b. IsLawful (only_of b parts)) list) at
          c.loop-attendee.invariant.lawful).1;
      found = λ new h. c.loop-attendee.invariant.found new
          (subst (λ (list : List Property). Adds (map draft list) old new) (sym at)
          (adds_both (draft a ∷ []) (map draft (drop (i + 1) all)) old mid new one h));
      over = λ h. c.loop-attendee.invariant.over
          (subst (λ (list : List Property). IsOver (map draft list)) (sym at) (over_later (draft a ∷ []) (map draft (drop (i + 1) all)) h));
      front = c.loop-attendee.invariant.front;
    }

pub returns-clause-found : goal.returns-clause-found
returns-clause-found c =
    let draft : Property → ItemDraft = attendee_draft c.args.kind (parts_of c.args.todo.now) in
    let all = c.as_slice-attendee-items.result.now in
    let items : List Item = c.loop-attendee.items.items in
    let none : drop c.loop-attendee.attendee-index all ≡ [] =
    at_drop_all (λ (list : List Property). list) all c.loop-attendee.attendee-index (omega arith) in
    subst (λ (list : List Property). Adds (map draft list) c.args.items.now.items items) c.as_slice-attendee-items.ensures
    (c.loop-attendee.invariant.found items (subst (λ (list : List Property). Adds (map draft list) items items) (sym none)
    (adds_none items)))
