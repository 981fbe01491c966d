use Rattle.std.proofs.Common.{◌≡◌, ◌∙◌, sym, ap, List, [], ◌∷◌, subst, inl, inr, true, refl, map, ◌⊎◌}
use Rattle.std.specs.Prelude.{OnOk, IfErr}
use Rattle.itip_todo.specs.Parts.{Parts}
use Rattle.itip_todo.specs.PartsOf.{parts_of}
use Rattle.itip_items.specs.Items.{ItemDraft, attendee_draft, drafts_of, kind_of, raised, is_task, method_of}
use Rattle.itip_items.specs.Given.{Adds, IsOver, IfLarge}
use Rattle.itip_items.specs.MethodNeeds.{Suits}
use Rattle.itip_items.specs.declared.kind.Kind.{Kind}
use Rattle.itip_items.specs.declared.kind.Method.{Method}
use Rattle.itip_items.specs.declared.kind.Kind.TheVariants as kind
use Rattle.itip_items.proofs.Adding.{adds_one}
use Rattle.itip_items.proofs.Drafting.{sends, task_drafts}
use Rattle.itip_items.proofs.make.add_items.Goals as goal

-- the kind is that of an added instance
is_add : (m : Method) (k : Kind) (parts : Parts) → k ≡ kind_of m parts → k ≡ kind.Add → kind_of m parts ≡ kind.Add
is_add m k parts e is = sym e ∙ is

pub add_instance-requires : goal.add_instance-requires
add_instance-requires c =
    let parts : Parts = parts_of c.args.todo in (
      subst (λ (k : Kind). Suits (method_of k) parts) (is_add c.args.method c.kind_of-kind.result parts c.kind_of-kind.ensures c.in-Add.is)
          (sends c.args.method parts c.requires.0).suits,
      c.requires.1,
    )

pub returns-in-Add-clause-found : goal.returns-in-Add-clause-found
returns-in-Add-clause-found c =
    let parts : Parts = parts_of c.args.todo in
    let same = ap (λ (k : Kind). drafts_of k (raised parts c.args.above) parts)
    (is_add c.args.method c.kind_of-kind.result parts c.kind_of-kind.ensures c.in-Add.is) in
    subst (λ (ds : List ItemDraft). OnOk c.add_instance.result (Adds ds c.args.items.now.items c.add_instance.new.items.items)) (sym same)
    c.add_instance.ensures.found

pub returns-in-Add-clause-large : goal.returns-in-Add-clause-large
returns-in-Add-clause-large c =
    let parts : Parts = parts_of c.args.todo in
    let same = ap (λ (k : Kind). drafts_of k (raised parts c.args.above) parts)
    (is_add c.args.method c.kind_of-kind.result parts c.kind_of-kind.ensures c.in-Add.is) in
    subst (λ (ds : List ItemDraft). IfErr c.add_instance.result (λ e. IfLarge e (IsOver ds))) (sym same) c.add_instance.ensures.large

pub returns-in_ok-push-in-Request-clause-found : goal.returns-in_ok-push-in-Request-clause-found
returns-in_ok-push-in-Request-clause-found c =
    let parts : Parts = parts_of c.args.todo in
    let k : Kind = c.kind_of-kind.result in
    let task : is_task k ≡ true = elim c.in-Request.is as (λ h. is_task k ≡ true) [ inl e ↦ ap is_task e | inr e ↦ ap is_task e ] in
    let eff = raised parts c.args.above in
    let one : drafts_of (kind_of c.args.method parts) eff parts ≡ _ ∷ [] =
    ap (λ (l : Kind). drafts_of l eff parts) (sym c.kind_of-kind.ensures) ∙ task_drafts k eff parts task in
    subst (λ (ds : List ItemDraft). Adds ds c.args.items.now.items c.push.new.self.items) (sym one)
    (adds_one _ c.in_ok-task_item-in-Request.field-0 c.args.items.now.items c.push.new.self.items
    c.in_ok-task_item-in-Request.ensures.found c.in_ok-push-in-Request.ensures.items)

attended : (k : Kind) (eff : _) (parts : Parts) → (k ≡ kind.Remove) ⊎ ((k ≡ kind.Reply) ⊎ (k ≡ kind.Refresh)) →
    map (attendee_draft k parts) parts.attendees ≡ drafts_of k eff parts
attended k eff parts (inl e) = subst (λ (l : Kind). map (attendee_draft l parts) parts.attendees ≡ drafts_of l eff parts) (sym e) refl
attended k eff parts (inr (inl e)) = subst (λ (l : Kind). map (attendee_draft l parts) parts.attendees ≡ drafts_of l eff parts) (sym e) refl
attended k eff parts (inr (inr e)) = subst (λ (l : Kind). map (attendee_draft l parts) parts.attendees ≡ drafts_of l eff parts) (sym e) refl

pub returns-in-Remove-clause-found : goal.returns-in-Remove-clause-found
returns-in-Remove-clause-found c =
    let parts : Parts = parts_of c.args.todo in
    let eff = raised parts c.args.above in
    let same = attended c.kind_of-kind.result eff parts c.in-Remove.is ∙ ap (λ (l : Kind). drafts_of l eff parts) c.kind_of-kind.ensures in
    subst (λ (ds : List ItemDraft). OnOk c.add_attendees-added.result
    (Adds ds c.args.items.now.items c.add_attendees-added.new.items.items)) same c.add_attendees-added.ensures.found

pub returns-in-Remove-clause-large : goal.returns-in-Remove-clause-large
returns-in-Remove-clause-large c =
    let parts : Parts = parts_of c.args.todo in
    let eff = raised parts c.args.above in
    let same = attended c.kind_of-kind.result eff parts c.in-Remove.is ∙ ap (λ (l : Kind). drafts_of l eff parts) c.kind_of-kind.ensures in
    subst (λ (ds : List ItemDraft). IfErr c.add_attendees-added.result (λ e. IfLarge e (IsOver ds))) same
    c.add_attendees-added.ensures.large
