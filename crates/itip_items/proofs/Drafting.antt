-- The drafts of one to-do are in canonical form.
use Rattle.std.proofs.Common.{◌≡◌, ◌≢◌, ◌∙◌, sym, ap, refl, ℕ, ◌≤◌, Bool, true, false, List, [], ◌∷◌, append-nil, arith, subst, Option}
use Rattle.std.proofs.Common.{Some, None}
use Rattle.std.specs.Prelude.{max, cond, nat_lt, nat_eq, unwrap_or, ◌&&◌}
use Rattle.std.specs.Option.{is_none}
use Rattle.std.specs.Cmp.Lexicographic.{pointwise}
use Rattle.std.proofs.lemmas.Bool.Decides.{nat_tests}
use Rattle.itip_moment.specs.declared.moment.Moment.{Moment}
use Rattle.itip_todo.specs.Parts.{Parts}
use Rattle.itip_todo.specs.Properties.{Property}
use Rattle.itip_todo.specs.declared.status.Status.{Status}
use Rattle.itip_items.specs.MethodNeeds.{Suits, method_cause, has_some, removes, when}
use Rattle.itip_items.specs.Items.{drafts, drafts_of, task_draft, add_drafts, series_draft, instance_draft, instance_key, attendee_draft}
use Rattle.itip_items.specs.Items.{with_base, only_of, canonical_base, raised, effective_sequence, is_series, is_task, kind_of, method_of}
use Rattle.itip_items.specs.Items.{Sends, IsCanonical}
use Rattle.itip_items.specs.declared.error.MethodCause.TheVariants as cause
use Rattle.itip_items.specs.declared.key.Key.TheVariants as key
use Rattle.itip_items.specs.declared.kind.Kind.{Kind}
use Rattle.itip_items.specs.declared.kind.Kind.TheVariants as kind
use Rattle.itip_items.specs.declared.kind.Method.{Method}
use Rattle.itip_items.specs.declared.kind.Method.TheVariants as method

-- the method of the kind that a method gives is that method

cancel_kept : (b : Bool) → method_of (cond b kind.Remove kind.Cancel) ≡ method.Cancel
cancel_kept true = refl
cancel_kept false = refl

method_kept : (m : Method) (p : Parts) → method_of (kind_of m p) ≡ m
method_kept method.Request p = refl
method_kept method.Add p = refl
method_kept method.Cancel p = cancel_kept (removes p)
method_kept method.Reply p = refl
method_kept method.Refresh p = refl

pub sends : (m : Method) (p : Parts) → Suits m p → Sends (kind_of m p) p
sends m p h = record {
  kind_is = ap (λ (n : Method). kind_of n p) (method_kept m p);
  suits = subst (λ (n : Method). Suits n p) (sym (method_kept m p)) h;
}

drafts_alone : (k : Kind) (q : Parts) → kind_of (method_of k) q ≡ k →
    drafts (method_of k) (q ∷ []) ≡ drafts_of k (effective_sequence (method_of k) (q ∷ []) q) q
drafts_alone k q e = append-nil _ ∙ ap (λ (l : Kind). drafts_of l (effective_sequence (method_of k) (q ∷ []) q) q) e

-- X-DESK-BASE changes neither the kind nor what the method needs

kind_based : (m : Method) (p : Parts) (b : Option ℕ) → kind_of m (with_base p b) ≡ kind_of m p
kind_based method.Request p b = refl
kind_based method.Add p b = refl
kind_based method.Cancel p b = refl
kind_based method.Reply p b = refl
kind_based method.Refresh p b = refl

cause_based : (m : Method) (p : Parts) (b : Option ℕ) → method_cause m (with_base p b) ≡ method_cause m p
cause_based method.Request p b = refl
cause_based method.Add p b = refl
cause_based method.Cancel p b = refl
cause_based method.Reply p b = refl
cause_based method.Refresh p b = refl

suits_based : (m : Method) (p : Parts) (b : Option ℕ) → Suits m p → Suits m (with_base p b)
suits_based m p b h = record { fits = cause_based m p b ∙ h.fits; others = h.others }

pub task_drafts : (k : Kind) (e : ℕ) (q : Parts) → is_task k ≡ true → drafts_of k e q ≡ task_draft k e q.rid q ∷ []
task_drafts kind.Request e q h = refl
task_drafts kind.Cancel e q h = refl
task_drafts kind.Add e q h = absurd (cc)
task_drafts kind.Remove e q h = absurd (cc)
task_drafts kind.Reply e q h = absurd (cc)
task_drafts kind.Refresh e q h = absurd (cc)

-- the series

pub series_canonical : (k : Kind) (p : Parts) → Sends k p → is_task k ≡ true → p.rid ≡ None → IsCanonical (series_draft k p)
series_canonical k p h task none =
    let q : Parts = with_base p None in
    let e : ℕ = effective_sequence (method_of k) (q ∷ []) q in record {
      alone = drafts_alone k q (kind_based (method_of k) p None ∙ h.kind_is) ∙ task_drafts k e q task ∙
          ap (λ (id : Option Moment). task_draft k e id q ∷ []) none;
      suits = suits_based (method_of k) p None h.suits;
    }

-- an instance

back_where_lower : (seq eff : ℕ) → nat_lt seq eff ≡ true → seq ≤ eff → max seq (max (unwrap_or (canonical_base seq eff) 0) 0) ≡ eff
back_where_lower seq eff e h = rw e (omega arith)

back_where_equal : (seq eff : ℕ) → nat_lt seq eff ≡ false → seq ≤ eff → max seq (max (unwrap_or (canonical_base seq eff) 0) 0) ≡ eff
back_where_equal seq eff e h = let less : eff ≤ seq = grind (arith, nat_tests) in rw e (omega arith)

sequence_back : (seq eff : ℕ) → seq ≤ eff → max seq (max (unwrap_or (canonical_base seq eff) 0) 0) ≡ eff
sequence_back seq eff h =
    elim (nat_lt seq eff) as (λ b. nat_lt seq eff ≡ b → max seq (max (unwrap_or (canonical_base seq eff) 0) 0) ≡ eff) [
      | true ↦ λ e. back_where_lower seq eff e h
      | false ↦ λ e. back_where_equal seq eff e h
    ] refl

-- the effective sequence of an instance that is alone with its canonical X-DESK-BASE
alone_sequence : (m : Method) (p : Parts) (eff : ℕ) → p.seq ≤ eff → is_series m (with_base p (canonical_base p.seq eff)) ≡ false
    → effective_sequence m (with_base p (canonical_base p.seq eff) ∷ []) (with_base p (canonical_base p.seq eff)) ≡ eff
alone_sequence m p eff h other =
    ap (λ b. max p.seq (max (unwrap_or (canonical_base p.seq eff) 0) (max (cond (b && pointwise nat_eq p.uid p.uid) p.seq 0) 0))) other ∙
    sequence_back p.seq eff h

no_series : (m : Method) (q : Parts) (id : Moment) → q.rid ≡ Some id → is_series m q ≡ false
no_series m q id e = ap (λ r. is_none r && is_task (kind_of m q)) e

raised_above : (p : Parts) (above : ℕ) → p.seq ≤ raised p above
raised_above p above = omega arith

pub instance_canonical : (k : Kind) (p : Parts) (id : Moment) (above : ℕ) → Sends k p → is_task k ≡ true → p.rid ≡ Some id →
    IsCanonical (instance_draft k (raised p above) (instance_key p.range p.uid id) p)
instance_canonical k p id above h task some =
    let eff : ℕ = raised p above in
    let q : Parts = with_base p (canonical_base p.seq eff) in
    let e : ℕ = effective_sequence (method_of k) (q ∷ []) q in
    let same : e ≡ eff = alone_sequence (method_of k) p eff (raised_above p above) (no_series (method_of k) q id some) in record {
      alone = drafts_alone k q (kind_based (method_of k) p (canonical_base p.seq eff) ∙ h.kind_is) ∙ task_drafts k e q task
          ∙ ap (λ (r : Option Moment). task_draft k e r q ∷ []) some ∙
          ap (λ (n : ℕ). instance_draft k n (instance_key p.range p.uid id) q ∷ []) same;
      suits = suits_based (method_of k) p (canonical_base p.seq eff) h.suits;
    }

and_false : (b : Bool) → (b && false) ≡ false
and_false true = refl
and_false false = refl

pub add_canonical : (p : Parts) (id : Moment) (above : ℕ) → Suits method.Add p → p.start ≡ Some id →
    IsCanonical (instance_draft kind.Add (raised p above) (key.Instance p.uid id) p)
add_canonical p id above h some =
    let eff : ℕ = raised p above in
    let q : Parts = with_base p (canonical_base p.seq eff) in
    let e : ℕ = effective_sequence method.Add (q ∷ []) q in
    let same : e ≡ eff = alone_sequence method.Add p eff (raised_above p above) (and_false (is_none p.rid)) in record {
      alone = drafts_alone kind.Add q refl ∙ ap (λ (s : Option Moment). add_drafts e s q) some ∙
          ap (λ (n : ℕ). instance_draft kind.Add n (key.Instance p.uid id) q ∷ []) same;
      suits = suits_based method.Add p (canonical_base p.seq eff) h;
    }

-- one attendee

no_status : (s : Option Status) (attendees : List Property) →
    cond (is_none s && has_some attendees) kind.Remove kind.Cancel ≡ kind.Remove → s ≡ None
no_status None attendees e = refl
no_status (Some s) attendees e = absurd (cc)

pub attendee_canonical : (k : Kind) (p : Parts) (a : Property) → Sends k p → is_task k ≡ false → k ≢ kind.Add →
    IsCanonical (attendee_draft k p a)
attendee_canonical kind.Request p a h task other = absurd (cc)
attendee_canonical kind.Cancel p a h task other = absurd (cc)
attendee_canonical kind.Add p a h task other = absurd (other refl)
attendee_canonical kind.Remove p a h task other = record {
  alone = drafts_alone kind.Remove (only_of a p)
      (ap (λ (s : Option Status). cond (is_none s && true) kind.Remove kind.Cancel) (no_status p.status p.attendees h.kind_is));
  suits = record { fits = ap (λ (b : Bool). when b cause.Range) (and_false (removes (only_of a p))); others = refl };
}
attendee_canonical kind.Reply p a h task other = record { alone = refl; suits = record { fits = refl; others = refl } }
attendee_canonical kind.Refresh p a h task other = record { alone = refl; suits = record { fits = refl; others = refl } }
