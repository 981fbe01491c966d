-- A step that keeps the history's name, and leaves a desk that is the history's, keeps the rule.
use Rattle.std.proofs.Common.{◌≡◌, ℕ, ◌≢◌, List, [], ◌∷◌, ◌++◌, false, fold, refl, ap, sym, ◌∙◌, ⊎_elim, append_assoc, append-nil}
use mathlib.Core.Option.{some}
use lib.ListN.{get_elem?}
use Rattle.left_right.specs.Register.{Admits, TurnsAt}
use Rattle.atomic_table.proofs.Lists.{at_set, at_snoc}
use Rattle.itip_running.specs.History.{Items, Group, batches_of}
use Rattle.logbook.specs.Pages.{Book}
use Rattle.itip_running.specs.declared.front.Front.{Front}
use Rattle.itip_running.specs.declared.published.Published.{Published}
use Rattle.itip_running.specs.declared.published.KnownHistory.{KnownHistory}
use Rattle.itip_running.specs.declared.published.Op.{Op}
use Rattle.itip_running.specs.declared.published.Op.TheVariants.{Take, Mark}
use Rattle.itip_running.specs.Pair.{name_of, state_of, applied_to, takes, Tied, Sights}

abbrev pub newcomer : KnownHistory
newcomer = record { known = false; number = 0; log_name = 0; cells_name = 0 }

pub admits : Admits Tied newcomer
admits x views h = (
  h.0,
  λ seat v at known. ⊎_elim (λ (old : get_elem? views seat ≡ some v). h.1 seat v old known)
      (λ (e : newcomer ≡ v). absurd (cc (ap (λ (u : KnownHistory). u.known) e, known))) (at_snoc views newcomer v seat at),
)

pub sees : (seat : ℕ) (v : KnownHistory) (x y : Published) →
    (x.history ≡ batches_of x.front.seen.log → y.history ≡ batches_of y.front.seen.log) →
    name_of y.front.seen.book ≡ name_of x.front.seen.book → TurnsAt Tied seat v x y Sights
sees seat v x y good same views h at =
    let now : y.history ≡ batches_of y.front.seen.log = good h.0 in
    let w : KnownHistory = name_of y.front.seen.book in (
      w,
      (
        now,
        λ j u e known. ⊎_elim (λ (t : (j ≡ seat) × (w ≡ u)). sym t.1)
            (λ (t : (j ≢ seat) × (get_elem? views j ≡ some u)). h.1 j u t.1 known ∙ sym same) (at_set views seat j w u e),
      ),
      (now, refl, λ known. same ∙ sym (h.1 seat v at known)),
    )

-- what both copies are after what is pending, and the front last
pub marked : (s : List Items × KnownHistory × List Group) (ops : List Op) (f : Op) →
    fold applied_to s (ops ++ f ∷ []) ≡ applied_to (s.0 ++ takes ops, (fold applied_to s ops).1, (fold applied_to s ops).2) f
marked s [] f = ap (λ (l : List Items). applied_to (l, s.1, s.2) f) (sym (append-nil s.0))
marked s (Take b ∷ ops) f = marked (s.0 ++ b ∷ [], s.1, s.2) ops f ∙
    ap (λ (l : List Items). applied_to (
      l,
      (fold applied_to (s.0 ++ b ∷ [], s.1, s.2) ops).1,
      (fold applied_to (s.0 ++ b ∷ [], s.1, s.2) ops).2,
    ) f) (append_assoc s.0 (b ∷ []) (takes ops))
marked s (Mark m ∷ ops) f = marked (s.0, name_of m.seen.book, m.seen.log) ops f

pub takes_more : (xs ys : List Op) → takes (xs ++ ys) ≡ takes xs ++ takes ys
takes_more [] ys = refl
takes_more (Take b ∷ xs) ys = ap (λ (l : List Items). b ∷ l) (takes_more xs ys)
takes_more (Mark f ∷ xs) ys = takes_more xs ys

pub takes_mark : (xs : List Op) (f : Op) → takes (f ∷ []) ≡ [] → takes (xs ++ f ∷ []) ≡ takes xs
takes_mark [] f e = e
takes_mark (Take b ∷ xs) f e = ap (λ (l : List Items). b ∷ l) (takes_mark xs f e)
takes_mark (Mark m ∷ xs) f e = takes_mark xs f e

-- what is published once a front was handed in last
pub after_mark : (x next : Published) (ops : List Op) (m : Front) → state_of next ≡ fold applied_to (state_of x) (ops ++ Mark m ∷ []) →
    state_of next ≡ (x.history ++ takes ops, name_of m.seen.book, m.seen.log)
after_mark x next ops m is = is ∙ marked (state_of x) ops (Mark m)

pub publishes : (seat : ℕ) (v : KnownHistory) (x next : Published) (ops : List Op) (m : Front) →
    name_of m.seen.book ≡ name_of x.front.seen.book → batches_of m.seen.log ≡ batches_of x.front.seen.log ++ takes ops
    → state_of next ≡ fold applied_to (state_of x) (ops ++ Mark m ∷ []) → TurnsAt Tied seat v x next Sights
publishes seat v x next ops m book log is =
    let s = after_mark x next ops m is in
    sees seat v x next (λ e. ap (λ t. t.0) s ∙ (ap (λ (l : List Items). l ++ takes ops) e ∙ sym (ap (λ t. batches_of t.2) s ∙ log)))
    (ap (λ t. t.1) s ∙ book)

abbrev book_of : KnownHistory → Book
book_of v = record { number = v.number; log_name = v.log_name; cells_name = v.cells_name }

pub same_book : (a b : Book) → name_of a ≡ name_of b → a ≡ b
same_book a b e = ap book_of e

pub takes_take : (xs : List Op) (b : Items) → takes (xs ++ Take b ∷ []) ≡ takes xs ++ b ∷ []
takes_take xs b = takes_more xs (Take b ∷ [])
