-- Steps of a listing, one after another.
use Rattle.std.proofs.Common.{◌≡◌, ◌↔◌, ◌⊎◌, inl, inr, ℕ, sym, subst, List, [], ◌∷◌, ◌++◌, Result, Ok, Err}
use Rattle.std.specs.List.{Contains}
use Rattle.std.proofs.lemmas.List.Elements.{Contains-append_left, Contains-push, Contains-push_cases}
use Rattle.itip_moment.specs.declared.moment.Moment.{Moment}
use Rattle.itip_recur.specs.declared.error.RecurError.{RecurError}
use Rattle.itip_recur.specs.declared.error.RecurError.TheVariants.{TooMany, NoMemory}
use Rattle.itip_recur.specs.Occurrences.{IfTooMany}
use Rattle.itip_recur.specs.Adding.{Adds, Exceeds, Gains, IsStep}

pub Adds-none : (limit : ℕ) (P : Moment → Type 0) (old : List Moment) → ((m : Moment) → P m → ⊥) → Adds limit P old old
Adds-none limit P old none =
    record { exactly = λ m. (λ h. inl h, λ h. elim h [ inl there ↦ there | inr is ↦ absurd (none m is) ]); small = λ h. h }

pub Adds-like : (limit : ℕ) (P Q : Moment → Type 0) (old new : List Moment) → ((m : Moment) → P m ↔ Q m) → Adds limit P old new →
    Adds limit Q old new
Adds-like limit P Q old new like adds =
    record {
      exactly = λ m. (
        λ h. elim ((adds.exactly m).0 h) [ inl there ↦ inl there | inr is ↦ inr ((like m).0 is) ],
        λ h. elim h [ inl there ↦ (adds.exactly m).1 (inl there) | inr is ↦ (adds.exactly m).1 (inr ((like m).1 is)) ],
      );
      small = adds.small;
    }

pub Exceeds-like : (limit : ℕ) (P Q : Moment → Type 0) (old new : List Moment) → ((m : Moment) → P m → Q m) → Exceeds limit P old new →
    Exceeds limit Q old new
Exceeds-like limit P Q old new like over =
    record {
      ascending = over.ascending;
      each = λ m h. elim (over.each m h) [ inl there ↦ inl there | inr is ↦ inr (like m is) ];
      many = over.many;
    }

pub Adds-both : (limit : ℕ) (P Q : Moment → Type 0) (a b c : List Moment) → Adds limit P a b → Adds limit Q b c →
    Adds limit (λ m. P m ⊎ Q m) a c
Adds-both limit P Q a b c first second =
    record {
      exactly = λ m. (
        λ h. elim ((second.exactly m).0 h) [
          | inl there ↦ elim ((first.exactly m).0 there) [ inl old ↦ inl old | inr is ↦ inr (inl is) ]
          | inr is ↦ inr (inr is)
        ],
        λ h. elim h [
          | inl old ↦ (second.exactly m).1 (inl ((first.exactly m).1 (inl old)))
          | inr is ↦ elim is [ inl p ↦ (second.exactly m).1 (inl ((first.exactly m).1 (inr p))) | inr q ↦ (second.exactly m).1 (inr q) ]
        ],
      );
      small = λ h. second.small (first.small h);
    }

pub Exceeds-after : (limit : ℕ) (P Q : Moment → Type 0) (a b c : List Moment) → Adds limit P a b → Exceeds limit Q b c →
    Exceeds limit (λ m. P m ⊎ Q m) a c
Exceeds-after limit P Q a b c first over =
    record {
      ascending = over.ascending;
      each = λ m h. elim (over.each m h) [
        | inl there ↦ elim ((first.exactly m).0 there) [ inl old ↦ inl old | inr is ↦ inr (inl is) ]
        | inr is ↦ inr (inr is)
      ];
      many = over.many;
    }

pub IsStep-like : {T : Type 0} (limit : ℕ) (P Q : Moment → Type 0) (old new : List Moment) (r : Result T RecurError) →
    ((m : Moment) → P m ↔ Q m) → IsStep limit P old new r → IsStep limit Q old new r
IsStep-like limit P Q old new (Ok x) like h = Adds-like limit P Q old new like h
IsStep-like limit P Q old new (Err TooMany) like h = Exceeds-like limit P Q old new (λ m. (like m).0) h
IsStep-like limit P Q old new (Err NoMemory) like h = tt

-- a step after another, where both together add Q
pub IsStep-after : {T : Type 0} (limit : ℕ) (P R Q : Moment → Type 0) (a b c : List Moment) (r : Result T RecurError) →
    ((m : Moment) → (P m ⊎ R m) ↔ Q m) → Adds limit P a b → IsStep limit R b c r → IsStep limit Q a c r
IsStep-after limit P R Q a b c (Ok x) like first h = Adds-like limit (λ m. P m ⊎ R m) Q a c like (Adds-both limit P R a b c first h)
IsStep-after limit P R Q a b c (Err TooMany) like first h =
    Exceeds-like limit (λ m. P m ⊎ R m) Q a c (λ m. (like m).0) (Exceeds-after limit P R a b c first h)
IsStep-after limit P R Q a b c (Err NoMemory) like first h = tt

-- a moment that is added at the end
push_gains : (old : List Moment) (moment : Moment) → Gains (λ m. m ≡ moment) old (old ++ moment ∷ [])
push_gains old moment m = (
  λ h. elim (Contains-push_cases old moment m h) [ inl there ↦ inl there | inr same ↦ inr (sym same) ],
  λ h. elim h [
    | inl there ↦ Contains-append_left old (moment ∷ []) m there
    | inr same ↦ subst (Contains (old ++ moment ∷ [])) (sym same)
        (Contains-push old moment)
  ],
)

pub Gains-push : (old new : List Moment) (moment : Moment) → new ≡ old ++ moment ∷ [] → Gains (λ m. m ≡ moment) old new
Gains-push old new moment is = subst (λ (ms : List Moment). Gains (λ m. m ≡ moment) old ms) (sym is) (push_gains old moment)

pub Gains-none : (P : Moment → Type 0) (old : List Moment) → ((m : Moment) → P m → ⊥) → Gains P old old
Gains-none P old none m = (λ h. inl h, λ h. elim h [ inl there ↦ there | inr is ↦ absurd (none m is) ])

pub Gains-like : (P Q : Moment → Type 0) (old new : List Moment) → ((m : Moment) → P m ↔ Q m) → Gains P old new → Gains Q old new
Gains-like P Q old new like gains m = (
  λ h. elim ((gains m).0 h) [ inl there ↦ inl there | inr is ↦ inr ((like m).0 is) ],
  λ h. elim h [ inl there ↦ (gains m).1 (inl there) | inr is ↦ (gains m).1 (inr ((like m).1 is)) ],
)

pub Gains-both : (P Q : Moment → Type 0) (a b c : List Moment) → Gains P a b → Gains Q b c → Gains (λ m. P m ⊎ Q m) a c
Gains-both P Q a b c first second m = (
  λ h. elim ((second m).0 h) [
    | inl there ↦ elim ((first m).0 there) [ inl old ↦ inl old | inr is ↦ inr (inl is) ]
    | inr is ↦ inr (inr is)
  ],
  λ h. elim h [
    | inl old ↦ (second m).1 (inl ((first m).1 (inl old)))
    | inr is ↦ elim is [ inl p ↦ (second m).1 (inl ((first m).1 (inr p))) | inr q ↦ (second m).1 (inr q) ]
  ],
)

pub IfTooMany-like : {P Q : Type 0} (e : RecurError) → (P → Q) → IfTooMany e P → IfTooMany e Q
IfTooMany-like TooMany like h = like h
IfTooMany-like NoMemory like h = tt
