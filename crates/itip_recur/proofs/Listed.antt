-- What a listing that began with nothing has found.
use Rattle.std.proofs.Common.{◌≡◌, ◌⊎◌, inl, inr, ℕ, subst, arith, ℤ, List, []}
use Rattle.std.specs.List.{Contains}
use Rattle.std.specs.List.Sorted.{IsStrictlySortedBy}
use Rattle.itip_moment.specs.declared.moment.Moment.{Moment}
use Rattle.itip_moment.specs.Order.{moment_cmp}
use Rattle.itip_recur.specs.declared.series.Series.{Series}
use Rattle.itip_recur.specs.Occurrences.{OccursIn, AreOccurrences, AreOver}
use Rattle.itip_recur.specs.Adding.{Adds, Exceeds, IsMemberIn, IsOneOf}
use Rattle.itip_recur.proofs.Adds.{Adds-like, Adds-both, Exceeds-like, Exceeds-after}
use Rattle.itip_recur.proofs.Steps.{occurrences_of}

nothing_in : (old : List Moment) (m : Moment) → old ≡ [] → Contains old m → ⊥
nothing_in old m empty h = let none : Contains [] m = subst (λ (ms : List Moment). Contains ms m) empty h in let low = none.1 in omega arith

AreOccurrences-listed : (limit : ℕ) (series : Series) (from to : ℤ) (old new : List Moment) → old ≡ [] →
    IsStrictlySortedBy moment_cmp new → Adds limit (OccursIn series from to) old new → AreOccurrences series from to new
AreOccurrences-listed limit series from to old new empty ascending adds =
    record {
      ascending = ascending;
      exactly = λ m. (
        λ h. elim ((adds.exactly m).0 h) [ inl there ↦ absurd (nothing_in old m empty there) | inr occurs ↦ occurs ],
        λ h. (adds.exactly m).1 (inr h),
      );
    }

AreOver-listed : (limit : ℕ) (series : Series) (from to : ℤ) (old new : List Moment) → old ≡ [] →
    Exceeds limit (OccursIn series from to) old new → AreOver limit series from to
AreOver-listed limit series from to old new empty over =
    record {
      some = new;
      ascending = over.ascending;
      each = λ m h. elim (over.each m h) [ inl there ↦ absurd (nothing_in old m empty there) | inr occurs ↦ occurs ];
      many = over.many;
    }

module _ (limit : ℕ) (series : Series) (from to : ℤ) (old mid new : List Moment) (empty : old ≡ []) where
  pub over_members : Exceeds limit (IsMemberIn series from to) old mid → AreOver limit series from to
  over_members over = AreOver-listed limit series from to old mid empty
      (Exceeds-like limit (IsMemberIn series from to) (OccursIn series from to) old mid
      (λ m h. (occurrences_of series from to m).0 (inl h)) over)

  pub over_all : Adds limit (IsMemberIn series from to) old mid → Exceeds limit (IsOneOf series.rdates series from to) mid new →
      AreOver limit series from to
  over_all members over =
      AreOver-listed limit series from to old new empty
      (Exceeds-like limit (λ m. IsMemberIn series from to m ⊎ IsOneOf series.rdates series from to m) (OccursIn series from to) old new
      (λ m. (occurrences_of series from to m).0)
      (Exceeds-after limit (IsMemberIn series from to) (IsOneOf series.rdates series from to) old mid new members over))

  pub all_listed : Adds limit (IsMemberIn series from to) old mid → Adds limit (IsOneOf series.rdates series from to) mid new →
      IsStrictlySortedBy moment_cmp new → AreOccurrences series from to new
  all_listed members more ascending =
      AreOccurrences-listed limit series from to old new empty ascending
      (Adds-like limit (λ m. IsMemberIn series from to m ⊎ IsOneOf series.rdates series from to m) (OccursIn series from to) old new
      (occurrences_of series from to)
      (Adds-both limit (IsMemberIn series from to) (IsOneOf series.rdates series from to) old mid new members more))
