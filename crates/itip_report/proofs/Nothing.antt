-- When a report tells something, and so may ask for memory.
use Rattle.std.proofs.Common.{◌≡◌, ◌∙◌, refl, sym, ap, ℕ, zero, suc, ◌<◌, List, [], ◌∷◌}
use Rattle.std.proofs.Common.{◌++◌, length, map, min, get_or, subst, inl, inr, Some, None, arith}
use Rattle.std.specs.Prelude.{◌≢◌, option_to_list}
use Rattle.std.specs.List.{Contains, flat_map}
use Rattle.std.specs.Option.{option_map}
use Rattle.itip_items.specs.declared.item.Item.{Item}
use Rattle.itip_state.proofs.Members.{none_in, cons_first, no_pairs}
use Rattle.itip_view.specs.declared.row.Row.{Row}
use Rattle.std.specs.declared.cmp.Ordering.TheVariants.{Less}
use Rattle.itip_report.specs.Lines.{AreReported, AscendPlaces, place_cmp}
use Rattle.itip_report.specs.Reports.{IsReported}
use Rattle.itip_report.specs.declared.report.Report.{Report}
use Rattle.itip_report.specs.declared.report.Report.TheVariants as report
use Rattle.itip_report.specs.Load.{firsts, keys_in, load_line, load_lines}
use Rattle.itip_report.specs.Progress.{progress_line, progress_lines, line_with}
use Rattle.itip_report.specs.Records.{RowAt, load_of, load_records, load_text, row_at, progress_records, progress_text}
use Rattle.itip_report.specs.Tally.{AreTallied}
use Rattle.itip_report.specs.declared.load.Tally.{Tally}
use Rattle.itip_report.proofs.Mapped.{map_twice}
use Rattle.itip_report.proofs.Tallying.{tally_lines, tally_records}

-- a list counted as 0 is empty
pub counts_none : {A : Type 0} (xs : List A) (n : ℕ) → n ≡ min (length xs) 18446744073709551615 → n ≡ 0 → xs ≡ []
counts_none [] n is none = refl
counts_none (x ∷ xs) n is none = absurd (omega (arith, is, none))

-- and one counted as more is not
pub counts_some : {A : Type 0} (xs : List A) (n : ℕ) → n ≡ min (length xs) 18446744073709551615 → (n ≡ 0 → ⊥) → xs ≡ [] → ⊥
counts_some xs n is some none = let empty : length xs ≡ 0 = ap length none in some (omega (arith, is, empty))

pub some_there : {A : Type 0} (xs : List A) (i : ℕ) → i < length xs → xs ≢ []
some_there xs i below none = let empty : length xs ≡ 0 = ap length none in absurd (omega (arith, below, empty))

pub none_mapped : {X Y : Type 0} (f : X → Y) (xs : List X) → map f xs ≡ [] → xs ≡ []
none_mapped f [] none = refl
none_mapped f (x ∷ xs) none = absurd (cc)

both_none : {A : Type 0} (a b : List A) → a ++ b ≡ [] → (a ≡ []) × (b ≡ [])
both_none [] b none = (refl, none)
both_none (x ∷ a) b none = absurd (cc)

-- if some element of a list gives something, so do all together
pub given_by_one : {X Y : Type 0} (f : X → List Y) (xs : List X) (i : ℕ) (x : X) → i < length xs → x ≡ get_or xs i x → f x ≢ [] →
    flat_map f xs ≢ []
given_by_one f [] i x below is some none = absurd (omega (arith, below))
given_by_one f (y ∷ ys) zero x below is some none = some (ap f is ∙ (both_none (f y) (flat_map f ys) none).0)
given_by_one f (y ∷ ys) (suc i) x below is some none =
    given_by_one f ys i x (omega (arith, below)) is some (both_none (f y) (flat_map f ys) none).1

-- if all together give nothing, each gives nothing
pub none_given : {X Y : Type 0} (f : X → List Y) (xs : List X) (i : ℕ) (x : X) → i < length xs → x ≡ get_or xs i x →
    flat_map f xs ≡ [] → f x ≡ []
none_given f [] i x below is none = absurd (omega (arith, below))
none_given f (y ∷ ys) zero x below is none = ap f is ∙ (both_none (f y) (flat_map f ys) none).0
none_given f (y ∷ ys) (suc i) x below is none =
    none_given f ys i x (omega (arith, below)) is (both_none (f y) (flat_map f ys) none).1

none_first : (texts : List (List ℕ)) → firsts texts ≡ [] → texts ≡ []
unfolding firsts
none_first [] none = refl
none_first (text ∷ texts) none = absurd (cc)

-- if a report of load has nothing to tell, no row shows an attendee
pub none_shown : (rows : List Row) → load_lines rows ≡ [] → flat_map keys_in rows ≡ []
none_shown rows none = none_first (flat_map keys_in rows) (none_mapped (load_line rows) (firsts (flat_map keys_in rows)) none)

pub none_recorded : (rows : List Row) → load_records rows ≡ [] → flat_map keys_in rows ≡ []
none_recorded rows none = none_first (flat_map keys_in rows) (none_mapped (load_of rows) (firsts (flat_map keys_in rows)) none)

-- and none was counted
pub none_counted : (rows : List Row) (tally : Tally) → AreTallied rows tally → load_lines rows ≡ [] → tally.keys.items ≡ []
none_counted rows tally are none =
    none_mapped (load_line rows) tally.keys.items (tally_lines rows tally.keys.items tally.counts are.counted ∙ none)

pub none_counted_of : (rows : List Row) (tally : Tally) → AreTallied rows tally → load_records rows ≡ [] → tally.keys.items ≡ []
none_counted_of rows tally are none =
    none_mapped (load_of rows) tally.keys.items (tally_records rows tally.keys.items tally.counts are.counted ∙ none)

-- ---- items
-- nothing is reported of nothing heard
pub nothing_reported : (report : Report) (item : Item) → IsReported report [] item → ⊥
nothing_reported report.Cancelled item (inl series) = none_in item series.best.is_heard
nothing_reported report.Cancelled item (inr other) = elim other.standing.stands [
  | inl stands ↦ none_in item stands.best.is_heard
  | inr from ↦ none_in item from.best.is_heard
]
nothing_reported report.Orphans item is = none_in item is.kept.best.is_heard
nothing_reported report.Refresh item is = none_in item is.kept.best.is_heard

pub none_reported : (report : Report) (heard items : List Item) → heard ≡ [] → AreReported (IsReported report heard) items → items ≡ []
none_reported report heard [] none are = refl
none_reported report heard (item ∷ items) none are =
    absurd (nothing_reported report item
    (subst (λ (all : List Item). IsReported report all item) none (are.each item (cons_first item items))))

pub reported_of_nothing : (report : Report) (heard items : List Item) → heard ≡ [] → items ≡ [] →
    AreReported (IsReported report heard) items
reported_of_nothing report heard items none empty = record {
  ascend = subst AscendPlaces (sym empty) (no_pairs (λ (a b : Item). place_cmp a.key b.key ≡ Less));
  each = λ item h. absurd (none_in item (subst (λ (its : List Item). Contains its item) empty h));
  all = λ item is. absurd (nothing_reported report item (subst (λ (all : List Item). IsReported report all item) none is));
}

-- a row that has a progress is told
pub progress_there : (rows : List Row) (i : ℕ) (row : Row) (n : ℕ) → i < length rows → row ≡ get_or rows i row → row.progress ≡ Some n →
    progress_lines rows ≢ []
progress_there rows i row n below is has = given_by_one progress_line rows i row below is (λ none. told row n has none)
  where
    told : (row : Row) (n : ℕ) → row.progress ≡ Some n → progress_line row ≡ [] → ⊥
    told row n has none = absurd (let some : line_with row n ∷ [] ≡ [] = sym (ap (λ o. option_to_list (option_map (line_with row) o)) has) ∙
        none in cc)

pub progress_at : (rows : List Row) (i : ℕ) (row : Row) (n : ℕ) → i < length rows → row ≡ get_or rows i row → row.progress ≡ Some n →
    progress_records rows ≢ []
progress_at rows i row n below is has = given_by_one row_at rows i row below is (λ none. told row n has none)
  where
    at : Row → ℕ → RowAt
    at row n = record { row = row; percent = n }

    told : (row : Row) (n : ℕ) → row.progress ≡ Some n → row_at row ≡ [] → ⊥
    told row n has none = absurd (let some : at row n ∷ [] ≡ [] = sym (ap (λ o. option_to_list (option_map (at row) o)) has) ∙ none in cc)

-- ---- the lines are the texts of the records
pub load_texts : (rows : List Row) → load_lines rows ≡ map load_text (load_records rows)
load_texts rows = map_twice load_text (load_of rows) (firsts (flat_map keys_in rows))

pub progress_texts : (rows : List Row) → progress_lines rows ≡ map progress_text (progress_records rows)
progress_texts [] = refl
progress_texts (row ∷ rows) =
    elim (row.progress) as
    (λ o. option_to_list (option_map (line_with row) o) ++ progress_lines rows
    ≡ map progress_text (option_to_list (option_map (λ n. record { row = row; percent = n }) o) ++ progress_records rows))
    [ Some n ↦ ap (λ lines. line_with row n ∷ lines) (progress_texts rows) | None ↦ progress_texts rows ]
