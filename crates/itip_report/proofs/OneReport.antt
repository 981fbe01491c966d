-- Each report has one answer.
use Rattle.std.proofs.Common.{◌≡◌, ℕ, zero, suc, ◌≤◌, List, ◌∷◌, refl, sym, ◌∙◌, ap, arith, Option, Some, None}
use Rattle.std.specs.Prelude.{map}
use Rattle.std.specs.List.{Contains, flat_map}
use Rattle.std.specs.declared.cmp.Ordering.TheVariants.{Less}
use Rattle.itip_items.specs.declared.item.Item.{Item}
use Rattle.itip_items.specs.declared.key.Key.TheVariants.{Series}
use Rattle.itip_state.specs.Organizers.{IsLastUsed}
use Rattle.itip_state.proofs.OneOrder.{less_one_way, same_ascending}
use Rattle.itip_view.proofs.OneRow.{one_best}
use Rattle.itip_report.specs.Lines.{place_cmp, AscendPlaces}
use Rattle.itip_report.specs.Resending.{IsResend, IsResendOf}
use Rattle.itip_report.specs.NextSequence.{IsNext, last_sequence}
use Rattle.itip_report.specs.Reports.{AreReportLines, line_of}
use Rattle.itip_report.specs.declared.report.Report.{Report}
use Rattle.itip_report.proofs.Placing.{place_total}

places_apart : (a b : Item) → place_cmp a.key b.key ≡ Less → place_cmp b.key a.key ≡ Less → ⊥
places_apart a b = less_one_way place_total a.key b.key

same_places : (xs ys : List Item) → AscendPlaces xs → AscendPlaces ys → ((item : Item) → Contains xs item → Contains ys item) →
    ((item : Item) → Contains ys item → Contains xs item) → xs ≡ ys
same_places xs ys up over there back =
    same_ascending (λ (a b : Item). place_cmp a.key b.key ≡ Less) places_apart xs ys up over (λ item. (there item, back item))

pub one_lines : (heard : List Item) (asked : Report) (lines others : List (List ℕ)) → AreReportLines asked heard lines →
    AreReportLines asked heard others → lines ≡ others
one_lines heard asked lines others mine theirs =
    let same : mine.items ≡ theirs.items = same_places mine.items theirs.items mine.reported.ascend theirs.reported.ascend
    (λ item h. theirs.reported.all item (mine.reported.each item h)) (λ item h. mine.reported.all item (theirs.reported.each item h)) in
    mine.lines_are ∙ ap (map (line_of asked)) same ∙ sym theirs.lines_are

two_resends : (heard : List Item) (uid bytes others : List ℕ) → IsResend heard uid bytes → IsResend heard uid others → bytes ≡ others
two_resends heard uid bytes others mine theirs =
    let one : mine.series ≡ theirs.series = one_best heard (Series uid) mine.series theirs.series mine.live.best theirs.live.best in
    let same : mine.overrides ≡ theirs.overrides = same_places mine.overrides theirs.overrides mine.standing.ascend theirs.standing.ascend
    (λ item h. theirs.standing.all item (mine.standing.each item h)) (λ item h. mine.standing.all item (theirs.standing.each item h)) in
    mine.bytes_are ∙ (λ i. flat_map (λ (item : Item). item.bytes) (one i ∷ same i)) ∙ sym theirs.bytes_are

pub one_resend : (heard : List Item) (uid : List ℕ) (bytes others : Option (List ℕ)) → IsResendOf heard uid bytes →
    IsResendOf heard uid others → bytes ≡ others
one_resend heard uid None None mine theirs = refl
one_resend heard uid None (Some others) none theirs = absurd (none theirs.series theirs.live)
one_resend heard uid (Some bytes) None mine none = absurd (none mine.series mine.live)
one_resend heard uid (Some bytes) (Some others) mine theirs = ap Some (two_resends heard uid bytes others mine theirs)

no_use : (heard : List Item) (uid : List ℕ) (n : ℕ) → IsLastUsed heard uid None → IsLastUsed heard uid (Some n) → ⊥
no_use heard uid n none (used, above) = none used.item used.of_organizer

one_use : (heard : List Item) (uid : List ℕ) (m n : ℕ) → IsLastUsed heard uid (Some m) → IsLastUsed heard uid (Some n) → m ≡ n
one_use heard uid m n (used, above) (also, over) =
    let up : used.item.eff ≤ n = over used.item used.of_organizer in
    let down : also.item.eff ≤ m = above also.item also.of_organizer in
    omega (arith, up, down, used.eff_is, also.eff_is)

pub one_next : (heard : List Item) (uid : List ℕ) (next other : Option ℕ) → IsNext heard uid next → IsNext heard uid other → next ≡ other
one_next heard uid None None mine theirs = refl
one_next heard uid None (Some zero) mine none = absurd (no_use heard uid last_sequence none mine)
one_next heard uid None (Some (suc n)) mine (theirs, few) = absurd (omega (arith, one_use heard uid last_sequence n mine theirs, few))
one_next heard uid (Some zero) None none theirs = absurd (no_use heard uid last_sequence none theirs)
one_next heard uid (Some zero) (Some zero) mine theirs = refl
one_next heard uid (Some zero) (Some (suc n)) none (theirs, few) = absurd (no_use heard uid n none theirs)
one_next heard uid (Some (suc m)) None (mine, few) theirs = absurd (omega (arith, one_use heard uid m last_sequence mine theirs, few))
one_next heard uid (Some (suc m)) (Some zero) (mine, few) none = absurd (no_use heard uid m none mine)
one_next heard uid (Some (suc m)) (Some (suc n)) (mine, few) (theirs, also) =
    ap (λ (k : ℕ). Some (suc k)) (one_use heard uid m n mine theirs)
