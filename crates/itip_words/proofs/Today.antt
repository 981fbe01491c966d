-- What isn't asked for if no day is taken as today.
use Rattle.std.proofs.Common.{◌≡◌, ◌∙◌, ℕ, List, Bool, true, false, not, ◌||◌, Option, Some, None, refl, sym, subst, codes}
use Rattle.std.specs.Prelude.{ℤ, is_some, IsSomeAnd, MatchBool}
use Rattle.std.specs.Option.{option_map_or}
use Rattle.std.proofs.lemmas.Option.{none-some}
use Rattle.itip_moment.specs.Spelling.{IsDateText}
use Rattle.itip_moment.specs.declared.stamp.Stamp.{Stamp}
use Rattle.itip_view.specs.declared.window.Window.{Window}
use Rattle.itip_words.specs.Asking.{IsRead, IsToday, IsDueDay, IsFormatNamed, IsWritingTime, AsksListing, AsksReport, LacksToday}
use Rattle.itip_words.specs.Asking.{is_page, names_window, needs_today}
use Rattle.itip_words.specs.Days.{IsGiven, IsAskedWindow, first_day, is_today}
use Rattle.itip_words.specs.Finding.{Never}
use Rattle.itip_words.specs.Options.{Options, value_of}
use Rattle.itip_words.specs.declared.filter.Format.{Format}
use Rattle.itip_words.specs.declared.filter.Format.TheVariants as format

-- one of three
three : (a b c : Bool) → (a || b || c) ≡ true → (a ≡ true → ⊥) → (b ≡ true → ⊥) → (c ≡ true → ⊥) → ⊥
three true b c e f g h = f refl
three false true c e f g h = g refl
three false false c e f g h = h e

not_true : (b : Bool) → not b ≡ true → b ≡ false
not_true true e = sym e
not_true false e = refl

late_day : (o : Option (List ℕ)) (clock : Option Stamp) → o ≡ None → clock ≡ None → (today : Option ℤ) → IsToday o clock today →
    today ≡ None
late_day None None unnamed late today is = is
late_day None (Some now) unnamed late today is = absurd (none-some now (sym late))
late_day (Some text) clock unnamed late today is = absurd (none-some text (sym unnamed))

-- neither end of a window is named
first_late : (is_due : Bool) (a b : Option ℤ) → IsGiven None a → IsGiven None b → (day : ℤ) → first_day is_due a b None ≡ Some day → ⊥
first_late is_due None None p q day e = none-some day e
first_late is_due None (Some b) p q day e = q
first_late is_due (Some a) b p q day e = p

late_window : (from to : Option (List ℕ)) → (is_some from || is_some to) ≡ false → (is_due : Bool) (window : Window) →
    IsAskedWindow from to None is_due window → ⊥
late_window None None none is_due window is = first_late is_due is.from_day is.to_day is.from_is is.to_is window.from is.first
late_window None (Some to) none is_due window is = let bad : true ≡ false = none in absurd cc
late_window (Some from) to none is_due window is = let bad : true ≡ false = none in absurd cc

late_due : (o : Option (List ℕ)) → option_map_or is_today o false ≡ true → (due : Option ℤ) → IsRead (IsDueDay None) o due → ⊥
late_due None needed due is = let bad : false ≡ true = needed in absurd cc
late_due (Some text) needed None is = is
late_due (Some text) needed (Some day) is =
    none-some day (subst (λ (b : Bool). MatchBool b (None ≡ Some day) (IsDateText text day)) needed is)

late_form : (o : Option (List ℕ)) → option_map_or is_page o false ≡ true → (form : Format) →
    IsSomeAnd o (λ text. IsFormatNamed None text form) → ⊥
late_form None needed form is = is
late_form (Some text) needed format.Text is =
    let bad : false ≡ true = subst (λ (t : List ℕ). is_page t ≡ true) is needed in absurd cc
late_form (Some text) needed format.Csv is =
    let bad : false ≡ true = subst (λ (t : List ℕ). is_page t ≡ true) is needed in absurd cc
late_form (Some text) needed format.Json is =
    let bad : false ≡ true = subst (λ (t : List ℕ). is_page t ≡ true) is needed in absurd cc
late_form (Some text) needed (format.Html day) is = none-some day.number is.1

module _ (options : Options) (clock : Option Stamp) where
  pub list_late : (needs : Bool) → needs ≡ needs_today options → LacksToday options clock needs → Never (AsksListing options clock)
  list_late needs same lacks = λ listing is.
      let none : is.today ≡ None = late_day (value_of (codes "today") options) clock lacks.unnamed lacks.late is.today is.today_is in
      let due_none : IsRead (IsDueDay None) (value_of (codes "due-before") options) listing.due_before =
      subst (λ (day : Option ℤ). IsRead (IsDueDay day) (value_of (codes "due-before") options) listing.due_before) none is.due in
      let form_none : IsSomeAnd (value_of (codes "format") options) (λ text. IsFormatNamed None text listing.format) =
      subst (λ (day : Option ℤ). IsSomeAnd (value_of (codes "format") options) (λ text. IsFormatNamed day text listing.format)) none
      is.form in
      let window_none : IsAskedWindow (value_of (codes "from") options) (value_of (codes "to") options) None
      (is_some (value_of (codes "due-before") options)) listing.window =
      subst (λ (day : Option ℤ). IsAskedWindow (value_of (codes "from") options) (value_of (codes "to") options) day
      (is_some (value_of (codes "due-before") options)) listing.window) none is.window in
      three (not (names_window options)) (option_map_or is_today (value_of (codes "due-before") options) false)
      (option_map_or is_page (value_of (codes "format") options) false) (sym same ∙ lacks.needed)
      (λ unnamed. late_window (value_of (codes "from") options) (value_of (codes "to") options)
      (not_true (names_window options) unnamed) (is_some (value_of (codes "due-before") options)) listing.window window_none)
      (λ due. late_due (value_of (codes "due-before") options) due listing.due_before due_none)
      (λ page. late_form (value_of (codes "format") options) page listing.format form_none)

  pub report_late : (needs : Bool) → needs ≡ not (names_window options) → LacksToday options clock needs → Never (AsksReport options clock)
  report_late needs same lacks = λ reported is.
      let none : is.today ≡ None = late_day (value_of (codes "today") options) clock lacks.unnamed lacks.late is.today is.today_is in
      late_window (value_of (codes "from") options) (value_of (codes "to") options)
      (not_true (names_window options) (sym same ∙ lacks.needed)) false reported.window
      (subst (λ (day : Option ℤ). IsAskedWindow (value_of (codes "from") options) (value_of (codes "to") options) day false reported.window)
      none is.window)

-- no moment of writing is named, and there is no clock
pub never_timed : (clock : Option Stamp) → clock ≡ None → (at : Stamp) → IsWritingTime None clock at → ⊥
never_timed clock late at is = none-some at (sym late ∙ is)
