-- What words don't ask for.
use Rattle.std.proofs.Common.{◌≡◌, ◌≢◌, ◌⊎◌, ℕ, List, [], Bool, true, false, Option, Some, None, inl, inr, refl, sym, ap, ap₂, subst, ◌∙◌}
use Rattle.std.proofs.Common.{codes}
use Rattle.std.specs.Prelude.{ℤ, ◌+◌, nat_le, bytes_eq, if◌then◌else◌, is_some, unwrap_or, MatchBool, MatchOption}
use Rattle.std.specs.Option.{option_map_or}
use Rattle.std.proofs.lemmas.Option.{none-some}
use Rattle.itip_moment.specs.Spelling.{IsDateText}
use Rattle.itip_moment.specs.declared.day.Day.{Day}
use Rattle.itip_moment.specs.declared.stamp.Stamp.{Stamp}
use Rattle.itip_moment.proofs.ValueLaws.{date_text-one}
use Rattle.itip_report.specs.Named.{IsOfRows}
use Rattle.itip_report.specs.declared.report_name.ReportName.{ReportName}
use Rattle.itip_words.specs.Asked.{inputs_of_draft}
use Rattle.itip_words.specs.Asking.{IsRead, IsToday, IsDueDay, IsFormatNamed, IsFormatGiven, AsksListing, AsksReport}
use Rattle.itip_words.specs.Asking.{AsksMessage, AsksWritten, AsksFilter, NoMessage, names_days, sources_of}
use Rattle.itip_words.specs.Calls.{IsFilterOf, inputs_before, reads_input_once}
use Rattle.itip_view.specs.declared.window.Window.{Window}
use Rattle.itip_words.specs.Days.{numbered, is_today, IsAskedWindow}
use Rattle.itip_words.specs.Finding.{Never}
use Rattle.itip_words.specs.Options.{Options, value_of, values_of}
use Rattle.itip_words.specs.Values.{inputs, is_input}
use Rattle.itip_words.specs.declared.asked.Asked.{Asked}
use Rattle.itip_words.specs.declared.asked.Asked.TheVariants as asked
use Rattle.itip_words.specs.declared.filter.Filter.{Filter}
use Rattle.itip_words.specs.declared.filter.Format.{Format}
use Rattle.itip_words.specs.declared.filter.Format.TheVariants as format
use Rattle.itip_words.specs.declared.filter.Written.{Written}
use Rattle.itip_words.specs.declared.filter.Written.TheVariants as written
use Rattle.itip_words.proofs.Finding.{apart}
use Rattle.itip_words.proofs.Messages.{never_message}

-- ---- days

-- no day is taken as today if the word for it is no date
pub never_today : (text : List ℕ) (clock : Option Stamp) → Never (IsDateText text) → (today : Option ℤ) →
    IsToday (Some text) clock today → ⊥
never_today text clock never None is = is
never_today text clock never (Some day) is = never day is

pub today_one : (o : Option (List ℕ)) (clock : Option Stamp) (a b : Option ℤ) → IsToday o clock a → IsToday o clock b → a ≡ b
today_one None clock a b p q = p ∙ sym q
today_one (Some text) clock None b p q = absurd p
today_one (Some text) clock (Some a) None p q = absurd q
today_one (Some text) clock (Some a) (Some b) p q = ap (λ (day : ℤ). Some day) (date_text-one text a b p q)

-- if no day is taken as today, there is no clock, and no word for it
pub no_clock : (o : Option (List ℕ)) (clock : Option Stamp) → IsToday o clock None → clock ≡ None
no_clock None None is = refl
no_clock None (Some now) is = absurd (none-some now.day is)
no_clock (Some text) clock is = absurd is

pub not_named_day : (o : Option (List ℕ)) (clock : Option Stamp) → IsToday o clock None → o ≡ None
not_named_day None clock is = refl
not_named_day (Some text) clock is = absurd is

pub never_due : (today found : Option Day) (text : List ℕ) → found ≡ None →
    MatchBool (is_today text) (found ≡ today) (MatchOption found (Never (IsDateText text)) (λ day. IsDateText text day.number)) →
    Never (IsDueDay (numbered today) text)
never_due today None text none is =
    elim (is_today text) as (λ (b : Bool). MatchBool b (None ≡ today) (Never (IsDateText text)) →
    Never (λ (day : ℤ). MatchBool b (numbered today ≡ Some day) (IsDateText text day))) [
      | true ↦ λ e day is. none-some day (ap numbered e ∙ is)
      | false ↦ λ never. never
    ] is
never_due today (Some day) text none is = absurd (none-some day (sym none))

-- ---- rows

pub never_form : (today : Option ℤ) (text : List ℕ) → text ≢ codes "text" → text ≢ codes "csv" → text ≢ codes "json" →
    ((day : Day) → text ≡ codes "html" → today ≡ Some day.number → ⊥) → (form : Format) → IsFormatNamed today text form → ⊥
never_form today text a b c never format.Text is = a is
never_form today text a b c never format.Csv is = b is
never_form today text a b c never format.Json is = c is
never_form today text a b c never (format.Html day) is = never day is.0 is.1

module _ (options : Options) (clock : Option Stamp) (today : Option ℤ)
    (today_is : IsToday (value_of (codes "today") options) clock today) where
  abbrev IsWindowBy : Option ℤ → Bool → Window → Type 0
  IsWindowBy day is_due = IsAskedWindow (value_of (codes "from") options) (value_of (codes "to") options) day is_due

  pub list_no_window : (is_due : Bool) → is_due ≡ is_some (value_of (codes "due-before") options) → Never (IsWindowBy today is_due) →
      Never (AsksListing options clock)
  list_no_window is_due due never = λ listing is.
      never listing.window (subst (λ (b : Bool). IsWindowBy today b listing.window) (sym due)
      (subst (λ (day : Option ℤ). IsWindowBy day (is_some (value_of (codes "due-before") options)) listing.window)
      (today_one (value_of (codes "today") options) clock is.today today is.today_is today_is) is.window))

  pub list_no_due : (word : Option (List ℕ)) → word ≡ value_of (codes "due-before") options → Never (IsRead (IsDueDay today) word) →
      Never (AsksListing options clock)
  list_no_due word given never = λ listing is.
      never listing.due_before (subst (λ (o : Option (List ℕ)). IsRead (IsDueDay today) o listing.due_before) (sym given)
      (subst (λ (day : Option ℤ). IsRead (IsDueDay day) (value_of (codes "due-before") options) listing.due_before)
      (today_one (value_of (codes "today") options) clock is.today today is.today_is today_is) is.due))

  pub list_no_form : Never (IsFormatGiven options today) → Never (AsksListing options clock)
  list_no_form never = λ listing is.
      never listing.format (subst (λ (day : Option ℤ). IsFormatGiven options day listing.format)
      (today_one (value_of (codes "today") options) clock is.today today is.today_is today_is) is.form)

  pub report_no_window : Never (IsWindowBy today false) → Never (AsksReport options clock)
  report_no_window never = λ reported is.
      never reported.window (subst (λ (day : Option ℤ). IsWindowBy day false reported.window)
      (today_one (value_of (codes "today") options) clock is.today today is.today_is today_is) is.window)

-- a report that isn't of rows takes no days
pub never_days : (options : Options) (name other : ReportName) → name ≡ other → (is : Bool) → (IsOfRows name → is ≡ true) → is ≡ false →
    names_days options ≡ true → IsOfRows other ⊎ (names_days options ≡ false) → ⊥
never_days options name other same is rows not_rows days (inl of_rows) =
    let bad : true ≡ false = sym (rows (subst (λ (n : ReportName). IsOfRows n) (sym same) of_rows)) ∙ not_rows in absurd cc
never_days options name other same is rows not_rows days (inr none) = let bad : true ≡ false = sym days ∙ none in absurd cc

-- ---- what is written

module _ (options : Options) (clock : Option Stamp) where
  no_message_of : (word : List ℕ) → word ≢ codes "request" → word ≢ codes "resend" → word ≢ codes "reply" → word ≢ codes "refresh" →
      word ≢ codes "cancel" → NoMessage word options clock
  no_message_of word a b c d e = λ message at is. never_message options word a b c d e message is.0

  pub never_list : Never (AsksListing options clock) → (one : Written) → AsksWritten (codes "list") options clock one → ⊥
  never_list never (written.Compaction output) is = apart (codes "list") (codes "compact") refl is.0
  never_list never (written.List listing) is = never listing is.1
  never_list never (written.Report reported) is = apart (codes "list") (codes "report") refl is.0
  never_list never (written.News than) is = apart (codes "list") (codes "news") refl is.0
  never_list never (written.Explanation uid) is = apart (codes "list") (codes "explain") refl is.0
  never_list never (written.Message message at) is =
      no_message_of (codes "list") (apart (codes "list") (codes "request") refl) (apart (codes "list") (codes "resend") refl)
      (apart (codes "list") (codes "reply") refl) (apart (codes "list") (codes "refresh") refl) (apart (codes "list") (codes "cancel") refl)
      message at is

  pub never_report : Never (AsksReport options clock) → (one : Written) → AsksWritten (codes "report") options clock one → ⊥
  never_report never (written.Compaction output) is = apart (codes "report") (codes "compact") refl is.0
  never_report never (written.List listing) is = apart (codes "report") (codes "list") refl is.0
  never_report never (written.Report reported) is = never reported is.1
  never_report never (written.News than) is = apart (codes "report") (codes "news") refl is.0
  never_report never (written.Explanation uid) is = apart (codes "report") (codes "explain") refl is.0
  never_report never (written.Message message at) is =
      no_message_of (codes "report") (apart (codes "report") (codes "request") refl) (apart (codes "report") (codes "resend") refl)
      (apart (codes "report") (codes "reply") refl) (apart (codes "report") (codes "refresh") refl)
      (apart (codes "report") (codes "cancel") refl) message at is

  pub never_news : None ≡ values_of (codes "than") options → (one : Written) → AsksWritten (codes "news") options clock one → ⊥
  never_news none (written.Compaction output) is = apart (codes "news") (codes "compact") refl is.0
  never_news none (written.List listing) is = apart (codes "news") (codes "list") refl is.0
  never_news none (written.Report reported) is = apart (codes "news") (codes "report") refl is.0
  never_news none (written.News than) is = none-some _ (none ∙ is.1)
  never_news none (written.Explanation uid) is = apart (codes "news") (codes "explain") refl is.0
  never_news none (written.Message message at) is =
      no_message_of (codes "news") (apart (codes "news") (codes "request") refl) (apart (codes "news") (codes "resend") refl)
      (apart (codes "news") (codes "reply") refl) (apart (codes "news") (codes "refresh") refl) (apart (codes "news") (codes "cancel") refl)
      message at is

  pub never_explained : None ≡ value_of (codes "uid") options → (one : Written) → AsksWritten (codes "explain") options clock one → ⊥
  never_explained none (written.Compaction output) is = apart (codes "explain") (codes "compact") refl is.0
  never_explained none (written.List listing) is = apart (codes "explain") (codes "list") refl is.0
  never_explained none (written.Report reported) is = apart (codes "explain") (codes "report") refl is.0
  never_explained none (written.News than) is = apart (codes "explain") (codes "news") refl is.0
  never_explained none (written.Explanation uid) is = none-some _ (none ∙ is.1)
  never_explained none (written.Message message at) is =
      no_message_of (codes "explain") (apart (codes "explain") (codes "request") refl) (apart (codes "explain") (codes "resend") refl)
      (apart (codes "explain") (codes "reply") refl) (apart (codes "explain") (codes "refresh") refl)
      (apart (codes "explain") (codes "cancel") refl) message at is

  -- other words ask for a message, or for nothing
  pub never_written : (word : List ℕ) → word ≢ codes "compact" → word ≢ codes "list" → word ≢ codes "report" → word ≢ codes "news" →
      word ≢ codes "explain" → NoMessage word options clock → (one : Written) → AsksWritten word options clock one → ⊥
  never_written word a b c d e never (written.Compaction output) is = a is.0
  never_written word a b c d e never (written.List listing) is = b is.0
  never_written word a b c d e never (written.Report reported) is = c is.0
  never_written word a b c d e never (written.News than) is = d is.0
  never_written word a b c d e never (written.Explanation uid) is = e is.0
  never_written word a b c d e never (written.Message message at) is = never message at is

-- ---- standard input

-- how often a word with its options has it read before the sources
abbrev inputs_asked : List ℕ → Options → ℕ
inputs_asked word options =
    if bytes_eq word (codes "news") then inputs (unwrap_or (values_of (codes "than") options) [])
    else (if bytes_eq word (codes "request")
    then option_map_or (λ text. if is_input text then 1 else 0) (value_of (codes "draft") options) 0 else 0)

module _ (word : List ℕ) (options : Options) where
  none_before : (name : List ℕ) → word ≡ name → inputs_asked name options ≡ 0 → 0 ≡ inputs_asked word options
  none_before name is none = sym none ∙ sym (ap (λ (w : List ℕ). inputs_asked w options) is)

  draft_inputs : (one : Asked) → AsksMessage word options one → inputs_of_draft one ≡ inputs_asked word options
  draft_inputs (asked.Resend uid) is = none_before (codes "resend") is.0 refl
  draft_inputs (asked.Request draft) is =
      sym (ap (λ (o : Option (List ℕ)). option_map_or (λ text. if is_input text then 1 else 0) o 0) is.1) ∙
      sym (ap (λ (w : List ℕ). inputs_asked w options) is.0)
  draft_inputs (asked.Reply uid id attendee status percent) is = none_before (codes "reply") is.0 refl
  draft_inputs (asked.Refresh uid id attendee) is = none_before (codes "refresh") is.0 refl
  draft_inputs (asked.Cancel uid id) is = none_before (codes "cancel") is.0 refl
  draft_inputs (asked.CancelOnward uid id) is = none_before (codes "cancel") is.0 refl
  draft_inputs (asked.Remove uid id attendees) is = none_before (codes "cancel") is.0 refl

  inputs_are : (clock : Option Stamp) (one : Written) → AsksWritten word options clock one → inputs_before one ≡ inputs_asked word options
  inputs_are clock (written.Compaction output) is = none_before (codes "compact") is.0 refl
  inputs_are clock (written.List listing) is = none_before (codes "list") is.0 refl
  inputs_are clock (written.Report reported) is = none_before (codes "report") is.0 refl
  inputs_are clock (written.News than) is =
      sym (ap (λ (o : Option (List (List ℕ))). inputs (unwrap_or o [])) is.1) ∙ sym (ap (λ (w : List ℕ). inputs_asked w options) is.0)
  inputs_are clock (written.Explanation uid) is = none_before (codes "explain") is.0 refl
  inputs_are clock (written.Message message at) is = draft_inputs message is.0

  input_one : (clock : Option Stamp) (filter : Filter) → AsksFilter word options clock filter →
      reads_input_once filter ≡ nat_le (inputs_asked word options + inputs (sources_of options)) 1
  input_one clock filter is =
      ap₂ (λ (n : ℕ) (sources : List (List ℕ)). nat_le (n + inputs sources) 1) (inputs_are clock filter.written is.1) is.0.sources

  -- if one filter that is asked for reads it twice, so does each
  pub never_once : (clock : Option Stamp) (filter : Filter) → AsksFilter word options clock filter → reads_input_once filter ≡ false →
      Never (IsFilterOf word options clock)
  never_once clock filter is twice = λ other like.
      let bad : false ≡ true = sym twice ∙ input_one clock filter is ∙ sym (input_one clock other like.asked) ∙ like.possible.once in
      absurd cc
