use Rattle.std.proofs.Common.{◌≡◌, ℕ, List, Some, inl, inr, sym, ap, ◌∙◌}
use Rattle.std.proofs.lemmas.Option.{none-some, same_Some}
use Rattle.itip_report.specs.declared.report_name.ReportName.{ReportName}
use Rattle.itip_script.specs.Orders.{report_of}
use Rattle.itip_words.specs.Options.{options_of}
use Rattle.itip_words.proofs.Finding.{finds_none}
use Rattle.itip_words.proofs.Given.{given, of_given, none_given}
use Rattle.itip_words.proofs.Nothing.{never_days}
use Rattle.itip_words.proofs.filter.asked_report.Goals as goal

pub returns-in_err-text : goal.returns-in_err-text
returns-in_err-text c =
    finds_none _ c.from_residual.result c.from_residual.ensures (λ name is. none_given _ _ c.in_err-text.ensures is.named)

pub returns-in_err-name : goal.returns-in_err-name
returns-in_err-name c =
    finds_none _ c.from_residual-in_err-name.result c.from_residual-in_err-name.ensures
    (λ name is. none-some name (c.in_err-name.ensures ∙ ap report_of c.as_bytes.ensures.value ∙
    of_given _ c.in_ok-text.text.now (λ (t : List ℕ). report_of t ≡ Some name) c.in_ok-text.ensures is.named))

pub returns-then-is_of_rows : goal.returns-then-is_of_rows
returns-then-is_of_rows c = record {
  named = given _ c.in_ok-text.text.now (λ (t : List ℕ). report_of t ≡ Some c.in_ok-name.name) c.in_ok-text.ensures
      (ap report_of (sym c.as_bytes.ensures.value) ∙ sym c.in_ok-name.ensures);
  days = inl (c.is_of_rows.ensures.0 c.if-is_of_rows.true);
}

pub returns-then-names_days : goal.returns-then-names_days
returns-then-names_days c =
    λ (name : ReportName) is.
    let read : report_of c.in_ok-text.text.now ≡ Some name =
    of_given _ c.in_ok-text.text.now (λ (t : List ℕ). report_of t ≡ Some name) c.in_ok-text.ensures is.named in
    let same : c.in_ok-name.name ≡ name = same_Some _ name (c.in_ok-name.ensures ∙ ap report_of c.as_bytes.ensures.value ∙ read) in
    never_days (options_of c.args.words.now) c.in_ok-name.name name same c.is_of_rows.result c.is_of_rows.ensures.1 c.if-is_of_rows.false
    (sym c.names_days.ensures ∙ c.if-names_days.true) is.days

pub returns : goal.returns
returns c = record {
  named = given _ c.in_ok-text.text.now (λ (t : List ℕ). report_of t ≡ Some c.in_ok-name.name) c.in_ok-text.ensures
      (ap report_of (sym c.as_bytes.ensures.value) ∙ sym c.in_ok-name.ensures);
  days = inr (sym c.names_days.ensures ∙ c.if-names_days.false);
}
