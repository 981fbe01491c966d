use Rattle.std.proofs.Common.{◌≡◌, ◌∙◌, sym, ap, subst, List, ℕ, [], length, ◌==◌, true, false}
use Rattle.std.specs.Io.KnownBytes.{Appends}
use Rattle.std.proofs.KnownBytes.{Keeps-refl}
use Rattle.std.proofs.lemmas.Bool.Decides.{Decides-eqb}
use Rattle.std.proofs.lemmas.List.{nil_from_length}
use Rattle.itip_explain.specs.Explanation.{IsExplanation}
use Rattle.itip_explain.specs.Told.{heard_of}
use Rattle.itip_explain.specs.declared.told.ToldItem.{ToldItem}
use Rattle.itip_state.specs.Kept.{AreOf}
use Rattle.itip_streams.specs.Written.{AppendsFront}
use Rattle.itip_inbox.specs.Explaining.{IsExplained}
use Rattle.itip_inbox.proofs.Explaining.{told_of_uid, none_told, some_told, explained_written, explained_front}
use Rattle.itip_inbox.proofs.OfInbox.{unwritten}
use Rattle.itip_inbox.proofs.Outputs.{on_err}
use Rattle.itip_inbox.proofs.explained.explain.Goals as goal

pub explanation-requires : goal.explanation-requires
explanation-requires g c =
    subst (λ (told : List ToldItem). AreOf c.args.uid.now (heard_of told)) (sym c.as_slice-told.ensures.value)
    (told_of_uid c.args.uid.now c.in_ok-inbox.ensures.heard.messages c.in_ok-inbox.inbox.told.items c.in_ok-inbox.ensures.heard.tells)

pub returns-in_err-inbox-clause-front : goal.returns-in_err-inbox-clause-front
returns-in_err-inbox-clause-front g c =
    on_err c.from_residual.result
    (unwritten g.R.Read.remaining c.args.sources.items (IsExplained c.args.uid.now c.args.names.now) (g.W.Write.contents c.args.writer.now))

pub returns-then-is_empty-clause-output : goal.returns-then-is_empty-clause-output
returns-then-is_empty-clause-output g c = λ inputs are.
    let none : (length c.as_slice-told.result.now == 0) ≡ true = sym c.is_empty.ensures ∙ c.if-is_empty.true in
    let empty : c.as_slice-told.result.now ≡ [] =
    nil_from_length c.as_slice-told.result.now ((Decides-eqb (length c.as_slice-told.result.now) 0).0 none) in (
      none_told c.args.uid.now inputs c.in_ok-inbox.inbox.told.items (c.in_ok-inbox.ensures.told inputs are)
          (sym c.as_slice-told.ensures.value ∙ empty),
      Keeps-refl (g.W.Write.contents c.args.writer.now),
    )

pub returns-in_err-text-clause-front : goal.returns-in_err-text-clause-front
returns-in_err-text-clause-front g c =
    on_err c.from_residual-in_err-text.result
    (unwritten g.R.Read.remaining c.args.sources.items (IsExplained c.args.uid.now c.args.names.now) (g.W.Write.contents c.args.writer.now))

pub returns-in_err-write_output-clause-front : goal.returns-in_err-write_output-clause-front
returns-in_err-write_output-clause-front g c =
    let explains : IsExplanation c.args.uid.now c.in_ok-inbox.inbox.told.items c.args.names.now c.in_ok-text.text.items =
    subst (λ (told : List ToldItem). IsExplanation c.args.uid.now told c.args.names.now c.in_ok-text.text.items)
    c.as_slice-told.ensures.value c.in_ok-text.ensures in
    on_err c.from_residual-in_err-write_output.result (λ inputs are.
    explained_front c.args.uid.now c.args.names.now inputs c.in_ok-inbox.inbox.told.items c.in_ok-text.text.items
    c.in_ok-inbox.inbox.state c.in_ok-inbox.inbox.refusals (c.in_ok-inbox.ensures.told inputs are) explains
    (c.in_ok-inbox.ensures.holds inputs are) (g.W.Write.contents c.args.writer.now) (g.W.Write.contents c.write_output.new.writer)
    (subst (λ (t : List ℕ). AppendsFront (g.W.Write.contents c.args.writer.now) (g.W.Write.contents c.write_output.new.writer) t)
    c.as_slice.ensures.value c.in_err-write_output.ensures.front))

pub returns-clause-output : goal.returns-clause-output
returns-clause-output g c = λ inputs are.
    let explains : IsExplanation c.args.uid.now c.in_ok-inbox.inbox.told.items c.args.names.now c.in_ok-text.text.items =
    subst (λ (told : List ToldItem). IsExplanation c.args.uid.now told c.args.names.now c.in_ok-text.text.items)
    c.as_slice-told.ensures.value c.in_ok-text.ensures in
    let some : (length c.as_slice-told.result.now == 0) ≡ false = sym c.is_empty.ensures ∙ c.if-is_empty.false in (
      some_told c.args.uid.now inputs c.in_ok-inbox.inbox.told.items (c.in_ok-inbox.ensures.told inputs are)
          (λ (none : c.in_ok-inbox.inbox.told.items ≡ []).
          let zero : (length c.as_slice-told.result.now == 0) ≡ true =
          (Decides-eqb (length c.as_slice-told.result.now) 0).1 (ap length (c.as_slice-told.ensures.value ∙ none)) in
          let apart : true ≡ false = sym zero ∙ some in cc),
      explained_written c.args.uid.now c.args.names.now inputs c.in_ok-inbox.inbox.told.items c.in_ok-text.text.items
          c.in_ok-inbox.inbox.state c.in_ok-inbox.inbox.refusals (c.in_ok-inbox.ensures.told inputs are) explains
          (c.in_ok-inbox.ensures.holds inputs are) (g.W.Write.contents c.args.writer.now) (g.W.Write.contents c.write_output.new.writer)
          c.has_refusals.result
          (subst (λ (t : List ℕ). Appends (g.W.Write.contents c.args.writer.now) (g.W.Write.contents c.write_output.new.writer) t)
          c.as_slice.ensures.value c.in_ok-write_output.ensures.all) c.has_refusals.ensures,
    )
