use Rattle.std.proofs.Common.{◌≡◌, ℕ, List, [], refl, inl, sym, subst, ◌∙◌, Option, Some, None}
use Rattle.std.proofs.lemmas.Result.{err_from_is_err_and}
use Rattle.itip_moment.specs.declared.stamp.Stamp.{Stamp}
use Rattle.itip_lines.specs.declared.line.Line.{Line}
use Rattle.itip_todo.specs.Drafts.{draft_parts, IsDraftOf}
use Rattle.itip_todo.specs.Lawful.{IsLawful}
use Rattle.itip_todo.specs.Parts.{Parts}
use Rattle.itip_todo.specs.Reading.{IsOptional, IsOrNought, IsUidOf, IsStampOf, IsSequenceOf, IfRefused, AreGood, LacksProperty, missing}
use Rattle.itip_todo.specs.Reading.{first_named, lines_of}
use Rattle.itip_todo.specs.declared.draft.Draft.{Draft}
use Rattle.itip_todo.specs.declared.error.TodoRefusal.{TodoRefusal}
use Rattle.itip_todo.specs.declared.error.TodoError.{TodoError}
use Rattle.itip_todo.specs.declared.error.TodoError.TheVariants as error
use Rattle.itip_todo.specs.declared.property_name.PropertyName.TheVariants as name
use Rattle.itip_todo.proofs.Finishing.{or_nought, moments_of, is_absent, stampless}
use Rattle.itip_todo.proofs.finish.finish.Goals as goal

pub invariant_of-result : goal.invariant_of-result
invariant_of-result c =
    let rule : c.in_ok-needed.needed.rule ≡ c.args.draft.rule = c.in_ok-needed.ensures.rule in
    let others : c.in_ok-needed.needed.others ≡ c.args.draft.others = c.in_ok-needed.ensures.others in
    let full : Parts = record {
      uid = c.in_ok-needed.needed.uid;
      stamp = c.in_ok-needed.needed.stamp;
      seq = c.unwrap_or.result;
      base = c.args.draft.base;
      rid = c.args.draft.rid;
      range = c.args.draft.range;
      start = c.args.draft.start;
      due = c.args.draft.due;
      status = c.args.draft.status;
      percent = c.args.draft.percent;
      priority = c.args.draft.priority;
      summary = c.args.draft.summary;
      organizer = c.args.draft.organizer;
      attendees = c.in_ok-needed.needed.attendees;
      rule = c.in_ok-needed.needed.rule;
      rdates = c.in_ok-needed.needed.rdates;
      exdates = c.in_ok-needed.needed.exdates;
      others = c.in_ok-needed.needed.others;
    } in
    let same : full ≡ draft_parts c.in_ok-needed.needed.uid c.in_ok-needed.needed.stamp c.args.draft = λ i. record {
      uid = c.in_ok-needed.needed.uid;
      stamp = c.in_ok-needed.needed.stamp;
      seq = c.unwrap_or.ensures i;
      base = c.args.draft.base;
      rid = c.args.draft.rid;
      range = c.args.draft.range;
      start = c.args.draft.start;
      due = c.args.draft.due;
      status = c.args.draft.status;
      percent = c.args.draft.percent;
      priority = c.args.draft.priority;
      summary = c.args.draft.summary;
      organizer = c.args.draft.organizer;
      attendees = c.in_ok-needed.ensures.attendees i;
      rule = rule i;
      rdates = c.in_ok-needed.ensures.rdates i;
      exdates = c.in_ok-needed.ensures.exdates i;
      others = others i;
    } in
    record {
      lawful = subst IsLawful (sym same)
          (c.requires.lawful c.in_ok-needed.needed.uid c.in_ok-needed.needed.stamp c.in_ok-needed.ensures.uid c.in_ok-needed.ensures.stamp
          c.in_ok-needed.ensures.ordered.0 c.in_ok-needed.ensures.ordered.1);
    }

pub returns-clause-found : goal.returns-clause-found
returns-clause-found c = λ lines good is. record {
  good = good;
  uid = subst (λ (v : Option (List ℕ)). IsOptional IsUidOf (first_named name.Uid lines) v) c.in_ok-needed.ensures.uid (is name.Uid);
  stamp = subst (λ (v : Option Stamp). IsOptional IsStampOf (first_named name.DtStamp lines) v) c.in_ok-needed.ensures.stamp
      (is name.DtStamp);
  seq = subst (λ n. IsOrNought IsSequenceOf (first_named name.Sequence lines) n) (sym c.unwrap_or.ensures)
      (or_nought IsSequenceOf (first_named name.Sequence lines) c.args.draft.seq (is name.Sequence));
  base = is name.DeskBase;
  rid = (is name.RecurrenceId).0;
  range = (is name.RecurrenceId).1;
  start = is name.DtStart;
  due = is name.Due;
  status = is name.Status;
  percent = is name.PercentComplete;
  priority = is name.Priority;
  summary = is name.Summary;
  organizer = is name.Organizer;
  attendees = c.in_ok-needed.ensures.attendees ∙ (is name.Attendee).whole;
  rule = c.in_ok-needed.ensures.rule ∙ is name.RRule;
  rdates = moments_of (lines_of lines name.RDate) c.args.draft.rdates c.in_ok-needed.needed.rdates (is name.RDate)
      c.in_ok-needed.ensures.rdates c.in_ok-needed.ensures.ordered.0;
  exdates = moments_of (lines_of lines name.ExDate) c.args.draft.exdates c.in_ok-needed.needed.exdates (is name.ExDate)
      c.in_ok-needed.ensures.exdates c.in_ok-needed.ensures.ordered.1;
  others = c.in_ok-needed.ensures.others ∙ is name.Others;
}

abbrev Lacks : Draft → TodoRefusal → Type 0
Lacks draft r = (lines : List Line) → AreGood [] lines → IsDraftOf (lines_of lines) draft → LacksProperty lines r

-- a draft without a UID is refused for want of UID
uidless : (e : TodoError) (draft : Draft) → draft.uid ≡ None → IfRefused e (λ r. r ≡ missing name.Uid) → IfRefused e (Lacks draft)
uidless error.NoMemory draft none missing = tt
uidless (error.Refused r) draft none same = λ lines good is. inl (
  good,
  is_absent IsUidOf (first_named name.Uid lines)
      (subst (λ (v : Option (List ℕ)). IsOptional IsUidOf (first_named name.Uid lines) v) none (is name.Uid)),
  same,
)

lacking : (e : TodoError) (draft : Draft) → (draft.uid ≡ None → IfRefused e (λ r. r ≡ missing name.Uid))
    → ((text : List ℕ) → draft.uid ≡ Some text → IfRefused e (λ r. (r ≡ missing name.DtStamp) × (draft.stamp ≡ None))) →
    IfRefused e (Lacks draft)
lacking e draft no_uid no_stamp =
    elim draft.uid as (λ (uid : Option (List ℕ)). draft.uid ≡ uid → IfRefused e (Lacks draft)) [
      | None ↦ λ none. uidless e draft none (no_uid none)
      | Some text ↦ λ some. stampless e draft text some (no_stamp text some)
    ] refl

pub returns-in_err-needed-clause-refused : goal.returns-in_err-needed-clause-refused
returns-in_err-needed-clause-refused c =
    let p = err_from_is_err_and c.from_residual.result c.from_residual.ensures.1 in
    rw (p.1, p.2) (lacking c.in_err-needed.field-0.0 c.args.draft c.in_err-needed.ensures.no_uid c.in_err-needed.ensures.no_stamp)
