use Rattle.std.proofs.Common.{◌≡◌, ◌∙◌, ◌+◌, ℕ, List, Option, ap, sym, subst, take, take_all}
use Rattle.std.specs.Option.{option_copied}
use Rattle.std.proofs.lemmas.Result.{err_from_is_err_and}
use Rattle.itip_moment.specs.declared.moment.Moment.{Moment}
use Rattle.itip_moment.specs.declared.stamp.Stamp.{Stamp}
use Rattle.itip_todo.specs.Table.{attendee_key}
use Rattle.itip_todo.specs.Properties.{Property}
use Rattle.itip_items.specs.declared.item.Item.{Item}
use Rattle.itip_items.specs.declared.key.Key.{Key}
use Rattle.itip_items.specs.declared.key.Key.TheVariants as keys
use Rattle.itip_recur.proofs.MappedLists.{Contains-map}
use Rattle.itip_view.specs.Answers.{answer_key}
use Rattle.itip_writing.specs.Removing.{IsOvertaken, removed_keys, with_stamp}
use Rattle.itip_writing.specs.Stamping.{IsEqualRevision, IsKeptOf, IsLatestOf, equal_stamp}
use Rattle.itip_writing.proofs.CancelCauses.{if_overtaken}
use Rattle.itip_writing.proofs.RemovedAnswers.{first_more, first_none, keys_more, latest_more, latest_none, overtaken_by}
use Rattle.itip_writing.proofs.removing.latest_answer.Goals as goal

pub loop-line-init : goal.loop-line-init
loop-line-init c = record {
  latest = latest_none c.args.items.now.items c.args.sequence;
  first = first_none c.args.items.now.items c.args.sequence;
}

pub loop-line-preserved : goal.loop-line-preserved
loop-line-preserved c =
    let items : List Item = c.args.items.now.items in
    let uid : List ℕ = c.args.items.now.uid in
    let id : Option Moment = option_copied c.args.id in
    let n : ℕ = c.args.sequence in
    let before : List Property = take c.loop-line.line-index c.args.lines.now in
    let so_far : List Property = take (c.loop-line.line-index + 1) c.args.lines.now in
    let key : Key = answer_key uid id c.line-item.result in
    let answer : Option Item = option_copied c.kept_answer-answer.result in
    let same : keys.Answer uid id c.as_str.result.now ≡ key =
    ap (keys.Answer uid id) (c.as_str.ensures ∙ c.in_ok-key.ensures.key ∙ ap attendee_key c.value.ensures) in
    let kept : IsKeptOf items key answer = subst (λ (k : Key). IsKeptOf items k answer) same c.kept_answer-answer.ensures in
    let more = keys_more uid id c.args.lines.now c.loop-line.line-index c.line-item.result c.loop-line-test.true c.line-item.is in record {
      latest = subst (λ (o : Option Stamp). IsLatestOf (IsEqualRevision items (removed_keys uid id so_far) n) o)
          (sym c.in_ok-latest.ensures.latest)
          (subst (λ (ks : List Key). IsLatestOf (IsEqualRevision items ks n) (with_stamp c.loop-line.latest (equal_stamp n answer)))
          (sym more)
          (latest_more items (removed_keys uid id before) key n answer kept c.loop-line.latest c.loop-line.invariant.latest));
      first = subst (λ (ks : List Key). ¬ IsOvertaken items ks n) (sym more)
          (first_more items (removed_keys uid id before) key n answer kept c.in_ok-latest.ensures.first c.loop-line.invariant.first);
    }

pub returns-in_err-latest-clause-overtaken : goal.returns-in_err-latest-clause-overtaken
returns-in_err-latest-clause-overtaken c =
    let items : List Item = c.args.items.now.items in
    let uid : List ℕ = c.args.items.now.uid in
    let id : Option Moment = option_copied c.args.id in
    let key : Key = answer_key uid id c.line-item.result in
    let answer : Option Item = option_copied c.kept_answer-answer.result in
    let same : keys.Answer uid id c.as_str.result.now ≡ key =
    ap (keys.Answer uid id) (c.as_str.ensures ∙ c.in_ok-key.ensures.key ∙ ap attendee_key c.value.ensures) in
    let kept : IsKeptOf items key answer = subst (λ (k : Key). IsKeptOf items k answer) same c.kept_answer-answer.ensures in
    let p = err_from_is_err_and c.from_residual-in_err-latest.result c.from_residual-in_err-latest.ensures.1 in
    rw (p.1, p.2) (if_overtaken items (removed_keys uid id c.args.lines.now) c.args.sequence answer
    (overtaken_by items (removed_keys uid id c.args.lines.now) key c.args.sequence
    (Contains-map (answer_key uid id) c.args.lines.now c.line-item.result
    (c.loop-line.line-index, c.loop-line-test.true, sym c.line-item.is)) answer kept) c.in_err-latest.field-0.0
    c.in_err-latest.ensures.overtaken)

pub returns-clause-latest : goal.returns-clause-latest
returns-clause-latest c =
    subst (λ (lines : List Property). IsLatestOf (IsEqualRevision c.args.items.now.items
    (removed_keys c.args.items.now.uid (option_copied c.args.id) lines) c.args.sequence) c.loop-line.latest)
    (take_all c.loop-line.line-index c.args.lines.now c.loop-line-test.false) c.loop-line.invariant.latest

pub returns-clause-first : goal.returns-clause-first
returns-clause-first c =
    subst (λ (lines : List Property). ¬ IsOvertaken c.args.items.now.items
    (removed_keys c.args.items.now.uid (option_copied c.args.id) lines) c.args.sequence)
    (take_all c.loop-line.line-index c.args.lines.now c.loop-line-test.false) c.loop-line.invariant.first
