use Rattle.std.proofs.Common.{◌≡◌, ◌∙◌}
use Rattle.std.specs.Option.{option_copied}
use Rattle.std.proofs.lemmas.Result.{err_from_is_err_and}
use Rattle.itip_items.specs.declared.key.Key.{Key}
use Rattle.itip_items.specs.declared.key.Key.TheVariants as keys
use Rattle.itip_writing.specs.Replying.{IsAnswerLate, answer_key}
use Rattle.itip_writing.specs.Stamping.{IsSpentBehind}
use Rattle.itip_writing.proofs.Answering.{late_found, revision_found}
use Rattle.itip_writing.proofs.Faults.{late_weaker}
use Rattle.itip_writing.proofs.reply.answer_revision.Goals as goal

pub returns-clause-revision : goal.returns-clause-revision
returns-clause-revision c =
    let wanted : Key = answer_key c.args.items.now.uid (option_copied c.args.id) c.args.asked.now.address in
    let same : c.in_ok-key.key ≡ wanted = c.in_ok-key.ensures ∙
    (λ i. keys.Answer (c.uid.ensures i) (option_copied c.args.id) (c.args.asked.now.of_address i)) in
    revision_found c.args.items.now.items c.in_ok-key.key wanted same c.args.asked.now.item.now.own c.no_less-sequence.result
    (option_copied c.kept_item.result) c.kept_item.ensures c.no_less-sequence.ensures c.latest_equal.result c.latest_equal.ensures c.args.at
    c.in_ok-stamp.stamp c.in_ok-stamp.ensures.stamp

pub returns-in_err-stamp-clause-late : goal.returns-in_err-stamp-clause-late
returns-in_err-stamp-clause-late c =
    let wanted : Key = answer_key c.args.items.now.uid (option_copied c.args.id) c.args.asked.now.address in
    let same : c.in_ok-key.key ≡ wanted = c.in_ok-key.ensures ∙
    (λ i. keys.Answer (c.uid.ensures i) (option_copied c.args.id) (c.args.asked.now.of_address i)) in
    let p = err_from_is_err_and c.from_residual-in_err-stamp.result c.from_residual-in_err-stamp.ensures.1 in
    rw (p.1, p.2) (late_weaker (IsSpentBehind c.latest_equal.result c.args.at)
    (IsAnswerLate c.args.items.now.items wanted c.args.asked.now.item.now.own c.args.at)
    (late_found c.args.items.now.items c.in_ok-key.key wanted same c.args.asked.now.item.now.own c.no_less-sequence.result
    (option_copied c.kept_item.result) c.kept_item.ensures c.no_less-sequence.ensures c.latest_equal.result c.latest_equal.ensures
    c.args.at) c.in_err-stamp.field-0.0 c.in_err-stamp.ensures.spent)
