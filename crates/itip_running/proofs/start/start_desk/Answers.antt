use Rattle.std.proofs.Common.{rules, ◌≡◌, List, [], length, drop, fold, ap, sym, ◌∙◌, subst}
use Rattle.itip_running.specs.declared.published.Op.{Op}
use Rattle.itip_running.specs.History.{batches_of}
use Rattle.itip_running.specs.Pair.{takes, state_of, applied_to, published_groups}
use Rattle.itip_running.proofs.Groups.{begins_all, whole_shown}
use Rattle.itip_running.proofs.Ties.{sees}
use Rattle.itip_running.proofs.start.start_desk.Goals as goal

pub publish_as-writer-requires : goal.publish_as-writer-requires
publish_as-writer-requires g c next is =
    let shown = c.in-Ok.writer.desk.shown.value in
    let s : state_of next ≡ state_of shown =
    subst (λ (l : List Op). state_of next ≡ fold applied_to (state_of shown) l) c.in-Ok.ensures.1 is in
    sees _ _ shown next (λ e. ap (λ t. t.0) s ∙ (e ∙ sym (ap (λ t. batches_of t.2) s))) (ap (λ t. t.1) s)

pub invariant_of-end : goal.invariant_of-end
invariant_of-end g c =
    let w = c.seats-seated.new.writer in
    let last = c.open-head.result.1 in
    let same : published_groups w.desk.shown.value ≡ last.seen.log = search rules in
    let none : drop w.behind w.log.items ≡ [] = search rules in
    record {
      begins = begins_all (published_groups w.desk.shown.value) last.seen.log same;
      whole = whole_shown (published_groups w.desk.shown.value) last.seen.log c.empty.result (takes (drop w.behind w.log.items)) same
          c.empty.ensures (ap takes none);
      book = search rules;
      head_is = search rules;
      kept_is = search rules;
      counted = sym (ap (λ (l : List Op). length (takes l)) none);
    }
