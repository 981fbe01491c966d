use Rattle.std.proofs.Common.{◌≡◌, ◌+◌, [], ◌∷◌, ◌++◌, List, length, drop, ap, sym, ◌∙◌, subst}
use Rattle.itip_running.specs.History.{Items, Group, head_of, batches_of}
use Rattle.itip_running.specs.Pair.{published_groups, published_log, pending_log}
use Rattle.itip_running.proofs.Groups.{begins_more, whole_called, total_is}
use Rattle.itip_running.proofs.write_end.WriteEnd.call.Goals as goal

pub followed_by-requires-clause-batches : goal.followed_by-requires-clause-batches
followed_by-requires-clause-batches c =
    let k = c.args.self.now in
    let shown = published_log k.writer.desk.shown.value in
    let pending = pending_log k.writer.behind k.writer.log.items in
    total_is (batches_of k.last.seen.log) k.fresh shown pending c.args.total k.whole c.requires.total
    ∙ ap (λ (l : List Items). length (batches_of k.last.seen.log) + length l) (sym c.of-group.ensures)

pub invariant_of-self : goal.invariant_of-self
invariant_of-self c =
    let k = c.args.self.now in
    let gs : List Group = published_groups k.writer.desk.shown.value in
    let more : c.in-Some.last.seen.log ≡ k.last.seen.log ++ k.fresh ∷ [] =
    c.in-Some.ensures.1 ∙ ap (λ (g : Group). k.last.seen.log ++ g ∷ []) c.of-group.ensures in
    record {
      begins = subst (λ (l : List Group). l ≡ gs ++ drop (length gs) l) (sym more) (begins_more gs k.last.seen.log k.fresh k.begins);
      whole = ap (λ (l : List Group). batches_of l ++ c.empty.result) more
          ∙ whole_called k.last.seen.log k.fresh c.empty.result
          (published_log k.writer.desk.shown.value ++ pending_log k.writer.behind k.writer.log.items) c.empty.ensures k.whole;
      book = c.in-Some.ensures.0 ∙ k.book;
      head_is = k.head_is ∙ sym (ap head_of c.in-Some.ensures.0);
      kept_is = k.kept_is;
      counted = k.counted;
    }
