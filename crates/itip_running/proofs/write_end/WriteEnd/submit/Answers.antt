use Rattle.std.proofs.Common.{◌≡◌, [], ◌∷◌, ◌++◌, ◌+◌, List, ℕ, length, drop, ap, sym, ◌∙◌, subst, length-append}
use Rattle.itip_running.specs.History.{Items, batches_of}
use Rattle.itip_running.specs.declared.published.Published.{Published}
use Rattle.itip_running.specs.declared.published.Op.{Op}
use Rattle.itip_running.specs.Pair.{takes, published_groups, published_log}
use Rattle.itip_running.proofs.Groups.{whole_more}
use Rattle.itip_running.proofs.Ties.{takes_take}
use Rattle.itip_running.proofs.write_end.WriteEnd.submit.Goals as goal

pub invariant_of-self-2 : goal.invariant_of-self-2
invariant_of-self-2 c =
    let w = c.append.new.self in
    let k = c.args.self.now in
    let o = k.writer in
    let ops : List Op = drop o.behind o.log.items in
    let b : Items = c.args.batch in
    let same : w.desk.shown.value ≡ o.desk.shown.value = ap (λ d. d.shown.value) c.in-Ok.ensures.desk in
    let more : takes (drop w.behind w.log.items) ≡ takes ops ++ b ∷ [] = ap takes c.in-Ok.ensures.pending ∙ takes_take ops b in
    record {
      begins = subst (λ (x : Published). k.last.seen.log ≡ published_groups x ++ drop (length (published_groups x)) k.last.seen.log)
          (sym same) k.begins;
      whole = ap (λ (l : List Items). batches_of k.last.seen.log ++ l) c.followed_by-fresh.ensures
          ∙ (whole_more (batches_of k.last.seen.log) k.fresh (published_log o.desk.shown.value) (takes ops) b k.whole
          ∙ (ap (λ (l : List Items). published_log o.desk.shown.value ++ l) (sym more)
          ∙ sym (ap (λ (x : Published). published_log x ++ takes (drop w.behind w.log.items)) same)));
      book = k.book ∙ sym (ap (λ (x : Published). x.front.seen.book) same);
      head_is = k.head_is;
      kept_is = ap (λ (x : Published). x.history) same ∙ (k.kept_is ∙ sym (ap (λ (x : Published). published_log x) same));
      counted = ap (λ (n : ℕ). n + 1) k.counted ∙ sym (ap (λ (l : List Items). length l) more ∙ length-append (takes ops) (b ∷ []));
    }

pub returns-clause-pending : goal.returns-clause-pending
returns-clause-pending c =
    let o = c.args.self.now.writer in
    let ops : List Op = drop o.behind o.log.items in
    ap takes c.in-Ok.ensures.pending ∙ takes_take ops c.args.batch
