use Rattle.std.proofs.Common.{rules, ◌≡◌, [], ◌++◌, List, length, drop, fold, refl, ap, sym, ◌∙◌, subst}
use Rattle.itip_running.specs.History.{Items, batches_of}
use Rattle.itip_running.specs.declared.published.Published.{Published}
use Rattle.itip_running.specs.declared.published.Op.{Op}
use Rattle.itip_running.specs.declared.published.Op.TheVariants.{Mark}
use Rattle.itip_running.specs.Pair.{takes, name_of, state_of, applied_to, published_groups, published_log}
use Rattle.itip_running.proofs.Groups.{none_fresh_left, begins_all, whole_shown}
use Rattle.itip_running.proofs.Ties.{publishes, takes_mark, after_mark, same_book}
use Rattle.itip_running.proofs.write_end.WriteEnd.exchange.Goals as goal

pub publish_as-writer-requires : goal.publish_as-writer-requires
publish_as-writer-requires g c next is =
    let k = c.args.self in
    let w = c.append.new.self in
    let o = k.writer in
    let ops : List Op = drop o.behind o.log.items in
    let same : w.desk.shown.value ≡ o.desk.shown.value = ap (λ d. d.shown.value) c.in-Ok.ensures.desk in
    let m = c.again.result in
    let told = c.again.ensures in
    let all : batches_of k.last.seen.log ≡ published_log o.desk.shown.value ++ takes ops =
    none_fresh_left (batches_of k.last.seen.log) k.fresh (published_log o.desk.shown.value ++ takes ops) c.requires.none_fresh k.whole in
    publishes _ _ w.desk.shown.value next ops m
    (ap (λ s. name_of s.book) told ∙ (ap name_of k.book ∙ sym (ap (λ (x : Published). name_of x.front.seen.book) same)))
    (ap (λ s. batches_of s.log) told ∙ (all ∙ sym (ap (λ (x : Published). published_log x ++ takes ops) same)))
    (subst (λ (l : List Op). state_of next ≡ fold applied_to (state_of w.desk.shown.value) l) c.in-Ok.ensures.pending is)

pub invariant_of-end-in-Ok-done : goal.invariant_of-end-in-Ok-done
invariant_of-end-in-Ok-done g c =
    let k = c.args.self in
    let w = c.append.new.self in
    let o = k.writer in
    let p = c.publish_as-writer.result.0 in
    let ops : List Op = drop o.behind o.log.items in
    let m = c.again.result in
    let state : state_of p.desk.shown.value ≡ fold applied_to (state_of w.desk.shown.value) (drop w.behind w.log.items) = search rules in
    let none : drop p.behind p.log.items ≡ [] = search rules in
    let s = after_mark w.desk.shown.value p.desk.shown.value ops m
    (subst (λ (l : List Op). state_of p.desk.shown.value ≡ fold applied_to (state_of w.desk.shown.value) l)
    c.in-Ok.ensures.pending state) in
    let log : published_groups p.desk.shown.value ≡ k.last.seen.log = ap (λ t. t.2) s ∙ ap (λ s. s.log) c.again.ensures in
    record {
      begins = begins_all (published_groups p.desk.shown.value) k.last.seen.log log;
      whole = whole_shown (published_groups p.desk.shown.value) k.last.seen.log k.fresh (takes (drop p.behind p.log.items)) log
          c.requires.none_fresh (ap takes none);
      book = sym (same_book p.desk.shown.value.front.seen.book m.seen.book (ap (λ t. t.1) s) ∙ ap (λ s. s.book) c.again.ensures);
      head_is = k.head_is;
      kept_is = search rules;
      counted = sym (ap (λ (l : List Op). length (takes l)) none);
    }

pub returns-in-Ok-done-clause-ok : goal.returns-in-Ok-done-clause-ok
returns-in-Ok-done-clause-ok g c =
    let k = c.args.self in
    let w = c.append.new.self in
    let o = k.writer in
    let p = c.publish_as-writer.result.0 in
    let ops : List Op = drop o.behind o.log.items in
    let m = c.again.result in
    let state : state_of p.desk.shown.value ≡ fold applied_to (state_of w.desk.shown.value) (drop w.behind w.log.items) = search rules in
    let none : drop p.behind p.log.items ≡ [] = search rules in
    let s = after_mark w.desk.shown.value p.desk.shown.value ops m
    (subst (λ (l : List Op). state_of p.desk.shown.value ≡ fold applied_to (state_of w.desk.shown.value) l)
    c.in-Ok.ensures.pending state) in
    (ap (λ t. t.2) s ∙ ap (λ s. s.log) c.again.ensures, ap takes none)

pub invariant_of-end-in-Err-done : goal.invariant_of-end-in-Err-done
invariant_of-end-in-Err-done g c =
    let k = c.args.self in
    let w = c.append.new.self in
    let o = k.writer in
    let p = c.publish_as-writer.result.0 in
    let ops : List Op = drop o.behind o.log.items in
    let shown : p.desk.shown.value ≡ w.desk.shown.value = search rules in
    let rest : drop p.behind p.log.items ≡ drop w.behind w.log.items = search rules in
    let same : p.desk.shown.value ≡ o.desk.shown.value = shown ∙ ap (λ d. d.shown.value) c.in-Ok.ensures.desk in
    let taken : takes (drop p.behind p.log.items) ≡ takes ops = ap takes (rest ∙ c.in-Ok.ensures.pending) ∙
    takes_mark ops (Mark c.again.result) refl in
    record {
      begins = subst (λ (x : Published). k.last.seen.log ≡ published_groups x ++ drop (length (published_groups x)) k.last.seen.log)
          (sym same) k.begins;
      whole = k.whole ∙ (sym (ap (λ (x : Published). published_log x ++ takes ops) same) ∙
          sym (ap (λ (l : List Items). published_log p.desk.shown.value ++ l) taken));
      book = k.book ∙ sym (ap (λ (x : Published). x.front.seen.book) same);
      head_is = k.head_is;
      kept_is = ap (λ (x : Published). x.history) same ∙ (k.kept_is ∙ sym (ap (λ (x : Published). published_log x) same));
      counted = k.counted ∙ sym (ap (λ (l : List Items). length l) taken);
    }

pub returns-in-Err-done-clause-err : goal.returns-in-Err-done-clause-err
returns-in-Err-done-clause-err g c =
    let w = c.append.new.self in
    let o = c.args.self.writer in
    let p = c.publish_as-writer.result.0 in
    let ops : List Op = drop o.behind o.log.items in
    let shown : p.desk.shown.value ≡ w.desk.shown.value = search rules in
    let rest : drop p.behind p.log.items ≡ drop w.behind w.log.items = search rules in (
      shown ∙ ap (λ d. d.shown.value) c.in-Ok.ensures.desk,
      ap takes (rest ∙ c.in-Ok.ensures.pending) ∙
          takes_mark ops (Mark c.again.result) refl,
    )
