use Rattle.std.proofs.Common.{◌∙◌, refl}
use Rattle.std.specs.BTreeMap.{get}
use Rattle.itip_join.specs.Changes.{keys_in, pairs_in}
use Rattle.itip_join.specs.KeyByKey.{entries_from_values}
use Rattle.itip_join.proofs.Walk.{walk_end}
use Rattle.itip_join.proofs.TakingBack.{nothing_noted, noted_one, others_same, raised_is_not_new, merge_start, merge_coming, merge_step}
use Rattle.itip_join.proofs.merge.join_all.Goals as goal

pub loop-key-init : goal.loop-key-init
loop-key-init g c =
    let mine = get g.K.Ord.cmp c.args.map.now in
    rw (c.new.ensures.items, c.new-2.ensures.items, c.into_iter-key-iterator.ensures.into_iter_gives.0) (record {
      ordered = c.requires;
      undo = nothing_noted mine;
      walk = merge_start g.met.K.Ord.total g.met.K.Exact.exact g.V.Join.le (g.S.Guard.is_dead c.args.guard.now) mine
          (get g.K.Ord.cmp c.args.other.now)
          g.met.V.Join.reflexive c.args.other.now.entries c.into_iter-key-iterator.ensures.into_iter_gives.5 (λ q. refl);
    })

pub take_back-requires-clause-there : goal.take_back-requires-clause-there
take_back-requires-clause-there g c =
    let mine = get g.K.Ord.cmp c.args.map.now in
    let now = get g.K.Ord.cmp c.loop-key.map in
    let next = get g.K.Ord.cmp c.join_entry.new.map in
    let same = merge_coming g.met.K.Ord.total g.met.K.Exact.exact g.V.Join.le (g.S.Guard.is_dead c.args.guard.now) mine
    (get g.K.Ord.cmp c.args.other.now) c.in-Some.ensures.steps now c.loop-key.invariant.walk in
    let undo = noted_one g.met.K.Exact.exact mine now next c.in-Some.key.now (keys_in c.loop-key.undo) (pairs_in c.loop-key.undo)
    c.loop-key.invariant.undo same
    (keys_in c.join_entry.new.undo) (pairs_in c.join_entry.new.undo) c.join_entry.ensures.noted in
    λ q h. (
      raised_is_not_new mine next (keys_in c.join_entry.new.undo) (pairs_in c.join_entry.new.undo) undo q h,
      undo.raised_are_there q h,
    )

pub returns-in-Err-clause-err : goal.returns-in-Err-clause-err
returns-in-Err-clause-err g c =
    let mine = get g.K.Ord.cmp c.args.map.now in
    let now = get g.K.Ord.cmp c.loop-key.map in
    let next = get g.K.Ord.cmp c.join_entry.new.map in
    let same = merge_coming g.met.K.Ord.total g.met.K.Exact.exact g.V.Join.le (g.S.Guard.is_dead c.args.guard.now) mine
    (get g.K.Ord.cmp c.args.other.now) c.in-Some.ensures.steps now c.loop-key.invariant.walk in
    let undo = noted_one g.met.K.Exact.exact mine now next c.in-Some.key.now (keys_in c.loop-key.undo) (pairs_in c.loop-key.undo)
    c.loop-key.invariant.undo same
    (keys_in c.join_entry.new.undo) (pairs_in c.join_entry.new.undo) c.join_entry.ensures.noted in
    entries_from_values g.met.K.Ord.total g.met.K.Exact.exact c.take_back.new.map.entries c.args.map.now.entries
    c.take_back.ensures.ordered c.requires
    (λ q. c.take_back.ensures.restored q ∙ undo.as_it_was q)

pub loop-key-preserved : goal.loop-key-preserved
loop-key-preserved g c =
    let mine = get g.K.Ord.cmp c.args.map.now in
    let theirs = get g.K.Ord.cmp c.args.other.now in
    let dead = g.S.Guard.is_dead c.args.guard.now in
    let now = get g.K.Ord.cmp c.loop-key.map in
    let next = get g.K.Ord.cmp c.join_entry.new.map in
    let same = merge_coming g.met.K.Ord.total g.met.K.Exact.exact g.V.Join.le dead mine theirs c.in-Some.ensures.steps now
    c.loop-key.invariant.walk in
    record {
      ordered = c.join_entry.ensures.ordered;
      undo = noted_one g.met.K.Exact.exact mine now next c.in-Some.key.now (keys_in c.loop-key.undo) (pairs_in c.loop-key.undo)
          c.loop-key.invariant.undo same
          (keys_in c.join_entry.new.undo) (pairs_in c.join_entry.new.undo) c.join_entry.ensures.noted;
      walk = merge_step g.met.K.Ord.total g.met.K.Exact.exact g.V.Join.le dead mine theirs c.in-Some.ensures.steps now
          c.loop-key.invariant.walk next
          c.in_default.ensures.joined (others_same c.join_entry.ensures.noted);
    }

pub returns-clause-ok : goal.returns-clause-ok
returns-clause-ok g c = walk_end g.met.K.Ord.total g.met.K.Exact.exact c.in-None.ensures.steps.0 c.loop-key.invariant.walk
