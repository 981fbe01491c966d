use Rattle.std.proofs.Common.{◌≡◌, ◌∙◌, ◌+◌, ap, ℕ, List, [], ◌∷◌, length, arith, Option}
use Rattle.std.specs.Option.{option_copied}
use Rattle.std.proofs.lemmas.List.{nil_from_length}
use Rattle.std.specs.Vec.Iter.{into_iter_items}
use Rattle.itip_inbox.specs.Inbox.{Placed}
use Rattle.itip_inbox.specs.Streaming.{HasGot, HasSome}
use Rattle.itip_inbox.proofs.Hearing.{got_same}
use Rattle.itip_inbox.proofs.Sources.{turn_begins, turn_more, turn_ends, turn_tells, some_heard}
use Rattle.itip_inbox.proofs.source_reading.hear_sources.Goals as goal

pub loop-source-init : goal.loop-source-init
loop-source-init g c =
    let about : Option (List ℕ) = option_copied c.args.about in
    let given : into_iter_items c.into_iter-source-iterator.result ≡ c.args.sources.items =
    c.into_iter-source-iterator.ensures.into_iter_gives.0 in
    let long : length (into_iter_items c.into_iter-source-iterator.result) ≡ length c.args.sources.items = ap length given in
    record {
      hears = λ inputs are. turn_begins g.R.Read.remaining about c.args.sources.items (into_iter_items c.into_iter-source-iterator.result)
          inputs c.in_ok-inbox.inbox given are (c.in_ok-inbox.ensures.none about) c.in_ok-inbox.ensures.source;
      some = record { messages = []; got = c.in_ok-inbox.ensures.none about };
      count = omega (arith, c.in_ok-inbox.ensures.source, long);
      fresh = c.in_ok-inbox.ensures.messages;
    }

pub loop-source-preserved : goal.loop-source-preserved
loop-source-preserved g c =
    let about : Option (List ℕ) = option_copied c.args.about in
    let step : into_iter_items c.loop-source.source-iterator ≡ c.in-Some.source ∷ into_iter_items c.next.new.self =
    c.in-Some.ensures.steps.0 in
    let place : c.next_source.new.self.source ≡ c.loop-source.inbox.source + 1 = c.in_ok-next_source.ensures.source ∙
    ap (λ (n : ℕ). n + 1) c.in_ok-read_source.ensures.source in
    let same : (messages : List Placed) → HasGot about messages c.read_source.new.inbox →
    HasGot about messages c.next_source.new.self =
    λ messages. got_same about messages c.read_source.new.inbox c.next_source.new.self c.in_ok-next_source.ensures.state
    c.in_ok-next_source.ensures.refusals c.in_ok-next_source.ensures.told c.in_ok-next_source.ensures.waiting in
    record {
      hears = λ inputs are. turn_more g.R.Read.remaining about inputs c.in-Some.source (into_iter_items c.next.new.self)
          c.loop-source.inbox c.read_source.new.inbox c.next_source.new.self c.loop-source.invariant.fresh place same
          c.in_ok-read_source.ensures.got
          (into_iter_items c.loop-source.source-iterator) (c.loop-source.invariant.hears inputs are) step;
      some = let more : HasSome about c.read_source.new.inbox = c.in_ok-read_source.ensures.some c.loop-source.invariant.some in
          record { messages = more.messages; got = same more.messages more.got };
      count = omega (arith, c.loop-source.invariant.count, ap length step, place);
      fresh = c.in_ok-next_source.ensures.messages;
    }

pub returns-clause-holds : goal.returns-clause-holds
returns-clause-holds g c =
    let none : into_iter_items c.loop-source.source-iterator ≡ [] =
    nil_from_length _ (omega (arith, c.in-None.ensures.steps.0, c.loop-source.source-iterator.rest.ok.0)) in
    λ inputs are. turn_ends g.R.Read.remaining (option_copied c.args.about) inputs (into_iter_items c.loop-source.source-iterator)
    c.loop-source.inbox (c.loop-source.invariant.hears inputs are) none c.hear_waiting.new.self c.in_ok-hear_waiting.ensures.keeps

pub returns-clause-told : goal.returns-clause-told
returns-clause-told g c =
    let none : into_iter_items c.loop-source.source-iterator ≡ [] =
    nil_from_length _ (omega (arith, c.in-None.ensures.steps.0, c.loop-source.source-iterator.rest.ok.0)) in
    λ inputs are. turn_tells g.R.Read.remaining (option_copied c.args.about) inputs (into_iter_items c.loop-source.source-iterator)
    c.loop-source.inbox (c.loop-source.invariant.hears inputs are) none c.hear_waiting.new.self c.in_ok-hear_waiting.ensures.keeps

pub returns-clause-heard : goal.returns-clause-heard
returns-clause-heard g c =
    some_heard (option_copied c.args.about) c.loop-source.invariant.some.messages c.hear_waiting.new.self
    (c.in_ok-hear_waiting.ensures.keeps c.loop-source.invariant.some.messages c.loop-source.invariant.some.got)

pub returns-clause-source : goal.returns-clause-source
returns-clause-source g c =
    let none : into_iter_items c.loop-source.source-iterator ≡ [] =
    nil_from_length _ (omega (arith, c.in-None.ensures.steps.0, c.loop-source.source-iterator.rest.ok.0)) in
    omega (arith, c.in_ok-hear_waiting.ensures.source, c.loop-source.invariant.count, ap length none)
