use Rattle.std.proofs.Common.{rules, ◌≡◌, [], ◌∷◌, ◌++◌, ap, ◌∙◌}
use Rattle.std.proofs.lemmas.Result.{on_ok_weaker, on_err_weaker}
use Rattle.itip_running.specs.History.{batches_of}
use Rattle.itip_running.specs.ContractViews.{writer_groups, writer_calls, writer_fresh}
use Rattle.itip_running.specs.Pair.{published_groups}
use Rattle.itip_running.proofs.Groups.{batches_push}
use Rattle.itip_running.proofs.Publishing.{shown_call, refused_call}
use Rattle.itip_running.proofs.write_end.WriteEnd.publish.Goals as goal

pub returns-clause-ok : goal.returns-clause-ok
returns-clause-ok g c =
    let k = c.args.self in
    let more : writer_calls c.call.new.self ≡ writer_calls k ++ writer_fresh k ∷ [] = search rules in
    on_ok_weaker c.exchange.result.1 (λ h. (
      ap batches_of (h.0 ∙ more) ∙ (batches_push (writer_calls k) (writer_fresh k) ∙ k.whole),
      h.1,
    )) c.exchange.ensures.ok

pub returns-clause-at_once : goal.returns-clause-at_once
returns-clause-at_once g c =
    let k = c.args.self in
    let more : writer_calls c.call.new.self ≡ writer_calls k ++ writer_fresh k ∷ [] = search rules in
    on_ok_weaker c.exchange.result.1 (λ h. shown_call (writer_groups k) (writer_calls k) (writer_fresh k)
    (writer_groups c.exchange.result.0)
    (writer_calls c.exchange.result.0) (writer_fresh c.exchange.result.0) k.begins (h.0 ∙ more)
    (c.exchange.ensures.calls.0 ∙ more) c.exchange.ensures.calls.1)
    c.exchange.ensures.ok

pub returns-clause-refused : goal.returns-clause-refused
returns-clause-refused g c =
    let k = c.args.self in
    let end = c.exchange.result.0 in
    let more : writer_calls c.call.new.self ≡ writer_calls k ++ writer_fresh k ∷ [] = search rules in
    let writer : c.call.new.self.writer ≡ k.writer = search rules in
    on_err_weaker c.exchange.result.1 (λ h. refused_call (writer_groups k) (writer_calls k) (writer_fresh k) (writer_groups end)
    (writer_calls end)
    (writer_fresh end) (ap published_groups h.0 ∙ ap (λ w. published_groups w.desk.shown.value) writer) (c.exchange.ensures.calls.0 ∙ more)
    c.exchange.ensures.calls.1)
    c.exchange.ensures.err
