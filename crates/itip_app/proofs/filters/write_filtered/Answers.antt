use Rattle.std.proofs.Common.{ℕ, List}
use Rattle.itip_inbox.specs.Inbox.{AreInputs}
use Rattle.itip_words.specs.declared.filter.Written.{Written}
use Rattle.itip_app.specs.Filtered.{Filters, FiltersFront}
use Rattle.itip_app.proofs.Filtering.{as_asked, outcome_more, front_asked, front_more}
use Rattle.itip_app.proofs.filters.write_filtered.Goals as goal

pub returns-in-Compaction-clause-output : goal.returns-in-Compaction-clause-output
returns-in-Compaction-clause-output g c =
    as_asked (λ (w : Written) outcome. (known inputs : List (List ℕ)) → AreInputs g.I.Read.remaining c.args.than.items known →
    AreInputs g.I.Read.remaining c.args.sources.items inputs →
    Filters w c.args.draft.now c.args.names.now known inputs (g.W.Write.contents c.args.writer.now)
    (g.W.Write.contents c.write_compaction.new.writer) outcome)
    _ c.args.written.now c.write_compaction.result c.in-Compaction.is
    (outcome_more _ _ c.write_compaction.result (λ outcome h known inputs known_are are. h inputs are) c.write_compaction.ensures.output)

pub returns-in-Compaction-clause-front : goal.returns-in-Compaction-clause-front
returns-in-Compaction-clause-front g c =
    front_asked (λ (w : Written). (known inputs : List (List ℕ)) → AreInputs g.I.Read.remaining c.args.than.items known →
    AreInputs g.I.Read.remaining c.args.sources.items inputs →
    FiltersFront w c.args.draft.now c.args.names.now known inputs (g.W.Write.contents c.args.writer.now)
    (g.W.Write.contents c.write_compaction.new.writer))
    _ c.args.written.now c.write_compaction.result c.in-Compaction.is
    (front_more _ _ c.write_compaction.result (λ h known inputs known_are are. h inputs are) c.write_compaction.ensures.front)

pub returns-in-News-clause-output : goal.returns-in-News-clause-output
returns-in-News-clause-output g c =
    as_asked (λ (w : Written) outcome. (known inputs : List (List ℕ)) → AreInputs g.I.Read.remaining c.args.than.items known →
    AreInputs g.I.Read.remaining c.args.sources.items inputs →
    Filters w c.args.draft.now c.args.names.now known inputs (g.W.Write.contents c.args.writer.now)
    (g.W.Write.contents c.write_news.new.writer) outcome)
    _ c.args.written.now c.write_news.result c.in-News.is
    (outcome_more _ _ c.write_news.result (λ outcome h known inputs known_are are. h known inputs known_are are)
    c.write_news.ensures.output)

pub returns-in-News-clause-front : goal.returns-in-News-clause-front
returns-in-News-clause-front g c =
    front_asked (λ (w : Written). (known inputs : List (List ℕ)) → AreInputs g.I.Read.remaining c.args.than.items known →
    AreInputs g.I.Read.remaining c.args.sources.items inputs →
    FiltersFront w c.args.draft.now c.args.names.now known inputs (g.W.Write.contents c.args.writer.now)
    (g.W.Write.contents c.write_news.new.writer))
    _ c.args.written.now c.write_news.result c.in-News.is
    (front_more _ _ c.write_news.result (λ h known inputs known_are are. h known inputs known_are are) c.write_news.ensures.front)

pub returns-in-List-clause-output : goal.returns-in-List-clause-output
returns-in-List-clause-output g c =
    as_asked (λ (w : Written) outcome. (known inputs : List (List ℕ)) → AreInputs g.I.Read.remaining c.args.than.items known →
    AreInputs g.I.Read.remaining c.args.sources.items inputs →
    Filters w c.args.draft.now c.args.names.now known inputs (g.W.Write.contents c.args.writer.now)
    (g.W.Write.contents c.write_list.new.writer) outcome)
    _ c.args.written.now c.write_list.result c.in-List.is
    (outcome_more _ _ c.write_list.result (λ outcome h known inputs known_are are. h inputs are) c.write_list.ensures.output)

pub returns-in-List-clause-front : goal.returns-in-List-clause-front
returns-in-List-clause-front g c =
    front_asked (λ (w : Written). (known inputs : List (List ℕ)) → AreInputs g.I.Read.remaining c.args.than.items known →
    AreInputs g.I.Read.remaining c.args.sources.items inputs →
    FiltersFront w c.args.draft.now c.args.names.now known inputs (g.W.Write.contents c.args.writer.now)
    (g.W.Write.contents c.write_list.new.writer))
    _ c.args.written.now c.write_list.result c.in-List.is
    (front_more _ _ c.write_list.result (λ h known inputs known_are are. h inputs are) c.write_list.ensures.front)

pub returns-in-Report-clause-output : goal.returns-in-Report-clause-output
returns-in-Report-clause-output g c =
    as_asked (λ (w : Written) outcome. (known inputs : List (List ℕ)) → AreInputs g.I.Read.remaining c.args.than.items known →
    AreInputs g.I.Read.remaining c.args.sources.items inputs →
    Filters w c.args.draft.now c.args.names.now known inputs (g.W.Write.contents c.args.writer.now)
    (g.W.Write.contents c.write_report.new.writer) outcome)
    _ c.args.written.now c.write_report.result c.in-Report.is
    (outcome_more _ _ c.write_report.result (λ outcome h known inputs known_are are. h inputs are) c.write_report.ensures.output)

pub returns-in-Report-clause-front : goal.returns-in-Report-clause-front
returns-in-Report-clause-front g c =
    front_asked (λ (w : Written). (known inputs : List (List ℕ)) → AreInputs g.I.Read.remaining c.args.than.items known →
    AreInputs g.I.Read.remaining c.args.sources.items inputs →
    FiltersFront w c.args.draft.now c.args.names.now known inputs (g.W.Write.contents c.args.writer.now)
    (g.W.Write.contents c.write_report.new.writer))
    _ c.args.written.now c.write_report.result c.in-Report.is
    (front_more _ _ c.write_report.result (λ h known inputs known_are are. h inputs are) c.write_report.ensures.front)

pub returns-in-Explanation-clause-output : goal.returns-in-Explanation-clause-output
returns-in-Explanation-clause-output g c =
    as_asked (λ (w : Written) outcome. (known inputs : List (List ℕ)) → AreInputs g.I.Read.remaining c.args.than.items known →
    AreInputs g.I.Read.remaining c.args.sources.items inputs →
    Filters w c.args.draft.now c.args.names.now known inputs (g.W.Write.contents c.args.writer.now)
    (g.W.Write.contents c.write_explanation.new.writer) outcome)
    _ c.args.written.now c.write_explanation.result c.in-Explanation.is
    (outcome_more _ _ c.write_explanation.result (λ outcome h known inputs known_are are. h inputs are) c.write_explanation.ensures.output)

pub returns-in-Explanation-clause-front : goal.returns-in-Explanation-clause-front
returns-in-Explanation-clause-front g c =
    front_asked (λ (w : Written). (known inputs : List (List ℕ)) → AreInputs g.I.Read.remaining c.args.than.items known →
    AreInputs g.I.Read.remaining c.args.sources.items inputs →
    FiltersFront w c.args.draft.now c.args.names.now known inputs (g.W.Write.contents c.args.writer.now)
    (g.W.Write.contents c.write_explanation.new.writer))
    _ c.args.written.now c.write_explanation.result c.in-Explanation.is
    (front_more _ _ c.write_explanation.result (λ h known inputs known_are are. h inputs are) c.write_explanation.ensures.front)

pub returns-in-Message-clause-output : goal.returns-in-Message-clause-output
returns-in-Message-clause-output g c =
    as_asked (λ (w : Written) outcome. (known inputs : List (List ℕ)) → AreInputs g.I.Read.remaining c.args.than.items known →
    AreInputs g.I.Read.remaining c.args.sources.items inputs →
    Filters w c.args.draft.now c.args.names.now known inputs (g.W.Write.contents c.args.writer.now)
    (g.W.Write.contents c.write_message.new.writer) outcome)
    _ c.args.written.now c.write_message.result c.in-Message.is
    (outcome_more _ _ c.write_message.result (λ outcome h known inputs known_are are. h inputs are) c.write_message.ensures.output)

pub returns-in-Message-clause-front : goal.returns-in-Message-clause-front
returns-in-Message-clause-front g c =
    front_asked (λ (w : Written). (known inputs : List (List ℕ)) → AreInputs g.I.Read.remaining c.args.than.items known →
    AreInputs g.I.Read.remaining c.args.sources.items inputs →
    FiltersFront w c.args.draft.now c.args.names.now known inputs (g.W.Write.contents c.args.writer.now)
    (g.W.Write.contents c.write_message.new.writer))
    _ c.args.written.now c.write_message.result c.in-Message.is
    (front_more _ _ c.write_message.result (λ h known inputs known_are are. h inputs are) c.write_message.ensures.front)
