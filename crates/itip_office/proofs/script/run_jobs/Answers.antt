use Rattle.std.proofs.Common.{rules, ◌≡◌, ◌≤◌, length}
use Rattle.std.specs.Prelude.{IfSome}
use Rattle.itip_streams.specs.Written.{WritesOutput}
use Rattle.itip_office.specs.Scripts.{IsEndedText, WritesEndedFront}
use Rattle.itip_office.proofs.Scripting.{on_err, all_written, front_written}
use Rattle.itip_office.proofs.script.run_jobs.Goals as goal

pub returns-in_err-end_script-clause-front : goal.returns-in_err-end_script-clause-front
returns-in_err-end_script-clause-front g c =
    let script = c.in-Some.script.items in
    let old = g.W.Write.contents c.args.writer.now in
    let new = g.W.Write.contents c.end_script.new.writer in
    let refused = c.in_ok-refused.refused.items in
    let ended = c.in_ok-refused.ended.items in
    let read : IfSome (g.I.Read.remaining c.args.reader.now) (λ input. script ≡ input) = search rules in
    let short : length script ≤ 16777216 = search rules in
    let front : WritesEndedFront c.args.window old new refused ended = search rules in
    on_err c.from_residual-in_err-end_script.result
    (front_written c.args.window c.args.desks script refused ended c.in_ok-refused.ensures.ends old new
    (g.I.Read.remaining c.args.reader.now) read short front)

pub returns-clause-output : goal.returns-clause-output
returns-clause-output g c =
    let script = c.in-Some.script.items in
    let old = g.W.Write.contents c.args.writer.now in
    let new = g.W.Write.contents c.end_script.new.writer in
    let refused = c.in_ok-refused.refused.items in
    let ended = c.in_ok-refused.ended.items in
    let refusal = c.in_ok-end_script.field-0 in
    let read : IfSome (g.I.Read.remaining c.args.reader.now) (λ input. script ≡ input) = search rules in
    let short : length script ≤ 16777216 = search rules in
    let writes : WritesOutput (IsEndedText c.args.window refused ended) old new refusal = search rules in
    all_written c.args.window c.args.desks script refused ended c.in_ok-refused.ensures.ends old new
    (g.I.Read.remaining c.args.reader.now) read short refusal writes
