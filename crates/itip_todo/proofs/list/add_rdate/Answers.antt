use Rattle.std.proofs.lemmas.Result.{on_ok_weaker}
use Rattle.itip_todo.specs.Drafts.{PutsMoments}
use Rattle.itip_todo.proofs.Listing.{takes_rdate}
use Rattle.itip_todo.proofs.list.add_rdate.Goals as goal

pub returns-clause-taken : goal.returns-clause-taken
returns-clause-taken c =
    on_ok_weaker c.put_moments.result (λ (puts : PutsMoments c.args.line.now.params c.args.line.now.value c.args.draft.now.rdates
    c.put_moments.new.set). takes_rdate c.args.line.now c.args.draft.now c.put_moments.new.set puts) c.put_moments.ensures.put
