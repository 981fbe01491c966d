use Rattle.std.proofs.Common.{rules}
use Rattle.itip_office.specs.Ended.{AreRepliesFrom, all_heard}
use Rattle.itip_office.proofs.Ending.{has_ended}
use Rattle.itip_office.proofs.office.run_office.Goals as goal

pub returns-clause-ended : goal.returns-clause-ended
returns-clause-ended g c =
    let sorted = c.sort_by_key.new.self.items in
    let given = c.in_ok-answers.answers.items in
    let gathered = c.in_ok-answers.ensures.gathered in
    let replies = c.in_ok-replies.replies.items in
    let are : AreRepliesFrom given sorted replies = search rules in
    has_ended c.args.desks c.args.jobs.items sorted given replies (all_heard gathered.histories) c.in_ok-desks.desks.items
    c.in_ok-sort_by_key.ensures.permutation are gathered.tells c.in_ok-answers.ensures.shown c.in_ok-desks.ensures.count
    (c.in_ok-desks.ensures.each gathered.histories gathered.are) (c.in_ok-desks.ensures.kept gathered.histories gathered.are)
