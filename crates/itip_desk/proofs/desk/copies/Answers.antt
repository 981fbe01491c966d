use Rattle.std.proofs.Common.{length, ap}
use Rattle.itip_state.proofs.Nothing.{none_left, not_ok}
use Rattle.itip_desk.proofs.desk.copies.Goals as goal

pub returns-in_err-copies-clause-succeeds : goal.returns-in_err-copies-clause-succeeds
returns-in_err-copies-clause-succeeds c = λ none. not_ok (c.in_err-copies.ensures.succeeds (ap length none))

pub returns-in_err-clone-clause-succeeds : goal.returns-in_err-clone-clause-succeeds
returns-in_err-clone-clause-succeeds c = λ none. absurd (none_left c.args.uids.now c.loop-uid.uid-index c.loop-uid-test.true none)

pub returns-in_err-push-clause-succeeds : goal.returns-in_err-push-clause-succeeds
returns-in_err-push-clause-succeeds c = λ none. absurd (none_left c.args.uids.now c.loop-uid.uid-index c.loop-uid-test.true none)
