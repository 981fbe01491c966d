use Rattle.itip_message.proofs.DraftItems.{draft_undated, draft_base, todos_suit}
use Rattle.itip_message.proofs.OneDraft.{some_draft, one_draft, one_draft_cause, draft_apart, draft_refusal_placed}
use Rattle.itip_message.proofs.laws.one_draft.Goals as goal

pub returns-clause-some : goal.returns-clause-some
returns-clause-some c = some_draft

pub returns-clause-todos : goal.returns-clause-todos
returns-clause-todos c = one_draft

pub returns-clause-refusal : goal.returns-clause-refusal
returns-clause-refusal c = one_draft_cause

pub returns-clause-apart : goal.returns-clause-apart
returns-clause-apart c = draft_apart

pub returns-clause-place : goal.returns-clause-place
returns-clause-place c = draft_refusal_placed

pub returns-clause-undated : goal.returns-clause-undated
returns-clause-undated c = draft_undated

pub returns-clause-base : goal.returns-clause-base
returns-clause-base c = draft_base

pub returns-clause-suits : goal.returns-clause-suits
returns-clause-suits c = todos_suit
