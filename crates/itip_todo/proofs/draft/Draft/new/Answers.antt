use Rattle.itip_todo.proofs.Empty.{empty_draft}
use Rattle.itip_todo.proofs.draft.Draft.new.Goals as goal

pub returns : goal.returns
returns c = empty_draft c.new.result c.new-2.result c.new-3.result c.new-4.result c.new-5.result c.new-6.result c.new.ensures
    c.new-2.ensures.empty c.new-3.ensures c.new-4.ensures.empty c.new-5.ensures.empty c.new-6.ensures
