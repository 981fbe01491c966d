use Rattle.std.proofs.Common.{sym, subst}
use Rattle.itip_state.specs.Undone.{AreUndone}
use Rattle.itip_state.proofs.Undoing.{undone_pop}
use Rattle.itip_state.proofs.hear.take_back.Goals as goal

pub undo-requires : goal.undo-requires
undo-requires c =
    let all = subst (λ cs. AreUndone cs c.loop-change.held c.requires.0) c.in-Some.ensures.items
    (c.loop-change.invariant c.requires.0 c.requires.1) in
    let last = undone_pop c.pop.new.self.items c.in-Some.change c.loop-change.held c.requires.0 all in
    (last.0, last.1)

pub loop-change-preserved : goal.loop-change-preserved
loop-change-preserved c = λ start before.
    let all = subst (λ cs. AreUndone cs c.loop-change.held start) c.in-Some.ensures.items (c.loop-change.invariant start before) in
    let last = undone_pop c.pop.new.self.items c.in-Some.change c.loop-change.held start all in
    subst (λ es. AreUndone c.pop.new.self.items es start) (sym (c.undo.ensures last.0 last.1)) last.2
