use Rattle.itip_state.proofs.Dying.{each_dropped}
use Rattle.itip_state.proofs.due.drop_each.Goals as goal

pub returns : goal.returns
returns c = each_dropped c.args.series.now c.args.entries.now.map c.drop_dead.new.self.map c.drop_dead.ensures.alive
    c.drop_dead.ensures.keeps c.drop_dead.ensures.adds_none
