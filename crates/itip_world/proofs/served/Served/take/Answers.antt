use Rattle.std.proofs.Common.{subst, Some, List, ℕ}
use Rattle.std.specs.Prelude.{IfOk}
use Rattle.itip_view.specs.declared.window.Window.{Window}
use Rattle.itip_script.specs.Stream.{whole}
use Rattle.itip_world.specs.Running.{answer_of}
use Rattle.itip_world.specs.Serving.{Serves, take}
use Rattle.itip_world.specs.Serving.Serves.{cut_take}
use Rattle.itip_world.proofs.Serving.{long_taken}
use Rattle.itip_world.proofs.served.Served.take.Goals as goal

pub returns-in-Whole-clause-serves : goal.returns-in-Whole-clause-serves
returns-in-Whole-clause-serves c =
    rw c.in-Whole.is
    (subst (λ (text : List ℕ). IfOk c.take_text.result (λ answer. (window : Window) →
    Serves window c.args.self.now.desks.items (take c.args.desk (whole text)) (Some (answer_of answer)) c.take_text.new.self.desks.items))
    c.as_slice.ensures.value c.take_text.ensures.serves)

pub returns-in-Long-clause-serves : goal.returns-in-Long-clause-serves
returns-in-Long-clause-serves c =
    rw c.in-Long.is (λ window.
    long_taken c.args.self.now.desks.items c.args.desk window _ (rw c.from-refusal.ensures at c.refused_at.ensures))

pub returns-in-Cut-clause-serves : goal.returns-in-Cut-clause-serves
returns-in-Cut-clause-serves c = rw c.in-Cut.is (λ window. cut_take c.args.desk)
