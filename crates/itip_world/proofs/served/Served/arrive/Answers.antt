use Rattle.std.proofs.Common.{subst, Some, List, ℕ}
use Rattle.std.specs.Prelude.{IfOk}
use Rattle.itip_view.specs.declared.window.Window.{Window}
use Rattle.itip_script.specs.Stream.{whole}
use Rattle.itip_world.specs.Running.{answer_of}
use Rattle.itip_world.specs.Serving.{Serves, arrive}
use Rattle.itip_world.specs.Serving.Serves.{cut_delta}
use Rattle.itip_world.proofs.Serving.{long_arrived}
use Rattle.itip_world.proofs.served.Served.arrive.Goals as goal

pub returns-in-Whole-clause-serves : goal.returns-in-Whole-clause-serves
returns-in-Whole-clause-serves c =
    rw c.in-Whole.is
    (subst (λ (octets : List ℕ). IfOk c.arrive_octets.result (λ answer. (window : Window) →
    Serves window c.args.self.now.desks.items (arrive c.args.desk (whole octets)) (Some (answer_of answer))
    c.arrive_octets.new.self.desks.items)) c.as_slice.ensures.value c.arrive_octets.ensures.serves)

pub returns-in-Long-clause-serves : goal.returns-in-Long-clause-serves
returns-in-Long-clause-serves c =
    rw c.in-Long.is (λ window. long_arrived c.args.self.now.desks.items c.args.desk window _ c.refused_at.ensures)

pub returns-in-Cut-clause-serves : goal.returns-in-Cut-clause-serves
returns-in-Cut-clause-serves c = rw c.in-Cut.is (λ window. cut_delta c.args.desk)
