use Rattle.std.proofs.Common.{[], ◌∷◌, ◌++◌, Option}
use Rattle.std.proofs.lemmas.List.Elements.{All-nil, All-push, All-same}
use Rattle.logbook.specs.Pages.{Book}
use Rattle.itip_office.specs.declared.start.Started.{Started}
use Rattle.itip_office.specs.Pairs.{IsStarted}
use Rattle.itip_office.proofs.start.unread_desks.Goals as goal

abbrev Has : {R : Type 0} → Started R → Type 0
Has s = (pair : Option Book) → IsStarted pair s.held.texts s.held.shown s.passes.items

pub loop-init : goal.loop-init
loop-init g c = All-same (Has {R = g.row.R.Denot}) c.new-all.result.items [] c.new-all.ensures.items (All-nil (Has {R = g.row.R.Denot}))

pub loop-desk-preserved : goal.loop-desk-preserved
loop-desk-preserved g c =
    let all = c.loop-desk.all.items in
    let one = c.unread_desk.result in
    All-same (Has {R = g.row.R.Denot}) c.push.new.self.items (all ++ one ∷ []) c.in_ok-push.ensures.items
    (All-push (Has {R = g.row.R.Denot}) all one c.loop-desk.invariant c.unread_desk.ensures)
