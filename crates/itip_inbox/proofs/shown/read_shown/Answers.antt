use Rattle.itip_state.proofs.Members.{on_ok_always}
use Rattle.itip_inbox.proofs.Showing.{read_whole, read_too_long}
use Rattle.itip_inbox.proofs.shown.read_shown.Goals as goal

pub returns-in-Some-clause-shown : goal.returns-in-Some-clause-shown
returns-in-Some-clause-shown g c =
    let whole = simp c.in-Some.is at c.in_ok-text.ensures.whole in
    read_whole (g.R.Read.remaining c.args.reader.now) c.in-Some.text.items c.as_slice.result.now c.shown_of.result whole.1
    c.as_slice.ensures.value c.shown_of.ensures.shown

pub returns-in-None-clause-shown : goal.returns-in-None-clause-shown
returns-in-None-clause-shown g c =
    let long = simp c.in-None.is at c.in_ok-text.ensures.long in
    read_too_long (g.R.Read.remaining c.args.reader.now) c.from.result c.shown_refusal.result long c.from.ensures
    c.shown_refusal.ensures.refusal c.shown_refusal.ensures.text

pub returns-in-Some-clause-well : goal.returns-in-Some-clause-well
returns-in-Some-clause-well g c = on_ok_always c.shown_of.result c.in_ok-text.ensures.well

pub returns-in-None-clause-well : goal.returns-in-None-clause-well
returns-in-None-clause-well g c = on_ok_always c.shown_refusal.result c.in_ok-text.ensures.well
