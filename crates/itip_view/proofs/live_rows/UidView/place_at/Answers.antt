use Rattle.itip_view.proofs.live_rows.UidView.place_at.Goals as goal

pub place_between-requires-clause-occurs : goal.place_between-requires-clause-occurs
place_between-requires-clause-occurs c = c.requires.occurs c.in-None.ensures
