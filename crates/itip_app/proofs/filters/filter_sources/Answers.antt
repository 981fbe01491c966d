use Rattle.itip_app.proofs.filters.filter_sources.Goals as goal

pub returns-in-Some : goal.returns-in-Some
returns-in-Some g c = c.replace.ensures c.args.draft.now
