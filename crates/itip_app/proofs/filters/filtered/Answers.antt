use Rattle.std.proofs.Common.{inr}
use Rattle.itip_app.proofs.filters.filtered.Goals as goal

pub returns : goal.returns
returns g c = inr (record {
  draft = c.in-Ok-draft_of.draft;
  ends = c.filter_sources.ensures;
})
