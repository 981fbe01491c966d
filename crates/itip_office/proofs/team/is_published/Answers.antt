use Rattle.std.proofs.Common.{◌≡◌, ◌<◌, length, arith}
use Rattle.itip_office.specs.declared.team.Merged.{Merged}
use Rattle.itip_office.proofs.Publishing.{pair_at_place, begins_at_place}
use Rattle.itip_office.proofs.team.is_published.Goals as goal

pub is_published-requires : goal.is_published-requires
is_published-requires g c =
    let place = c.desk-place.result in
    let low : place < length c.args.kept.now = omega arith in
    let same : c.index-kept-place.result.desk ≡ c.args.source.now.0 = cc in
    record {
      pair = pair_at_place (λ (k : Merged g.row.R.Denot). k.desk) (λ (k : Merged g.row.R.Denot). k.answers.items)
          (λ (k : Merged g.row.R.Denot). k.held.shown) g.N.Pairs.pair c.args.kept.now place c.index-kept-place.result c.in-Some.keeper
          c.args.source.now.0 c.requires.pairs low c.index-kept-place.is same c.in-Some.is;
    }

pub returns-in-Some : goal.returns-in-Some
returns-in-Some g c = λ yes.
    let place = c.desk-place.result in
    let low : place < length c.args.kept.now = omega arith in
    let same : c.index-kept-place.result.desk ≡ c.args.source.now.0 = cc in
    begins_at_place (λ (k : Merged g.row.R.Denot). k.desk) (λ (k : Merged g.row.R.Denot). k.answers.items)
    (λ (k : Merged g.row.R.Denot). k.held.shown) c.args.kept.now place c.index-kept-place.result c.in-Some.keeper c.args.source.now.0
    c.args.source.now.1 low c.index-kept-place.is c.desk-place.ensures same c.in-Some.is (c.is_published.ensures yes)
