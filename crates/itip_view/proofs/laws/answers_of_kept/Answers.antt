use Rattle.itip_state.proofs.Keeping.{kept_again}
use Rattle.itip_view.proofs.Alike.{alike_back, series_alike, instance_counts, series_counts}
use Rattle.itip_view.proofs.laws.answers_of_kept.Goals as goal

pub returns-clause-to_instance : goal.returns-clause-to_instance
returns-clause-to_instance c uid id attendee since answer kept heard are =
    let same = kept_again kept heard are in
    let back = alike_back kept heard same in
    (instance_counts kept heard same uid id attendee since answer, instance_counts heard kept back uid id attendee since answer)

pub returns-clause-to_series : goal.returns-clause-to_series
returns-clause-to_series c kept heard are series uid attendee since answer live no_earlier =
    let same = kept_again kept heard are in
    let back = alike_back kept heard same in (
      series_counts kept heard same series uid attendee since answer (series_alike heard kept back uid series live.best) no_earlier,
      series_counts heard kept back series uid attendee since answer live.best no_earlier,
    )
