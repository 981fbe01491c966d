use Rattle.itip_state.proofs.Keeping.{kept_again}
use Rattle.itip_view.proofs.Alike.{alike_back}
use Rattle.itip_view.proofs.Asking.{question_alike, none_in_question_alike, shows_alike}
use Rattle.itip_view.proofs.laws.question_of_kept.Goals as goal

pub returns-clause-is_in : goal.returns-clause-is_in
returns-clause-is_in c uid id item kept heard are =
    let same = kept_again kept heard are in (
      question_alike kept heard same uid id item,
      question_alike heard kept (alike_back kept heard same) uid id item,
    )

pub returns-clause-none : goal.returns-clause-none
returns-clause-none c uid id kept heard are =
    let same = kept_again kept heard are in (
      none_in_question_alike kept heard same uid id,
      none_in_question_alike heard kept (alike_back kept heard same) uid id,
    )

pub returns-clause-shows : goal.returns-clause-shows
returns-clause-shows c uid id item shown kept heard are =
    let same = kept_again kept heard are in (
      shows_alike kept heard same uid id item shown,
      shows_alike heard kept (alike_back kept heard same) uid id item shown,
    )
