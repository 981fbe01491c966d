use Rattle.itip_state.proofs.Keeping.{kept_again}
use Rattle.itip_view.proofs.Alike.{alike_back, stands_alike, stands_from_alike, rules_alike, none_rules_alike, governs_alike}
use Rattle.itip_view.proofs.laws.standing_of_kept.Goals as goal

pub returns-clause-stands : goal.returns-clause-stands
returns-clause-stands c uid id item kept heard are =
    let same = kept_again kept heard are in (
      stands_alike kept heard same uid id item,
      stands_alike heard kept (alike_back kept heard same) uid id item,
    )

pub returns-clause-stands_from : goal.returns-clause-stands_from
returns-clause-stands_from c uid id item kept heard are =
    let same = kept_again kept heard are in (
      stands_from_alike kept heard same uid id item,
      stands_from_alike heard kept (alike_back kept heard same) uid id item,
    )

pub returns-clause-rules : goal.returns-clause-rules
returns-clause-rules c uid at id item kept heard are =
    let same = kept_again kept heard are in (
      rules_alike kept heard same uid at id item,
      rules_alike heard kept (alike_back kept heard same) uid at id item,
    )

pub returns-clause-none_rules : goal.returns-clause-none_rules
returns-clause-none_rules c uid at kept heard are =
    let same = kept_again kept heard are in (
      none_rules_alike kept heard same uid at,
      none_rules_alike heard kept (alike_back kept heard same) uid at,
    )

pub returns-clause-governs : goal.returns-clause-governs
returns-clause-governs c uid id item kept heard are =
    let same = kept_again kept heard are in (
      governs_alike kept heard same uid id item,
      governs_alike heard kept (alike_back kept heard same) uid id item,
    )
