use Rattle.itip_state.proofs.Keeping.{kept_again}
use Rattle.itip_view.proofs.Alike.{alike_back}
use Rattle.itip_view.proofs.Leading.{most_of_kept}
use Rattle.itip_view.proofs.OfKept.{row_of_same, rows_of_kept, text_of_kept, too_many_of_kept, rows_where_of_kept, many_where_of_kept}
use Rattle.itip_view.proofs.OfKept.{text_for_of_kept}
use Rattle.itip_view.specs.Showing.{Shows}
use Rattle.itip_view.specs.Wanting.{Wants}
use Rattle.itip_view.proofs.laws.view_of_kept.Goals as goal

pub returns-clause-row : goal.returns-clause-row
returns-clause-row c window row kept heard are =
    let same = kept_again kept heard are in
    (row_of_same kept heard same window row, row_of_same heard kept (alike_back kept heard same) window row)

pub returns-clause-rows : goal.returns-clause-rows
returns-clause-rows c window rows kept heard are = rows_of_kept kept heard are window rows

pub returns-clause-text : goal.returns-clause-text
returns-clause-text c window text kept heard are = text_of_kept kept heard are window text

pub returns-clause-many : goal.returns-clause-many
returns-clause-many c window kept heard are = too_many_of_kept kept heard are window

pub returns-clause-text_for : goal.returns-clause-text_for
returns-clause-text_for c window address text kept heard are = text_for_of_kept address kept heard are window text

pub returns-clause-many_for : goal.returns-clause-many_for
returns-clause-many_for c window address kept heard are = many_where_of_kept (Shows address) kept heard are window

pub returns-clause-rows_where : goal.returns-clause-rows_where
returns-clause-rows_where c window wanted rows kept heard are = rows_where_of_kept (Wants wanted) kept heard are window rows

pub returns-clause-many_where : goal.returns-clause-many_where
returns-clause-many_where c window wanted kept heard are = many_where_of_kept (Wants wanted) kept heard are window

pub returns-clause-most : goal.returns-clause-most
returns-clause-most c window wanted most kept heard are = most_of_kept (Wants wanted) window kept heard are most
