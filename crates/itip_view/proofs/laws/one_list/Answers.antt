use Rattle.itip_view.proofs.Leading.{one_most}
use Rattle.itip_view.proofs.OneList.{one_view, one_list_text, text_or_too_many, one_where, few_or_too_many, one_text_for}
use Rattle.itip_view.proofs.OneList.{text_for_or_too_many}
use Rattle.itip_view.proofs.OneRow.{one_row, tied_rows}
use Rattle.itip_view.specs.Showing.{Shows}
use Rattle.itip_view.specs.Wanting.{Wants}
use Rattle.itip_view.proofs.laws.one_list.Goals as goal

pub returns-clause-row : goal.returns-clause-row
returns-clause-row c = one_row

pub returns-clause-order : goal.returns-clause-order
returns-clause-order c = tied_rows

pub returns-clause-rows : goal.returns-clause-rows
returns-clause-rows c = one_view

pub returns-clause-text : goal.returns-clause-text
returns-clause-text c = one_list_text

pub returns-clause-apart : goal.returns-clause-apart
returns-clause-apart c = text_or_too_many

pub returns-clause-rows_for : goal.returns-clause-rows_for
returns-clause-rows_for c heard window address = one_where (Shows address) heard window

pub returns-clause-text_for : goal.returns-clause-text_for
returns-clause-text_for c heard window address = one_text_for address heard window

pub returns-clause-apart_for : goal.returns-clause-apart_for
returns-clause-apart_for c heard window address = text_for_or_too_many address heard window

pub returns-clause-rows_where : goal.returns-clause-rows_where
returns-clause-rows_where c heard window wanted = one_where (Wants wanted) heard window

pub returns-clause-apart_where : goal.returns-clause-apart_where
returns-clause-apart_where c heard window wanted = few_or_too_many (Wants wanted) heard window

pub returns-clause-most : goal.returns-clause-most
returns-clause-most c heard window wanted = one_most (Wants wanted) heard window
