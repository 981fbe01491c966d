-- Questions to desks: their answers, and that a world answers the same, whatever happened before.
use Rattle.std.proofs.Common.{◌≡◌, ℕ, List, ◌++◌, sym, subst, ◌∙◌, refl, inl, inr, Option, Some, None}
use Rattle.std.specs.Prelude.{slice_get, codes}
use Rattle.std.specs.Option.{option_map}
use Rattle.itip_view.specs.declared.by_uid.RowsByUid.{RowsByUid}
use Rattle.itip_view.specs.declared.row_count.MostRows.{MostRows}
use Rattle.itip_view.specs.declared.window.Window.{Window}
use Rattle.itip_view.specs.declared.row.Row.{Row}
use Rattle.itip_view.specs.ByUid.{AreAsked}
use Rattle.itip_view.specs.Showing.{Shows}
use Rattle.itip_view.proofs.Left.{left_where, too_many_where}
use Rattle.itip_view.proofs.SameAsked.{rows_of_all, many_of_all}
use Rattle.itip_desk.specs.Desk.{Shown}
use Rattle.itip_desk.specs.WrittenRows.{IsHeadedList, WritesListed, WritesListedFront}
use Rattle.itip_desk.specs.declared.refusal.Refusal.TheVariants as refusal
use Rattle.itip_script.specs.Orders.{Order, lists, lists_for}
use Rattle.itip_streams.specs.Written.{AppendsFront, MovesOut}
use Rattle.itip_streams.proofs.Writing.{moves_none, moves_more}
use Rattle.itip_world.specs.Worlds.{ShownWorld, entries_shown}
use Rattle.itip_world.specs.Running.{Answer, refused, listed, listed_for, answer_text, refusal_of, Answers, IsTold, Replies, RepliesFront}
use Rattle.itip_world.specs.Looking.{Looks, LookReplies, LookFront}
use Rattle.itip_world.specs.Looking.Looks.{lists_rows, lists_too_many, lists_no_desk, lists_rows_for, lists_too_many_for}
use Rattle.itip_world.specs.Looking.Looks.{lists_no_desk_for, counts_kept, counts_no_desk, reports_lines, reports_too_many, reports_no_desk}
use Rattle.itip_world.specs.Looking.Looks.{resends_messages, resends_no_desk, tells_next, tells_no_desk}
use Rattle.itip_world.specs.declared.watch.Refused.{Refused as RefusedAs}
use Rattle.itip_world.proofs.Answering.{answers_list, answers_too_many, answers_no_list, answers_list_for, answers_too_many_for}
use Rattle.itip_world.proofs.Answering.{answers_no_list_for, answers_count, answers_no_count, answers_report, answers_no_rows}
use Rattle.itip_world.proofs.Answering.{answers_no_report, answers_resend, answers_no_resend, answers_next, answers_no_next}
use Rattle.itip_world.proofs.Events.{entries_of}

-- what the desks of a world answer is what the world answers
pub looks_answer : (window : Window) (world : ShownWorld) (order : Order) (answer : Answer) → Looks window world.desks order answer →
    Answers window order world answer world
looks_answer window world _ _ (lists_rows desk shown rows at are) = answers_list window world desk shown at rows are
looks_answer window world _ _ (lists_too_many desk shown at many) = answers_too_many window world desk shown at many
looks_answer window world _ _ (lists_no_desk desk missing) = answers_no_list window world desk missing
looks_answer window world _ _ (lists_rows_for desk address shown rows at are) = answers_list_for window world desk shown at address rows are
looks_answer window world _ _ (lists_too_many_for desk address shown at many) =
    answers_too_many_for window world desk shown at address many
looks_answer window world _ _ (lists_no_desk_for desk address missing) = answers_no_list_for window world desk missing address
looks_answer window world _ _ (counts_kept desk shown at once) =
    answers_count window world desk (entries_shown shown) (entries_of world desk shown (entries_shown shown) at refl)
looks_answer window world _ _ (counts_no_desk desk missing) = answers_no_count window world desk missing
looks_answer window world _ _ (reports_lines desk named shown lines at is) = answers_report window world desk shown at named lines is
looks_answer window world _ _ (reports_too_many desk named shown of_rows at many) =
    answers_no_rows window world desk shown at named of_rows many
looks_answer window world _ _ (reports_no_desk desk named missing) = answers_no_report window world desk missing named
looks_answer window world _ _ (resends_messages desk uid shown bytes at is) = answers_resend window world desk shown at uid bytes is
looks_answer window world _ _ (resends_no_desk desk uid missing) = answers_no_resend window world desk missing uid
looks_answer window world _ _ (tells_next desk uid shown sequence at is) = answers_next window world desk shown at uid sequence is
looks_answer window world _ _ (tells_no_desk desk uid missing) = answers_no_next window world desk missing uid

pub replies_of_look : (window : Window) (world : ShownWorld) (order : Order) (old new : Option (List ℕ)) (kept rest : List ℕ)
    (why : Option RefusedAs) → LookReplies window order world.desks old new kept rest why →
    Replies window order world world old new kept rest why
replies_of_look window world order old new kept rest why look = record {
  answer = look.answer;
  answers = looks_answer window world order look.answer look.looks;
  moved = look.moved;
  refusal_is = look.refusal_is;
}

pub front_of_look : (window : Window) (world : ShownWorld) (order : Order) (old new : Option (List ℕ)) (kept : List ℕ) →
    LookFront window order world.desks old new kept → RepliesFront window order world old new kept
front_of_look window world order old new kept (inl front) = inl front
front_of_look window world order old new kept (inr (answer, looks, front)) =
    inr (record { answer = answer; after = world; answers = looks_answer window world order answer looks; appended = front })

-- ---- lists, which are written while they are made

-- an answer with this text, which is a refusal if a to-do has the most of too many rows
pub record LooksSo (window : Window) (desks : List Shown) (order : Order) (most : Option MostRows) (text : List ℕ) : Type 0 where
  pub answer : Answer
  pub looks : Looks window desks order answer
  pub text_is : answer_text answer ≡ text
  pub refusal_is : option_map (λ (m : MostRows). refusal.TooManyRows) most ≡ refusal_of answer

module _ (window : Window) (desks : List Shown) (desk : ℕ) (shown : Shown) (at : slice_get desks desk ≡ Some shown)
    (asked : RowsByUid) where
  pub look_list : AreAsked (λ (row : Row). Unit {0}) shown.kept window asked → (most : Option MostRows) (text : List ℕ) →
      IsHeadedList (codes "list") desk asked most text → LooksSo window desks (lists desk) most text
  look_list are None text is = record {
    answer = listed desk is.rows;
    looks = lists_rows desk shown is.rows at (record {
      are_rows = rows_of_all (λ (row : Row). Unit {0}) shown.kept window (λ row there. tt) is.rows
          ((left_where (λ (row : Row). Unit {0}) shown.kept window asked are is.rows).0 is.are_left);
      few = is.few;
    });
    text_is = sym is.text_is;
    refusal_is = refl;
  }
  look_list are (Some most) text is = record {
    answer = refused refusal.TooManyRows;
    looks = lists_too_many desk shown at (many_of_all (λ (row : Row). Unit {0}) shown.kept window
        (too_many_where (λ (row : Row). Unit {0}) shown.kept window asked are is.0.0));
    text_is = sym is.1;
    refusal_is = refl;
  }

  pub look_list_for : (address : List ℕ) → AreAsked (Shows address) shown.kept window asked → (most : Option MostRows) (text : List ℕ) →
      IsHeadedList (codes "mine") desk asked most text → LooksSo window desks (lists_for desk address) most text
  look_list_for address are None text is = record {
    answer = listed_for desk is.rows;
    looks = lists_rows_for desk address shown is.rows at
        (record { are_rows = (left_where (Shows address) shown.kept window asked are is.rows).0 is.are_left; few = is.few });
    text_is = sym is.text_is;
    refusal_is = refl;
  }
  look_list_for address are (Some most) text is = record {
    answer = refused refusal.TooManyRows;
    looks = lists_too_many_for desk address shown at (too_many_where (Shows address) shown.kept window asked are is.0.0);
    text_is = sym is.1;
    refusal_is = refl;
  }

module _ (window : Window) (desks : List Shown) (order : Order) (word : List ℕ) (desk : ℕ) (asked : RowsByUid)
    (gives : (most : Option MostRows) (text : List ℕ) → IsHeadedList word desk asked most text → LooksSo window desks order most text)
    (old new : Option (List ℕ)) (kept : List ℕ) where
  pub replies_list : (rest : List ℕ) (most : Option MostRows) (why : Option RefusedAs) →
      WritesListed word desk asked old new kept rest most →
      option_map (λ (r : RefusedAs). r.refusal) why ≡ option_map (λ (m : MostRows). refusal.TooManyRows) most
      → LookReplies window order desks old new kept rest why
  replies_list rest most why writes same =
      let it = gives most writes.text writes.is_listed in
      record {
        answer = it.answer;
        looks = it.looks;
        moved = subst (λ (t : List ℕ). MovesOut old new (kept ++ t) rest) (sym it.text_is) writes.moved;
        refusal_is = same ∙ it.refusal_is;
      }

  pub front_of_list : WritesListedFront word desk asked old new kept → LookFront window order desks old new kept
  front_of_list (inl front) = inl front
  front_of_list (inr (text, is, front)) =
      let it = gives None text is in
      inr (it.answer, it.looks, subst (λ (t : List ℕ). AppendsFront old new (kept ++ t)) (sym it.text_is) front)

-- ---- other answers

-- an answer is appended to what is kept, and nothing was written
pub look_told : (window : Window) (order : Order) (desks : List Shown) (o : Option (List ℕ)) (kept rest : List ℕ) (answer : Answer)
    (why : Option RefusedAs) → Looks window desks order answer → IsTold answer kept rest why →
    LookReplies window order desks o o kept rest why
look_told window order desks o kept rest answer why looks told = record {
  answer = answer;
  looks = looks;
  moved = moves_more o o kept kept (moves_none o kept) (answer_text answer) rest told.text_is;
  refusal_is = told.refusal_is;
}
