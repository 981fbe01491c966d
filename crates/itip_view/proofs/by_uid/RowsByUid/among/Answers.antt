use Rattle.std.proofs.Common.{◌↔◌, ℕ, List, map, ap, refl, arith}
use Rattle.std.specs.List.{Contains}
use Rattle.std.specs.Ordering.{nat_cmp}
use Rattle.std.specs.Cmp.Lexicographic.{slice_cmp}
use Rattle.itip_view.specs.Showing.{IsAmong}
use Rattle.itip_view.specs.Wanting.{Wants}
use Rattle.itip_view.specs.declared.row.Row.{Row}
use Rattle.itip_state.proofs.Nothing.{no_texts}
use Rattle.itip_view.proofs.Left.{sorted_by_pairs}
use Rattle.itip_view.proofs.SameAsked.{among_alike, rows_alike}
use Rattle.itip_view.proofs.by_uid.RowsByUid.among.Goals as goal

-- rows of the same UIDs
same_uids : (P : Row → Type 0) (uids others : List (List ℕ)) → ((uid : List ℕ) → Contains uids uid ↔ Contains others uid) →
    (row : Row) → IsAmong uids P row ↔ IsAmong others P row
same_uids P = among_alike P P (λ row. (λ h. h, λ h. h))

pub invariant_of-result : goal.invariant_of-result
invariant_of-result c = record {
  ascend = sorted_by_pairs (slice_cmp nat_cmp) (map (λ uid. uid.now) c.in_ok-uids.uids.items) c.in_ok-uids.ensures.ascend;
  within = omega arith;
}

pub returns-clause-rows : goal.returns-clause-rows
returns-clause-rows c = λ rows.
    let wants : Row → Type 0 = Wants c.args.wanted.now in
    let uids : List (List ℕ) = map (λ uid. uid.now) c.in_ok-uids.uids.items in
    let others : List (List ℕ) = map (λ uid. uid.now) c.args.uids.items in
    let alike : (row : Row) → IsAmong uids wants row ↔ IsAmong others wants row = same_uids wants uids others c.in_ok-uids.ensures.same in (
      rows_alike (IsAmong uids wants) (IsAmong others wants) alike c.args.state.now c.args.window rows,
      rows_alike (IsAmong others wants) (IsAmong uids wants) (λ row. ((alike row).1, (alike row).0)) c.args.state.now c.args.window rows,
    )

pub returns-clause-asked : goal.returns-clause-asked
returns-clause-asked c = record {
  state_is = refl;
  window_is = refl;
  alike = λ row is. same_uids (Wants c.args.wanted.now) (map (λ uid. uid.now) c.in_ok-uids.uids.items)
      (map (λ uid. uid.now) c.args.uids.items) c.in_ok-uids.ensures.same row;
}

pub returns-clause-none : goal.returns-clause-none
returns-clause-none c = λ none. no_texts (map (λ uid. uid.now) c.in_ok-uids.uids.items) (map (λ uid. uid.now) c.args.uids.items)
    c.in_ok-uids.ensures.same (ap (map (λ uid. uid.now)) none)
