use Rattle.std.proofs.Common.{ℕ, List, map, refl, subst, arith}
use Rattle.std.specs.Ordering.{nat_cmp}
use Rattle.std.specs.Cmp.Lexicographic.{slice_cmp}
use Rattle.itip_state.specs.Kept.{AreUidsOf}
use Rattle.itip_state.proofs.Nothing.{no_uids, not_ok}
use Rattle.itip_view.specs.Wanting.{Wants}
use Rattle.itip_view.proofs.Gathering.{uid_of_row, all_gathered, all_among}
use Rattle.itip_view.proofs.Left.{sorted_by_pairs}
use Rattle.itip_view.proofs.by_uid.RowsByUid.of.Goals as goal

pub invariant_of-result : goal.invariant_of-result
invariant_of-result c = record {
  ascend = sorted_by_pairs (slice_cmp nat_cmp) (map (λ uid. uid.now) c.in_ok-uids.uids.items) c.in_ok-uids.ensures.uids.ascend;
  within = omega arith;
}

pub returns-clause-rows : goal.returns-clause-rows
returns-clause-rows c = λ rows.
    let uids : List (List ℕ) = map (λ uid. uid.now) c.in_ok-uids.uids.items in (
      all_gathered c.args.state.now c.args.window uids c.in_ok-uids.ensures.uids (Wants c.args.wanted.now) rows,
      all_among c.args.state.now c.args.window uids c.in_ok-uids.ensures.uids (Wants c.args.wanted.now) rows,
    )

pub returns-clause-asked : goal.returns-clause-asked
returns-clause-asked c = record {
  state_is = refl;
  window_is = refl;
  alike = λ row is. (
    λ among. among.holds,
    λ wanted. record {
      uid_is = uid_of_row c.args.state.now c.args.window (map (λ uid. uid.now) c.in_ok-uids.uids.items) c.in_ok-uids.ensures.uids.all row
          is;
      holds = wanted;
    },
  );
}

pub returns-clause-none : goal.returns-clause-none
returns-clause-none c = λ none.
    let uids : List (List ℕ) = map (λ uid. uid.now) c.in_ok-uids.uids.items in
    no_uids uids (subst (AreUidsOf uids) none c.in_ok-uids.ensures.uids)

pub returns-in_err-uids-clause-succeeds : goal.returns-in_err-uids-clause-succeeds
returns-in_err-uids-clause-succeeds c = λ none. not_ok (c.in_err-uids.ensures.succeeds none)
