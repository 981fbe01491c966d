use Rattle.std.proofs.Common.{◌≡◌, ◌+◌, ◌<◌, ◌++◌, ◌∷◌, [], ◌∙◌, ℕ, List, Option, Some, None, length, map, take, take_all}
use Rattle.std.proofs.Common.{get_or, refl, sym, ap, subst, arith}
use Rattle.std.specs.List.{Contains}
use Rattle.std.specs.Option.{option_copied}
use Rattle.std.specs.Ordering.{nat_cmp}
use Rattle.std.specs.Cmp.Lexicographic.{slice_cmp}
use Rattle.std.specs.declared.cmp.Ordering.TheVariants.{Less}
use Rattle.std.proofs.lemmas.List.{length-map, take_more}
use Rattle.std.proofs.Math.ListN.{get_or-map}
use Rattle.itip_items.specs.declared.item.Item.{Item}
use Rattle.itip_view.specs.UidWithMostRows.{IsCountAmong}
use Rattle.itip_view.specs.Rows.{row_limit}
use Rattle.itip_view.specs.Wanting.{Wants}
use Rattle.itip_view.specs.declared.row_count.RowCount.TheVariants.{TooMany}
use Rattle.itip_view.specs.declared.wanted.Wanted.{Wanted}
use Rattle.itip_view.specs.declared.window.Window.{Window}
use Rattle.itip_view.proofs.Collecting.{earlier_before}
use Rattle.itip_view.proofs.Tallies.{tallied_none, tallied_as, tallied_next, tallied_still, few_tallied, none_tallied, many_tallied}
use Rattle.itip_view.proofs.row_count.count_among.Goals as goal
use Rattle.itip_view.proofs.row_count.count_among.Goals.{then-count-most, else-count-most}

pub loop-uid-init : goal.loop-uid-init
loop-uid-init c = tallied_none (Wants c.args.wanted.now) c.args.state.now c.args.window

pub loop-uid-preserved : goal.loop-uid-preserved
loop-uid-preserved c =
    let heard : List Item = c.args.state.now in
    let window : Window = c.args.window in
    let wanted : Wanted = c.args.wanted.now in
    let uids : List (List ℕ) = map (λ uid. uid.now) c.args.uids.now in
    let i : ℕ = c.loop-uid.uid-index in
    let uid : List ℕ = c.uid-item.result.now in
    let leader : Option (List ℕ) = option_copied c.loop-uid.leader in
    let most : ℕ = c.loop-uid.most in
    let count : ℕ = c.in_ok-count.count in
    let sum : ℕ = c.saturating_add-number.result in
    let below : i < length uids = rw (length-map c.args.uids.now (λ uid. uid.now)) c.loop-uid-test.true in
    let here : uid ≡ get_or uids i uid = ap (λ uid. uid.now) c.uid-item.is ∙
    sym (get_or-map (λ uid. uid.now) c.args.uids.now i c.uid-item.result) in
    let later : (u : List ℕ) → Contains (take i uids) u → slice_cmp nat_cmp u uid ≡ Less =
    earlier_before (λ (a b : List ℕ). slice_cmp nat_cmp a b ≡ Less) uids i uid c.requires below here in
    let done : take (i + 1) uids ≡ take i uids ++ uid ∷ [] = take_more uids i uid below ∙
    ap (λ (u : List ℕ). take i uids ++ u ∷ []) (sym here) in
    elim c.if-count-most.branch [
      | then-count-most w ↦
          (let led : option_copied c.if-count-most.leader ≡ Some uid = ap option_copied w.leader-is in
          tallied_as (Wants wanted) heard window (take i uids ++ uid ∷ []) (take (i + 1) uids) (Some uid)
          (option_copied c.if-count-most.leader) count c.if-count-most.most sum (sym done) (sym led) (sym w.most-is)
          (tallied_next (Wants wanted) heard window (take i uids) leader most c.loop-uid.number c.loop-uid.invariant uid later count
          c.in_ok-count.ensures sum c.saturating_add-number.ensures w.if-count-most.true))
      | else-count-most w ↦
          (let led : option_copied c.if-count-most.leader ≡ leader = ap option_copied w.leader-is in
          tallied_as (Wants wanted) heard window (take i uids ++ uid ∷ []) (take (i + 1) uids) leader
          (option_copied c.if-count-most.leader) most c.if-count-most.most sum (sym done) (sym led) (sym w.most-is)
          (tallied_still (Wants wanted) heard window (take i uids) leader most c.loop-uid.number c.loop-uid.invariant uid later count
          c.in_ok-count.ensures sum c.saturating_add-number.ensures w.if-count-most.false))
    ]

pub returns-in_default : goal.returns-in_default
returns-in_default c =
    let uids : List (List ℕ) = map (λ uid. uid.now) c.args.uids.now in
    let i : ℕ = c.loop-uid.uid-index in
    let all : take i uids ≡ uids = take_all i uids (rw (length-map c.args.uids.now (λ uid. uid.now)) c.loop-uid-test.false) in
    let led : option_copied c.loop-uid.leader ≡ None = ap option_copied c.in_default.is in
    none_tallied (Wants c.args.wanted.now) c.args.state.now c.args.window uids c.loop-uid.most c.loop-uid.number
    (tallied_as (Wants c.args.wanted.now) c.args.state.now c.args.window (take i uids) uids (option_copied c.loop-uid.leader) None
    c.loop-uid.most c.loop-uid.most c.loop-uid.number all led refl c.loop-uid.invariant)

pub returns-then-number-le-ROW_LIMIT : goal.returns-then-number-le-ROW_LIMIT
returns-then-number-le-ROW_LIMIT c =
    let uids : List (List ℕ) = map (λ uid. uid.now) c.args.uids.now in
    let i : ℕ = c.loop-uid.uid-index in
    let all : take i uids ≡ uids = take_all i uids (rw (length-map c.args.uids.now (λ uid. uid.now)) c.loop-uid-test.false) in
    let leader : Option (List ℕ) = option_copied c.loop-uid.leader in
    few_tallied (Wants c.args.wanted.now) c.args.state.now c.args.window uids leader c.loop-uid.most c.loop-uid.number
    (tallied_as (Wants c.args.wanted.now) c.args.state.now c.args.window (take i uids) uids leader leader c.loop-uid.most c.loop-uid.most
    c.loop-uid.number all refl refl c.loop-uid.invariant) (omega arith)

pub returns : goal.returns
returns c =
    let uids : List (List ℕ) = map (λ uid. uid.now) c.args.uids.now in
    let i : ℕ = c.loop-uid.uid-index in
    let leader : List ℕ = c.in-Some.leader.now in
    let all : take i uids ≡ uids = take_all i uids (rw (length-map c.args.uids.now (λ uid. uid.now)) c.loop-uid-test.false) in
    let led : option_copied c.loop-uid.leader ≡ Some leader = ap option_copied c.in-Some.is in
    let copy : c.in_ok-uid.uid ≡ leader = c.in_ok-uid.ensures.cases in
    let many : row_limit < c.loop-uid.number = omega arith in
    subst (λ (u : List ℕ). IsCountAmong (Wants c.args.wanted.now) c.args.state.now c.args.window uids
    (TooMany (record { uid = u; rows = c.loop-uid.most }))) (sym copy)
    (many_tallied (Wants c.args.wanted.now) c.args.state.now c.args.window uids leader c.loop-uid.most c.loop-uid.number
    (tallied_as (Wants c.args.wanted.now) c.args.state.now c.args.window (take i uids) uids (option_copied c.loop-uid.leader) (Some leader)
    c.loop-uid.most c.loop-uid.most c.loop-uid.number all led refl c.loop-uid.invariant) many)
