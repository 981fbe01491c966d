use Rattle.std.proofs.Common.{◌≡◌, ◌+◌, ◌<◌, ◌≤◌, ◌++◌, ◌∷◌, [], ◌∙◌, ℕ, List, length, map, take, take_all, drop}
use Rattle.std.proofs.Common.{get_or, sym, ap, subst, arith}
use Rattle.std.specs.List.{Contains}
use Rattle.std.specs.Ordering.{nat_cmp}
use Rattle.std.specs.Cmp.Lexicographic.{slice_cmp}
use Rattle.std.specs.declared.cmp.Ordering.TheVariants.{Less}
use Rattle.std.proofs.lemmas.List.{length-map, take_more}
use Rattle.std.proofs.Math.ListN.{get_or-map, take-append-drop}
use Rattle.itip_view.specs.ListText.{list_text}
use Rattle.itip_view.specs.Rows.{row_limit}
use Rattle.itip_view.specs.Showing.{AreTooManyWhere, IsAmong}
use Rattle.itip_view.specs.Wanting.{Wants}
use Rattle.itip_view.specs.declared.row.Row.{Row}
use Rattle.itip_view.specs.declared.wanted.Wanted.{Wanted}
use Rattle.itip_state.proofs.Nothing.{none_left}
use Rattle.itip_view.proofs.Collecting.{earlier_before}
use Rattle.itip_view.proofs.Texts.{TextSoFar, text_none, text_more, text_too_many, whole_text}
use Rattle.itip_view.proofs.list_within_limit.text_within_limit.Goals as goal

pub loop-uid-init : goal.loop-uid-init
loop-uid-init c =
    subst (TextSoFar (Wants c.args.wanted.now) c.args.state.now c.args.window [] 0) (sym c.new-text.ensures.items)
    (text_none (Wants c.args.wanted.now) c.args.state.now c.args.window)

pub returns-then-more-number-clause-many : goal.returns-then-more-number-clause-many
returns-then-more-number-clause-many c = λ _.
    let uids : List (List ℕ) = map (λ uid. uid.now) c.args.uids.now in
    let i : ℕ = c.loop-uid.uid-index in
    let uid : List ℕ = c.uid-item.result.now in
    let wanted : Wanted = c.args.wanted.now in
    let below : i < length uids = rw (length-map c.args.uids.now (λ uid. uid.now)) c.loop-uid-test.true in
    let here : uid ≡ get_or uids i uid = ap (λ uid. uid.now) c.uid-item.is ∙
    sym (get_or-map (λ uid. uid.now) c.args.uids.now i c.uid-item.result) in
    let later : (u : List ℕ) → Contains (take i uids) u → slice_cmp nat_cmp u uid ≡ Less =
    earlier_before (λ (a b : List ℕ). slice_cmp nat_cmp a b ≡ Less) uids i uid c.requires below here in
    let long : length c.in_ok-more.ensures.rows ≡ c.in_ok-more.more = c.in_ok-more.ensures.number_is in
    let over : row_limit < c.loop-uid.number + length c.in_ok-more.ensures.rows = grind (arith, long) in
    let done : take (i + 1) uids ≡ take i uids ++ uid ∷ [] = take_more uids i uid below ∙
    ap (λ (u : List ℕ). take i uids ++ u ∷ []) (sym here) in
    let whole : (take i uids ++ uid ∷ []) ++ drop (i + 1) uids ≡ uids = ap (λ us. us ++ drop (i + 1) uids) (sym done) ∙
    take-append-drop (i + 1) uids in
    subst (λ us. AreTooManyWhere (IsAmong us (Wants wanted)) c.args.state.now c.args.window) whole
    (text_too_many (Wants wanted) c.args.state.now c.args.window (take i uids) c.loop-uid.number c.loop-uid.text.items c.loop-uid.invariant
    uid c.in_ok-more.ensures.rows later c.in_ok-more.ensures.are_rows over (drop (i + 1) uids))

pub loop-uid-preserved : goal.loop-uid-preserved
loop-uid-preserved c =
    let uids : List (List ℕ) = map (λ uid. uid.now) c.args.uids.now in
    let i : ℕ = c.loop-uid.uid-index in
    let uid : List ℕ = c.uid-item.result.now in
    let wanted : Wanted = c.args.wanted.now in
    let more : List Row = c.in_ok-more.ensures.rows in
    let long : length more ≡ c.in_ok-more.more = c.in_ok-more.ensures.number_is in
    let below : i < length uids = rw (length-map c.args.uids.now (λ uid. uid.now)) c.loop-uid-test.true in
    let here : uid ≡ get_or uids i uid = ap (λ uid. uid.now) c.uid-item.is ∙
    sym (get_or-map (λ uid. uid.now) c.args.uids.now i c.uid-item.result) in
    let later : (u : List ℕ) → Contains (take i uids) u → slice_cmp nat_cmp u uid ≡ Less =
    earlier_before (λ (a b : List ℕ). slice_cmp nat_cmp a b ≡ Less) uids i uid c.requires below here in
    let done : take (i + 1) uids ≡ take i uids ++ uid ∷ [] = take_more uids i uid below ∙
    ap (λ (u : List ℕ). take i uids ++ u ∷ []) (sym here) in
    let sum : c.loop-uid.number + c.in_ok-more.more ≡ c.loop-uid.number + length more = grind (arith, long) in
    let few : c.loop-uid.number + c.in_ok-more.more ≤ row_limit = grind (arith, long) in
    let text : c.put_shown.new.out.items ≡ c.loop-uid.text.items ++ list_text more = c.in_ok-more.ensures.text_is in
    subst (λ (us : List (List ℕ)). TextSoFar (Wants wanted) c.args.state.now c.args.window us (c.loop-uid.number + c.in_ok-more.more)
    c.put_shown.new.out.items) (sym done)
    (text_more (Wants wanted) c.args.state.now c.args.window (take i uids) c.loop-uid.number c.loop-uid.text.items c.loop-uid.invariant
    uid more later c.in_ok-more.ensures.are_rows (c.loop-uid.number + c.in_ok-more.more) sum few c.put_shown.new.out.items text)

pub returns-clause-text : goal.returns-clause-text
returns-clause-text c =
    let uids : List (List ℕ) = map (λ uid. uid.now) c.args.uids.now in
    let i : ℕ = c.loop-uid.uid-index in
    let all : take i uids ≡ uids = take_all i uids (rw (length-map c.args.uids.now (λ uid. uid.now)) c.loop-uid-test.false) in
    whole_text (Wants c.args.wanted.now) c.args.state.now c.args.window uids c.loop-uid.number c.loop-uid.text.items
    (subst (λ (us : List (List ℕ)). TextSoFar (Wants c.args.wanted.now) c.args.state.now c.args.window us c.loop-uid.number
    c.loop-uid.text.items) all c.loop-uid.invariant)

pub returns-in_err-more-clause-succeeds : goal.returns-in_err-more-clause-succeeds
returns-in_err-more-clause-succeeds c = λ none. absurd (none_left c.args.uids.now c.loop-uid.uid-index c.loop-uid-test.true none)

pub returns-then-more-number-clause-succeeds : goal.returns-then-more-number-clause-succeeds
returns-then-more-number-clause-succeeds c = λ none. absurd (none_left c.args.uids.now c.loop-uid.uid-index c.loop-uid-test.true none)
