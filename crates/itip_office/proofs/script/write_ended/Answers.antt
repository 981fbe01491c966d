use Rattle.std.proofs.Common.{◌≡◌, ℕ, ◌+◌, Bool, ◌||◌, List, [], ◌∷◌, ◌++◌, length, take, drop, sym, ap, subst, ◌∙◌, arith}
use Rattle.std.proofs.Common.{take-append-drop, length-take-le}
use Rattle.std.specs.Prelude.{is_some}
use Rattle.std.proofs.lemmas.List.{take_more}
use Rattle.itip_desk.specs.Desk.{Shown}
use Rattle.itip_streams.specs.Written.{AppendsFront}
use Rattle.itip_office.proofs.Listing.{IsListing, none_listed, front_listed, moved_out, one_written, front_of_list}
use Rattle.itip_office.proofs.Scripting.{on_err}
use Rattle.itip_office.proofs.script.write_ended.Goals as goal
use Rattle.itip_office.proofs.script.write_ended.Goals.{In_ok-most}

cut : (n : ℕ) (desks : List Shown) → desks ≡ take n desks ++ drop n desks
cut n desks = sym (take-append-drop n desks)

-- the listing with one more list, some of which was written
more : (g : _) (c : In_ok-most g) (said : Bool) → said ≡ is_some c.in_ok-most.most
    → IsListing c.args.window c.args.refused.now (take (c.loop-number.number + 1) c.args.desks.now)
    (g.W.Write.contents c.args.writer.now) (g.W.Write.contents c.write_list.new.writer)
    c.write_list.new.kept.items (c.loop-number.is_refused || said)
more g c said same =
    let at : c.loop-number.number ≡ length (take c.loop-number.number c.args.desks.now) =
    sym (length-take-le c.loop-number.number c.args.desks.now (omega arith)) in
    let more_is : take (c.loop-number.number + 1) c.args.desks.now ≡
    take c.loop-number.number c.args.desks.now ++ c.index-desks-number.result ∷ [] =
    take_more c.args.desks.now c.loop-number.number c.index-desks-number.result (omega arith) ∙
    ap (λ (d : Shown). take c.loop-number.number c.args.desks.now ++ d ∷ []) (sym c.index-desks-number.is) in
    one_written _ _ _ _ _ _ _ _ c.loop-number.invariant c.index-desks-number.result c.loop-number.number _ at more_is
    c.write_list.new.kept.items (is_some c.in_ok-most.most) said c.in_ok-most.ensures.list same

pub returns-in_err-append_refused-clause-front : goal.returns-in_err-append_refused-clause-front
returns-in_err-append_refused-clause-front g c =
    on_err c.from_residual.result (none_listed c.args.window c.args.refused.now c.args.desks.now _)

pub returns-in_err-most-clause-front : goal.returns-in_err-most-clause-front
returns-in_err-most-clause-front g c =
    let at : c.loop-number.number ≡ length (take c.loop-number.number c.args.desks.now) =
    sym (length-take-le c.loop-number.number c.args.desks.now (omega arith)) in
    let more_is : take (c.loop-number.number + 1) c.args.desks.now ≡
    take c.loop-number.number c.args.desks.now ++ c.index-desks-number.result ∷ [] =
    take_more c.args.desks.now c.loop-number.number c.index-desks-number.result (omega arith) ∙
    ap (λ (d : Shown). take c.loop-number.number c.args.desks.now ++ d ∷ []) (sym c.index-desks-number.is) in
    on_err c.from_residual-in_err-most.result
    (front_of_list _ _ _ _ _ _ _ _ c.loop-number.invariant c.index-desks-number.result c.loop-number.number _ at more_is _ _ _
    (cut c.loop-number.number c.args.desks.now) (cut (c.loop-number.number + 1) c.args.desks.now) c.in_err-most.ensures.front)

pub returns-in_err-write_if_many-clause-front : goal.returns-in_err-write_if_many-clause-front
returns-in_err-write_if_many-clause-front g c =
    on_err c.from_residual-in_err-write_if_many.result
    (front_listed _ _ _ _ _ _ _ (more g (goal.at.returns-in_err-write_if_many-clause-front g c).In_ok-most c.is_some-is_refused.result
    c.is_some-is_refused.ensures) _ _ _
    (cut (c.loop-number.number + 1) c.args.desks.now) c.in_err-write_if_many.ensures.front)

pub loop-number-preserved : goal.loop-number-preserved
loop-number-preserved g c =
    moved_out _ _ _ _ _ _ _ (more g (goal.at.loop-number-preserved g c).In_ok-most c.is_some-is_refused.result c.is_some-is_refused.ensures)
    _
    _ c.in_ok-write_if_many.ensures.moved

pub returns-in_err-write_output-clause-front : goal.returns-in_err-write_output-clause-front
returns-in_err-write_output-clause-front g c =
    on_err c.from_residual-in_err-write_output.result
    (front_listed _ _ _ _ _ _ _ c.loop-number.invariant _ _ _ (cut c.loop-number.number c.args.desks.now)
    (subst (λ (t : List ℕ). AppendsFront (g.W.Write.contents c.loop-number.writer) (g.W.Write.contents c.write_output.new.writer) t)
    c.as_slice.ensures.value c.in_err-write_output.ensures.front))
