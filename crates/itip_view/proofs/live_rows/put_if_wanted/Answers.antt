use Rattle.std.proofs.Common.{◌≡◌, ◌∙◌, ◌++◌, ◌∷◌, [], Option, refl, sym, ap, subst, length, true, false, append-nil}
use Rattle.std.specs.Prelude.{cond}
use Rattle.itip_view.specs.ListText.{list_text, row_text}
use Rattle.itip_view.specs.PutRows.{IsPut}
use Rattle.itip_view.specs.Wanted.{wants}
use Rattle.itip_view.specs.declared.row.Row.{Row}
use Rattle.itip_view.proofs.live_rows.put_if_wanted.Goals as goal

pub returns-in_default : goal.returns-in_default
returns-in_default c =
    subst (λ (row : Option Row). IsPut c.args.wanted.now row c.args.out.now.items c.args.out.now.items false) (sym c.in_default.is)
    (record { number_is = refl; text_is = sym (append-nil c.args.out.now.items) })

pub returns-then-not-has : goal.returns-then-not-has
returns-then-not-has c =
    let row : Row = c.in-Some.row in
    let off : wants c.args.wanted.now row ≡ false = sym c.has.ensures ∙ c.if-not-has.true in
    subst (λ (row : Option Row). IsPut c.args.wanted.now row c.args.out.now.items c.args.out.now.items false) (sym c.in-Some.is)
    (record {
      number_is = ap (λ b. length (cond b (row ∷ []) [])) off;
      text_is = sym (append-nil c.args.out.now.items) ∙ ap (λ b. c.args.out.now.items ++ list_text (cond b (row ∷ []) [])) (sym off);
    })

pub returns : goal.returns
returns c =
    let row : Row = c.in-Some.row in
    let on : wants c.args.wanted.now row ≡ true = sym c.has.ensures ∙ c.if-not-has.false in
    subst (λ (row : Option Row). IsPut c.args.wanted.now row c.args.out.now.items c.write_row.new.out.items true) (sym c.in-Some.is)
    (record {
      number_is = ap (λ b. length (cond b (row ∷ []) [])) on;
      text_is = c.in_ok-write_row.ensures ∙ ap (λ rest. c.args.out.now.items ++ rest) (sym (append-nil (row_text row))) ∙
          ap (λ b. c.args.out.now.items ++ list_text (cond b (row ∷ []) [])) (sym on);
    })
