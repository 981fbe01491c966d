use Rattle.std.proofs.Common.{◌≡◌, ◌∙◌, ◌++◌, ◌∷◌, ℕ, List, ap, length, length-append, arith}
use Rattle.itip_lines.specs.ParamsText.{params_in}
use Rattle.itip_todo.specs.Places.{property_at, IsPlaceIn}
use Rattle.itip_todo.specs.declared.place.Place.{Place}
use Rattle.itip_todo.proofs.Placing.{Appends, appended, place_stands, placed, property_stands}
use Rattle.itip_todo.proofs.place.append.Goals as goal

pub returns-clause-stands : goal.returns-clause-stands
returns-clause-stands c =
    let old : List ℕ = c.args.text.now.items in
    let text : List ℕ = c.extend_from_slice-2.new.self.items in
    let front : c.extend_from_slice.new.self.items ≡ old ++ c.args.params.now =
    c.in_ok-extend_from_slice.ensures.items ∙ ap (λ (t : List ℕ). old ++ t) c.as_bytes.ensures.value in
    let behind : text ≡ c.push.new.self.items ++ c.args.value.now =
    c.in_ok-extend_from_slice-2.ensures.items ∙ ap (λ (t : List ℕ). c.push.new.self.items ++ t) c.as_bytes-2.ensures.value in
    let at : Place = record { start = c.len-start.result; colon = c.len-colon.result; end = c.len.result } in
    let whole = appended old c.args.params.now c.args.value.now _ _ _ front c.in_ok-push.ensures.items behind in
    let appends : Appends old c.args.params.now c.args.value.now text at = record {
      whole = whole;
      start = omega (arith, c.len-start.ensures, c.args.text.now.ok.0);
      colon = omega (
        arith,
        c.len-start.ensures,
        c.args.text.now.ok.0,
        c.len-colon.ensures,
        c.extend_from_slice.new.self.ok.0,
        ap length front,
        length-append old c.args.params.now,
      );
      end = omega (
        arith,
        c.len-start.ensures,
        c.args.text.now.ok.0,
        c.len-colon.ensures,
        c.extend_from_slice.new.self.ok.0,
        ap length front,
        length-append old c.args.params.now,
        c.len.ensures,
        c.extend_from_slice-2.new.self.ok.0,
        ap length whole,
        length-append old (c.args.params.now ++ 58 ∷ c.args.value.now),
        length-append c.args.params.now (58 ∷ c.args.value.now),
      );
    } in
    placed c.placed.result at
    (λ (p : Place). IsPlaceIn text p × (property_at text p ≡ record { params = params_in c.args.params.now; value = c.args.value.now }))
    c.placed.ensures (
      place_stands old c.args.params.now c.args.value.now text at appends c.requires c.utf8.value,
      property_stands old c.args.params.now c.args.value.now text at appends,
    )
