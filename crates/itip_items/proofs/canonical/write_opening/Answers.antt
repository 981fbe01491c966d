use Rattle.std.proofs.Common.{◌≡◌, ◌∙◌, ap, sym, ◌++◌, ◌∷◌, [], List, ℕ, append_assoc, append-nil, Result, Ok, Err}
use Rattle.std.specs.Prelude.{OnOk, is_ok, cond, codes}
use Rattle.itip_todo.specs.Written.{contents_octets, content_octets}
use Rattle.itip_items.specs.Items.{bare, method_of, method_text, opening_contents}
use Rattle.itip_items.specs.declared.kind.Kind.{Kind}
use Rattle.itip_items.proofs.canonical.write_opening.Goals as goal

abbrev method_octets : Kind → List ℕ
method_octets k = content_octets (bare (codes "METHOD") (method_text (method_of k)))

-- the lines before METHOD
abbrev first : List ℕ
first = contents_octets (bare (codes "BEGIN") (codes "VCALENDAR") ∷ bare (codes "PRODID") (codes "-//itipdesk//1//EN") ∷
    bare (codes "VERSION") (codes "2.0") ∷ [])

opened : {E : Type 0} (r : Result (Unit {0}) E) (k : Kind) (old mid new line : List ℕ) → mid ≡ old ++ first → line ≡ method_octets k →
    new ≡ cond (is_ok r) (mid ++ line) mid → OnOk r (new ≡ old ++ contents_octets (opening_contents k))
opened (Ok u) k old mid new line p q e =
    e ∙ ap (λ (l : List ℕ). mid ++ l) q ∙ ap (λ (m : List ℕ). m ++ method_octets k) p ∙ append_assoc old first (method_octets k) ∙
    ap (λ (l : List ℕ). old ++ (first ++ l)) (sym (append-nil (method_octets k)))
opened (Err x) k old mid new line p q e = tt

pub returns : goal.returns
returns c =
    opened c.extend_from_slice-2.result c.args.kind c.args.out.now.items c.extend_from_slice.new.self.items
    c.extend_from_slice-2.new.self.items c.method_line.result.now c.in_ok-extend_from_slice.ensures.items c.method_line.ensures
    c.extend_from_slice-2.ensures.items
