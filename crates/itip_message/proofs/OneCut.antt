-- Bytes are cut into messages in one way.
use Rattle.std.proofs.Common.{◌≡◌, ◌∙◌, sym, ap, refl, ℕ, ◌<◌, Bool, true, false, List, [], ◌∷◌, ◌++◌, length, arith, subst, inl, inr}
use Rattle.std.proofs.Common.{append_assoc, append-nil}
use Rattle.std.specs.Prelude.{◌⊎◌, IsTrue, map}
use Rattle.std.specs.List.{concat, AllByRecursion}
use Rattle.itip_lines.specs.UnfoldedLines.{Piece, unfolded, without_empty, lines_of}
use Rattle.itip_lines.specs.Stretches.{LacksBlank, lines_onto}
use Rattle.itip_lines.proofs.Cuttings.{lines_of_cut}
use Rattle.itip_message.specs.Cutting.{is_calendar_end, EndNoCalendar, IsCalendar, AreApart, IsRest, unless_empty, IsCutInto}
use Rattle.itip_message.proofs.Unfolding.{lines_some, lines_of_cutting, lines_then, lines_blank}

same_cons : {A : Type 0} (x y : A) (xs ys : List A) → x ∷ xs ≡ y ∷ ys → (x ≡ y) × (xs ≡ ys)
same_cons x y xs ys e = (cc, cc)

no_more : {A : Type 0} (xs : List A) (y : A) (ys : List A) → [] ≡ xs ++ y ∷ ys → ⊥
no_more [] y ys e = cc
no_more (x ∷ xs) y ys e = cc

never : {b : Bool} → b ≡ false → b ≡ true → ⊥
never h k = let e : false ≡ true = sym h ∙ k in cc

-- of two fronts of a text one begins with the other
fronts : (p t m a : List ℕ) → p ++ t ≡ m ++ a → ((x : List ℕ) × (m ≡ p ++ x) × (t ≡ x ++ a)) ⊎ ((x : List ℕ) × (p ≡ m ++ x) × (a ≡ x ++ t))
fronts [] t m a e = inl (m, refl, e)
fronts (b ∷ p) t [] a e = inr (b ∷ p, refl, sym e)
fronts (b ∷ p) t (c ∷ m) a e =
    let same = same_cons b c (p ++ t) (m ++ a) e in
    elim (fronts p t m a same.1) [
      | inl f ↦ inl (f.0, (λ i. sym same.0 i ∷ f.1 i), f.2)
      | inr f ↦ inr (f.0, (λ i. same.0 i ∷ f.1 i), f.2)
    ]

-- lines of which at most the last ends a calendar, and lines up to one that does
only_last : (fs gs rest : List (List ℕ)) (l k : List ℕ) → EndNoCalendar fs → IsTrue (is_calendar_end k) → fs ++ l ∷ [] ≡ gs ++ k ∷ rest →
    rest ≡ []
only_last [] [] rest l k none ends e = sym (same_cons l k [] rest e).1
only_last [] (g ∷ gs) rest l k none ends e = absurd (no_more gs k rest (same_cons l g [] (gs ++ k ∷ rest) e).1)
only_last (f ∷ fs) [] rest l k none ends e =
    absurd (never (subst (λ (x : List ℕ). is_calendar_end x ≡ false) (same_cons f k (fs ++ l ∷ []) rest e).0 none.0) ends)
only_last (f ∷ fs) (g ∷ gs) rest l k none ends e = only_last fs gs rest l k none.1 ends (same_cons f g (fs ++ l ∷ []) (gs ++ k ∷ rest) e).1

-- physical lines with a line among them are some
pieces_some : (ps : List Piece) (front : List (List ℕ)) (line : List ℕ) → unfolded (map (λ p. p.text) ps) ≡ front ++ line ∷ [] →
    0 < length ps
pieces_some [] front line e = absurd (no_more front line [] e)
pieces_some (p ∷ ps) front line e = omega arith

lines_on : (p t : List ℕ) (is : IsCalendar p) → LacksBlank t → lines_onto [] (p ++ t) ≡ is.front ++ is.line ∷ lines_onto [] t
lines_on p t is lacks =
    ap (λ x. lines_onto [] (x ++ t)) is.cut.whole ∙
    lines_then is.pieces t is.cut.each (pieces_some is.pieces is.front is.line is.lines) lacks
    ∙ ap (λ ls. ls ++ lines_onto [] t) is.lines ∙ append_assoc is.front (is.line ∷ []) (lines_onto [] t)

lines_and_blank : (p : List ℕ) (is : IsCalendar p) → lines_onto [] (p ++ 32 ∷ []) ≡ is.front ++ is.line ∷ []
lines_and_blank p is =
    ap (λ x. lines_onto [] (x ++ 32 ∷ [])) is.cut.whole ∙
    lines_blank is.pieces is.cut.each (pieces_some is.pieces is.front is.line is.lines) ∙ is.lines

lacks_front : (x a : List ℕ) → LacksBlank (x ++ a) → LacksBlank x
lacks_front x a lacks = λ b more e. lacks b (more ++ a) (ap (λ y. y ++ a) e)

-- no calendar goes on after another
not_longer : (p x : List ℕ) → IsCalendar p → IsCalendar (p ++ x) → LacksBlank x → x ≡ []
not_longer p [] is longer lacks = refl
not_longer p (b ∷ x) is longer lacks =
    let behind : LacksBlank ((b ∷ x) ++ 32 ∷ []) = λ c more e. lacks c x (same_first b c x (x ++ 32 ∷ []) more e) in
    let two : longer.front ++ longer.line ∷ [] ≡ is.front ++ is.line ∷ lines_onto [] ((b ∷ x) ++ 32 ∷ []) =
    sym (lines_and_blank (p ++ b ∷ x) longer) ∙ ap (lines_onto []) (append_assoc p (b ∷ x) (32 ∷ [])) ∙
    lines_on p ((b ∷ x) ++ 32 ∷ []) is behind in
    absurd (lines_some ((b ∷ x) ++ 32 ∷ []) (only_last longer.front is.front (lines_onto [] ((b ∷ x) ++ 32 ∷ [])) longer.line is.line
    longer.none_before is.ends two))
  where
    same_first : (b c : ℕ) (x y more : List ℕ) → b ∷ y ≡ c ∷ more → b ∷ x ≡ c ∷ x
    same_first b c x y more e = ap (λ h. h ∷ x) (same_cons b c y more e).0

module _ (p t m a : List ℕ) (is : IsCalendar p) (other : IsCalendar m) (lacks : LacksBlank t) (apart : LacksBlank a) where
  first_same : p ++ t ≡ m ++ a → (p ≡ m) × (t ≡ a)
  first_same e =
      elim (fronts p t m a e) [
        | inl f ↦
            let none : f.0 ≡ [] = not_longer p f.0 is (subst IsCalendar f.1 other) (lacks_front f.0 a (subst LacksBlank f.2 lacks)) in
            (sym (f.1 ∙ ap (λ x. p ++ x) none ∙ append-nil p), f.2 ∙ ap (λ x. x ++ a) none)
        | inr f ↦
            let none : f.0 ≡ [] = not_longer m f.0 other (subst IsCalendar f.1 is) (lacks_front f.0 t (subst LacksBlank f.2 apart)) in
            (f.1 ∙ ap (λ x. m ++ x) none ∙ append-nil m, sym (f.2 ∙ ap (λ x. x ++ t) none))
      ]

-- what is left has no calendar at its front
rest_apart : (rest m a : List ℕ) → IsRest rest → IsCalendar m → LacksBlank a → rest ≡ m ++ a → ⊥
rest_apart rest m a is calendar lacks e =
    let two : is.front ++ is.line ∷ [] ≡ calendar.front ++ calendar.line ∷ lines_onto [] a =
    sym is.lines ∙ lines_of_cutting rest is.pieces is.last is.cut ∙ ap (lines_onto []) e ∙ lines_on m a calendar lacks in
    lines_some a (only_last is.front calendar.front (lines_onto [] a) is.line calendar.line is.none_before calendar.ends two)

all_same : (ps qs : List (List ℕ)) (r s : List ℕ) → AllByRecursion IsCalendar ps → AllByRecursion IsCalendar qs → AreApart ps r →
    AreApart qs s → IsRest r → IsRest s → concat ps ++ r ≡ concat qs ++ s → (ps ≡ qs) × (r ≡ s)
all_same [] [] r s each others apart so left rest e = (refl, e)
all_same [] (q ∷ qs) r s each others apart so left rest e =
    absurd (rest_apart r q (concat qs ++ s) left others.0 so.0 (e ∙ append_assoc q (concat qs) s))
all_same (p ∷ ps) [] r s each others apart so left rest e =
    absurd (rest_apart s p (concat ps ++ r) rest each.0 apart.0 (sym e ∙ append_assoc p (concat ps) r))
all_same (p ∷ ps) (q ∷ qs) r s each others apart so left rest e =
    let first = first_same p (concat ps ++ r) q (concat qs ++ s) each.0 others.0 apart.0 so.0 (sym (append_assoc p (concat ps) r) ∙ e ∙
    append_assoc q (concat qs) s) in
    let more = all_same ps qs r s each.1 others.1 apart.1 so.1 left rest first.1 in
    ((λ i. first.0 i ∷ more.0 i), more.1)

-- bytes are cut into one list of messages
pub one_cut : (bytes : List ℕ) (messages others : List (List ℕ)) → IsCutInto bytes messages → IsCutInto bytes others → messages ≡ others
one_cut bytes messages others h k =
    let same = all_same h.calendars k.calendars h.rest k.rest h.each k.each h.apart k.apart h.rest_is k.rest_is (sym h.whole ∙ k.whole) in
    let left : lines_of h.rest_is.pieces h.rest_is.last ≡ without_empty (lines_onto [] h.rest) =
    lines_of_cut h.rest h.rest_is.pieces h.rest_is.last h.rest_is.cut in
    let right : lines_of k.rest_is.pieces k.rest_is.last ≡ without_empty (lines_onto [] k.rest) =
    lines_of_cut k.rest k.rest_is.pieces k.rest_is.last k.rest_is.cut in
    h.messages_are ∙ ap (λ ls. h.calendars ++ unless_empty h.rest ls) left ∙
    (λ i. same.0 i ++ unless_empty (same.1 i) (without_empty (lines_onto [] (same.1 i))))
    ∙ ap (λ ls. k.calendars ++ unless_empty k.rest ls) (sym right) ∙ sym k.messages_are
