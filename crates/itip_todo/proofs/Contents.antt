-- The octets of lines one after another.
use Rattle.std.proofs.Common.{◌≡◌, ℕ, ◌+◌, ◌<◌, List, [], ◌∷◌, ◌++◌, length, take, get_or, map, refl, sym, ap, ◌∙◌, append_assoc}
use Rattle.std.proofs.lemmas.List.{map-append, take_more}
use Rattle.itip_todo.specs.Written.{Content, content_octets, contents_octets}

pub contents_octets-append : (xs ys : List Content) → contents_octets (xs ++ ys) ≡ contents_octets xs ++ contents_octets ys
contents_octets-append [] ys = refl
contents_octets-append (x ∷ xs) ys = ap (λ rest. content_octets x ++ rest) (contents_octets-append xs ys) ∙
    sym (append_assoc (content_octets x) (contents_octets xs) (contents_octets ys))

-- lines after lines
pub then_lines : (old mid new : List ℕ) (xs ys : List Content) → mid ≡ old ++ contents_octets xs → new ≡ mid ++ contents_octets ys →
    new ≡ old ++ contents_octets (xs ++ ys)
then_lines old mid new xs ys first second =
    second ∙ ap (λ (m : List ℕ). m ++ contents_octets ys) first ∙ append_assoc old (contents_octets xs) (contents_octets ys) ∙
    ap (λ (rest : List ℕ). old ++ rest) (sym (contents_octets-append xs ys))

-- the line of one more element
pub one_more : {A : Type 0} (f : A → Content) (xs : List A) (i : ℕ) (x : A) (old mid new : List ℕ) → i < length xs → x ≡ get_or xs i x →
    mid ≡ old ++ contents_octets (map f (take i xs)) → new ≡ mid ++ contents_octets (f x ∷ [])
    → new ≡ old ++ contents_octets (map f (take (i + 1) xs))
one_more {A} f xs i x old mid new less is first second =
    then_lines old mid new (map f (take i xs)) (f x ∷ []) first second
    ∙ ap (λ (cs : List Content). old ++ contents_octets cs) (sym (map-append f (take i xs) (x ∷ [])) ∙
    ap (map f) (sym (take_more xs i x less ∙ ap (λ (y : A). take i xs ++ y ∷ []) (sym is))))
