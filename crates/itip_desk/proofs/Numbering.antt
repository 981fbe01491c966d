-- The numbers of texts, byte by byte.
use Rattle.std.proofs.Common.{◌≡◌, ◌∙◌, ◌<◌, ◌+◌, ℕ, List, [], ◌∷◌, ◌++◌, length, map, take, get_or, refl, sym, ap, subst, arith, ◌*◌}
use Rattle.std.specs.Char.{to_ascii_lowercase}
use Rattle.std.proofs.lemmas.List.{take_more, take-map, map_more}
use Rattle.itip_todo.specs.Table.{attendee_key}
use Rattle.std.proofs.lemmas.Nat.{mod_below}
use Rattle.itip_desk.specs.Numbers.{number_with, with_text, text_number, uid_number}

with_more : (n : ℕ) (text : List ℕ) (octet : ℕ) → with_text n (text ++ octet ∷ []) ≡ number_with (with_text n text) octet
with_more n [] octet = refl
with_more n (o ∷ text) octet = with_more (number_with n o) text octet

one_more : (before now : List ℕ) (octet n : ℕ) → now ≡ before ++ octet ∷ [] → n ≡ text_number before → number_with n octet ≡ text_number now
one_more before now octet n is so =
    ap (λ m. number_with m octet) so ∙ sym (with_more 0 before octet) ∙ ap text_number (sym is)

-- the number of the first bytes, and one more
pub number_more : (octets text : List ℕ) → octets ≡ text → (i n d : ℕ) → i < length octets → n ≡ text_number (take i text) →
    number_with n (get_or octets i d) ≡ text_number (take (i + 1) text)
number_more octets text same i n d below so = subst (λ (t : List ℕ). number_with n (get_or octets i d) ≡ text_number (take (i + 1) t)) same
    (one_more (take i octets) (take (i + 1) octets) (get_or octets i d) n (take_more octets i d below)
    (so ∙ ap (λ (t : List ℕ). text_number (take i t)) (sym same)))

-- the same for an address in lower case
pub key_more : (octets address : List ℕ) → octets ≡ address → (i n d : ℕ) → i < length octets →
    n ≡ text_number (take i (attendee_key address)) →
    number_with n (to_ascii_lowercase (get_or octets i d)) ≡ text_number (take (i + 1) (attendee_key address))
key_more octets address same i n d below so =
    subst (λ (t : List ℕ). number_with n (to_ascii_lowercase (get_or octets i d)) ≡ text_number (take (i + 1) (attendee_key t))) same
    (one_more (map to_ascii_lowercase (take i octets)) (take (i + 1) (attendee_key octets)) (to_ascii_lowercase (get_or octets i d)) n
    (take-map to_ascii_lowercase (i + 1) octets ∙ map_more to_ascii_lowercase octets i d below)
    (so ∙ ap (λ (t : List ℕ). text_number (take i (attendee_key t))) (sym same) ∙ ap text_number (take-map to_ascii_lowercase i octets)))

-- ---- the number of a UID is neither of the two that are reserved for bounds
small_with : (n : ℕ) (text : List ℕ) → n < 4294967291 → with_text n text < 4294967291
small_with n [] below = below
small_with n (octet ∷ octets) below = small_with (number_with n octet) octets (mod_below (n * 16777619 + octet) 4294967291 (omega arith))

pub uid_inside : (uid : List ℕ) → (0 < uid_number uid) × (uid_number uid < 4294967295)
uid_inside uid = let small : text_number uid < 4294967291 = small_with 0 uid (omega arith) in (omega arith, omega (arith, small))
