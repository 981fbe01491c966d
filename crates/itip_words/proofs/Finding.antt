-- What is found, and that nothing is.
use Rattle.std.proofs.Common.{◌≡◌, ◌≢◌, ℕ, List, Bool, true, false, Option, Some, None, refl, sym, subst, ◌∙◌}
use Rattle.std.specs.Prelude.{IfSome, IfNone, IsSomeAnd, bytes_eq, is_some, nat_eq}
use Rattle.std.specs.Option.{option_map}
use Rattle.std.specs.Cmp.Lexicographic.{pointwise}
use Rattle.std.proofs.lemmas.Option.{none-some, same_Some}
use Rattle.std.proofs.lemmas.Slice.Eq.{bytes_eq-Decides}
use Rattle.itip_words.specs.Asking.{IsRead}
use Rattle.itip_words.specs.Finding.{Never, Finds}
use Rattle.itip_words.proofs.Given.{given, of_given}

pub finds_none : {T : Type 0} (P : T → Type 0) (found : Option T) → found ≡ None → Never P → Finds P found
finds_none P None e never = never
finds_none P (Some x) e never = absurd (none-some x (sym e))

pub finds_both : {T : Type 0} (P : T → Type 0) (found : Option T) → IfSome found P → IfNone found (Never P) → Finds P found
finds_both P None some none = none
finds_both P (Some x) some none = some

-- what is found for P is found for Q, if both hold of the same
pub finds_as : {T : Type 0} (P Q : T → Type 0) (found : Option T) → ((x : T) → P x → Q x) → ((x : T) → Q x → P x) → Finds P found →
    Finds Q found
finds_as P Q None more less never = λ x q. never x (less x q)
finds_as P Q (Some x) more less p = more x p

pub found_some : {T : Type 0} (P : T → Type 0) (found : Option T) → Finds P found → IfSome found P
found_some P None never = tt
found_some P (Some x) p = p

pub found_none : {T : Type 0} (P : T → Type 0) (found : Option T) → Finds P found → IfNone found (Never P)
found_none P None never = never
found_none P (Some x) p = tt

-- ---- what is read of a text

-- nothing is read of a text that stands for nothing
pub nothing_read : {T : Type 0} (Is : List ℕ → T → Type 0) (text : List ℕ) → Never (Is text) → (value : Option T) →
    IsRead Is (Some text) value → ⊥
nothing_read Is text never None is = is
nothing_read Is text never (Some value) is = never value is

pub none_read : {T : Type 0} (Is : List ℕ → T → Type 0) (word : Option (List ℕ)) (text : List ℕ) → word ≡ Some text → Never (Is text) →
    Never (IsRead Is word)
none_read Is word text is never = subst (λ (o : Option (List ℕ)). Never (IsRead Is o)) (sym is) (nothing_read Is text never)

pub not_read : {T : Type 0} (read : List ℕ → Option T) (text : List ℕ) → None ≡ read text → Never (λ (value : T). read text ≡ Some value)
not_read read text none = λ value is. none-some value (none ∙ is)

-- a value is read of a text that is given
pub finds_by : {T : Type 0} (read : List ℕ → Option T) (o : Option (List ℕ)) (text : List ℕ) (r : Option T) → Some text ≡ o →
    r ≡ read text → Finds (λ (value : T). IsSomeAnd o (λ t. read t ≡ Some value)) r
finds_by read o text None e is = λ value found. none-some value (is ∙ of_given o text (λ t. read t ≡ Some value) e found)
finds_by read o text (Some value) e is = given o text (λ t. read t ≡ Some value) e (sym is)

-- one value is read of what is given
pub one_given : {T : Type 0} (read : List ℕ → Option T) (o : Option (List ℕ)) (x y : T) → IsSomeAnd o (λ t. read t ≡ Some x) →
    IsSomeAnd o (λ t. read t ≡ Some y) → x ≡ y
one_given read None x y p q = absurd p
one_given read (Some text) x y p q = same_Some x y (sym p ∙ q)

-- ---- tests of words

pub apart : (a b : List ℕ) → bytes_eq a b ≡ false → a ≢ b
apart a b differ = λ e. let bad : false ≡ true = sym differ ∙ (bytes_eq-Decides a b).1 e in absurd cc

-- what a test of a word tells if it fails
pub not_named : (word name : List ℕ) (test : Bool) → test ≡ pointwise nat_eq word name → test ≡ false → word ≢ name
not_named word name test is fails = apart word name (sym is ∙ fails)

pub some_mapped : {T U : Type 0} (f : T → U) (o : Option T) → is_some o ≡ is_some (option_map f o)
some_mapped f None = refl
some_mapped f (Some x) = refl

pub none_there : {T : Type 0} (o : Option T) → is_some o ≡ false → o ≡ None
none_there None is = refl
none_there (Some x) is = let bad : true ≡ false = is in absurd cc

pub some_there : {T : Type 0} (o : Option T) → is_some o ≡ true → o ≢ None
some_there None is = λ e. let bad : false ≡ true = is in absurd cc
some_there (Some x) is = λ e. none-some x (sym e)
