-- What a line of a stream asks of a desk leaves it as it is.
use Rattle.std.proofs.Common.{◌≡◌, ◌∙◌, Bool, true, false, cond, eqb, ℕ, List, [], ◌∷◌, length, Option, Some, None, refl, ap, sym}
use Rattle.std.proofs.Common.{arith, eqb-true}
use Rattle.std.specs.Prelude.{IfSome, unwrap_or, option_map, codes, if◌then◌else◌}
use Rattle.std.specs.Str.{bytes_eq}
use Rattle.itip_script.specs.Lines.{content_of}
use Rattle.itip_script.specs.Orders.{Order, before_space, after_space, number_of, rest_of, report_of, verb_of, ◌>>=◌}
use Rattle.itip_script.specs.Orders.{lists, lists_for, reports, resends, asks_next, counts}
use Rattle.itip_script.specs.Stream.{Wish, asks, malformed, empty, saves, takes, arrives, posts, following, two_numbers, saving, wish_by}
use Rattle.itip_script.specs.Stream.{spelled_wish, wish_at, ends_line, AsksBy}
use Rattle.itip_world.specs.Looking.{OnlyAsks}
use Rattle.itip_world.specs.Serving.{AsksOnly}

-- ---- what is spelled

some_bound : {A B : Type 0} (P : B → Type 0) (o : Option A) (f : A → Option B) → ((a : A) → IfSome (f a) P) → IfSome (o >>= f) P
some_bound P None f each = tt
some_bound P (Some a) f each = each a

asked_only : (o : Option Order) → IfSome o OnlyAsks → IfSome (option_map asks o) AsksOnly
asked_only None only = tt
asked_only (Some order) only = only

two_only : (make : ℕ → ℕ → Wish) (arguments : List ℕ) → ((a b : ℕ) → AsksOnly (make a b)) → IfSome (two_numbers make arguments) AsksOnly
two_only make arguments each =
    some_bound AsksOnly (number_of (before_space arguments))
    (λ (first : ℕ). number_of (after_space arguments) >>= λ (second : ℕ). Some (make first second))
    (λ first. some_bound AsksOnly (number_of (after_space arguments)) (λ (second : ℕ). Some (make first second))
    (λ second. each first second))

saving_only : (arguments : List ℕ) → IfSome (saving arguments) AsksOnly
saving_only arguments =
    some_bound AsksOnly (number_of (before_space arguments))
    (λ (desk : ℕ). rest_of (after_space arguments) >>= λ (file : List ℕ). Some (saves desk file))
    (λ desk. some_bound AsksOnly (rest_of (after_space arguments)) (λ (file : List ℕ). Some (saves desk file)) (λ file. tt))

-- of a desk alone
desk_only : (make : ℕ → Order) (arguments : List ℕ) → ((desk : ℕ) → OnlyAsks (make desk)) →
    IfSome (option_map asks (number_of arguments >>= λ (desk : ℕ). Some (make desk))) AsksOnly
desk_only make arguments each =
    asked_only (number_of arguments >>= λ (desk : ℕ). Some (make desk))
    (some_bound OnlyAsks (number_of arguments) (λ (desk : ℕ). Some (make desk)) each)

-- of a desk, with what follows it
with_only : {A : Type 0} (make : ℕ → A → Order) (read : List ℕ → Option A) (arguments : List ℕ) →
    ((desk : ℕ) (a : A) → OnlyAsks (make desk a)) →
    IfSome (option_map asks (number_of (before_space arguments) >>= λ (desk : ℕ). read (after_space arguments) >>= λ (a : A). Some
    (make desk a)))
    AsksOnly
with_only {A} make read arguments each =
    asked_only (number_of (before_space arguments) >>= λ (desk : ℕ). read (after_space arguments) >>= λ (a : A). Some (make desk a))
    (some_bound OnlyAsks (number_of (before_space arguments)) (λ (desk : ℕ). read (after_space arguments) >>= λ (a : A). Some (make desk a))
    (λ desk. some_bound OnlyAsks (read (after_space arguments)) (λ (a : A). Some (make desk a)) (λ a. each desk a)))

-- where a test chooses between two words
either : {A : Type 0} (t : Bool) (first other : Option A) (f : A → Option Wish) → IfSome (first >>= f) AsksOnly →
    IfSome (other >>= f) AsksOnly → IfSome ((if t then first else other) >>= f) AsksOnly
either true first other f here there = here
either false first other f here there = there

-- each word that begins a command; `verb_of` returns the verb of its own spelling
verb_only : (word arguments : List ℕ) → IfSome (verb_of word >>= λ v. wish_by v arguments) AsksOnly
verb_only word arguments =
    either (bytes_eq word (codes "!take")) (verb_of (codes "!take")) _ (λ v. wish_by v arguments)
    (two_only takes arguments (λ a b. tt))
    (either (bytes_eq word (codes "!list")) (verb_of (codes "!list")) _ (λ v. wish_by v arguments)
    (desk_only lists arguments (λ desk. tt))
    (either (bytes_eq word (codes "!mine")) (verb_of (codes "!mine")) _ (λ v. wish_by v arguments)
    (with_only lists_for rest_of arguments (λ desk address. tt))
    (either (bytes_eq word (codes "!post")) (verb_of (codes "!post")) _ (λ v. wish_by v arguments)
    (two_only posts arguments (λ a b. tt))
    (either (bytes_eq word (codes "!arrive")) (verb_of (codes "!arrive")) _ (λ v. wish_by v arguments)
    (two_only arrives arguments (λ a b. tt))
    (either (bytes_eq word (codes "!report")) (verb_of (codes "!report")) _ (λ v. wish_by v arguments)
    (with_only reports report_of arguments (λ desk named. tt))
    (either (bytes_eq word (codes "!resend")) (verb_of (codes "!resend")) _ (λ v. wish_by v arguments)
    (with_only resends rest_of arguments (λ desk uid. tt))
    (either (bytes_eq word (codes "!next")) (verb_of (codes "!next")) _ (λ v. wish_by v arguments)
    (with_only asks_next rest_of arguments (λ desk uid. tt))
    (either (bytes_eq word (codes "!entries")) (verb_of (codes "!entries")) None (λ v. wish_by v arguments)
    (desk_only counts arguments (λ desk. tt)) tt))))))))

spelled_only : (said : List ℕ) → IfSome (spelled_wish said) AsksOnly
spelled_only said =
    elim (bytes_eq (before_space said) (codes "!save")) as (λ t. IfSome
    (cond t (saving (after_space said)) (verb_of (before_space said) >>= λ v. wish_by v (after_space said))) AsksOnly) [
      | true ↦ saving_only (after_space said)
      | false ↦ verb_only (before_space said) (after_space said)
    ]

or_malformed : (o : Option Wish) (octets : ℕ) → IfSome o AsksOnly → AsksOnly (unwrap_or o (malformed octets))
or_malformed None octets only = tt
or_malformed (Some wish) octets only = only

pub wish_only : (bytes : List ℕ) → AsksOnly (wish_at bytes)
wish_only bytes =
    let said = content_of bytes in
    elim (eqb (length said) 0) as (λ t. AsksOnly (cond t empty (unwrap_or (spelled_wish said) (malformed (following said))))) [
      | true ↦ tt
      | false ↦ or_malformed (spelled_wish said) (following said) (spelled_only said)
    ]

-- ---- a line that was found

pub asks_nothing : (line : List ℕ) → (eqb (length line) 0) ≡ true → AsksBy (Some line) None
asks_nothing [] none = refl
asks_nothing (b ∷ line) none = absurd (omega (arith, eqb-true (length (b ∷ line)) 0 none))

pub asks_line : (line : List ℕ) (asked : Wish) → (eqb (length line) 0) ≡ false → ends_line line ≡ true → asked ≡ wish_at line →
    AsksBy (Some line) (Some asked)
asks_line [] asked some ended is = absurd cc
asks_line (b ∷ line) asked some ended is =
    ap Some (is ∙ sym (ap (λ (t : Bool). cond t (wish_at (b ∷ line)) (malformed 0)) ended))

pub asks_cut : (line : List ℕ) → (eqb (length line) 0) ≡ false → ends_line line ≡ false → AsksBy (Some line) (Some (malformed 0))
asks_cut [] some cut = absurd cc
asks_cut (b ∷ line) some cut = ap Some (sym (ap (λ (t : Bool). cond t (wish_at (b ∷ line)) (malformed 0)) cut))
