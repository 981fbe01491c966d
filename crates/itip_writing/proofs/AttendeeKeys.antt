-- The keys of attendees, which are looked up.
use Rattle.std.proofs.Common.{◌≡◌, ◌↔◌, ◌∙◌, ◌+◌, ◌<◌, ◌||◌, ℕ, Bool, true, false, List, [], length, map, take, get_or, sym, ap, subst}
use Rattle.std.specs.Prelude.{IsTrue}
use Rattle.std.specs.BTreeMap.{is_at}
use Rattle.std.specs.BTreeSet.{BTreeSet, contains}
use Rattle.std.specs.Cmp.Lexicographic.{slice_cmp, nat_list_eq_equiv}
use Rattle.std.specs.List.{list_any}
use Rattle.std.specs.Ordering.{nat_cmp}
use Rattle.std.proofs.lemmas.List.Folds.{list_any_more, Any-from_list_any, list_any-from_Any}
use Rattle.itip_todo.specs.Participation.{same_text}
use Rattle.itip_todo.specs.Properties.{Property}
use Rattle.itip_todo.specs.Table.{attendee_key}
use Rattle.itip_todo.proofs.Names.{text_is}
use Rattle.itip_view.specs.declared.row.ShownAttendee.{ShownAttendee}
use Rattle.itip_writing.specs.Removing.{HasKeys, ShowsOne, is_one_of}
use Rattle.itip_writing.proofs.MappedTests.{any_mapped}

-- a set without keys
pub no_keys : (set : BTreeSet (List ℕ)) → set.keys ≡ [] → (key : List ℕ) → contains (slice_cmp nat_cmp) set key ≡ false
no_keys set none key = ap (list_any (is_at (slice_cmp nat_cmp key))) none

-- the key of one more
pub keys_more : {X : Type 0} (key_of : X → List ℕ) (xs : List X) (i : ℕ) (x : X) (old new : BTreeSet (List ℕ)) → i < length xs →
    x ≡ get_or xs i x → HasKeys key_of (take i xs) old →
    ((key : List ℕ) → contains (slice_cmp nat_cmp) new key ≡ (contains (slice_cmp nat_cmp) old key || same_text key (key_of x)))
    → HasKeys key_of (take (i + 1) xs) new
keys_more key_of xs i x old new below here was more key =
    more key ∙ (λ j. was key j || same_text key (key_of (here j))) ∙ sym (list_any_more (λ y. same_text key (key_of y)) xs i x below)

-- an address is looked up among the keys of shown attendees
pub shows_one : (shown : List ShownAttendee) (address : List ℕ) (b : Bool) →
    b ≡ list_any (λ (a : ShownAttendee). same_text (attendee_key address) (attendee_key a.address)) shown →
    IsTrue b ↔ ShowsOne shown address
shows_one shown address b told =
    let test : ShownAttendee → Bool = λ a. same_text (attendee_key address) (attendee_key a.address) in (
      λ yes.
          let some = Any-from_list_any test shown (sym told ∙ yes) in record {
            attendee = some.1;
            there = (some.0, some.2, some.3);
            same = sym (text_is (attendee_key address) (attendee_key some.1.address) some.4);
          },
      λ one. told ∙ list_any-from_Any test shown (
        one.there.0,
        one.attendee,
        one.there.1,
        one.there.2,
        subst (λ (key : List ℕ). same_text (attendee_key address) key ≡ true) (sym one.same)
            (nat_list_eq_equiv.refl (attendee_key address)),
      ),
    )

-- the address of a line is looked up among keys
pub line_test : {X : Type 0} (f : X → List ℕ) (xs : List X) (set : BTreeSet (List ℕ)) → HasKeys (λ (x : X). attendee_key (f x)) xs set →
    (line : Property) (b : Bool) → b ≡ contains (slice_cmp nat_cmp) set (attendee_key line.value) → is_one_of (map f xs) line ≡ b
line_test f xs set has line b told =
    any_mapped f (λ (a : List ℕ). same_text (attendee_key line.value) (attendee_key a)) xs ∙ sym (has (attendee_key line.value)) ∙ sym told
