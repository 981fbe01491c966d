-- A line of a stream gives the wish that it spells, and the bytes after it that belong to it.
use Rattle.std.proofs.Common.{◌≡◌, ◌∙◌, sym, ap, refl, ℕ, ◌<◌, ◌≤◌, Bool, true, false, cond, eqb}
use Rattle.std.proofs.Common.{nat_lt, List, [], length, take, take_all, arith}
use Rattle.std.proofs.Common.{Option, Some, None, inl, inr}
use Rattle.std.specs.Prelude.{option_map, unwrap_or}
use Rattle.std.proofs.lemmas.Bool.{lt-ltb, le-ltb}
use Rattle.itip_streams.specs.Parts.{ReadsOctets, PassesOctets}
use Rattle.itip_script.specs.Lines.{content_of}
use Rattle.itip_script.specs.Orders.{spelled_by}
use Rattle.itip_script.specs.Stream.{Wish, asks, malformed, empty, wish_of, wish_by, spelled_wish, following, wish_said, wish_at}
use Rattle.itip_script.specs.Stream.{whole, too_long, cut_off, brought, ReadsBody}
use Rattle.itip_script.specs.declared.command.Verb.{Verb}
use Rattle.itip_script.specs.declared.command.Verb.TheVariants as verb
use Rattle.itip_script.specs.declared.stream_line.StreamLine.{StreamLine}

-- ---- the wish of a line

-- what only asks something of a desk is spelled as in a script
pub question_wish : (v : Verb) (arguments : List ℕ) → (v ≡ verb.Take → ⊥) → (v ≡ verb.Arrive → ⊥) → (v ≡ verb.Post → ⊥) →
    wish_by v arguments ≡ option_map asks (spelled_by v arguments [])
question_wish verb.Take arguments take arrive post = absurd (take refl)
question_wish verb.Arrive arguments take arrive post = absurd (arrive refl)
question_wish verb.Post arguments take arrive post = absurd (post refl)
question_wish verb.List arguments take arrive post = refl
question_wish verb.Mine arguments take arrive post = refl
question_wish verb.Report arguments take arrive post = refl
question_wish verb.Resend arguments take arrive post = refl
question_wish verb.Next arguments take arrive post = refl
question_wish verb.Entries arguments take arrive post = refl

module _ (line said : List ℕ) (is : said ≡ content_of line) where
  abbrev or_so : Wish
  or_so = unwrap_or (spelled_wish said) (malformed (following said))

  pub empty_said : (eqb (length said) 0) ≡ true → empty ≡ wish_at line
  empty_said none = sym (ap (λ (t : Bool). cond t empty or_so) none) ∙ ap wish_said is

  pub spelled_said : (asked : Option StreamLine) → (eqb (length said) 0) ≡ false → option_map wish_of asked ≡ spelled_wish said →
      unwrap_or (option_map wish_of asked) (malformed (following said)) ≡ wish_at line
  spelled_said asked some spelled =
      ap (λ (o : Option Wish). unwrap_or o (malformed (following said))) spelled
      ∙ sym (ap (λ (t : Bool). cond t empty or_so) some) ∙ ap wish_said is

-- ---- the bytes after it

chosen : (limit count : ℕ) (octets : List ℕ) (a b : Bool) → (nat_lt (length octets) count) ≡ a → (nat_lt limit count) ≡ b →
    brought limit count octets ≡ cond a cut_off (cond b too_long (whole (take count octets)))
chosen limit count octets a b few long =
    ap (λ (t : Bool). cond t cut_off (cond (nat_lt limit count) too_long (whole (take count octets)))) few
    ∙ ap (λ (t : Bool). cond a cut_off (cond t too_long (whole (take count octets)))) long

module _ (limit count : ℕ) (old new : Option (List ℕ)) where
  few_came : (octets : List ℕ) → length octets < count → brought limit count octets ≡ cut_off
  few_came octets few =
      ap (λ (t : Bool). cond t cut_off (cond (nat_lt limit count) too_long (whole (take count octets)))) (lt-ltb (length octets) count few)

  pub passed_body : limit < count → PassesOctets count old new true → ReadsBody limit count old new too_long
  passed_body long passes =
      let all : length passes.octets ≡ count = passes.are in
      record {
        octets = passes.octets;
        consumed = passes.consumed;
        came_is = sym (chosen limit count passes.octets false true (le-ltb (length passes.octets) count (omega (arith, all)))
            (lt-ltb limit count long));
        all = inl all;
      }

  pub cut_body : PassesOctets count old new false → ReadsBody limit count old new cut_off
  cut_body passes = record {
    octets = passes.octets;
    consumed = passes.consumed;
    came_is = sym (few_came passes.octets passes.are.0);
    all = inr passes.are;
  }

  pub short_body : ReadsOctets count old new None → ReadsBody limit count old new cut_off
  short_body reads =
      record { octets = reads.octets; consumed = reads.consumed; came_is = sym (few_came reads.octets reads.are.0); all = inr reads.are }

  pub whole_body : (octets : List ℕ) → count ≤ limit → ReadsOctets count old new (Some octets) → ReadsBody limit count old new
      (whole octets)
  whole_body octets within reads =
      let is : octets ≡ reads.octets = reads.are.0 in
      let all : length reads.octets ≡ count = reads.are.1 in
      record {
        octets = reads.octets;
        consumed = reads.consumed;
        came_is = ap whole (is ∙ sym (take_all count reads.octets (omega (arith, all)))) ∙
            sym (chosen limit count reads.octets false false (le-ltb (length reads.octets) count (omega (arith, all)))
            (le-ltb limit count within));
        all = inl all;
      }
