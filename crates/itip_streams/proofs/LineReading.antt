-- A line that is read octet by octet, and octets that are read until there are as many as are asked for.
use Rattle.std.proofs.Common.{◌≡◌, ◌≢◌, ◌∙◌, sym, ap, refl, subst, ℕ, ◌+◌, ◌<◌, ◌≤◌, List, [], ◌∷◌, ◌++◌, length, take, get_or, arith}
use Rattle.std.proofs.Common.{append_assoc, append-nil, inl, inr, Option, Some, None, true, false}
use Rattle.std.specs.Io.KnownBytes.{Consumes, IsAtEnd}
use Rattle.std.proofs.KnownBytes.{Consumes-nil, Consumes-trans}
use Rattle.std.proofs.lemmas.List.{length-append, length-take-le, take-append-le}
use Rattle.std.proofs.lemmas.List.Elements.{All-append, All-nil, All-push}
use Rattle.itip_streams.specs.Parts.{HasNoLf, EndsLine, ReadsLine, PassesLine, ReadsWithin, ReadsOctets, PassesOctets}

-- ---- a line so far

-- These octets were read, none of which is LF.
pub record LineSoFar (old now : Option (List ℕ)) (line : List ℕ) : Type 0 where
  pub consumed : Consumes old now line
  pub plain : HasNoLf line

pub no_line : (o : Option (List ℕ)) (line : List ℕ) → line ≡ [] → LineSoFar o o line
no_line o line none = subst (λ (l : List ℕ). LineSoFar o o l) (sym none)
    (record { consumed = Consumes-nil o; plain = All-nil (λ (b : ℕ). b ≢ 10) })

module _ (old mid new : Option (List ℕ)) (line : List ℕ) (so_far : LineSoFar old mid line) where
  -- the input ends
  pub line_ends : Consumes mid new [] → IsAtEnd new → ReadsLine old new line
  line_ends nothing end = record {
    consumed = subst (λ (t : List ℕ). Consumes old new t) (append-nil line) (Consumes-trans old mid new line [] so_far.consumed nothing);
    is_line = inr (so_far.plain, end);
  }

  module _ (octet : ℕ) (grown : List ℕ) (more : grown ≡ line ++ octet ∷ []) (one : Consumes mid new (octet ∷ [])) where
    consumed_more : Consumes old new grown
    consumed_more = subst (λ (t : List ℕ). Consumes old new t) (sym more) (Consumes-trans old mid new line (octet ∷ []) so_far.consumed one)

    -- an LF ends it
    pub line_whole : octet ≡ 10 → ReadsLine old new grown
    line_whole feed = record {
      consumed = consumed_more;
      is_line = inl (record {
        said = line;
        plain = so_far.plain;
        ended = more ∙ ap (λ (b : ℕ). line ++ b ∷ []) feed;
      });
    }

    -- another octet doesn't
    pub line_more : octet ≢ 10 → LineSoFar old new grown
    line_more other = record {
      consumed = consumed_more;
      plain = subst HasNoLf (sym more) (All-push (λ (b : ℕ). b ≢ 10) line octet so_far.plain other);
    }

-- ---- what is held of it

pub held_whole : (limit : ℕ) (old new : Option (List ℕ)) (line : List ℕ) → ReadsLine old new line → length line ≤ limit →
    ReadsWithin limit old new (Some line)
held_whole limit old new line reads short = record { line = line; reads = reads; held = (refl, short) }

-- with what is passed it is too long
pub held_none : (limit : ℕ) (old mid now new : Option (List ℕ)) (line : List ℕ) (octet : ℕ) → LineSoFar old mid line →
    limit ≤ length line → Consumes mid now (octet ∷ []) → PassesLine octet now new → ReadsWithin limit old new None
held_none limit old mid now new line octet so_far long one passes = record {
  line = line ++ octet ∷ passes.rest;
  reads = record {
    consumed = subst (λ (t : List ℕ). Consumes old new t) (append_assoc line (octet ∷ []) passes.rest)
        (Consumes-trans old now new (line ++ octet ∷ []) passes.rest
        (Consumes-trans old mid now line (octet ∷ []) so_far.consumed one) passes.consumed);
    is_line = ends passes.is_line;
  };
  held = omega (arith, long, length-append line (octet ∷ passes.rest));
}
  where
    ends : EndsLine (octet ∷ passes.rest) new → EndsLine (line ++ octet ∷ passes.rest) new
    ends (inl is) = inl (record {
      said = line ++ is.said;
      plain = All-append (λ (b : ℕ). b ≢ 10) line is.said so_far.plain is.plain;
      ended = ap (λ (t : List ℕ). line ++ t) is.ended ∙ sym (append_assoc line is.said (10 ∷ []));
    })
    ends (inr end) = inr (All-append (λ (b : ℕ). b ≢ 10) line (octet ∷ passes.rest) so_far.plain end.0, end.1)

-- ---- a line that is passed

-- Octets were passed, none of which before the last is LF.
pub record PassesSoFar (first last : ℕ) (old now : Option (List ℕ)) : Type 0 where
  pub rest : List ℕ
  pub consumed : Consumes old now rest
  pub front : List ℕ
  pub plain : HasNoLf front
  pub whole : first ∷ rest ≡ front ++ last ∷ []

pub none_passed : (first : ℕ) (o : Option (List ℕ)) → PassesSoFar first first o o
none_passed first o = record {
  rest = [];
  consumed = Consumes-nil o;
  front = [];
  plain = All-nil (λ (b : ℕ). b ≢ 10);
  whole = refl;
}

module _ (first last : ℕ) (old mid : Option (List ℕ)) (so_far : PassesSoFar first last old mid) where
  pub passed_whole : last ≡ 10 → PassesLine first old mid
  passed_whole feed = record {
    rest = so_far.rest;
    consumed = so_far.consumed;
    is_line = inl (record {
      said = so_far.front;
      plain = so_far.plain;
      ended = so_far.whole ∙ ap (λ (b : ℕ). so_far.front ++ b ∷ []) feed;
    });
  }

  module _ (other : last ≢ 10) (new : Option (List ℕ)) where
    plain_all : HasNoLf (first ∷ so_far.rest)
    plain_all = subst HasNoLf (sym so_far.whole) (All-push (λ (b : ℕ). b ≢ 10) so_far.front last so_far.plain other)

    pub passed_end : Consumes mid new [] → IsAtEnd new → PassesLine first old new
    passed_end nothing end = record {
      rest = so_far.rest;
      consumed = subst (λ (t : List ℕ). Consumes old new t) (append-nil so_far.rest)
          (Consumes-trans old mid new so_far.rest [] so_far.consumed nothing);
      is_line = inr (plain_all, end);
    }

    pub passed_more : (octet : ℕ) → Consumes mid new (octet ∷ []) → PassesSoFar first octet old new
    passed_more octet one = record {
      rest = so_far.rest ++ octet ∷ [];
      consumed = Consumes-trans old mid new so_far.rest (octet ∷ []) so_far.consumed one;
      front = first ∷ so_far.rest;
      plain = plain_all;
      whole = refl;
    }

-- ---- one read

-- a read that brings nothing though there is room is the last
pub none_read : (old new : Option (List ℕ)) (n : ℕ) (buf : List ℕ) → Consumes old new (take n buf) →
    (n ≡ 0 → 0 < length buf → IsAtEnd new) → n ≡ 0 → 0 < length buf → Consumes old new [] × IsAtEnd new
none_read old new n buf given end none room = (
  subst (λ (t : List ℕ). Consumes old new t) (ap (λ (k : ℕ). take k buf) none) given,
  end none room,
)

one_octet : (buf : List ℕ) → length buf ≡ 1 → take 1 buf ≡ get_or buf 0 0 ∷ []
one_octet [] size = absurd (omega (arith, size))
one_octet (b ∷ []) size = refl
one_octet (b ∷ (c ∷ buf)) size = absurd (omega (arith, size))

-- in a buffer of one octet it brings one octet or none
pub one_read : (old new : Option (List ℕ)) (n : ℕ) (buf : List ℕ) → Consumes old new (take n buf) → n ≢ 0 → n ≤ length buf →
    length buf ≡ 1 → Consumes old new (get_or buf 0 0 ∷ [])
one_read old new n buf given some within size =
    let one : n ≡ 1 = omega (arith, some, within, size) in
    subst (λ (t : List ℕ). Consumes old new t) (ap (λ (k : ℕ). take k buf) one ∙ one_octet buf size) given

-- ---- a number of octets

-- what was brought is the front of a longer buffer
pub read_more : (octets buffer rest grown : List ℕ) (n : ℕ) → n ≤ length buffer → grown ≡ octets ++ take n (buffer ++ rest) →
    grown ≡ octets ++ take n buffer
read_more octets buffer rest grown n within is = is ∙ ap (λ (t : List ℕ). octets ++ t) (take-append-le n buffer rest within)

pub more_octets : (octets : List ℕ) (n : ℕ) (buf : List ℕ) → n ≤ length buf → length (octets ++ take n buf) ≡ length octets + n
more_octets octets n buf within = omega (arith, length-append octets (take n buf), length-take-le n buf within)

module _ (count : ℕ) (old mid : Option (List ℕ)) (octets : List ℕ) (consumed : Consumes old mid octets) where
  with_nothing : (new : Option (List ℕ)) → Consumes mid new [] → Consumes old new octets
  with_nothing new nothing =
      subst (λ (t : List ℕ). Consumes old new t) (append-nil octets) (Consumes-trans old mid new octets [] consumed nothing)

  pub fewer_read : (new : Option (List ℕ)) → length octets < count → Consumes mid new [] × IsAtEnd new → ReadsOctets count old new None
  fewer_read new few last = record { octets = octets; consumed = with_nothing new last.0; are = (few, last.1) }

  pub fewer_passed : (new : Option (List ℕ)) → length octets < count → Consumes mid new [] × IsAtEnd new → PassesOctets count old new false
  fewer_passed new few last = record { octets = octets; consumed = with_nothing new last.0; are = (few, last.1) }

  pub all_read : length octets ≡ count → ReadsOctets count old mid (Some octets)
  all_read all = record { octets = octets; consumed = consumed; are = (refl, all) }

  pub all_passed : length octets ≡ count → PassesOctets count old mid true
  all_passed all = record { octets = octets; consumed = consumed; are = all }
