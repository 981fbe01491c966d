-- What a writer holds while an output is written.
use Rattle.std.proofs.Common.{◌≡◌, ℕ, ◌-◌, List, [], ◌++◌, length, take, drop, refl, sym, ap, subst, ◌∙◌, append_assoc, take-append-drop}
use Rattle.std.proofs.Common.{Option}
use Rattle.std.proofs.lemmas.List.{take_rest}
use Rattle.std.proofs.KnownBytes.{Appends-nil, Appends-trans}
use Rattle.std.specs.Io.KnownBytes.{Appends}
use Rattle.itip_streams.specs.Written.{AppendsFront, MovesOut}

-- one more write
pub wrote_more : (old mid new : Option (List ℕ)) (output rest : List ℕ) (n : ℕ) → MovesOut old mid output rest →
    Appends mid new (take n rest) → MovesOut old new output (take (length rest - n) (drop n rest))
wrote_more old mid new output rest n so_far written = record {
  front = so_far.front ++ take n rest;
  whole = so_far.whole ∙ ap (λ (t : List ℕ). so_far.front ++ t) (sym (take-append-drop n rest)) ∙
      sym (append_assoc so_far.front (take n rest) (drop n rest)) ∙
      ap (λ (t : List ℕ). (so_far.front ++ take n rest) ++ t) (sym (take_rest rest n));
  appended = Appends-trans old mid new so_far.front (take n rest) so_far.appended written;
}

-- nothing of an output is written yet
pub front_none : (o : Option (List ℕ)) (output : List ℕ) → AppendsFront o o output
front_none o output = record { front = []; rest = output; whole = refl; appended = Appends-nil o }

-- a prefix of what was kept to be written is written, after what was written before
pub front_behind : (old mid new : Option (List ℕ)) (written kept : List ℕ) → Appends old mid written → AppendsFront mid new kept →
    AppendsFront old new (written ++ kept)
front_behind old mid new written kept appended front = record {
  front = written ++ front.front;
  rest = front.rest;
  whole = ap (λ (t : List ℕ). written ++ t) front.whole ∙ sym (append_assoc written front.front front.rest);
  appended = Appends-trans old mid new written front.front appended front.appended;
}

-- a prefix of an output is one of a longer output
pub front_longer : (old new : Option (List ℕ)) (output more : List ℕ) → AppendsFront old new output → AppendsFront old new (output ++ more)
front_longer old new output more front = record {
  front = front.front;
  rest = front.rest ++ more;
  whole = ap (λ (t : List ℕ). t ++ more) front.whole ∙ append_assoc front.front front.rest more;
  appended = front.appended;
}

-- ---- octets that are kept to be written

-- nothing of them is written yet
pub moves_none : (o : Option (List ℕ)) (kept : List ℕ) → MovesOut o o kept kept
moves_none o kept = record { front = []; whole = refl; appended = Appends-nil o }

module _ (old mid : Option (List ℕ)) (kept rest : List ℕ) (moves : MovesOut old mid kept rest) where
  -- more is kept after what is left
  pub moves_more : (more grown : List ℕ) → grown ≡ rest ++ more → MovesOut old mid (kept ++ more) grown
  moves_more more grown is = record {
    front = moves.front;
    whole = ap (λ (t : List ℕ). t ++ more) moves.whole ∙ append_assoc moves.front rest more ∙
        ap (λ (t : List ℕ). moves.front ++ t) (sym is);
    appended = moves.appended;
  }

  -- some of what is left is written
  pub moves_on : (new : Option (List ℕ)) (last : List ℕ) → MovesOut mid new rest last → MovesOut old new kept last
  moves_on new last more = record {
    front = moves.front ++ more.front;
    whole = moves.whole ∙ ap (λ (t : List ℕ). moves.front ++ t) more.whole ∙ sym (append_assoc moves.front more.front last);
    appended = Appends-trans old mid new moves.front more.front moves.appended more.appended;
  }

  -- a prefix of what is left is written
  pub front_moved : (new : Option (List ℕ)) → AppendsFront mid new rest → AppendsFront old new kept
  front_moved new front =
      subst (λ (t : List ℕ). AppendsFront old new t) (sym moves.whole) (front_behind old mid new moves.front rest moves.appended front)

  -- all that is left is written
  pub all_moved : (new : Option (List ℕ)) → Appends mid new rest → Appends old new kept
  all_moved new appended =
      subst (λ (t : List ℕ). Appends old new t) (sym moves.whole) (Appends-trans old mid new moves.front rest moves.appended appended)
