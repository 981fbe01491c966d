-- Reads in a row, each of which returns some bytes, and a last one.
use Rattle.std.proofs.Common.{◌≡◌, ◌≢◌, ℕ, zero, suc, List, Option, Some, None, inl, inr, subst, arith}
use Rattle.itip_streams.specs.Once.{ReadsMore, ReadsOnce, ReadsOn, ReadsSome, ReadsTo, FailsReading, EndsReading, ReadsWell}

module _ {R : Type 0} (reads : R → Option ℕ → R → List ℕ → Type 0) where
  -- ---- one read

  pub gave_none : (count : ℕ) (old new : R) (buffer : List ℕ) → reads old (Some count) new buffer → count ≡ 0 →
      ReadsOnce reads (Some 0) old new
  gave_none count old new buffer read none =
      record { buffer = buffer; read = subst (λ (n : ℕ). reads old (Some n) new buffer) none read }

  pub gave_some : (count : ℕ) (old new : R) (buffer : List ℕ) → reads old (Some count) new buffer → count ≢ 0 → ReadsMore reads old new
  gave_some count old new buffer read other = record { count = count; some = omega arith; buffer = buffer; read = read }

  -- ---- one read after others

  pub one_more : (old mid new : R) → ReadsSome reads old mid → ReadsMore reads mid new → ReadsSome reads old new
  one_more old mid new before more = (suc before.0, (mid, before.1, more))

  pub to_last : (last : Option ℕ) (old mid new : R) → ReadsSome reads old mid → ReadsOnce reads last mid new → ReadsTo reads last old new
  to_last last old mid new before once =
      record { times = before.0; mid = mid; before = before.1; buffer = once.buffer; read = once.read }

  pub ends_some : (old mid new : R) → ReadsSome reads old mid → ReadsMore reads mid new → ReadsWell reads old new
  ends_some old mid new before more = record {
    count = more.count;
    ends = record { times = before.0; mid = mid; before = before.1; buffer = more.buffer; read = more.read };
  }

  pub ends_none : (old mid new : R) → ReadsSome reads old mid → ReadsOnce reads (Some 0) mid new → ReadsWell reads old new
  ends_none old mid new before once = record { count = 0; ends = to_last (Some 0) old mid new before once }

  -- ---- reads after others

  on_and_on : (times : ℕ) (old mid new : R) → ReadsSome reads old mid → ReadsOn reads times mid new → ReadsSome reads old new
  on_and_on zero old mid new before same = subst (λ (r : R). ReadsSome reads old r) same before
  on_and_on (suc n) old mid new before on = one_more old on.0 new (on_and_on n old mid on.0 before on.1) on.2

  on_to : (last : Option ℕ) (old mid new : R) → ReadsSome reads old mid → ReadsTo reads last mid new → ReadsTo reads last old new
  on_to last old mid new before to =
      let all : ReadsSome reads old to.mid = on_and_on to.times old mid to.mid before to.before in
      record { times = all.0; mid = to.mid; before = all.1; buffer = to.buffer; read = to.read }

  pub fails_on : (old mid new : R) → ReadsSome reads old mid → FailsReading reads mid new → FailsReading reads old new
  fails_on old mid new before (inl to) = inl (on_to None old mid new before to)
  fails_on old mid new before (inr on) = inr (on_and_on on.0 old mid new before on.1)

  ends_on : (times : ℕ) (old mid now new : R) → ReadsSome reads old mid → ReadsMore reads mid now → ReadsOn reads times now new →
      ReadsWell reads old new
  ends_on zero old mid now new before more same = subst (λ (r : R). ReadsWell reads old r) same (ends_some old mid now before more)
  ends_on (suc n) old mid now new before more on =
      ends_some old on.0 new (on_and_on n old now on.0 (one_more old mid now before more) on.1) on.2

  -- what is left of a line
  pub ends_line : (old mid now new : R) → ReadsSome reads old mid → ReadsMore reads mid now → EndsReading reads now new →
      ReadsWell reads old new
  ends_line old mid now new before more (inl to) =
      record { count = 0; ends = on_to (Some 0) old now new (one_more old mid now before more) to }
  ends_line old mid now new before more (inr on) = ends_on on.0 old mid now new before more on.1
