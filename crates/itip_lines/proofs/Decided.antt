-- Each text is read, or refused.
use Rattle.std.proofs.Common.{◌≡◌, ◌∙◌, sym, ap, refl, zero, suc, ℕ, ◌+◌, ◌<◌, true, false, List, [], ◌∷◌, ◌++◌, length, take, drop, arith}
use Rattle.std.proofs.Common.{subst, inl, inr, ◌⊎◌}
use Rattle.std.specs.Prelude.{◌==◌, Some}
use Rattle.std.specs.Str.{IsUtf8, is_utf8, str_to_ascii_uppercase}
use Rattle.std.specs.List.{list_all, prefix_len}
use Rattle.std.proofs.lemmas.Bool.Decides.{eqb_tells, leb_tells}
use Rattle.std.proofs.lemmas.Str.{IsUtf8-from_is_utf8, is_utf8-from_IsUtf8}
use Rattle.itip_lines.specs.Octets.{is_name_octet, is_value_octet, is_quotable_octet, is_plain_octet}
use Rattle.itip_lines.specs.Lawful.{line_limit}
use Rattle.itip_lines.specs.Spelling.{IsTail, Spells}
use Rattle.itip_lines.specs.UnfoldedLines.{NumberedText, numbered_lines_of}
use Rattle.itip_lines.specs.Parts.{IsRun, begins, ends_param, CutsValue, LacksValue, ReadsValues, LacksValues, ReadsParam, LacksParam}
use Rattle.itip_lines.specs.Parts.{LacksTail, LacksLine}
use Rattle.itip_lines.specs.Parts.CutsValue.{quoted, plain}
use Rattle.itip_lines.specs.Reading.{text_limit, count_limit, IsWithinLimits, IsGood, line_at, AreLines, HasCause, FirstRefusal, Reads}
use Rattle.itip_lines.specs.Reading.{too_long, Refused}
use Rattle.itip_lines.specs.declared.line.Line.{Line}
use Rattle.itip_lines.specs.declared.line.Param.{Param}
use Rattle.itip_lines.specs.declared.line.NumberedLine.{NumberedLine}
use Rattle.itip_lines.specs.declared.error.LineCause.{LineCause}
use Rattle.itip_lines.specs.declared.error.LineCause.TheVariants.{TooMany, NotUtf8, BadLine}
use Rattle.itip_lines.specs.declared.error.LineRefusal.{LineRefusal}
use Rattle.itip_lines.proofs.Runs.{run_of_prefix}
use Rattle.itip_lines.proofs.Values.{lacks_quote}
use Rattle.itip_lines.proofs.ValueLists.{HasValues, no_values, more_values, all_values, lacks_next, lacks_end, cut_shorter}
use Rattle.itip_lines.proofs.ParamLists.{HasParams, no_params, more_params, all_params, lacks_equals, lacks_name, lacks_values}
use Rattle.itip_lines.proofs.ParamLists.{lacks_next_param, lacks_colon, lacks_value, param_read}
use Rattle.itip_lines.proofs.Lines.{lacks_line_name, lacks_tail, spelled_line, lawful_line}
use Rattle.itip_lines.proofs.Utf8Parts.{utf8_behind, utf8_past_name}
use Rattle.itip_lines.proofs.Cuttings.{cutting_of}

-- the rest begins with the octet, or not
begins_with : (octet : ℕ) (rest : List ℕ) → ((more : List ℕ) × (rest ≡ octet ∷ more)) ⊎ ((more : List ℕ) → rest ≡ octet ∷ more → ⊥)
begins_with octet [] = inr (λ more e. cc)
begins_with octet (b ∷ rest) =
    elim (eqb_tells b octet) [
      | inl h ↦ inl (rest, ap (λ x. x ∷ rest) h.1)
      | inr h ↦ inr (λ more e. h.1 (first_is b octet rest more e))
    ]
  where
    first_is : (x y : ℕ) (xs ys : List ℕ) → x ∷ xs ≡ y ∷ ys → x ≡ y
    first_is x y xs ys e = cc

decide_value : (text : List ℕ) → ((value : List ℕ) × (rest : List ℕ) × CutsValue text value rest) ⊎ LacksValue text
decide_value text =
    elim (begins_with 34 text) [
      | inl h ↦ elim (begins_with 34 (drop (prefix_len is_quotable_octet h.0) h.0)) [
        | inl k ↦ inl (take (prefix_len is_quotable_octet h.0) h.0, k.0, closed h.0 k.0 h.1 k.1 (run_of_prefix is_quotable_octet h.0))
        | inr k ↦ inr (lacks_quote text h.0 _ _ h.1 (run_of_prefix is_quotable_octet h.0) k)
      ]
      | inr h ↦ inl (
        take (prefix_len is_plain_octet text) text,
        drop (prefix_len is_plain_octet text) text,
        plain
            (run_of_prefix is_plain_octet text) (no_quote text h),
      )
    ]
  where
    closed : (inside rest : List ℕ) → text ≡ 34 ∷ inside → drop (prefix_len is_quotable_octet inside) inside ≡ 34 ∷ rest →
        IsRun is_quotable_octet inside (take (prefix_len is_quotable_octet inside) inside)
        (drop (prefix_len is_quotable_octet inside) inside) → CutsValue text (take (prefix_len is_quotable_octet inside) inside) rest
    closed inside rest e k run =
        quoted run.passes (e ∙ ap (λ t. 34 ∷ t) (run.whole ∙ ap (λ t. take (prefix_len is_quotable_octet inside) inside ++ t) k))

    no_quote : (t : List ℕ) → ((more : List ℕ) → t ≡ 34 ∷ more → ⊥) → begins (λ b. b == 34) t ≡ false
    no_quote [] h = refl
    no_quote (b ∷ t) h = elim (eqb_tells b 34) [ inl k ↦ absurd (h t (ap (λ x. x ∷ t) k.1)) | inr k ↦ k.0 ]

decide_values : (fuel : ℕ) (text : List ℕ) (done : List (List ℕ)) (rest : List ℕ) → HasValues text done rest → length rest < fuel →
    ((vs : List (List ℕ)) × (out : List ℕ) × ReadsValues text vs out) ⊎ LacksValues text
decide_values zero text done rest has h = absurd (omega arith)
decide_values (suc fuel) text done rest has h =
    elim (decide_value rest) [
      | inr lacks ↦ inr (lacks_next text done rest has lacks)
      | inl cut ↦ elim (begins_with 44 cut.1) [
        | inl comma ↦ decide_values fuel text (done ++ cut.0 ∷ []) comma.0
            (more_values text done rest cut.0 cut.1 comma.0 has cut.2 comma.1)
            (omega (arith, h, cut_shorter rest cut.0 cut.1 cut.2, ap length comma.1))
        | inr none ↦ elim (begins ends_param cut.1) as (λ v. begins ends_param cut.1 ≡ v →
            ((vs : List (List ℕ)) × (out : List ℕ) × ReadsValues text vs out) ⊎ LacksValues text) [
              | true ↦ λ e. inl (done ++ cut.0 ∷ [], cut.1, all_values text done rest cut.0 cut.1 has cut.2 e)
              | false ↦ λ e. inr (lacks_end text done rest cut.0 cut.1 has cut.2 none e)
            ] refl
      ]
    ]

name_of : List ℕ → List ℕ
name_of text = take (prefix_len is_name_octet text) text

behind_name : List ℕ → List ℕ
behind_name text = drop (prefix_len is_name_octet text) text

name_run : (text : List ℕ) → IsRun is_name_octet text (name_of text) (behind_name text)
unfolding name_of behind_name
name_run text = run_of_prefix is_name_octet text

some_or_none : (text : List ℕ) → (0 < length text) ⊎ (length text ≡ 0)
some_or_none [] = inr refl
some_or_none (b ∷ text) = inl (omega arith)

decide_param : (text : List ℕ) → IsUtf8 text → ((param : Param) × (rest : List ℕ) × ReadsParam text param rest) ⊎ LacksParam text
decide_param text u =
    let run = name_run text in
    elim (begins_with 61 (behind_name text)) [
      | inr none ↦ inr (lacks_equals text (name_of text) (behind_name text) run none)
      | inl equals ↦ elim (some_or_none (name_of text)) [
        | inr empty ↦ inr (lacks_name text (name_of text) (behind_name text) run empty)
        | inl some ↦
            let inside = utf8_past_name (name_of text) (behind_name text) run.passes (subst IsUtf8 run.whole u) in
            let after = utf8_behind 61 equals.0 (subst IsUtf8 equals.1 inside) (omega arith) in
            elim (decide_values (length equals.0 + 1) equals.0 [] equals.0 (no_values equals.0 after) (omega arith)) [
              | inr lacks ↦ inr (lacks_values text (name_of text) (behind_name text) equals.0 run equals.1 lacks)
              | inl values ↦ inl (
                record { name = str_to_ascii_uppercase (name_of text); values = values.0 },
                values.1,
                param_read text (name_of text) (behind_name text) equals.0 values.0 values.1 run equals.1 some values.2,
              )
            ]
      ]
    ]

decide_tail : (fuel : ℕ) (text : List ℕ) (done : List Param) (rest : List ℕ) → HasParams text done rest → length rest < fuel →
    ((ps : List Param) × (value : List ℕ) × IsTail text ps value) ⊎ LacksTail text
decide_tail zero text done rest has h = absurd (omega arith)
decide_tail (suc fuel) text done rest has h =
    elim (begins_with 59 rest) [
      | inl semicolon ↦ elim (decide_param semicolon.0 (utf8_behind 59 semicolon.0 (subst IsUtf8 semicolon.1 has.utf8) (omega arith))) [
        | inr lacks ↦ inr (lacks_next_param text done rest semicolon.0 has semicolon.1 lacks)
        | inl param ↦ decide_tail fuel text (done ++ param.0 ∷ []) param.1
            (more_params text done rest semicolon.0 param.0 param.1 has semicolon.1 param.2)
            (omega (arith, h, param.2.shorter, ap length semicolon.1))
      ]
      | inr no_param ↦ elim (begins_with 58 rest) [
        | inr no_value ↦ inr (lacks_colon text done rest has no_param no_value)
        | inl colon ↦ elim (list_all is_value_octet colon.0) as (λ v. list_all is_value_octet colon.0 ≡ v →
            ((ps : List Param) × (value : List ℕ) × IsTail text ps value) ⊎ LacksTail text) [
              | true ↦ λ e. inl (done, colon.0, all_params text done rest colon.0 has colon.1 e)
              | false ↦ λ e. inr (lacks_value text done rest colon.0 has colon.1 e)
            ] refl
      ]
    ]

decide_spelling : (text : List ℕ) → IsUtf8 text →
    ((name : List ℕ) × (params : List Param) × (value : List ℕ) × Spells text name params value) ⊎ LacksLine text
decide_spelling text u =
    let run = name_run text in
    elim (some_or_none (name_of text)) [
      | inr empty ↦ inr (lacks_line_name text (name_of text) (behind_name text) run empty)
      | inl some ↦
          let after = utf8_past_name (name_of text) (behind_name text) run.passes (subst IsUtf8 run.whole u) in
          elim (decide_tail (length (behind_name text) + 1) (behind_name text) [] (behind_name text) (no_params (behind_name text) after)
          (omega arith)) [
            | inr lacks ↦ inr (lacks_tail text (name_of text) (behind_name text) run lacks)
            | inl tail ↦ inl (
              str_to_ascii_uppercase (name_of text),
              tail.0,
              tail.1,
              spelled_line text (name_of text) (behind_name text) (str_to_ascii_uppercase (name_of text)) tail.0 tail.1 run some refl
                  tail.2,
            )
          ]
    ]

decide_limits : (n : ℕ) (text : List ℕ) → IsWithinLimits n text ⊎ ((count_limit < n) ⊎ (line_limit < length text))
decide_limits n text =
    elim (leb_tells n count_limit) [
      | inr few ↦ inr (inl few.1)
      | inl few ↦ elim (leb_tells (length text) line_limit) [
        | inr short ↦ inr (inr short.1)
        | inl short ↦ inl (record { few = few.1; short = short.1 })
      ]
    ]

decide_line : (n : ℕ) (text : List ℕ) → ((l : Line) × IsGood n text l) ⊎ ((cause : LineCause) × HasCause n text cause)
decide_line n text =
    elim (decide_limits n text) [
      | inr beyond ↦ inr (TooMany, beyond)
      | inl within ↦ elim (is_utf8 text) as (λ v. is_utf8 text ≡ v → ((l : Line) × IsGood n text l) ⊎
          ((cause : LineCause) × HasCause n text cause)) [
            | false ↦ λ e. inr (NotUtf8, (within, λ u. (let t : false ≡ true = sym e ∙ is_utf8-from_IsUtf8 text u in cc)))
            | true ↦ λ e. let u = IsUtf8-from_is_utf8 text e in elim (decide_spelling text u) [
              | inr lacks ↦ inr (BadLine, (within, u, lacks))
              | inl is ↦ inl (
                record {
                  name = is.0;
                  params = is.1;
                  value = is.2;
                  lawful =
                      lawful_line text is.0 is.1 is.2 is.3 u within.short;
                },
                record { within = within; utf8 = u; spells = is.3 },
              )
            ]
          ] refl
    ]

decide_lines : (n : ℕ) (ts : List NumberedText) → ((ls : List NumberedLine) × AreLines n ts ls) ⊎
    ((refusal : LineRefusal) × FirstRefusal n ts refusal)
decide_lines n [] = inl ([], tt)
decide_lines n (t ∷ ts) =
    elim (decide_line n t.text) [
      | inr bad ↦ inr (record { cause = bad.0; line = Some t.number }, inl (refl, bad.1))
      | inl good ↦ elim (decide_lines (n + 1) ts) [
        | inr bad ↦ inr (bad.0, inr (good, bad.1))
        | inl more ↦ inl (line_at t.number good.0 ∷ more.0, (refl, good.1, more.1))
      ]
    ]

-- a text is read, or it is refused
pub reads_or_refused : (bytes : List ℕ) → ((lines : List NumberedLine) × Reads bytes lines) ⊎
    ((refusal : LineRefusal) × Refused bytes refusal)
reads_or_refused bytes =
    elim (leb_tells (length bytes) text_limit) [
      | inr long ↦ inr (too_long, inl (refl, long.1))
      | inl short ↦
          let cutting = cutting_of bytes in
          elim (decide_lines 1 (numbered_lines_of cutting.pieces cutting.last)) [
            | inl good ↦ inl (
              good.0,
              record {
                pieces = cutting.pieces;
                last = cutting.last;
                short = short.1;
                cut = cutting.cut;
                lines_are = good.1;
              },
            )
            | inr bad ↦ inr (
              bad.0,
              inr (record {
                pieces = cutting.pieces;
                last = cutting.last;
                short = short.1;
                cut = cutting.cut;
                first =
                    bad.1;
              }),
            )
          ]
    ]
