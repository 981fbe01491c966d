-- A stream of commands: one command, and one after another.
use Rattle.std.proofs.Common.{◌≡◌, ◌∙◌, sym, ap, refl, subst, ℕ, ◌<◌, ◌≤◌, Bool, true, false, cond}
use Rattle.std.proofs.Common.{◌||◌, List, [], ◌∷◌, ◌++◌, length, arith}
use Rattle.std.proofs.Common.{append-nil, inl, inr, Option, Some, None, lt-ltb, le-ltb}
use Rattle.std.specs.Prelude.{is_some, ◌⊎◌}
use Rattle.std.specs.Io.KnownBytes.{Appends, Consumes, Keeps}
use Rattle.std.proofs.KnownBytes.{Appends-nil, Appends-trans}
use Rattle.std.proofs.lemmas.List.Concat.{flat_map-append}
use Rattle.std.proofs.lemmas.List.Folds.{list_any-append}
use Rattle.itip_view.specs.declared.window.Window.{Window}
use Rattle.itip_desk.specs.Desk.{Shown}
use Rattle.itip_script.specs.Stream.{Wish, malformed, wish_ended, AsksBy, ReadsWish, ReadsNothing}
use Rattle.itip_streams.specs.Parts.{ReadsWithin}
use Rattle.itip_streams.specs.Written.{AppendsFront}
use Rattle.itip_streams.proofs.Writing.{all_moved, front_moved, front_none}
use Rattle.itip_world.specs.Running.{Answer}
use Rattle.itip_world.specs.Serving.{Serves, serving_of, reply_text, refuses, reply_refusal, Served, ServesOne, EndsStream, FrontOfOne}
use Rattle.itip_world.specs.Serving.{ServesFront, ReadsBehind, Tells, TellsOne, TellsFront, output_of, refusal_in, RunsStream}
use Rattle.itip_world.specs.Serving.{IsStream, IsStreamFront, StreamSoFar}
use Rattle.itip_world.specs.declared.watch.Refused.{Refused as RefusedAs}
use Rattle.itip_world.proofs.Runnings.{cause_of, some_mapped}

-- ---- one line

not_some : {A : Type 0} (a : A) → Some a ≡ None → ⊥
not_some a e = cc

not_none : {A : Type 0} (a : A) → None ≡ Some a → ⊥
not_none a e = cc

same_some : {A : Type 0} (a b : A) → Some a ≡ Some b → a ≡ b
same_some a b e = cc

feed_some : (said : List ℕ) → [] ≡ said ++ 10 ∷ [] → ⊥
feed_some [] e = cc
feed_some (b ∷ said) e = cc

-- a line was found
module _ (input mid left : Option (List ℕ)) (wish : Wish) (behind : List ℕ) where
  pub wish_read : (found : Option (List ℕ)) (reads : ReadsWithin 65536 input mid found) → AsksBy found (Some wish) →
      ReadsBehind wish mid left behind → ReadsWish input left reads.line behind wish
  wish_read None reads asks rest =
      let long : 65536 < length reads.line = reads.held in
      record {
        mid = mid;
        reads = reads.reads;
        some = omega (arith, long);
        wish_is = same_some wish (malformed 0) asks ∙
            sym (ap (λ (t : Bool). cond t (malformed 0) (wish_ended reads.line)) (lt-ltb 65536 (length reads.line) long));
        consumed = rest.consumed;
        all = rest.all;
      }
  wish_read (Some []) reads asks rest = absurd (not_some wish asks)
  wish_read (Some (b ∷ bytes)) reads asks rest =
      let is : b ∷ bytes ≡ reads.line = reads.held.0 in
      let short : length reads.line ≤ 65536 = reads.held.1 in
      let size : length (b ∷ bytes) ≡ length reads.line = ap length is in
      record {
        mid = mid;
        reads = reads.reads;
        some = omega (arith, size);
        wish_is = same_some wish (wish_ended (b ∷ bytes)) asks ∙ ap wish_ended is ∙
            sym (ap (λ (t : Bool). cond t (malformed 0) (wish_ended reads.line)) (le-ltb 65536 (length reads.line) short));
        consumed = rest.consumed;
        all = rest.all;
      }

-- or nothing was
pub nothing_read : (input mid : Option (List ℕ)) (found : Option (List ℕ)) → ReadsWithin 65536 input mid found → AsksBy found None →
    ReadsNothing input mid
nothing_read input mid None reads asks = absurd (not_none (malformed 0) asks)
nothing_read input mid (Some (b ∷ bytes)) reads asks = absurd (not_none (wish_ended (b ∷ bytes)) asks)
nothing_read input mid (Some []) reads asks =
    let is : [] ≡ reads.line = reads.held.0 in
    record {
      consumed = subst (λ (t : List ℕ). Consumes input mid t) (sym is) reads.reads.consumed;
      end = elim reads.reads.is_line [
        | inl line ↦ absurd (feed_some line.said (is ∙ line.ended))
        | inr end ↦ end.1
      ];
    }

-- ---- its answer

-- a prefix of nothing is nothing
pub front_nothing : (old new : Option (List ℕ)) → AppendsFront old new [] → Appends old new []
front_nothing old new front = subst (λ (t : List ℕ). Appends old new t) (empty front.front front.rest front.whole) front.appended
  where
    empty : (xs ys : List ℕ) → [] ≡ xs ++ ys → xs ≡ []
    empty [] ys e = refl
    empty (x ∷ xs) ys e = cc

module _ (window : Window) (wish : Wish) (old new : List Shown) (input left output mid : Option (List ℕ)) (rest : List ℕ)
    (refused : Option RefusedAs) (tells : Tells window wish old new input left output mid [] rest refused) where
  refused_as : (reply : Option Answer) → is_some (reply_refusal reply) ≡ refuses reply
  refused_as None = refl
  refused_as (Some answer) = cause_of answer

  -- it is written whole
  pub tells_one : (written : Option (List ℕ)) → Appends mid written rest → (is_refused : Bool) → is_refused ≡ is_some refused →
      TellsOne window wish old new input left output written is_refused
  tells_one written appended is_refused is = record {
    behind = tells.behind;
    reads = tells.reads;
    reply = tells.reply;
    serves = tells.serves;
    writes = all_moved output mid (reply_text tells.reply) rest tells.moved written appended;
    refusal_is = is ∙ sym (some_mapped refused) ∙ ap is_some tells.refusal_is ∙ refused_as tells.reply;
  }

  -- or in part
  pub tells_some : (written : Option (List ℕ)) → AppendsFront mid written rest → TellsFront window wish old input left output written []
  tells_some written front = inr (record {
    behind = tells.behind;
    reads = tells.reads;
    reply = tells.reply;
    after = new;
    serves = tells.serves;
    appended = front_moved output mid (reply_text tells.reply) rest tells.moved written front;
  })

-- ---- one command

module _ (window : Window) (wish : Wish) (old : List Shown) (input mid left output : Option (List ℕ)) (found : Option (List ℕ))
    (reads : ReadsWithin 65536 input mid found) (asks : AsksBy found (Some wish)) where
  pub serves_one : (new : List Shown) (written : Option (List ℕ)) (refused : Bool) →
      TellsOne window wish old new mid left output written refused → ServesOne window old new input left output written refused
  serves_one new written refused tells = record {
    one = record { line = reads.line; behind = tells.behind; wish = wish; reply = tells.reply };
    reads = wish_read input mid left wish tells.behind found reads asks tells.reads;
    serves = tells.serves;
    writes = tells.writes;
    refusal_is = tells.refusal_is;
  }

  pub serves_front : (written : Option (List ℕ)) → TellsFront window wish old mid left output written [] →
      ServesFront window old input left output written
  serves_front written (inl nothing) = inl nothing
  serves_front written (inr tells) = inr (record {
    one = record { line = reads.line; behind = tells.behind; wish = wish; reply = tells.reply };
    after = tells.after;
    reads = wish_read input mid left wish tells.behind found reads asks tells.reads;
    serves = tells.serves;
    front = tells.appended.front;
    rest = tells.appended.rest;
    whole = tells.appended.whole;
    appended = tells.appended.appended;
  })

-- ---- one command after another

pub runs_more : (window : Window) (input mid left : Option (List ℕ)) (old now new : List Shown) (served : List Served) (one : Served) →
    RunsStream window input old served mid now → ReadsWish mid left one.line one.behind one.wish →
    Serves window now (serving_of one.wish one.behind) one.reply new → RunsStream window input old (served ++ one ∷ []) left new
runs_more window input mid left old now new [] one runs reads serves = (
  left,
  new,
  subst (λ (o : Option (List ℕ)). ReadsWish o left one.line one.behind one.wish) runs.0 reads,
  subst (λ (desks : List Shown). Serves window desks (serving_of one.wish one.behind) one.reply new) runs.1 serves,
  (refl, refl),
)
runs_more window input mid left old now new (first ∷ served) one (between, desks, read, serve, rest) reads serves =
    (between, desks, read, serve, runs_more window between mid left desks now new served one rest reads serves)

output_more : (served : List Served) (one : Served) → output_of (served ++ one ∷ []) ≡ output_of served ++ reply_text one.reply
output_more served one =
    flat_map-append (λ (s : Served). reply_text s.reply) served (one ∷ [])
    ∙ ap (λ (t : List ℕ). output_of served ++ t) (append-nil (reply_text one.reply))

or_false : (a b : Bool) → (a || (b || false)) ≡ (a || b)
or_false true b = refl
or_false false true = refl
or_false false false = refl

refusal_more : (served : List Served) (one : Served) → refusal_in (served ++ one ∷ []) ≡ (refusal_in served || refuses one.reply)
refusal_more served one =
    list_any-append (λ (s : Served). refuses s.reply) served (one ∷ []) ∙ or_false (refusal_in served) (refuses one.reply)

pub stream_begins : (window : Window) (desks : List Shown) (input output : Option (List ℕ)) →
    StreamSoFar window desks desks input input output output false
stream_begins window desks input output =
    record { served = []; runs = (refl, refl); appended = Appends-nil output; refusal_is = refl }

module _ (window : Window) (desks now : List Shown) (input mid output so : Option (List ℕ)) (refusal : Bool)
    (so_far : StreamSoFar window desks now input mid output so refusal) where
  pub one_more : (new : List Shown) (left written : Option (List ℕ)) (refused : Bool) → ServesOne window now new mid left so written
      refused →
      StreamSoFar window desks new input left output written (refusal || refused)
  one_more new left written refused serves = record {
    served = so_far.served ++ serves.one ∷ [];
    runs = runs_more window input mid left desks now new so_far.served serves.one so_far.runs serves.reads serves.serves;
    appended = subst (λ (t : List ℕ). Appends output written t) (sym (output_more so_far.served serves.one))
        (Appends-trans output so written (output_of so_far.served) (reply_text serves.one.reply) so_far.appended serves.writes);
    refusal_is =
        ap (λ (t : Bool). t || refused) so_far.refusal_is ∙ ap (λ (t : Bool). refusal_in so_far.served || t) serves.refusal_is
        ∙ sym (refusal_more so_far.served serves.one);
  }

  kept_on : (written : Option (List ℕ)) → Appends so written [] → Appends output written (output_of so_far.served)
  kept_on written nothing = subst (λ (t : List ℕ). Appends output written t) (append-nil (output_of so_far.served))
      (Appends-trans output so written (output_of so_far.served) [] so_far.appended nothing)

  pub stream_ends : (new : List Shown) (left written : Option (List ℕ)) → EndsStream now new mid left so written →
      IsStream window desks input left output written refusal
  stream_ends new left written ends = record {
    served = so_far.served;
    mid = mid;
    after = now;
    runs = so_far.runs;
    end = ends.reads;
    appended = kept_on written (keeps_nothing so written ends.kept);
    refusal_is = so_far.refusal_is;
  }
    where
      keeps_nothing : (old new : Option (List ℕ)) → Keeps old new → Appends old new []
      keeps_nothing None new kept = tt
      keeps_nothing (Some xs) None kept = kept
      keeps_nothing (Some xs) (Some ys) kept = kept ∙ sym (append-nil xs)

  pub stream_front : (left written : Option (List ℕ)) → ServesFront window now mid left so written →
      IsStreamFront window desks input left output written
  stream_front left written front = record {
    served = so_far.served;
    mid = mid;
    after = now;
    runs = so_far.runs;
    wrote = by_front front;
  }
    where
      by_front : ServesFront window now mid left so written →
          Appends output written (output_of so_far.served) ⊎ FrontOfOne window now mid left output written (output_of so_far.served)
      by_front (inl nothing) = inl (kept_on written (front_nothing so written nothing))
      by_front (inr one) = inr (record {
        one = one.one;
        after = one.after;
        reads = one.reads;
        serves = one.serves;
        front = one.front;
        rest = one.rest;
        whole = one.whole;
        appended = Appends-trans output so written (output_of so_far.served) one.front so_far.appended one.appended;
      })

  -- nothing of the next was done
  pub stream_stays : (left : Option (List ℕ)) → IsStreamFront window desks input left output so
  stream_stays left = stream_front left so (inl (front_none so []))
