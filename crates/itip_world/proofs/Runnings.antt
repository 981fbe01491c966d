-- A run over the commands of a script: what was written, and what is kept to be written.
use Rattle.std.proofs.Common.{◌≡◌, ℕ, Bool, false, ◌||◌, List, [], ◌∷◌, ◌++◌, length, refl, sym, ap, subst, ◌∙◌, append_assoc, inl, inr}
use Rattle.std.proofs.Common.{Option, Some, None, Result, Ok, Err}
use Rattle.std.specs.Prelude.{OnErr, IfSome, is_some}
use Rattle.std.specs.Option.{option_map}
use Rattle.std.specs.List.{list_any}
use Rattle.std.specs.Io.KnownBytes.{Appends}
use Rattle.std.proofs.KnownBytes.{Appends-nil, Appends-trans}
use Rattle.std.proofs.lemmas.List.{append-nil}
use Rattle.std.proofs.lemmas.List.Concat.{flat_map-append}
use Rattle.std.proofs.lemmas.List.Folds.{list_any-append}
use Rattle.std.proofs.lemmas.Bool.{cases_lt}
use Rattle.std.proofs.Math.Bool.{or-false}
use Rattle.itip_view.specs.declared.window.Window.{Window}
use Rattle.itip_world.specs.Worlds.{Past, no_past, ShownWorld, IsWorldOf}
use Rattle.itip_script.specs.Orders.{Order}
use Rattle.itip_desk.specs.Refusals.{refused_text}
use Rattle.itip_script.specs.Script.{orders_of}
use Rattle.itip_streams.specs.Written.{AppendsFront, MovesOut, WritesOutput}
use Rattle.itip_streams.proofs.Writing.{front_none, front_behind}
use Rattle.itip_world.specs.Running.{Answer, answer_text, is_refusal, refusal_of, Step, Runs, Writes, WritesSome, WritesRunFront, RunsSoFar}
use Rattle.itip_world.specs.Running.{Answers, Replies, RepliesFront, refused, took, posted, arrived, listed, listed_for, counted, reported}
use Rattle.itip_world.specs.Running.{resent, next_is, sent, reached, saved}
use Rattle.itip_world.specs.declared.watch.Refused.{Refused as RefusedAs}

pub on_err : {T E P : Type 0} (r : Result T E) → P → OnErr r P
on_err (Ok x) p = tt
on_err (Err e) p = p

runs_more : (window : Window) (old : Past) (orders : List Order) (answers : List Answer) (mid : Past) (order : Order) (answer : Answer)
    (new : Past)
    → Runs window old orders answers mid → Step window mid order answer new →
    Runs window old (orders ++ order ∷ []) (answers ++ answer ∷ []) new
runs_more window old [] [] mid order answer new at step = (new, subst (λ (h : Past). Step window h order answer new) at step, refl)
runs_more window old [] (a ∷ as') mid order answer new at step = absurd at
runs_more window old (o ∷ os) [] mid order answer new at step = absurd at
runs_more window old (o ∷ os) (a ∷ as') mid order answer new at step =
    (at.0, at.1, runs_more window at.0 os as' mid order answer new at.2 step)

-- before the first command
pub starts : (window : Window) (desks : ℕ) (old : Option (List ℕ)) (orders left : List Order) (world : ShownWorld) (kept : List ℕ)
    → IsWorldOf (no_past desks) world → orders ≡ left → kept ≡ [] → RunsSoFar window desks old old orders [] left world kept false
starts window desks old orders left world kept are same none = record {
  whole = same;
  answers = [];
  past = no_past desks;
  runs = refl;
  world_is = are;
  refusal_is = refl;
  written = [];
  output_is = sym none;
  appended = Appends-nil old;
}

module _ (window : Window) (desks : ℕ) (old new : Option (List ℕ)) (orders done left : List Order) (world : ShownWorld) (kept : List ℕ)
    (refusal : Bool)
    (so_far : RunsSoFar window desks old new orders done left world kept refusal) where
  writes_so_far : Writes window desks done (so_far.written ++ kept) refusal
  writes_so_far = record {
    answers = so_far.answers;
    past = so_far.past;
    runs = so_far.runs;
    output_is = sym so_far.output_is;
    refusal_is = so_far.refusal_is;
  }

  -- a prefix of what is kept was written as well
  pub front_written : (newer : Option (List ℕ)) → AppendsFront new newer kept → WritesSome window desks old newer orders
  front_written newer front = record {
    done = done;
    left = left;
    whole = so_far.whole;
    output = so_far.written ++ kept;
    refusal = refusal;
    writes = writes_so_far;
    appended = front_behind old new newer so_far.written kept so_far.appended front;
  }

  -- nothing more was written
  pub nothing_written : WritesSome window desks old new orders
  nothing_written = front_written new (front_none new kept)

  -- all that is kept was written, after the last command
  pub all_written : (newer : Option (List ℕ)) → left ≡ [] → Appends new newer kept →
      WritesOutput (Writes window desks orders) old newer refusal
  all_written newer none appended =
      let same : orders ≡ done = so_far.whole ∙ ap (λ (t : List Order). done ++ t) none ∙ append-nil done in
      record {
        output = so_far.written ++ kept;
        is_output = subst (λ (os : List Order). Writes window desks os (so_far.written ++ kept) refusal) (sym same) writes_so_far;
        appended = Appends-trans old new newer so_far.written kept so_far.appended appended;
      }

  -- a prefix of what is kept was written, and the rest is kept
  pub moved_out : (newer : Option (List ℕ)) (rest : List ℕ) → MovesOut new newer kept rest →
      RunsSoFar window desks old newer orders done left world rest refusal
  moved_out newer rest moves = record {
    whole = so_far.whole;
    answers = so_far.answers;
    past = so_far.past;
    runs = so_far.runs;
    world_is = so_far.world_is;
    refusal_is = so_far.refusal_is;
    written = so_far.written ++ moves.front;
    output_is = so_far.output_is ∙ ap (λ (t : List ℕ). so_far.written ++ t) moves.whole ∙
        sym (append_assoc so_far.written moves.front rest);
    appended = Appends-trans old new newer so_far.written moves.front so_far.appended moves.appended;
  }

  -- one more command
  pub one_more : (order : Order) (others : List Order) (more : List Order) (after : ShownWorld) (answer : Answer) (more_kept : List ℕ)
      (is_refused : Bool)
      → left ≡ order ∷ others → more ≡ done ++ order ∷ [] → Answers window order world answer after → more_kept ≡ kept ++
      answer_text answer → is_refused ≡ is_refusal answer
      → RunsSoFar window desks old new orders more others after more_kept (refusal || is_refused)
  one_more order others more after answer more_kept is_refused cut more_is answers text refused_is =
      let one = answers so_far.past so_far.world_is in
      record {
        whole = so_far.whole ∙ ap (λ (t : List Order). done ++ t) cut ∙ sym (append_assoc done (order ∷ []) others) ∙
            ap (λ (t : List Order). t ++ others) (sym more_is);
        answers = so_far.answers ++ answer ∷ [];
        past = one.more;
        runs = subst (λ (os : List Order). Runs window (no_past desks) os (so_far.answers ++ answer ∷ []) one.more) (sym more_is)
            (runs_more window (no_past desks) done so_far.answers so_far.past order answer one.more so_far.runs one.step);
        world_is = one.world_is;
        refusal_is = ap (λ (b : Bool). b || is_refused) so_far.refusal_is ∙
            ap (λ (b : Bool). list_any is_refusal so_far.answers || b) (refused_is ∙ sym (or-false (is_refusal answer)))
            ∙ sym (list_any-append is_refusal so_far.answers (answer ∷ []));
        written = so_far.written;
        output_is = flat_map-append answer_text so_far.answers (answer ∷ [])
            ∙ ap (λ (t : List ℕ). t ++ (answer_text answer ++ [])) so_far.output_is
            ∙ ap (λ (t : List ℕ). (so_far.written ++ kept) ++ t) (append-nil (answer_text answer))
            ∙ append_assoc so_far.written kept (answer_text answer)
            ∙ ap (λ (t : List ℕ). so_far.written ++ t) (sym text);
        appended = so_far.appended;
      }

-- a refusal has a cause, and nothing else has one
pub cause_of : (answer : Answer) → is_some (refusal_of answer) ≡ is_refusal answer
cause_of (refused refusal) = refl
cause_of (took desk tick changed) = refl
cause_of (posted packet items) = refl
cause_of (arrived packet desk tick changed) = refl
cause_of (listed desk rows) = refl
cause_of (listed_for desk rows) = refl
cause_of (counted desk entries) = refl
cause_of (reported desk named lines) = refl
cause_of (resent desk bytes) = refl
cause_of (next_is desk sequence) = refl
cause_of (sent desk tick items octets) = refl
cause_of (reached desk tick changed) = refl
cause_of (saved desk tick) = refl

pub some_mapped : (why : Option RefusedAs) → is_some (option_map (λ (r : RefusedAs). r.refusal) why) ≡ is_some why
some_mapped (Some r) = refl
some_mapped None = refl

module _ (window : Window) (desks : ℕ) (old new newer : Option (List ℕ)) (orders done left : List Order) (world : ShownWorld)
    (kept : List ℕ) (refusal : Bool) (so_far : RunsSoFar window desks old new orders done left world kept refusal)
    (order : Order) (others more : List Order) (cut : left ≡ order ∷ others) (more_is : more ≡ done ++ order ∷ []) where
  -- one more command, and what was written of its answer
  pub one_replied : (after : ShownWorld) (rest : List ℕ) (why : Option RefusedAs) (is_refused : Bool) →
      Replies window order world after new newer kept rest why → is_refused ≡ is_some why
      → RunsSoFar window desks old newer orders more others after rest (refusal || is_refused)
  one_replied after rest why is_refused replies refused_is =
      let said : is_refused ≡ is_refusal replies.answer =
      refused_is ∙ sym (some_mapped why) ∙ ap is_some replies.refusal_is ∙ cause_of replies.answer in
      moved_out window desks old new orders more others after (kept ++ answer_text replies.answer) (refusal || is_refused)
      (one_more window desks old new orders done left world kept refusal so_far order others more after replies.answer
      (kept ++ answer_text replies.answer) is_refused cut more_is replies.answers refl said) newer rest replies.moved

  -- a prefix was written of what is kept, or of the answer to one more command
  pub front_replied : RepliesFront window order world new newer kept → WritesSome window desks old newer orders
  front_replied (inl front) = front_written window desks old new orders done left world kept refusal so_far newer front
  front_replied (inr writes) =
      front_written window desks old new orders more others writes.after (kept ++ answer_text writes.answer)
      (refusal || is_refusal writes.answer)
      (one_more window desks old new orders done left world kept refusal so_far order others more writes.after writes.answer
      (kept ++ answer_text writes.answer) (is_refusal writes.answer) cut more_is writes.answers refl refl) newer writes.appended

-- nothing was done and nothing written
pub not_started : (window : Window) (desks : ℕ) (old : Option (List ℕ)) (orders : List Order) → WritesSome window desks old old orders
not_started window desks old orders = record {
  done = [];
  left = orders;
  whole = refl;
  output = [];
  refusal = false;
  writes = record { answers = []; past = no_past desks; runs = refl; output_is = refl; refusal_is = refl };
  appended = front_none old [];
}

pub nothing_read : (window : Window) (desks : ℕ) (old : Option (List ℕ)) (script : List ℕ) → WritesRunFront window desks old old script
nothing_read window desks old script =
    elim (cases_lt 16777216 (length script)) [
      | inl long ↦ inr (long, front_none old (refused_text 61))
      | inr short ↦ inl (short, not_started window desks old (orders_of script))
    ]

pub known : (r : Option (List ℕ)) (P : List ℕ → Type 0) → ((xs : List ℕ) → P xs) → IfSome r P
known (Some xs) P all = all xs
known None P all = tt
