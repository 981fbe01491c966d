-- What a stream is answered, after what is kept to be written.
use Rattle.std.proofs.Common.{◌≡◌, sym, subst, refl, ℕ, ◌<◌, List, [], length, append-nil, inl, inr, Option, Some, None, Result, ◌⊎◌}
use Rattle.std.specs.Prelude.{IfOk, Bool, true, false}
use Rattle.std.specs.Io.KnownBytes.{IsAtEnd}
use Rattle.std.proofs.KnownBytes.{Consumes-nil}
use Rattle.itip_view.specs.declared.window.Window.{Window}
use Rattle.itip_desk.specs.Desk.{Shown}
use Rattle.itip_desk.specs.declared.refusal.Refusal.TheVariants.{NoCommand}
use Rattle.itip_script.specs.Orders.{Order}
use Rattle.itip_script.specs.Stream.{Wish, takes, arrives, asks, malformed, empty, Brought}
use Rattle.itip_script.specs.Stream.{message_limit, delta_limit, body_length, ReadsBody}
use Rattle.itip_state.proofs.Members.{if_ok_then}
use Rattle.itip_streams.specs.Parts.{PassesOctets}
use Rattle.itip_streams.specs.Written.{MovesOut}
use Rattle.itip_streams.specs.declared.fault.StreamFault.{StreamFault}
use Rattle.itip_streams.proofs.Writing.{moves_none, moves_more}
use Rattle.itip_world.specs.Looking.{OnlyAsks, LookReplies, LookFront}
use Rattle.itip_world.specs.Running.{Answer, answer_text, refused, IsTold}
use Rattle.itip_world.specs.Serving.{Serves, serving_of, take, arrive, ReadsBehind, Tells, TellsFront}
use Rattle.itip_world.specs.Serving.Serves.{looks_at, knows_nothing, says_nothing}
use Rattle.itip_world.specs.declared.watch.Refused.{Refused as RefusedAs}

-- no byte after the line belongs to it
pub none_behind : (wish : Wish) (input : Option (List ℕ)) → body_length wish ≡ 0 → ReadsBehind wish input input []
none_behind wish input none = record { consumed = Consumes-nil input; all = inl (sym none) }

-- these bytes belong to it
pub body_behind : (wish : Wish) (limit count : ℕ) (input left : Option (List ℕ)) (came : Brought) → body_length wish ≡ count →
    (reads : ReadsBody limit count input left came) → ReadsBehind wish input left reads.octets
body_behind wish limit count input left came size reads =
    record {
      consumed = reads.consumed;
      all = subst (λ (n : ℕ). (length reads.octets ≡ n) ⊎ ((length reads.octets < n) × IsAtEnd left)) (sym size) reads.all;
    }

passed_behind : (octets : ℕ) (input left : Option (List ℕ)) (all : Bool) → (passes : PassesOctets octets input left all) →
    ReadsBehind (malformed octets) input left passes.octets
passed_behind octets input left true passes = record { consumed = passes.consumed; all = inl passes.are }
passed_behind octets input left false passes = record { consumed = passes.consumed; all = inr passes.are }

module _ (window : Window) (old : List Shown) (output : Option (List ℕ)) (kept : List ℕ) where
  -- an answer is appended to what is kept, and nothing was written
  pub tells_told : (wish : Wish) (new : List Shown) (input left : Option (List ℕ)) (behind : List ℕ) → ReadsBehind wish input left behind →
      (answer : Answer) → Serves window old (serving_of wish behind) (Some answer) new → (rest : List ℕ)
      (r : Result (Option RefusedAs) StreamFault)
      → IfOk r (IsTold answer kept rest) → IfOk r (Tells window wish old new input left output output kept rest)
  tells_told wish new input left behind reads answer serves rest r is =
      if_ok_then (IsTold answer kept rest) (Tells window wish old new input left output output kept rest) r
      (λ why told. record {
        behind = behind;
        reads = reads;
        reply = Some answer;
        serves = serves;
        moved = moves_more output output kept kept (moves_none output kept) (answer_text answer) rest told.text_is;
        refusal_is = told.refusal_is;
      }) is

  pub tells_taken : (desk octets : ℕ) (new : List Shown) (input left : Option (List ℕ)) (came : Brought) →
      ReadsBody message_limit octets input left came → (answer : Answer) → Serves window old (take desk came) (Some answer) new →
      (rest : List ℕ) (r : Result (Option RefusedAs) StreamFault) → IfOk r (IsTold answer kept rest) →
      IfOk r (Tells window (takes desk octets) old new input left output output kept rest)
  tells_taken desk octets new input left came reads answer serves rest r is =
      tells_told (takes desk octets) new input left reads.octets (body_behind (takes desk octets) message_limit octets input left came
      refl reads)
      answer (subst (λ (b : Brought). Serves window old (take desk b) (Some answer) new) reads.came_is serves) rest r is

  pub tells_arrived : (desk octets : ℕ) (new : List Shown) (input left : Option (List ℕ)) (came : Brought) →
      ReadsBody delta_limit octets input left came → (answer : Answer) → Serves window old (arrive desk came) (Some answer) new →
      (rest : List ℕ) (r : Result (Option RefusedAs) StreamFault) → IfOk r (IsTold answer kept rest) →
      IfOk r (Tells window (arrives desk octets) old new input left output output kept rest)
  tells_arrived desk octets new input left came reads answer serves rest r is =
      tells_told (arrives desk octets) new input left reads.octets (body_behind (arrives desk octets) delta_limit octets input left came
      refl reads)
      answer (subst (λ (b : Brought). Serves window old (arrive desk b) (Some answer) new) reads.came_is serves) rest r is

  pub tells_no_command : (octets : ℕ) (input left : Option (List ℕ)) (all : Bool) → PassesOctets octets input left all →
      (rest : List ℕ) (r : Result (Option RefusedAs) StreamFault) → IfOk r (IsTold (refused NoCommand) kept rest) →
      IfOk r (Tells window (malformed octets) old old input left output output kept rest)
  tells_no_command octets input left all passes rest r is =
      tells_told (malformed octets) old input left passes.octets (passed_behind octets input left all passes) (refused NoCommand)
      knows_nothing
      rest r is

  pub tells_nothing : (input : Option (List ℕ)) → Tells window empty old old input input output output kept kept None
  tells_nothing input = record {
    behind = [];
    reads = none_behind empty input refl;
    reply = None;
    serves = says_nothing;
    moved = subst (λ (t : List ℕ). MovesOut output output t kept) (sym (append-nil kept)) (moves_none output kept);
    refusal_is = refl;
  }

  -- the answer to a question
  pub tells_look : (order : Order) (input written : Option (List ℕ)) (rest : List ℕ) (why : Option RefusedAs) → OnlyAsks order →
      LookReplies window order old output written kept rest why → Tells window (asks order) old old input input output written kept rest why
  tells_look order input written rest why only look = record {
    behind = [];
    reads = none_behind (asks order) input refl;
    reply = Some look.answer;
    serves = looks_at order look.answer only look.looks;
    moved = look.moved;
    refusal_is = look.refusal_is;
  }

  pub front_of_question : (order : Order) (input written : Option (List ℕ)) → OnlyAsks order → LookFront window order old output written
      kept →
      TellsFront window (asks order) old input input output written kept
  front_of_question order input written only (inl front) = inl front
  front_of_question order input written only (inr (answer, looks, front)) =
      inr (record {
        behind = [];
        reads = none_behind (asks order) input refl;
        reply = Some answer;
        after = old;
        serves = looks_at order answer only looks;
        appended = front;
      })
