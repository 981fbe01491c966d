use Rattle.std.proofs.Common.{◌≡◌, ◌∙◌, ◌++◌, ℕ, List, ap, append_assoc}
use Rattle.std.specs.Prelude.{codes}
use Rattle.std.specs.String.{string_bytes}
use Rattle.std.specs.Fmt.{decimal}
use Rattle.itip_moment.specs.Written.{stamp_text}
use Rattle.itip_state.proofs.Members.{on_ok_then}
use Rattle.itip_explain.proofs.line.put_revision.Goals as goal

-- four texts appended one after another
in_turn : (line a b c d after_a after_b after_c after : List ℕ) → after_a ≡ line ++ a → after_b ≡ after_a ++ b → after_c ≡ after_b ++ c →
    after ≡ after_c ++ d → after ≡ line ++ (a ++ (b ++ (c ++ d)))
in_turn line a b c d after_a after_b after_c after p q r s =
    s ∙ ap (λ (xs : List ℕ). xs ++ d) (r ∙ ap (λ (xs : List ℕ). xs ++ c) (q ∙ ap (λ (xs : List ℕ). xs ++ b) p)) ∙
    append_assoc ((line ++ a) ++ b) c d ∙ append_assoc (line ++ a) b (c ++ d) ∙ append_assoc line a (b ++ (c ++ d))

pub returns : goal.returns
returns c = on_ok_then c.put_stamp.result
    (in_turn (string_bytes c.args.line.now) (codes " seq ") (decimal c.args.item.now.own) (codes " stamp ")
    (stamp_text c.args.item.now.stamp) (string_bytes c.push_str.new.self) (string_bytes c.put_number.new.line)
    (string_bytes c.push_str-2.new.self) (string_bytes c.put_stamp.new.line) c.in_ok-push_str.ensures.bytes c.in_ok-put_number.ensures
    c.in_ok-push_str-2.ensures.bytes) c.put_stamp.ensures
