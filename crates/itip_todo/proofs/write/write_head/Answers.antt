use Rattle.std.proofs.Common.{◌≡◌, ◌∙◌, ◌++◌, ◌∷◌, [], ℕ, List, ap}
use Rattle.std.specs.Prelude.{codes}
use Rattle.std.specs.Fmt.{decimal}
use Rattle.std.proofs.lemmas.Result.{on_ok_weaker}
use Rattle.itip_moment.specs.Written.{stamp_text}
use Rattle.itip_todo.specs.Written.{Content, bare, contents_octets, plain}
use Rattle.itip_todo.specs.declared.property_name.PropertyName.TheVariants as name
use Rattle.itip_todo.proofs.Contents.{then_lines}
use Rattle.itip_todo.proofs.write.write_head.Goals as goal

pub returns : goal.returns
returns c =
    let old : List ℕ = c.args.out.now.items in
    let mid : List ℕ = c.write_value.new.out.items in
    let uid : Content = plain name.Uid c.args.todo.now.uid in
    let stamp : Content = plain name.DtStamp (stamp_text c.args.todo.now.stamp) in
    let seq : Content = plain name.Sequence (decimal c.args.todo.now.seq) in
    let first : mid ≡ old ++ contents_octets (uid ∷ []) =
    c.in_ok-write_value.ensures ∙ ap (λ (value : List ℕ). old ++ contents_octets (bare (codes "UID") value ∷ []))
    (c.as_bytes.ensures.value ∙ c.as_str.ensures) in
    let second : c.write_value-2.new.out.items ≡ mid ++ contents_octets (stamp ∷ []) =
    c.in_ok-write_value-2.ensures ∙ ap (λ (value : List ℕ). mid ++ contents_octets (bare (codes "DTSTAMP") value ∷ []))
    c.stamp_bytes.ensures in
    on_ok_weaker c.write_number.result
    (λ (last : c.write_number.new.out.items ≡ c.write_value-2.new.out.items ++ contents_octets (seq ∷ [])).
    then_lines old c.write_value-2.new.out.items c.write_number.new.out.items (uid ∷ stamp ∷ []) (seq ∷ [])
    (then_lines old mid c.write_value-2.new.out.items (uid ∷ []) (stamp ∷ []) first second) last)
    c.write_number.ensures
