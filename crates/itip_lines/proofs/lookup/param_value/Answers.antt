use Rattle.std.proofs.Common.{◌∙◌, sym, subst}
use Rattle.std.specs.Str.{IsUtf8}
use Rattle.itip_lines.proofs.Found.{all_stand, none_named}
use Rattle.itip_lines.proofs.lookup.param_value.Goals as goal

pub from_utf8_unchecked-requires : goal.from_utf8_unchecked-requires
from_utf8_unchecked-requires c =
    let found = c.in-Some.ensures _ (all_stand _ _ _ c.requires.each (c.as_bytes.ensures.value ∙ c.requires.text_is)) in
    subst IsUtf8 (sym (c.leading_value.ensures _ found.begins_with)) found.begins_with.lawful.utf8

pub returns-in-Some : goal.returns-in-Some
returns-in-Some c =
    let found = c.in-Some.ensures _ (all_stand _ _ _ c.requires.each (c.as_bytes.ensures.value ∙ c.requires.text_is)) in
    c.from_utf8_unchecked.ensures ∙ c.leading_value.ensures _ found.begins_with

pub returns-in-None : goal.returns-in-None
returns-in-None c =
    sym (none_named c.args.name.now _ (c.in-None.ensures _
    (all_stand _ _ _ c.requires.each (c.as_bytes.ensures.value ∙ c.requires.text_is))))
