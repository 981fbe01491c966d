-- The texts that an iterator has left (our own form).
use Rattle.std.specs.Prelude.{ℕ, List}
use Rattle.itip_lines.specs.Joining.{texts_in}
use Rattle.itip_lines.specs.declared.text_list.Texts.{Texts}

abbrev pub texts_left : Texts → List (List ℕ)
texts_left texts = texts_in texts.rest.now
