-- How a world as it is seen is stored (our own form).
use Rattle.std.specs.Prelude.{ℕ, List, refl}
use Rattle.std.specs.Coded.{Coded, code_by, coded×, coded_ℕ, coded_list}
use Rattle.itip_desk.specs.Desk.{Shown, shown_code}
use Rattle.itip_world.specs.Worlds.{ShownWorld}

abbrev pub shown_world_code : Coded ShownWorld
shown_world_code =
    code_by (List Shown × List (List ℕ)) (coded× (coded_list shown_code) (coded_list (coded_list coded_ℕ)))
    (λ w. (w.desks, w.packets)) (λ p. record { desks = p.0; packets = p.1 }) (λ _. refl)
