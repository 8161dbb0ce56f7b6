-- The searches by hand come out so.
use mathlib.Core.Bool.{true}
use mathlib.Core.Path.{◌≡◌, refl}
use Rattle.rules.specs.Basic.{all}
use Rattle.rules.specs.Layout.{found_behind, found, size_with}
use Rattle.rules.proofs.Bench.{computed}
use Rattle.store.specs.Way.{up_to, reaches, way, leads}
use Rattle.store.specs.Searches.{searches}

pub searches_right : all searches ≡ true
unfolding computed searches up_to reaches way leads found_behind found size_with
searches_right = refl
