-- What stands after a command of a list.
use Rattle.std.specs.Prelude.{ℕ, List, ◌≡◌}
use Rattle.rules.specs.declared.Session.{Session}
use Rattle.rules.specs.Basic.{zeros}
use Rattle.rules.specs.Step.{After, step}
use Rattle.listing.specs.Text.{Slice}

-- each command has 1,504 bytes of response room
abbrev pub after : List ℕ → List ℕ → Session → After
after command store s = step command (zeros 1504) store s

abbrev pub Leaves : After → Slice → Session → Type 0
Leaves a store session = (store.exit.now ≡ a.store) × (session ≡ a.session)
