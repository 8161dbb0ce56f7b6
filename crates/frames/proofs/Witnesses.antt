-- What a host in C is told of a frame that it writes: for each answer, that this is so, and that nothing else is.
use Prim.Native.Nat.{ℕ}
use mathlib.Core.Path.{◌≡◌, refl, ap}
use mathlib.Core.List.{◌++◌}
use native.Mathlib.Omega.{arith}
use lib.ListN.{length, replicate}
use Rattle.rules.specs.Basic.{zeros}
use Rattle.rules.specs.Hex.{hex}
use Rattle.frames.specs.declared.Kind.TheVariants.{Command, Response}
use Rattle.frames.specs.Frames.{HostWrites}
use Rattle.frames.specs.Cases.{done, done_frame}
use Rattle.frames.proofs.Cases.{computed}

pub writes_a_frame : HostWrites Response done (replicate 12 0xEE) 0 (done_frame ++ hex "EE EE")
unfolding computed
writes_a_frame = record { told = refl; left = refl }

pub writes_no_more : HostWrites Command (zeros 1558) (hex "EE EE") 1 (hex "EE EE")
unfolding computed
writes_no_more = record { told = refl; left = refl }

pub writes_not_there : HostWrites Response done (hex "EE EE") 2 (hex "EE EE")
unfolding computed
writes_not_there = record { told = refl; left = refl }

-- another number, another room
pub not_another_number : HostWrites Response done (replicate 12 0xEE) 1 (done_frame ++ hex "EE EE") → ⊥
unfolding computed
not_another_number h = let z : ◌≡◌ {A = ℕ} 1 0 = h.told in absurd (omega arith)

pub not_another_room : HostWrites Response done (replicate 12 0xEE) 0 done_frame → ⊥
unfolding computed
not_another_room h = let z : ◌≡◌ {A = ℕ} 10 12 = ap length h.left in absurd (omega arith)
