-- The session in four bytes, and back.
use Prim.Native.Nat.{ℕ, zero, suc, max}
use mathlib.Core.Path.{◌≡◌, refl, ap, ◌∙◌}
use mathlib.Core.Bool.{Bool, true, false, not}
use mathlib.Core.List.{List}
use native.Mathlib.Omega.{arith}
use borrow.Author.Tests.{ne_eqb}
use lib.Dec.{eqb}
use Rattle.rules.specs.declared.Session.{Session}
use Rattle.rules.specs.Step.{step}
use Rattle.element.specs.declared.Answer.{Answer}
use Rattle.element.specs.Executed.{Executes}
use Rattle.firmware.specs.declared.HostSession.{HostSession}
use Rattle.rules.specs.Factory.{fresh_session}
use Rattle.firmware.specs.Host.{session_of, opened_byte, bytes_of, left, in_bytes, HostExecutes}

-- `opened_byte`
pub open_now : (was r : ℕ) (o : Bool) → o ≡ true → r ≡ max was 1 → r ≡ opened_byte was o
unfolding opened_byte
open_now was r o e f = rw e f

pub closed : (was : ℕ) (o : Bool) → o ≡ false → 0 ≡ opened_byte was o
unfolding opened_byte
closed was o e = rw e

-- `bytes_of`, `element_fresh_session`
pub made_of : (was : HostSession) (s : Session) (b : ℕ) → b ≡ opened_byte was.opened s.opened
    → record { opened = b; lcsg = s.lcsg; lcsa = s.lcsa; error = s.error } ≡ bytes_of was s
unfolding bytes_of
made_of was s b e = ap (λ o. record { opened = o; lcsg = s.lcsg; lcsa = s.lcsa; error = s.error }) e

pub made_fresh : (was b : HostSession) (s : Session) → s ≡ fresh_session → b ≡ bytes_of was s → b ≡ bytes_of was fresh_session
made_fresh was b s e f = f ∙ ap (bytes_of was) e

-- `execute_for_host`
pub answered : (was b : HostSession) (s : Session) (r : Answer) (command room store room' store' : List ℕ) → s ≡ session_of was → b ≡ bytes_of was r.session
    → Executes command room store s r room' store' → HostExecutes command room store was (left r.outcome room' store' b)
answered was b s r command room store room' store' e f g = rw f (ap (in_bytes was) (g ∙ ap (step command room store) e))

told_open : (b : ℕ) (o : Bool) → not (eqb (opened_byte b o) 0) ≡ o
unfolding opened_byte
told_open b true = ap not (ne_eqb (max b 1) 0 (λ e. absurd (omega arith)))
told_open b false = refl

open_kept : (b : ℕ) → opened_byte b (not (eqb b 0)) ≡ b
unfolding opened_byte
open_kept zero = refl
open_kept (suc n) = rw (ne_eqb (suc n) 0 (λ e. absurd (omega arith))) (omega arith)

-- the bytes of a session tell that session
pub told_again : (was : HostSession) (s : Session) → session_of (bytes_of was s) ≡ s
unfolding session_of bytes_of
told_again was s = ap (λ o. record { opened = o; lcsg = s.lcsg; lcsa = s.lcsa; error = s.error }) (told_open was.opened s.opened)

-- a session that did not change leaves its bytes as they were
pub unchanged : (was : HostSession) → bytes_of was (session_of was) ≡ was
unfolding session_of bytes_of
unchanged was = ap (λ o. record { opened = o; lcsg = was.lcsg; lcsa = was.lcsa; error = was.error }) (open_kept was.opened)
