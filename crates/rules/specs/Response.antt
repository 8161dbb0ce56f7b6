-- Command and response bytes: the refusals' codes and the response.
use Rattle.std.specs.Prelude.{ℕ, List, [], ◌∷◌, ◌++◌, length, drop}
use Rattle.rules.specs.declared.Refusal.{Refusal}
use Rattle.rules.specs.declared.Refusal.TheVariants.{InvalidObject, InvalidParam, InvalidLength, InvalidData, InternalError}
use Rattle.rules.specs.declared.Refusal.TheVariants.{AccessDenied, BoundaryExceeded, InvalidCommand, NotAvailable, InsufficientBuffer}
use Rattle.rules.specs.Basic.{big_endian}

-- the manuals' code of each refusal
abbrev pub code : Refusal → ℕ
code InvalidObject = 0x01
code InvalidParam = 0x03
code InvalidLength = 0x04
code InvalidData = 0x05
code InternalError = 0x06
code AccessDenied = 0x07
code BoundaryExceeded = 0x08
code InvalidCommand = 0x0A
code NotAvailable = 0x0C
code InsufficientBuffer = 0x0D

-- status (1), one byte that is always 00, OutLen (2), OutData; status 00 is done
unfoldable pub done_response : List ℕ → List ℕ
done_response out = (0x00 ∷ 0x00 ∷ big_endian (length out)) ++ out

-- status FF is refused
unfoldable pub refused_response : List ℕ
refused_response = 0xFF ∷ 0x00 ∷ 0x00 ∷ 0x00 ∷ []

-- a response at the front of the room: bytes after it keep their values
unfoldable pub put_in_front : List ℕ → List ℕ → List ℕ
put_in_front response room = response ++ drop (length response) room
