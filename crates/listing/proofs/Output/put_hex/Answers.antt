-- `put_hex`: what is left is the digits of the bytes not yet passed.
use mathlib.Core.Path.{refl}
use Rattle.listing.proofs.Texts.{onward_start}
use Rattle.listing.proofs.Digits.{hex_on, hex_end}
use Rattle.listing.proofs.Output.put_hex.Goals as goal

pub loop-byte-init : goal.loop-byte-init
loop-byte-init c = (refl, search onward_start)

pub loop-byte-preserved : goal.loop-byte-preserved
loop-byte-preserved c = (cc, search hex_on)

pub returns : goal.returns
returns c = (search hex_end, cc)
