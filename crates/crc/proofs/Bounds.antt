-- A CRC has 32 bits.
use Rattle.std.proofs.Common.{ℕ, zero, suc, ◌^◌, ◌<◌, List, [], ◌∷◌, arith}
use Rattle.crc.specs.Crc.{shifted, times, fed, feds, crc}
use Rattle.crc.proofs.Linear.{shifted_below}

times_below : (n r : ℕ) → times (suc n) shifted r < 2 ^ 32
times_below zero r = shifted_below r
times_below (suc n) r = times_below n (shifted r)

feds_below : (r : ℕ) (bs : List ℕ) → r < 2 ^ 32 → feds r bs < 2 ^ 32
unfolding fed
feds_below r [] h = h
feds_below r (b ∷ bs) h = feds_below (fed r b) bs (times_below 7 _)

pub crc_below : (bs : List ℕ) → crc bs < 2 ^ 32
unfolding crc
crc_below bs = feds_below _ bs (omega arith)
