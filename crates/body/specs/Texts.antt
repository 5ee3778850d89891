-- How a time and a channel are printed.
use Rattle.std.specs.Prelude.{ℕ, ◌-◌, true, List, ◌∷◌, ◌++◌, length, replicate, codes}
use Rattle.std.specs.Fmt.{decimal, digits}
use Rattle.body.specs.declared.message.Time.{Time}
use Rattle.body.specs.declared.message.Channel.{Channel}

-- digits, and before them as many zeros as the width lacks
abbrev pub zeros_before : ℕ → List ℕ → List ℕ
zeros_before width ds = replicate (width - length ds) 0x30 ++ ds

-- seconds, a point, and milliseconds in three digits or more
abbrev pub time_text : Time → List ℕ
time_text t = decimal t.seconds ++ 0x2E ∷ zeros_before 3 (decimal t.milliseconds)

-- major and minor number with a point between them, and BSID in four hexadecimal digits
abbrev pub channel_text : Channel → List ℕ
channel_text c = decimal c.major ++ 0x2E ∷ (decimal c.minor ++ (codes " of BSID " ++ zeros_before 4 (digits 16 true c.bsid)))
