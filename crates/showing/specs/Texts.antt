-- How bytes, text, blocks and identifiers are printed.
use Rattle.std.specs.Prelude.{ℕ, ◌-◌, cond, nat_lt, true, List, ◌∷◌, ◌++◌, length, map, flat_map, replicate, codes}
use Rattle.std.specs.Fmt.{decimal, digits}
use Rattle.body.specs.Texts.{zeros_before}
use Rattle.sending.specs.declared.block.Block.{Block}
use Rattle.showing.specs.declared.identifier.Identifier.{Identifier}
use Rattle.showing.specs.declared.identifier.Identifier.TheVariants.{Eidr, AdId, Other}

-- a blank, and a byte in two capital hexadecimal digits
abbrev pub byte_text : ℕ → List ℕ
byte_text byte = 0x20 ∷ zeros_before 2 (digits 16 true byte)

-- bytes, each after a blank
abbrev pub hex_text : List ℕ → List ℕ
hex_text bytes = flat_map byte_text bytes

-- a byte from the blank to the tilde as it is, another as a point
abbrev pub shown : ℕ → ℕ
shown byte = cond (nat_lt byte 0x20) 0x2E (cond (nat_lt 0x7E byte) 0x2E byte)

-- digits, and before them as many blanks as the width lacks
abbrev pub blanks_before : ℕ → List ℕ → List ℕ
blanks_before width ds = replicate (width - length ds) 0x20 ++ ds

-- number, version, part and last part of a block
abbrev pub head_text : Block → List ℕ
head_text b =
    codes "number " ++ (blanks_before 3 (decimal b.number) ++ (codes " version " ++ (blanks_before 2 (decimal b.version)
    ++ (codes " part " ++ (decimal b.part ++ (codes " last " ++ decimal b.last))))))

-- an identifier behind its kind
abbrev pub identifier_text : Identifier → List ℕ
identifier_text (Eidr id) = codes "EIDR" ++ hex_text id.now
identifier_text (AdId id) = codes "Ad-ID " ++ map shown id.now
identifier_text (Other id_type id) = codes "type " ++ (decimal id_type ++ hex_text id.now)
