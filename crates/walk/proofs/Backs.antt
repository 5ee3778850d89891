-- Blocks of sendings are read back from their wire forms.
use Rattle.std.proofs.Common.{◌≡◌, ℕ, zero, suc, ◌+◌, ◌-◌, ◌*◌, ◌/◌, ◌%◌, ◌^◌, ◌<◌, ◌≤◌, Bool, true, false, cond, not, ◌&&◌, eqb, ltb, List, [], ◌∷◌, ◌++◌, length, get_or, take, drop, replicate, Some, None, sym, refl, ap, ◌∙◌, subst, append_assoc, mod-eq_of_lt, arith, length-append}
use Rattle.std.specs.List.{flat_map, AllByRecursion}
use Rattle.std.proofs.lemmas.Bool.Decides.{nat_tests}
use Rattle.std.proofs.lemmas.List.{take_at, drop_at}
use Rattle.crc.specs.Crc.{crc}
use Rattle.crc.proofs.Bounds.{crc_below}
use Rattle.sending.specs.Sendings.{Sending, Block, block, message, last_part}
use Rattle.wire.specs.Wire.{word_bytes, check_bytes, count, head, covered, block_bytes}
use Rattle.sending.proofs.Rules.{numbers}
use Rattle.walk.specs.Fields.{word, part_of, last_of, has_check, cause_at, block_at}
use Rattle.walk.specs.Entries.{read, scan, entries, blocks_read}
use Rattle.walk.specs.Laws.{OfASending, placed_from, ReadsSentBlocks}
use Rattle.walk.proofs.Causes.{sound}
use Rattle.walk.proofs.Scans.{scan_end, scan_entry, item_block, past_block}

split_back : (w q r : ℕ) → q ≡ w / 16777216 → r ≡ q → r * 16777216 + w / 65536 % 256 * 65536 + w / 256 % 256 * 256 + w % 256 ≡ w
split_back w q r e f = omega arith

word_back : (w : ℕ) (rest : List ℕ) → w < 2 ^ 32 → word (word_bytes w ++ rest) ≡ w
word_back w rest h =
    let low : w / 16777216 < 256 = omega arith in
    let top : w / 16777216 % 256 ≡ w / 16777216 = mod-eq_of_lt low in
    split_back w (w / 16777216) (w / 16777216 % 256) refl top

-- ---- by whether the message CRC is carried
room_right : (t : Bool) (n w : ℕ) → cond t 9 5 ≤ 5 + n + length (check_bytes (cond t (Some w) None))
room_right true n w = omega arith
room_right false n w = omega arith

body_right : (t : Bool) (w : ℕ) (body tail : List ℕ) → take (cond t (5 + length body + length (check_bytes (cond t (Some w) None)) - 9) (5 + length body + length (check_bytes (cond t (Some w) None)) - 5)) ((body ++ check_bytes (cond t (Some w) None)) ++ tail) ≡ body
body_right true w body tail = rw append_assoc (take_at body _ _ (omega arith))
body_right false w body tail = rw append_assoc (take_at body _ _ (omega arith))

check_right : (t : Bool) (x c h w : ℕ) (body tail : List ℕ) → w < 2 ^ 32 → cond t (Some (word (drop (5 + length body + length (check_bytes (cond t (Some w) None)) - 6) (x ∷ c ∷ h ∷ ((body ++ check_bytes (cond t (Some w) None)) ++ tail))))) None ≡ cond t (Some w) None
check_right true x c h w body tail f =
    ap (λ l. Some (word (drop (5 + length body + 4 - 6) (x ∷ c ∷ h ∷ l)))) (append_assoc body (word_bytes w) tail)
    ∙ ap (λ l. Some (word l)) (drop_at (x ∷ c ∷ h ∷ body) (word_bytes w ++ tail) (5 + length body + 4 - 6) (omega arith))
    ∙ ap Some (word_back w tail f)
check_right false x c h w body tail f = refl

-- the last of several
abbrev several_last : ℕ → ℕ → Bool
several_last part last = eqb part last && not (eqb last 0)

-- a block with a message CRC w where it must have one
abbrev carrying : ℕ → ℕ → ℕ → ℕ → List ℕ → ℕ → Block
carrying number version part last body w =
    record { number = number; version = version; part = part; last = last; body = body; check = cond (several_last part last) (Some w) None }

module _ (number version part last : ℕ) (body : List ℕ) (w : ℕ) (named : 0 < number) (hv : version < 16) (hp : part ≤ last) (hl : last < 4) (hw : w < 2 ^ 32) (rest : List ℕ) where
  abbrev b : Block
  b = carrying number version part last body w

  -- the bytes that stand at the block's place
  abbrev there : List ℕ
  there = number ∷ count b ∷ (version * 16 + part * 4 + last) ∷ ((body ++ check_bytes b.check) ++ (word_bytes (crc (covered b)) ++ rest))

  wire_there : block_bytes b ++ rest ≡ there
  unfolding block_bytes covered head
  wire_there = append_assoc (covered b) (word_bytes (crc (covered b))) rest

  covered_there : covered b ++ (word_bytes (crc (covered b)) ++ rest) ≡ there
  unfolding covered head
  covered_there = refl

  covered_length : length (covered b) ≡ count b - 2
  unfolding covered head count
  covered_length = simp length-append (omega arith)

  there_length : count b + 2 ≤ length there
  unfolding count
  there_length = simp length-append (omega arith)

  wire_length : length (block_bytes b) ≡ count b + 2
  unfolding block_bytes covered head count
  wire_length = simp length-append (omega arith)

  front : take (count b - 2) there ≡ covered b
  front = ap (take (count b - 2)) (sym covered_there) ∙ take_at (covered b) _ _ covered_length

  crc_right : word (drop (count b - 2) there) ≡ crc (covered b)
  crc_right = ap (λ l. word (drop (count b - 2) l)) (sym covered_there) ∙ ap word (drop_at (covered b) _ _ covered_length) ∙ word_back _ rest (crc_below (covered b))

  part_right : part_of there ≡ part
  part_right = omega arith

  last_right : last_of there ≡ last
  last_right = omega arith

  version_right : get_or there 2 0 / 16 ≡ version
  version_right = omega arith

  has_right : has_check there ≡ several_last part last
  has_right = (λ i. eqb (part_right i) (last_right i) && not (eqb (last_right i) 0))

  count_least : 5 ≤ count b
  unfolding count
  count_least = omega arith

  count_room : cond (several_last part last) 9 5 ≤ count b
  unfolding count
  count_room = room_right (several_last part last) (length body) w

  no_cause : cause_at there ≡ 0
  no_cause =
      sound there (record { least = count_least; within = there_length; right = ap crc front ∙ sym crc_right }) (omega (arith, part_right, last_right))
      (subst (λ t. cond t 9 5 ≤ count b) (sym has_right) count_room)

  block_right : block_at there ≡ b
  unfolding block_at count
  block_right =
      let tail = word_bytes (crc (covered b)) ++ rest in
      let y = ap (λ t. take (cond t (count b - 9) (count b - 5)) (drop 3 there)) has_right ∙ body_right (several_last part last) w body tail in
      let k = ap (λ t. cond t (Some (word (drop (count b - 6) there))) None) has_right ∙ check_right (several_last part last) _ _ _ w body tail hw in
      λ i. record { number = number; version = version_right i; part = part_right i; last = last_right i; body = y i; check = k i }

  pub carrying_read : (p : ℕ) → scan 0 p (block_bytes b ++ rest) ≡ read p b ∷ scan 0 (p + length (block_bytes b)) rest
  carrying_read p =
      let size = past_block there no_cause ∙ sym wire_length in
      let more = ap (λ n. scan 0 (p + n) (drop n there)) size ∙ ap (λ l. scan 0 (p + length (block_bytes b)) (drop (length (block_bytes b)) l)) (sym wire_there) ∙ ap (scan 0 (p + length (block_bytes b))) (drop_at (block_bytes b) rest _ refl) in
      ap (scan 0 p) wire_there ∙ scan_entry p there (λ e. omega arith) ∙ (λ i. (item_block p there no_cause ∙ ap (read p) block_right) i ∷ more i)

-- ---- a block of a sending is such a block
both_last : (i l : ℕ) → ltb 0 i && eqb i l ≡ several_last i l
both_last i l = grind (arith, nat_tests)

block_carries : (s : Sending) (i : ℕ) → block s i ≡ carrying s.number s.version i (last_part s) (get_or s.parts i []) (crc (message s).bytes)
block_carries s i =
    λ j. record { number = s.number; version = s.version; part = i; last = last_part s; body = get_or s.parts i []; check = cond (both_last i (last_part s) j) (Some (crc (message s).bytes)) None }

pub sent_read : (b : Block) → OfASending b → (rest : List ℕ) (p : ℕ) → scan 0 p (block_bytes b ++ rest) ≡ read p b ∷ scan 0 (p + length (block_bytes b)) rest
sent_read b of rest p =
    let s = of.0 in
    let i = of.1.1.0 in
    let n = numbers s of.1.0 in
    let h = of.1.1.1 in
    let e : b ≡ carrying s.number s.version i (last_part s) (get_or s.parts i []) (crc (message s).bytes) = of.1.1.2 ∙ block_carries s i in
    subst (λ c. scan 0 p (block_bytes c ++ rest) ≡ read p c ∷ scan 0 (p + length (block_bytes c)) rest) (sym e)
    (carrying_read s.number s.version i (last_part s) (get_or s.parts i []) (crc (message s).bytes) (omega (arith, n.0)) (omega (arith, n.2)) (omega (arith, h)) (omega (arith, n.3, n.4)) (crc_below (message s).bytes) rest p)

-- ---- a payload of blocks
zeros : (p z : ℕ) → scan 0 p (replicate z 0) ≡ []
zeros p zero = scan_end p _ refl
zeros p (suc z) = scan_end p (replicate (suc z) 0) refl

back : (p : ℕ) (bs : List Block) (z : ℕ) → AllByRecursion OfASending bs → scan 0 p (flat_map block_bytes bs ++ replicate z 0) ≡ placed_from p bs
back p [] z of = zeros p z
back p (b ∷ bs) z of =
    ap (scan 0 p) (append_assoc (block_bytes b) (flat_map block_bytes bs) (replicate z 0))
    ∙ sent_read b of.0 (flat_map block_bytes bs ++ replicate z 0) p
    ∙ ap (λ l. read p b ∷ l) (back (p + length (block_bytes b)) bs z of.1)

row_blocks : (p : ℕ) (bs : List Block) → blocks_read (placed_from p bs) ≡ bs
row_blocks p [] = refl
row_blocks p (b ∷ bs) = ap (λ l. b ∷ l) (row_blocks (p + length (block_bytes b)) bs)

pub reads_sent_blocks : (payload : List ℕ) → ReadsSentBlocks payload (entries payload)
reads_sent_blocks payload x y bs z of e =
    let r : entries payload ≡ placed_from 2 bs = ap entries e ∙ back 2 bs z of in
    (r, ap blocks_read r ∙ row_blocks 2 bs)
