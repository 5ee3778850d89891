-- The worked cases.
use Rattle.std.specs.Prelude.{◌≡◌, ℕ, true, false, List, [], ◌∷◌, map, length, Some, None, slice_index}
use Rattle.line.specs.declared.depth.Depth.TheVariants.{Eight}
use Rattle.line.specs.Depths.{unit_of}
use Rattle.line.specs.Lines.{Drawable}
use Rattle.line.specs.Scales.{draws_bits}
use Rattle.onex.specs.Pairs.{allowed}
use Rattle.sending.specs.Sendings.{Block, Sending, IsSending, block, message}
use Rattle.wire.specs.Wire.{block_bytes}
use Rattle.walk.specs.Fields.{block_at}
use Rattle.body.specs.Format.{presentation_bytes, presentation_wrong, content_id_bytes, content_id_wrong}
use Rattle.body.specs.Identifiers.{is_alphanumeric}
use Rattle.body.specs.Messages.{content_id, presentation}
use Rattle.body.specs.Reading.{presentation_fault, presentation_of, content_id_fault, content_id_of}
use Rattle.gather.specs.Gathering.{silent, handed}
use Rattle.gather.specs.Arriving.{watched}
use Rattle.gather.specs.Serving.{reply, next_table}
use Rattle.cases.specs.Words.{measured_cuts, value_by, two_value, CutsTo, StandsAs, after_first}

pub record WorkedCases : Type 0 where
  -- 1X, 8 bits, 8 samples to a symbol, whatever is drawn with levels 4 and 40: a symbol of level 176 is a 1, one of 175 a 0
  pub one_x_symbol : (p : List ℕ) → Drawable (draws_bits 1) p → (value_by (measured_cuts 4 40 p) 176 ≡ Some 1) × (value_by (measured_cuts 4 40 p) 175 ≡ Some 0)
  -- 8 bits: the levels 4 and 20 stand, 16 and 32 stand, 3 and 40 don't
  pub one_x_levels : (allowed (unit_of Eight) 4 20 ≡ true) × (allowed (unit_of Eight) 16 32 ≡ true) × (allowed (unit_of Eight) 3 40 ≡ false)
  -- 2X, 8 bits, 8 samples to a symbol: the levels at which the value changes
  pub two_x_values : map two_value (419 ∷ 420 ∷ 1003 ∷ 1004 ∷ 1587 ∷ 1588 ∷ []) ≡ 0 ∷ 1 ∷ 1 ∷ 2 ∷ 2 ∷ 3 ∷ []
  -- messages of 21, 22, 38 and 39 bytes, cut in 1X
  pub cuts : CutsTo 21 (21 ∷ []) × CutsTo 22 (21 ∷ 1 ∷ []) × CutsTo 38 (21 ∷ 17 ∷ []) × CutsTo 39 (21 ∷ 18 ∷ 0 ∷ [])
  -- version 15, part 1 of last 2: the third byte of the block is F6
  pub third_byte : (b : Block) → b.version ≡ 15 → b.part ≡ 1 → b.last ≡ 2 → slice_index (block_bytes b) 2 ≡ 0xF6
  -- and a block whose third byte is F6 is read so
  pub third_byte_read : (bytes : List ℕ) → slice_index bytes 2 ≡ 0xF6 → ((block_at bytes).version ≡ 15) × ((block_at bytes).part ≡ 1) × ((block_at bytes).last ≡ 2)
  -- 1 second and 999 milliseconds
  pub time_body : StandsAs presentation_wrong presentation_bytes presentation_fault presentation_of
      (presentation (record { seconds = 1; milliseconds = 999 }))
      (0x00 ∷ 0x00 ∷ 0x00 ∷ 0x01 ∷ 0xFF ∷ 0xE7 ∷ [])
  -- no content, and channel 5.1 of BSID 0102
  pub channel_body : StandsAs (content_id_wrong is_alphanumeric) content_id_bytes (content_id_fault is_alphanumeric) content_id_of
      (content_id None (Some (record { bsid = 0x0102; major = 5; minor = 1 })))
      (0x7F ∷ 0x01 ∷ 0x02 ∷ 0xF0 ∷ 0x14 ∷ 0x01 ∷ [])
  -- any watched sending of two parts, part 0 read at frame 1000: with part 1 at frame 1255 they join
  pub joins_at_1255 : (watch : List ℕ) (s : Sending) → IsSending s → length s.parts ≡ 2 → watched watch s.number ≡ true
      → reply watch 1255 (block s 1) (after_first watch s) ≡ handed (message s)
  -- with part 1 at frame 1256 nothing is handed over, and part 0 is dropped
  pub drops_at_1256 : (watch : List ℕ) (s : Sending) → IsSending s → length s.parts ≡ 2 → watched watch s.number ≡ true
      → (reply watch 1256 (block s 1) (after_first watch s) ≡ silent) × ((next_table watch 1256 (block s 1) (after_first watch s) s.number).held 0 ≡ None)
