-- Values that no body can have, in the words of the rule: each with the place where its field would begin.
use Rattle.std.specs.Prelude.{◌≡◌, ℕ, ◌+◌, ◌^◌, ◌<◌, ◌≤◌, Bool, false, ◌⊎◌, length, Some, None, Option, slice_index}
use Rattle.body.specs.declared.message.Time.{Time}
use Rattle.body.specs.declared.message.Channel.{Channel}
use Rattle.body.specs.Identifiers.{length_fits}
use Rattle.body.specs.Format.{ones, content_bytes, id_place}
use Rattle.body.specs.Messages.{Identified, Said, content_id, presentation, plain}

-- of a time that begins at p
pub data TimeUnfit (p : ℕ) (t : Time) : ℕ → Type 0 where
  seconds_large : 2 ^ 32 ≤ t.seconds → TimeUnfit p t p
  milliseconds_large : 999 < t.milliseconds → TimeUnfit p t (p + 4)

-- of a valid-until time, where there is one
abbrev pub UntilUnfit : Option Time → ℕ → Type 0
UntilUnfit (Some t) p = TimeUnfit 3 t p
UntilUnfit None p = ⊥

-- of a content
pub data ContentUnfit (ok : ℕ → Bool) (c : Identified) : ℕ → Type 0 where
  type_large : 63 < c.id_type → ContentUnfit ok c 1
  -- too long for the length byte, or not the length that the type has
  length_misfit : length_fits c.id_type (length c.id) ≡ false → ContentUnfit ok c 2
  until_unfit : (p : ℕ) → UntilUnfit c.valid_until p → ContentUnfit ok c p
  -- an Ad-ID character that it may not have
  character : (i : ℕ) → c.id_type ≡ 2 → i < length c.id → ok (slice_index c.id i) ≡ false → ContentUnfit ok c (id_place c.valid_until + i)

-- of a channel that begins at p
pub data ChannelUnfit (p : ℕ) (h : Channel) : ℕ → Type 0 where
  bsid_large : 2 ^ 16 ≤ h.bsid → ChannelUnfit p h p
  major_large : 1023 < h.major → ChannelUnfit p h (p + 2)
  minor_large : 1023 < h.minor → ChannelUnfit p h (p + 3)

-- of a content ID message: what says neither content nor channel, or is of another kind, is wrong at 0
abbrev pub ContentIdUnfit : (ℕ → Bool) → Said → ℕ → Type 0
ContentIdUnfit ok (content_id (Some c) (Some h)) p = ContentUnfit ok c p ⊎ ChannelUnfit (1 + length (content_bytes ones (Some c))) h p
ContentIdUnfit ok (content_id (Some c) None) p = ContentUnfit ok c p
ContentIdUnfit ok (content_id None (Some h)) p = ChannelUnfit 1 h p
ContentIdUnfit ok (content_id None None) p = p ≡ 0
ContentIdUnfit ok (presentation t) p = p ≡ 0
ContentIdUnfit ok (plain b) p = p ≡ 0

-- of a presentation time
abbrev pub PresentationUnfit : Said → ℕ → Type 0
PresentationUnfit (presentation t) p = TimeUnfit 0 t p
PresentationUnfit (content_id c h) p = p ≡ 0
PresentationUnfit (plain b) p = p ≡ 0
