-- What messages say, as plain values: the identifier's bytes in place of the borrowed part of a body.
use Rattle.std.specs.Prelude.{ℕ, List, Option}
use Rattle.std.specs.Option.{option_map}
use Rattle.body.specs.declared.message.Time.{Time}
use Rattle.body.specs.declared.message.Channel.{Channel}
use Rattle.body.specs.declared.message.Content.{Content}
use Rattle.body.specs.declared.message.ContentId.{ContentId}

-- a content: the type of its identifier, until when it is valid, and the identifier's bytes
pub record Identified : Type 0 where
  pub id_type : ℕ
  pub valid_until : Option Time
  pub id : List ℕ

-- what a body says, by its kind
pub data Said : Type 0 where
  content_id : Option Identified → Option Channel → Said
  presentation : Time → Said
  plain : List ℕ → Said

-- what a borrowed content says
abbrev pub identified : Content → Identified
identified c = record { id_type = c.id_type; valid_until = c.valid_until; id = c.id.now }

-- what a borrowed content ID message says
abbrev pub said_content_id : ContentId → Said
said_content_id m = content_id (option_map identified m.content) m.channel
