-- Identifiers by their types.
use Rattle.std.specs.Prelude.{cond, nat_eq}
use Rattle.body.specs.declared.message.Content.{Content}
use Rattle.showing.specs.declared.identifier.Identifier.{Identifier}
use Rattle.showing.specs.declared.identifier.Identifier.TheVariants.{Eidr, AdId, Other}

-- the identifier of a content: type 1 is an EIDR, type 2 an Ad-ID
abbrev pub identifier_of : Content → Identifier
identifier_of c = cond (nat_eq c.id_type 1) (Eidr c.id) (cond (nat_eq c.id_type 2) (AdId c.id) (Other c.id_type c.id))
