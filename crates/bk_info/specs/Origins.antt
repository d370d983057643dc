-- What a node came from, of what the code keeps.
--
--   role_in     a role of the code
--   origin_of   what it came from
--   file_of     the name of the file, or of the one that holds the reference
--   role_of     the role in which the file is read; none for an entity
use Rattle.std.specs.Prelude.{List, ℕ, Option, Some, None}
use Rattle.xt_spec.specs.Reading as xml
use Rattle.bk_spec.specs.Node.{Origin, owned, from_entity}
use Rattle.bk_info.specs.declared.origin.Role.{Role}
use Rattle.bk_info.specs.declared.origin.Role.TheVariants as role
use Rattle.bk_info.specs.declared.origin.Source.{Source}
use Rattle.bk_info.specs.declared.origin.Source.TheVariants.{File, Entity}

abbrev pub role_in : Role → xml.Role
role_in role.Document = xml.document
role_in role.Entity = xml.entity
role_in role.Text = xml.plain_text

abbrev pub origin_of : Source → Origin
origin_of (File name role) = owned name (role_in role)
origin_of (Entity name entity) = from_entity name entity

abbrev pub file_of : Origin → List ℕ
file_of (owned file role) = file
file_of (from_entity file entity) = file

abbrev pub role_of : Origin → Option xml.Role
role_of (owned file role) = Some role
role_of (from_entity file entity) = None
