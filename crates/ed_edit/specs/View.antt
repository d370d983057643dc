-- What the type of the code means.
use Rattle.std.specs.Str.{chars}
use Rattle.ed_spec.specs.Edit.{Edit, text_edit}
use Rattle.ed_edit.specs.declared.edit.Edit as code
use Rattle.ed_edit.specs.declared.edit.Edit.TheVariants.{Text}

-- the edit of the definitions that an edit of the code is
abbrev pub edit_of : code.Edit → Edit
edit_of (Text place from to value) = text_edit place from to (chars value)
