-- What the values of a declaration are in the words of `xt_spec`.
use Rattle.std.specs.Option.{option_copied}
use Rattle.xt_spec.specs.Declaration as spec
use Rattle.xt_lex.specs.declared.declaration.Declaration.{Declaration}

abbrev pub values_of : Declaration → spec.Declaration
values_of d = record { version = option_copied d.version; encoding = option_copied d.encoding; standalone = option_copied d.standalone }
