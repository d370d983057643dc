use Rattle.std.proofs.Common.{ap}
use Rattle.xt_lex.specs.Kinds.{kind_of}
use Rattle.xt_read.proofs.FrontPlaces.{token_at, declaration_stands, none_in_front, other_in_front, not_decl}
use Rattle.xt_read.proofs.front.declaration_at.Goals as goal

pub returns-in_default : goal.returns-in_default
returns-in_default c = record { value = none_in_front c.args.text.now c.args.at c.in_default.ensures.fault }

pub returns-in-Decl : goal.returns-in-Decl
returns-in-Decl c =
    let text = c.args.text.now in
    let is = token_at text c.args.at c.in-Ok.token c.requires.boundary c.requires.fits c.in-Ok.ensures.from c.in-Ok.ensures.token c.in-Ok.ensures.on c.in-Ok.ensures.cut in
    record { value = declaration_stands text c.args.at c.in-Ok.token is c.in-Ok.ensures.from (ap kind_of c.in-Decl.is) }

pub returns-in_default-kind : goal.returns-in_default-kind
returns-in_default-kind c =
    let (n, to, longest) = c.in-Ok.ensures.token in
    record { value = other_in_front c.args.text.now c.args.at n (kind_of c.in-Ok.token.kind) longest (not_decl c.in-Ok.token.kind c.in_default-kind.not-Decl) }
