use Rattle.xt_read.proofs.Marks.{lengthens}
use Rattle.xt_read.proofs.reader.Reader.lengthen.Goals as goal

pub returns-in-Some-clause-value : goal.returns-in-Some-clause-value
returns-in-Some-clause-value c = λ bytes. lengthens bytes c.args.self.now.text c.in-Some.text c.args.span c.in-Some.is c.requires.joins
