use Rattle.std.proofs.Common.{subst}
use Rattle.bk_name.specs.Uri.{ReadsBack}
use Rattle.bk_name.proofs.UriLemmas.{uri_from_canonical}
use Rattle.bk_name.proofs.uri.Uri.as_str.Goals as goal

pub returns-clause-reads_back : goal.returns-clause-reads_back
returns-clause-reads_back c =
    subst ReadsBack c.self.view_is (uri_from_canonical c.self.inside.url.value c.self.invariant.valid c.self.invariant.canonical)
