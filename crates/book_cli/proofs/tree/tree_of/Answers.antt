use Rattle.std.proofs.Common.{◌∙◌, ap, List}
use Rattle.bk_spec.specs.Print.{print_tree}
use Rattle.bk_info.specs.declared.node.Node.{Node}
use Rattle.bk_info.specs.Nodes.{nodes_in}
use Rattle.xt_tree.specs.Meaning.{items_in}
use Rattle.book_cli.proofs.OutputLemmas.{tree_stands}
use Rattle.book_cli.proofs.tree.tree_of.Goals as goal

pub returns : goal.returns
returns c =
    let opened = c.in_ok-opened.opened in
    record {
      value = λ book found.
          tree_stands c.args.session.root c.args.session.bytes (items_in c.args.session.bytes opened.items) (nodes_in opened.nodes) book c.in_ok-text.text.items c.in_ok-opened.ensures.value found
          (c.in_ok-text.ensures.value ∙ ap (λ (l : List Node). print_tree (nodes_in l)) c.as_slice.ensures);
    }
