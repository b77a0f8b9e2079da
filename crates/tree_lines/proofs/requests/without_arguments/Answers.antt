use Rattle.tree_lines.proofs.Names.{alone_read, unread_alone}
use Rattle.tree_lines.proofs.requests.without_arguments.Goals as goal

-- there are no arguments
pub returns-then-is_empty : goal.returns-then-is_empty
returns-then-is_empty c = alone_read c.args.request c.requires c.args.arguments.now c.if-is_empty.ensures

-- there are some
pub returns : goal.returns
returns c = unread_alone c.args.request c.requires c.args.arguments.now c.if-is_empty.ensures
