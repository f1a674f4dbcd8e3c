-- `root_tests::quick_root` meets its contract: a guess that is the root, or the root. Assumes nothing.
use Rattle.root_tests.proofs.quick_root.Goals as goal

pub returns-then-is_root : goal.returns-then-is_root
returns-then-is_root c = c.is_root.ensures c.if-is_root.true
