-- The theorem of each row of specs/Documents.antt.
use Rattle.theorems.specs.Documents.{Document01}

pub document01 : Document01
document01 =
    record {
      proved = Rattle.decoder.proofs.Examples.proved;
      traps = Rattle.decoder.proofs.Examples.traps;
      kept_since_last = Rattle.arguments.proofs.Unclosed.kept_since_last;
      ends_so = Rattle.arguments.proofs.Unclosed.ends_so;
      class_rule = Rattle.utf8.proofs.Rules.class_rule;
      step_rule = Rattle.utf8.proofs.Rules.step_rule;
      formed_tree = Rattle.table.proofs.Theorem.formed_tree;
      tree_formed = λ t count source item inside. Rattle.table.proofs.Theorem.tree_formed;
      tree_bytes = λ t count source item inside. Rattle.table.proofs.Theorem.tree_bytes;
      spans_unique = Rattle.table.proofs.Spanned.spans_unique;
      gives_trees = Rattle.given.proofs.Encodable.Tables.gives_trees;
      encodable = Rattle.given.proofs.Encodable.Tables.encodable;
    }
