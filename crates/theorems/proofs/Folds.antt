-- The theorem of each row of specs/Folds.antt.
use Rattle.theorems.specs.Folds.{Folds}

pub folds : Folds
folds =
    record {
      cut_anywhere = λ A f. Rattle.folding.proofs.Cut.cut_anywhere f;
      any_buffers = λ A f. Rattle.folding.proofs.Buffers.any_buffers f;
      every_walk = λ A f. Rattle.folding.proofs.Walks.every_walk f;
      any_walk = λ A f. Rattle.folding.proofs.Walks.any_walk f;
      walk_in_parts = λ A f. Rattle.folding.proofs.Walks.walk_in_parts f;
    }
