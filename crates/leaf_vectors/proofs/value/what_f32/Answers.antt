-- `leaf_vectors::value::what_f32` meets its contract: the bits are asked for of what is no NaN.
use Rattle.leaf_vectors.proofs.Floats.{no_nan}
use Rattle.leaf_vectors.proofs.value.what_f32.Goals as goal

pub float_to_bits-value : goal.float_to_bits-value
float_to_bits-value c = no_nan c.args.value c.if-value.false
