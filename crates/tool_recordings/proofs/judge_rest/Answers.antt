-- `tool_recordings::judge_rest` meets its contract: by the check of what the index still has.
use mathlib.Core.Path.{ap}
use Rattle.results.specs.Results.{Checked}
use Rattle.tool_recordings.specs.Loops.{rest_checked}
use Rattle.tool_recordings.specs.declared.Judged.TheVariants.{As}
use Rattle.tool_recordings.proofs.judge_rest.Goals as goal

pub returns : goal.returns
returns c =
    let last = c.args.last in (
      rest_checked c.front.result.now
          (ap (λ (checked : Checked). As checked last.at c.args.end) c.check_part-checked.ensures.answers),
      c.requires.field,
    )
